-- What each row of a made case keeps.
use Rattle.std.proofs.Common.{ℕ, ◌+◌, ◌<◌, ◌≤◌, min, unsigned_abs, List, length, refl, arith}
use Rattle.std.proofs.Math.Nat.{mod-lt}
use Rattle.std.proofs.lemmas.Int.{ints}
use Rattle.std.proofs.lemmas.List.Elements.{All-from_recursion}
use Rattle.gic_case.specs.declared.part.LinePart.{LinePart}
use Rattle.gic_case.specs.Courses.{parts_of}
use Rattle.gic_case.specs.Lists.{Lists}
use Rattle.gic_case.specs.Sound.{IsSoundSubstation, IsSoundLine, IsSoundWinding, IsSoundTransformer}
use Rattle.gic_case.specs.Windings.{windings_of}
use Rattle.gic_make.specs.Generator.{draw}
use Rattle.gic_make.specs.MadeCase.{first_draw, span, made_substation, made_line, made_transformer}

-- a draw is below its bound
pub draw_small : (states : List ℕ) (place below : ℕ) → 0 < below → draw states place below < below
draw_small states place below some = mod-lt _ some

-- a span is within its range
span_small : (drawn : ℕ) → drawn < 2001 → unsigned_abs (span drawn) ≤ 1000000
span_small drawn h = omega (arith, ints)

pub substation_sound : (states : List ℕ) (i : ℕ) → IsSoundSubstation (made_substation states i)
substation_sound states i = let small = draw_small states (first_draw i) 900 (omega arith) in record { ohm = (omega arith, omega arith); tolerance_most = tt; tolerance_of_ground = λ own. refl }

pub transformer_sound : (c : Lists) (states : List ℕ) (i : ℕ) → i < length c.buses → IsSoundTransformer c (made_transformer states i)
transformer_sound c states i within =
    let small = draw_small states (first_draw i + 1) 400 (omega arith) in
    record {
      rated = (omega arith, omega arith);
      windings_sound =
          All-from_recursion (IsSoundWinding c 345000) (windings_of (made_transformer states i))
          (record { bus_within = within; rated = (omega arith, omega arith); order = omega arith; end_sound = tt; ohm = (omega arith, omega arith) }, tt);
      buses_differ = λ j k d before inside. absurd (omega arith);
      together = λ j k d before inside. absurd (omega arith);
      device_sound = tt;
      no_device = λ none. refl;
    }

-- the other site of a line is one of the eight before
pub from_before : (states : List ℕ) (i : ℕ) → 1 ≤ i → ((made_line states i).from < i) × (i ≤ (made_line states i).from + 8)
from_before states i behind =
    let small = draw_small states (first_draw i + 2) (min i 8) (omega arith) in
    (omega arith, omega arith)

pub line_sound : (c : Lists) (states : List ℕ) (i : ℕ) → 1 ≤ i → i < length c.buses → 0 < length c.zones → IsSoundLine c (made_line states i)
line_sound c states i behind within some =
    let before = from_before states i behind in
    let small = draw_small states (first_draw i + 3) 4000 (omega arith) in
    record {
      from_within = omega arith;
      to_within = within;
      zones_within = All-from_recursion (λ (p : LinePart). p.zone < length c.zones) (parts_of (made_line states i).course) (some, tt);
      few_parts = tt;
      ends_differ = λ same. omega arith;
      resistance_least = omega arith;
      resistance_most = omega arith;
      north_within = let way = span_small _ (draw_small states (first_draw i + 4) 2001 (omega arith)) in omega (arith, way);
      east_within = let way = span_small _ (draw_small states (first_draw i + 5) 2001 (omega arith)) in omega (arith, way);
    }
