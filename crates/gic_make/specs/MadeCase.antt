-- The case that the generator makes: a given number of sites, each a substation with its bus and its transformer, and from the second on with a line from the bus of one of the eight sites before. A substation, a bus, a line and a transformer are named by a letter and the number of their site, from 0.
use Rattle.std.specs.Prelude.{ℕ, ◌+◌, ◌-◌, ◌*◌, min, ℤ, pos, ◌-ℤ◌, ◌*ℤ◌, false, Some, None, List, [], ◌∷◌, map, decimal}
use Rattle.std.specs.List.{range_with_len}
use Rattle.gic_case.specs.declared.scaling.Scaling.TheVariants.{Earth}
use Rattle.gic_case.specs.ZoneView.{ZoneView}
use Rattle.gic_case.specs.declared.item.Substation.{Substation}
use Rattle.gic_case.specs.declared.course.Course.TheVariants.{One}
use Rattle.gic_case.specs.declared.item.Bus.{Bus}
use Rattle.gic_case.specs.declared.item.Line.{Line}
use Rattle.gic_case.specs.declared.kind.Kind.TheVariants.{DeltaWye}
use Rattle.gic_case.specs.declared.item.Transformer.{Transformer}
use Rattle.gic_case.specs.Lists.{Lists, substation_with}
use Rattle.gic_make.specs.Generator.{states_after, draw}

-- how many draws come before those of a site: two for the first site, and six for each other
abbrev pub first_draw : (site : ℕ) → ℕ
first_draw site = 6 * site - 4

-- a letter, and a number in decimal
abbrev pub numbered : (letter number : ℕ) → List ℕ
numbered letter number = letter ∷ decimal number

-- the one zone, `Z`
abbrev pub made_zone : ZoneView
made_zone = record { name = 90 ∷ []; scaling = Earth 6000 100 }

-- substation `S` of a site, whose ground is the site's first draw
abbrev pub made_substation : (states : List ℕ) → (site : ℕ) → Substation
made_substation states site = substation_with (numbered 83 site) (Some (100000 + 1000 * draw states (first_draw site) 900)) None

-- bus `B` of a site
abbrev pub made_bus : (site : ℕ) → Bus
made_bus site = record { name = numbered 66 site; substation = site }

-- transformer `T` of a site, whose resistance is its second draw
abbrev pub made_transformer : (states : List ℕ) → (site : ℕ) → Transformer
made_transformer states site = record {
  name = numbered 84 site;
  high_volts = 345000;
  kind = DeltaWye site (100000 + 1000 * draw states (first_draw site + 1) 400);
  neutral = None;
}

-- a part of a span in metres: hundreds, from a thousand the one way to a thousand the other
abbrev pub span : (drawn : ℕ) → ℤ
span drawn = pos 100 *ℤ (pos drawn -ℤ pos 1000)

-- line `L` of a site, to its bus, in the one zone. Its next four draws are how far before the last site it comes from, at most eight sites before its own, its resistance, and its span to the north and to the east
abbrev pub made_line : (states : List ℕ) → (site : ℕ) → Line
made_line states site = record {
  name = numbered 76 site;
  from = site - 1 - draw states (first_draw site + 2) (min site 8);
  to = site;
  course = One (record { zone = 0; north = span (draw states (first_draw site + 4) 2001); east = span (draw states (first_draw site + 5) 2001) });
  resistance = 1000000 + 1000 * draw states (first_draw site + 3) 4000;
  blocked = false;
}

-- the case of a given number of sites that is drawn from these states
abbrev pub drawn_case : (states : List ℕ) → (size : ℕ) → Lists
drawn_case states size = record {
  zones = made_zone ∷ [];
  substations = map (made_substation states) (range_with_len 0 size);
  buses = map made_bus (range_with_len 0 size);
  lines = map (made_line states) (range_with_len 1 (size - 1));
  transformers = map (made_transformer states) (range_with_len 0 size);
}

-- the case of a seed and a number of sites: the states follow from the seed, one for each draw
unfoldable pub made_case : (seed size : ℕ) → Lists
made_case seed size = drawn_case (states_after seed (first_draw size)) size
