-- A made case keeps all rules of the reader.
use Rattle.std.proofs.Common.{◌≡◌, ◌≢◌, ℕ, ◌-◌, ◌<◌, ◌≤◌, List, [], ◌∷◌, ◌++◌, length, refl, sym, subst, arith, append-nil}
use Rattle.std.specs.Prelude.{All, AllPairs, IsTrue}
use Rattle.std.proofs.lemmas.List.Elements.{All-from_recursion}
use Rattle.std.proofs.lemmas.List.FromFn.{length-map-range_with_len}
use Rattle.std.proofs.lemmas.Simd.{map-map}
use Rattle.std.specs.List.{AllByRecursion}
use Rattle.gic_base.specs.Name.{is_name}
use Rattle.gic_base.proofs.Each.{all_joined, weaker}
use Rattle.gic_case.specs.ZoneView.{IsZone}
use Rattle.gic_case.specs.declared.item.Bus.{Bus}
use Rattle.gic_case.specs.Sound.{names_of, IsSoundSubstation, IsSoundLine, IsSoundTransformer, IsSound}
use Rattle.gic_make.specs.Generator.{states_after}
use Rattle.gic_make.specs.MadeCase.{first_draw, numbered, made_zone, made_substation, made_bus, made_transformer, made_line, drawn_case, made_case}
use Rattle.gic_make.specs.Accepted.{HasRows}
use Rattle.gic_make.proofs.ElementsOfSites.{nodes_are}
use Rattle.gic_make.proofs.EndsAtNodes.{few_ends}
use Rattle.gic_make.proofs.Names.{numbered_name}
use Rattle.gic_make.proofs.NamesApart.{AreApart, HasOtherLetter, names_by, other_letter, other_letters, apart_before, pairs_differ}
use Rattle.gic_make.proofs.RowsOfSites.{substation_sound, transformer_sound, line_sound}
use Rattle.gic_make.proofs.Sites.{each_site}

-- the names of a made case
names_by_letters : (size : ℕ) → List (List ℕ)
names_by_letters size = (90 ∷ []) ∷ (names_by 83 0 size ++ (names_by 66 0 size ++ (names_by 76 1 (size - 1) ++ names_by 84 0 size)))

names_are : (states : List ℕ) (size : ℕ) → names_of (drawn_case states size) ≡ names_by_letters size
unfolding names_by_letters
names_are states size = simp map-map refl

names_are_sound : (size : ℕ) → size ≤ 1000 → AllByRecursion (λ n. IsTrue (is_name n)) (names_by_letters size)
unfolding names_by_letters
names_are_sound size few =
    let P = λ (n : List ℕ). IsTrue (is_name n) in (
      refl,
      all_joined P _ _ (each_site P (numbered 83) 0 size (λ i low high. numbered_name 83 i refl (omega arith)))
          (all_joined P _ _ (each_site P (numbered 66) 0 size (λ i low high. numbered_name 66 i refl (omega arith)))
          (all_joined P _ _ (each_site P (numbered 76) 1 (size - 1) (λ i low high. numbered_name 76 i refl (omega arith)))
          (each_site P (numbered 84) 0 size (λ i low high. numbered_name 84 i refl (omega arith))))),
    )

names_are_apart : (size : ℕ) → size ≤ 1000 → AreApart (names_by_letters size)
unfolding names_by_letters
names_are_apart size few =
    let last : AreApart (names_by 84 0 size) = subst AreApart (append-nil _) (apart_before 84 0 size [] (omega arith) tt tt) in
    let from_lines : AreApart (names_by 76 1 (size - 1) ++ names_by 84 0 size) = apart_before 76 1 (size - 1) _ (omega arith) (other_letters 76 84 0 size (omega arith)) last in
    let from_buses : AreApart (names_by 66 0 size ++ (names_by 76 1 (size - 1) ++ names_by 84 0 size)) =
    apart_before 66 0 size _ (omega arith) (all_joined (HasOtherLetter 66) _ _ (other_letters 66 76 1 (size - 1) (omega arith)) (other_letters 66 84 0 size (omega arith))) from_lines in
    let from_substations : AreApart (names_by 83 0 size ++ (names_by 66 0 size ++ (names_by 76 1 (size - 1) ++ names_by 84 0 size))) =
    apart_before 83 0 size _ (omega arith)
    (all_joined (HasOtherLetter 83) _ _ (other_letters 83 66 0 size (omega arith))
    (all_joined (HasOtherLetter 83) _ _ (other_letters 83 76 1 (size - 1) (omega arith)) (other_letters 83 84 0 size (omega arith)))) from_buses in (
      weaker (HasOtherLetter 90) (λ y. (90 ∷ []) ≢ y) (λ y other. other_letter 90 [] y other) _
          (all_joined (HasOtherLetter 90) _ _ (other_letters 90 83 0 size (omega arith))
          (all_joined (HasOtherLetter 90) _ _ (other_letters 90 66 0 size (omega arith))
          (all_joined (HasOtherLetter 90) _ _ (other_letters 90 76 1 (size - 1) (omega arith)) (other_letters 90 84 0 size (omega arith))))),
      from_substations,
    )

pub drawn_sound : (states : List ℕ) (size : ℕ) → 2 ≤ size → size ≤ 1000 → IsSound (drawn_case states size)
drawn_sound states size least most =
    let c = drawn_case states size in
    let substations = length-map-range_with_len (made_substation states) 0 size in
    let buses = length-map-range_with_len made_bus 0 size in
    let lines = length-map-range_with_len (made_line states) 1 (size - 1) in
    let transformers = length-map-range_with_len (made_transformer states) 0 size in
    let nodes = nodes_are states size in
    let apart = pairs_differ (names_by_letters size) (names_are_apart size most) in
    let names = All-from_recursion (λ n. IsTrue (is_name n)) (names_by_letters size) (names_are_sound size most) in
    record {
      few_zones = omega arith;
      few_substations = omega arith;
      few_buses = omega arith;
      few_lines = omega arith;
      few_transformers = omega arith;
      zones_sound = All-from_recursion IsZone (made_zone ∷ []) ((omega arith, omega arith, omega arith), tt);
      substations_sound = All-from_recursion IsSoundSubstation _ (each_site IsSoundSubstation (made_substation states) 0 size (λ i low high. substation_sound states i));
      buses_within = All-from_recursion (λ (b : Bus). b.substation < length c.substations) _ (each_site (λ (b : Bus). b.substation < length c.substations) made_bus 0 size (λ i low high. omega arith));
      lines_sound = All-from_recursion (IsSoundLine c) _ (each_site (IsSoundLine c) (made_line states) 1 (size - 1) (λ i low high. line_sound c states i low (omega arith) (omega arith)));
      transformers_sound = All-from_recursion (IsSoundTransformer c) _ (each_site (IsSoundTransformer c) (made_transformer states) 0 size (λ i low high. transformer_sound c states i (omega arith)));
      names_sound = subst (All (λ n. IsTrue (is_name n))) (sym (names_are states size)) names;
      names_differ = subst (AllPairs (λ x y. x ≢ y)) (sym (names_are states size)) apart;
      few_ends = λ k within. let few = few_ends states size k (omega arith) (omega arith) in omega arith;
    }

pub made_sound : (seed size : ℕ) → 2 ≤ size → size ≤ 1000 → IsSound (made_case seed size)
unfolding made_case
made_sound seed size least most = drawn_sound (states_after seed (first_draw size)) size least most

pub made_rows : (seed size : ℕ) → HasRows size (made_case seed size)
unfolding made_case
made_rows seed size =
    let states = states_after seed (first_draw size) in
    record {
      substations = length-map-range_with_len (made_substation states) 0 size;
      buses = length-map-range_with_len made_bus 0 size;
      lines = length-map-range_with_len (made_line states) 1 (size - 1);
      transformers = length-map-range_with_len (made_transformer states) 0 size;
    }
