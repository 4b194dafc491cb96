-- The ends of elements, and their counts.
use Rattle.std.proofs.Common.{◌≡◌, ◌≢◌, ℕ, ◌+◌, ◌*◌, ◌≤◌, ◌<◌, List, [], ◌∷◌, ◌++◌, Option, Some, None, refl, length, take, drop, get_or, true, nat_le, sym, ap, ◌∙◌, arith, inl, inr, add-one, drop-cons, length-append, length-take-le, is_some}
use Rattle.std.proofs.Math.ListN.{set}
use Rattle.std.proofs.lemmas.Bool.{cases_Bool, cases_eq}
use Rattle.std.proofs.lemmas.Bool.Decides.{nat_tests}
use Rattle.std.proofs.lemmas.List.{get_or-set_same, get_or-set_other, get_or_default}
use Rattle.std.proofs.lemmas.List.Sums.{count_by_more_no, count_by_more_yes, count_by-le-length}
use Rattle.std.specs.Prelude.{◌==◌}
use Rattle.std.specs.List.{flat_map}
use Rattle.gic_case.specs.Lists.{Lists, earthing_ends, line_ends, grid_of, neutrals_of, end_node, winding_ends, device_ends, transformer_ends, element_ends, degree_of}
use Rattle.gic_case.specs.Windings.{windings_of}
use Rattle.gic_case.proofs.SoundWindings.{few_windings}
use Rattle.gic_case.proofs.Earthings.{earthing_ends_from}
use Rattle.gic_case_reader.specs.OneByOne.{breaks_degree_from}
use Rattle.gic_case.proofs.NeutralNodes.{length-neutrals_of}
use Rattle.gic_case.specs.declared.item.Substation.{Substation}
use Rattle.gic_case.specs.declared.item.Line.{Line}
use Rattle.gic_case.specs.declared.item.Bus.{Bus}
use Rattle.gic_case.specs.declared.winding.Winding.{Winding}
use Rattle.gic_case.specs.declared.item.Neutral.{Neutral}
use Rattle.gic_case.specs.declared.item.Neutral.TheVariants as devices
use Rattle.gic_case.specs.declared.item.Transformer.{Transformer}

-- among n ends there are at most n at a node
pub degree_most : (ends : List ℕ) (i k : ℕ) → i < length ends → degree_of (take i ends) k ≤ i
degree_most ends i k within =
    let short : length (take i ends) ≡ i = length-take-le i ends (omega arith) in
    omega (arith, count_by-le-length (λ n. n == k) (take i ends))

degree_hit : (ends : List ℕ) (i k : ℕ) → i < length ends → get_or ends i 0 ≡ k → degree_of (take (i + 1) ends) k ≡ degree_of (take i ends) k + 1
degree_hit ends i k within at = count_by_more_yes (λ n. n == k) ends i 0 within (grind (arith, nat_tests, at))

degree_miss : (ends : List ℕ) (i k : ℕ) → i < length ends → get_or ends i 0 ≢ k → degree_of (take (i + 1) ends) k ≡ degree_of (take i ends) k
degree_miss ends i k within other = count_by_more_no (λ n. n == k) ends i 0 within (grind (arith, nat_tests, other))

-- an end at a node, counted there
pub counted_there : (counts ends : List ℕ) (nodes i node was : ℕ) → i < length ends → node ≡ get_or ends i 0 → node < length counts → was ≡ get_or counts node was
    → ((k : ℕ) → k < nodes → get_or counts k 0 ≡ degree_of (take i ends) k)
    → (k : ℕ) → k < nodes → get_or (set counts node (was + 1)) k 0 ≡ degree_of (take (i + 1) ends) k
counted_there counts ends nodes i node was within at there value so_far k below =
    elim (cases_eq k node) [
      | inl here ↦
          let old : was ≡ degree_of (take i ends) node = value ∙ get_or_default counts node was 0 there ∙ so_far node (omega arith) in
          rw (here, get_or-set_same counts node (was + 1) 0 there, degree_hit ends i node within (sym at)) (ap (λ n. n + 1) old)
      | inr apart ↦
          let other : get_or ends i 0 ≢ k = λ e. apart (sym e ∙ sym at) in
          rw (get_or-set_other counts node k (was + 1) 0 apart, degree_miss ends i k within other) (so_far k below)
    ]

-- an end at no node, passed over
pub counted_elsewhere : (counts ends : List ℕ) (nodes i node : ℕ) → i < length ends → node ≡ get_or ends i 0 → nodes ≤ node
    → ((k : ℕ) → k < nodes → get_or counts k 0 ≡ degree_of (take i ends) k)
    → (k : ℕ) → k < nodes → get_or counts k 0 ≡ degree_of (take (i + 1) ends) k
counted_elsewhere counts ends nodes i node within at far so_far k below =
    let other : get_or ends i 0 ≢ k = λ e. absurd (omega arith) in
    so_far k below ∙ sym (degree_miss ends i k within other)

-- a node at which few elements end
pub degree_step : (names : List (List ℕ)) (ends : List ℕ) (i : ℕ) → i < length names → degree_of ends i ≤ 256
    → breaks_degree_from i (drop i names) ends ≡ breaks_degree_from (i + 1) (drop (i + 1) names) ends
degree_step names ends i within few =
    let fits : nat_le (degree_of ends i) 256 ≡ true = grind (arith, nat_tests, few) in
    rw (drop-cons names i [] within, fits, add-one)

length-earthing_ends_from : (node : ℕ) (ss : List Substation) → length (earthing_ends_from node ss) ≤ length ss
length-earthing_ends_from node [] = omega arith
length-earthing_ends_from node (s ∷ ss) =
    let more = length-earthing_ends_from (node + 1) ss in
    elim (cases_Bool (is_some s.ground)) [
      | inl earthed ↦ rw earthed (omega (arith, more))
      | inr other ↦ rw other (omega (arith, more))
    ]

length-line_ends : (first_bus : ℕ) (ls : List Line) → length (line_ends first_bus ls) ≤ 2 * length ls
length-line_ends first_bus [] = omega arith
length-line_ends first_bus (l ∷ ls) =
    let more = length-line_ends first_bus ls in
    elim (cases_Bool l.blocked) [
      | inl blocked ↦ rw blocked (omega (arith, more))
      | inr other ↦ rw other (omega (arith, more))
    ]

length-flat_map : {A : Type 0} (f : A → List ℕ) (n : ℕ) → ((x : A) → length (f x) ≤ n) → (xs : List A) → length (flat_map f xs) ≤ n * length xs
length-flat_map f n few [] = omega arith
length-flat_map f n few (x ∷ xs) = rw length-append (omega (arith, few x, length-flat_map f n few xs))

length-ends : (first_bus neutral : ℕ) (ws : List Winding) → length (winding_ends first_bus neutral ws) ≤ 2 * length ws
length-ends first_bus neutral ws = length-flat_map (λ w. (first_bus + w.from.bus) ∷ end_node first_bus neutral w.to ∷ []) 2 (λ w. omega arith) ws

length-winding_ends : (first_bus neutral : ℕ) (t : Transformer) → length (winding_ends first_bus neutral (windings_of t)) ≤ 6
length-winding_ends first_bus neutral t = omega (arith, length-ends first_bus neutral (windings_of t), few_windings t.high_volts t.kind)

length-device_ends : (neutral grid : ℕ) (o : Option Neutral) → length (device_ends neutral grid o) ≤ 2
length-device_ends neutral grid None = omega arith
length-device_ends neutral grid (Some (devices.Resistor ohm)) = omega arith
length-device_ends neutral grid (Some devices.Blocked) = omega arith

length-transformer_ends : (c : Lists) → length (transformer_ends c) ≤ 8 * length c.transformers
length-transformer_ends c =
    let many = length-neutrals_of c in
    let windings = length-flat_map {A = ℕ × Transformer} (λ p. winding_ends (length c.substations) p.0 (windings_of p.1)) 6 (λ p. length-winding_ends (length c.substations) p.0 p.1) (neutrals_of c) in
    let devices = length-flat_map {A = ℕ × Transformer} (λ p. device_ends p.0 (grid_of c.buses p.1) p.1.neutral) 2 (λ p. length-device_ends p.0 (grid_of c.buses p.1) p.1.neutral) (neutrals_of c) in
    rw length-append (omega (arith, many, windings, devices))

pub length-element_ends : (c : Lists) → length (element_ends c) ≤ length c.substations + (2 * length c.lines + 8 * length c.transformers)
unfolding element_ends
length-element_ends c =
    let earthings = length-earthing_ends_from 0 c.substations in
    let lines = length-line_ends (length c.substations) c.lines in
    let transformers = length-transformer_ends c in
    rw (length-append (earthing_ends c.substations) (line_ends (length c.substations) c.lines ++ transformer_ends c), length-append (line_ends (length c.substations) c.lines) (transformer_ends c))
    (omega (arith, earthings, lines, transformers))

-- the ends at transformers, from what the code holds of the lists
pub transformer_ends_by : (c : Lists) (first_bus : ℕ) (buses : List Bus) (neutrals : List (ℕ × Transformer))
    → first_bus ≡ length c.substations → buses ≡ c.buses → neutrals ≡ neutrals_of c
    → flat_map (λ p. winding_ends first_bus p.0 (windings_of p.1)) neutrals ++ flat_map (λ p. device_ends p.0 (grid_of buses p.1) p.1.neutral) neutrals ≡ transformer_ends c
transformer_ends_by c first_bus buses neutrals bus same_buses all = rw (bus, same_buses, all) refl
