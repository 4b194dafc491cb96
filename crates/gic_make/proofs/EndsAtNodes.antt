-- How many elements of a made case end at a node.
use Rattle.std.proofs.Common.{◌≡◌, ℕ, ◌+◌, ◌-◌, ◌*◌, ◌<◌, ◌≤◌, ◌⊎◌, true, false, List, map, count_by, refl, subst, sym, arith, inl, inr}
use Rattle.std.specs.Prelude.{◌==◌}
use Rattle.std.proofs.lemmas.Bool.{cases_lt}
use Rattle.std.proofs.lemmas.Bool.Decides.{nat_tests}
use Rattle.std.proofs.lemmas.List.Sums.{sum_by-append}
use Rattle.std.specs.List.{AllByRecursion, range_with_len}
use Rattle.gic_base.proofs.Each.{all_joined}
use Rattle.gic_case.specs.Lists.{element_ends, degree_of}
use Rattle.gic_model.specs.declared.parts.Element.{Element}
use Rattle.gic_model.specs.Network.{ends_at}
use Rattle.gic_model.proofs.Members.{or_cases}
use Rattle.gic_winding.specs.ElementList.{element_list}
use Rattle.gic_winding.proofs.Counts.{HasTwoEnds, as_many_at_a_node}
use Rattle.gic_make.specs.MadeCase.{made_line, drawn_case}
use Rattle.gic_make.proofs.Sites.{each_site, few_within, some_within}
use Rattle.gic_make.proofs.RowsOfSites.{from_before}
use Rattle.gic_make.proofs.ElementsOfSites.{earthing_at, line_at, winding_at, drawn_elements, elements_are}

same_number : (a b : ℕ) → (a == b) ≡ true → a ≡ b
same_number a b h = grind (arith, nat_tests, h)

equal_number : (a b : ℕ) → a ≡ b → (a == b) ≡ true
equal_number a b h = grind (arith, nat_tests, h)

-- the earthing of a site ends at its substation alone
earthing_ends : (states : List ℕ) (k i : ℕ) → ends_at (earthing_at states i) k ≡ true → i ≡ k
earthing_ends states k i h = by (or_cases (i == k) false h)
  where
    by : ((i == k) ≡ true) ⊎ (false ≡ true) → i ≡ k
    by (inl here) = same_number i k here
    by (inr never) = absurd (cc never)

-- the winding of a site ends at its bus and at its substation
winding_ends : (states : List ℕ) (size k i : ℕ) → ends_at (winding_at states size i) k ≡ true → (size + i ≡ k) ⊎ (i ≡ k)
winding_ends states size k i h = by (or_cases (size + i == k) (i == k) h)
  where
    by : ((size + i == k) ≡ true) ⊎ ((i == k) ≡ true) → (size + i ≡ k) ⊎ (i ≡ k)
    by (inl here) = inl (same_number (size + i) k here)
    by (inr here) = inr (same_number i k here)

-- a line ends at the bus of its site and at one of the eight before
pub record EndsNear (size k i : ℕ) : Type 0 where
  pub bus : size ≤ k
  pub low : k - size ≤ i + 1
  pub high : i + 1 ≤ k - size + 8

line_ends : (states : List ℕ) (size k i : ℕ) → ends_at (line_at states size i) k ≡ true → EndsNear size k i
line_ends states size k i h = by (or_cases (size + from == k) (size + (i + 1) == k) h)
  where
    from : ℕ
    from = (made_line states (i + 1)).from

    by : ((size + (made_line states (i + 1)).from == k) ≡ true) ⊎ ((size + (i + 1) == k) ≡ true) → EndsNear size k i
    by (inl there) =
        let same = same_number (size + (made_line states (i + 1)).from) k there in
        let before = from_before states (i + 1) (omega arith) in
        record { bus = omega (arith, same); low = omega (arith, same, before.0); high = omega (arith, same, before.1) }
    by (inr here) =
        let same = same_number (size + (i + 1)) k here in
        record { bus = omega (arith, same); low = omega (arith, same); high = omega (arith, same) }

-- how many earthings, lines and windings end at a node
abbrev pub earthings_at : (states : List ℕ) → (size k : ℕ) → ℕ
earthings_at states size k = count_by (λ e. ends_at e k) (map (earthing_at states) (range_with_len 0 size))

abbrev pub lines_at : (states : List ℕ) → (size k : ℕ) → ℕ
lines_at states size k = count_by (λ e. ends_at e k) (map (line_at states size) (range_with_len 0 (size - 1)))

abbrev pub windings_at : (states : List ℕ) → (size k : ℕ) → ℕ
windings_at states size k = count_by (λ e. ends_at e k) (map (winding_at states size) (range_with_len 0 size))

-- at a substation: its earthing and its winding
pub record AreAtSubstation (earthings lines windings : ℕ) : Type 0 where
  pub one_earthing : earthings ≡ 1
  pub no_line : lines ≡ 0
  pub one_winding : windings ≡ 1

-- at a bus: its winding, and at most nine lines
pub record AreAtBus (earthings lines windings : ℕ) : Type 0 where
  pub no_earthing : earthings ≡ 0
  pub nine_lines : lines ≤ 9
  pub one_winding : windings ≡ 1

pub at_substation : (states : List ℕ) (size k : ℕ) → k < size → AreAtSubstation (earthings_at states size k) (lines_at states size k) (windings_at states size k)
at_substation states size k within =
    let test = λ (e : Element). ends_at e k in
    let most_earthings = few_within test (earthing_at states) k (k + 1) 0 size (λ i low high h. let same = earthing_ends states k i h in (omega arith, omega arith)) in
    let an_earthing = some_within test (earthing_at states) k 0 size (omega arith) (omega arith) (grind (arith, nat_tests)) in
    let most_lines = few_within test (line_at states size) 0 0 0 (size - 1) (λ i low high h. let near = line_ends states size k i h in absurd (omega (arith, near.bus))) in
    let most_windings = few_within test (winding_at states size) k (k + 1) 0 size (λ i low high h. at_grid i high (winding_ends states size k i h)) in
    let a_winding = some_within test (winding_at states size) k 0 size (omega arith) (omega arith) (grind (arith, nat_tests)) in
    record { one_earthing = omega arith; no_line = omega arith; one_winding = omega arith }
  where
    at_grid : (i : ℕ) → i < 0 + size → (size + i ≡ k) ⊎ (i ≡ k) → (k ≤ i) × (i < k + 1)
    at_grid i high (inl bus) = absurd (omega arith)
    at_grid i high (inr grid) = (omega arith, omega arith)

pub at_bus : (states : List ℕ) (size k : ℕ) → size ≤ k → k < 2 * size → AreAtBus (earthings_at states size k) (lines_at states size k) (windings_at states size k)
at_bus states size k past within =
    let test = λ (e : Element). ends_at e k in
    let most_earthings = few_within test (earthing_at states) 0 0 0 size (λ i low high h. let same = earthing_ends states k i h in absurd (omega arith)) in
    let most_lines = few_within test (line_at states size) (k - size - 1) (k - size + 8) 0 (size - 1) (λ i low high h. let near = line_ends states size k i h in (omega (arith, near.low), omega (arith, near.high))) in
    let most_windings = few_within test (winding_at states size) (k - size) (k - size + 1) 0 size (λ i low high h. at_site i high (winding_ends states size k i h)) in
    let a_winding = some_within test (winding_at states size) (k - size) 0 size (omega arith) (omega arith) (let same : size + (k - size) ≡ k = omega arith in grind (arith, nat_tests, same)) in
    record { no_earthing = omega arith; nine_lines = omega arith; one_winding = omega arith }
  where
    at_site : (i : ℕ) → i < 0 + size → (size + i ≡ k) ⊎ (i ≡ k) → (k - size ≤ i) × (i < k - size + 1)
    at_site i high (inl bus) = (omega arith, omega arith)
    at_site i high (inr grid) = absurd (omega arith)

-- the three counts are all
pub counted : (states : List ℕ) (size k : ℕ) → count_by (λ e. ends_at e k) (drawn_elements states size) ≡ earthings_at states size k + (lines_at states size k + windings_at states size k)
counted states size k = simp sum_by-append refl

pub few_at_a_node : (states : List ℕ) (size k : ℕ) → k < 2 * size → count_by (λ e. ends_at e k) (drawn_elements states size) ≤ 11
few_at_a_node states size k within =
    let all = counted states size k in
    elim (cases_lt k size) [
      | inl grid ↦ let at = at_substation states size k grid in omega (arith, at.one_earthing, at.no_line, at.one_winding)
      | inr bus ↦ let at = at_bus states size k bus within in omega (arith, at.no_earthing, at.nine_lines, at.one_winding)
    ]

other_number : (a b : ℕ) → b < a → (a == b) ≡ false
other_number a b apart = grind (arith, nat_tests, apart)

below_number : (a b : ℕ) → a < b → (a == b) ≡ false
below_number a b apart = grind (arith, nat_tests, apart)

two_ends : (states : List ℕ) (size : ℕ) → 0 < size → AllByRecursion HasTwoEnds (drawn_elements states size)
two_ends states size some =
    all_joined HasTwoEnds _ _ (each_site HasTwoEnds (earthing_at states) 0 size (λ i low high. refl))
    (all_joined HasTwoEnds _ _
    (each_site HasTwoEnds (line_at states size) 0 (size - 1) (λ i low high. let before = from_before states (i + 1) (omega arith) in other_number (size + (i + 1)) (size + (made_line states (i + 1)).from) (omega (arith, before.0))))
    (each_site HasTwoEnds (winding_at states size) 0 size (λ i low high. below_number i (size + i) (omega arith))))

-- so a node has few ends by the rule of degrees
pub few_ends : (states : List ℕ) (size k : ℕ) → 0 < size → k < 2 * size → degree_of (element_ends (drawn_case states size)) k ≤ 11
few_ends states size k some within =
    let are = elements_are states size in
    let two = subst (AllByRecursion HasTwoEnds) (sym are) (two_ends states size some) in
    let many = as_many_at_a_node (drawn_case states size) k two in
    let few : count_by (λ e. ends_at e k) (element_list (drawn_case states size)) ≤ 11 = rw are (few_at_a_node states size k within) in
    omega (arith, many, few)
