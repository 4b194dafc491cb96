-- The shares of conductances in a made case: an earthing has at least 1/32 of its substation's, and a winding at least 1/6 of its bus's.
use Rattle.std.proofs.Common.{◌≡◌, ℕ, ◌+◌, ◌-◌, ◌*◌, ◌<◌, ◌≤◌, Bool, cond, List, [], ◌∷◌, ◌++◌, map, count_by, ℤ, pos, negsuc, ◌+ℤ◌, ◌*ℤ◌, ◌≤ℤ◌, refl, ap, ◌∙◌, arith, inl, inr, lt-ltb, le-ltb}
use Rattle.std.proofs.lemmas.Bool.{cases_Bool}
use Rattle.std.proofs.lemmas.Int.{ints}
use Rattle.std.proofs.lemmas.List.Sums.{sum_by-cons}
use Rattle.std.specs.List.{AllByRecursion, range_with_len, enumerate_from}
use lib.IntN.{*ℤ-zero}
use Rattle.gic_base.proofs.Each.{all_joined}
use Rattle.gic_fixed.proofs.Integers.{linear, *ℤ-≤ℤ, +ℤ-*ℤ}
use Rattle.gic_fixed.proofs.Sums.{sum_of-++}
use Rattle.gic_model.specs.declared.parts.Element.{Element}
use Rattle.gic_model.specs.declared.parts.Role.{Role}
use Rattle.gic_model.specs.declared.parts.Role.TheVariants as role
use Rattle.gic_model.specs.Network.{ends_at}
use Rattle.gic_model.specs.Standing.{elements_at}
use Rattle.gic_model.specs.Sums.{Placed, sum_of}
use Rattle.gic_model.specs.Ohms.{product_of_ohms, sum_over_ohms}
use Rattle.gic_model.proofs.Members.{kept, placed}
use Rattle.gic_model.proofs.Row.{weight}
use Rattle.gic_model.proofs.SumLaws.{sum_over_ohms-≤ℤ, sum_over_ohms-*ℤ, sum_over_ohms-+ℤ, sum_over_ohms-whole}
use Rattle.gic_bound.specs.Shares.{HaveShare, is_earthing, runs_to_substation}
use Rattle.gic_make.specs.MadeCase.{first_draw}
use Rattle.gic_make.proofs.Sites.{each_site}
use Rattle.gic_make.proofs.RowsOfSites.{draw_small}
use Rattle.gic_make.proofs.ElementsOfSites.{earthing_at, line_at, winding_at, drawn_elements}
use Rattle.gic_make.proofs.EndsAtNodes.{earthings_at, lines_at, windings_at, at_substation, at_bus}
use Rattle.gic_make.proofs.StandingSites.{standing_at}

-- ---- whole siemens that bound what an element has beyond its share

-- the numerator of an element's conductance where it passes the test
abbrev passed : (Element → Bool) → Placed → ℤ
passed test p = cond (test p.1) (pos (p.1.times * 1000000)) (pos 0)

-- an element's conductance is at most s times that of itself, if it passes the test, and this many siemens more
abbrev IsBounded : (Element → Bool) → (s : ℕ) → (Role → ℤ) → Element → Type 0
IsBounded test s siemens e = pos (e.times * 1000000) ≤ℤ (pos e.micro_ohm *ℤ siemens e.role +ℤ pos s *ℤ cond (test e) (pos (e.times * 1000000)) (pos 0))

-- where these siemens add up to 0 at most, the elements that pass the test have their share
share_by : (test : Element → Bool) (s : ℕ) (siemens : Role → ℤ) (ps : List Placed) → AllByRecursion (λ p. IsBounded test s siemens p.1) ps → sum_of (λ p. siemens p.1.role) ps ≤ℤ pos 0
    → sum_over_ohms weight ps ≤ℤ (pos s *ℤ sum_over_ohms (passed test) ps)
share_by test s siemens ps each few =
    let part = λ (p : Placed). siemens p.1.role in
    let all = sum_over_ohms-≤ℤ weight (λ p. pos p.1.micro_ohm *ℤ part p +ℤ pos s *ℤ passed test p) ps each in
    let split = sum_over_ohms-+ℤ (λ p. pos p.1.micro_ohm *ℤ part p) (λ p. pos s *ℤ passed test p) ps in
    let whole = sum_over_ohms-whole part ps in
    let shared = sum_over_ohms-*ℤ (pos s) (passed test) ps in
    let below = *ℤ-≤ℤ (product_of_ohms ps) (sum_of part ps) (pos 0) few in
    let none = *ℤ-zero (pos (product_of_ohms ps)) in
    omega (arith, linear)

-- ---- the siemens at a node

-- those of the elements at a node, summed over all
at_node : (siemens : Role → ℤ) (k i : ℕ) (es : List Element) → sum_of (λ p. siemens p.1.role) (elements_at (enumerate_from i es) k) ≡ sum_of (λ e. cond (ends_at e k) (siemens e.role) (pos 0)) es
at_node siemens k i [] = refl
at_node siemens k i (e ∷ es) =
    let rest = at_node siemens k (i + 1) es in
    elim (cases_Bool (ends_at e k)) [
      | inl here ↦ rw (here, rest) refl
      | inr away ↦ rw (away, rest) (omega (arith, linear))
    ]

-- those of elements of one role
of_role : (siemens : Role → ℤ) (k : ℕ) (kept_role : Role) (es : List Element) → AllByRecursion (λ e. e.role ≡ kept_role) es
    → sum_of (λ e. cond (ends_at e k) (siemens e.role) (pos 0)) es ≡ pos (count_by (λ e. ends_at e k) es) *ℤ siemens kept_role
of_role siemens k kept_role [] same = omega (arith, ints)
of_role siemens k kept_role (e ∷ es) same =
    let rest = of_role siemens k kept_role es same.1 in
    let each = siemens kept_role in
    let count = count_by (λ x. ends_at x k) es in
    let sum = sum_by-cons (λ (x : Element). cond (ends_at x k) 1 0) e es in
    elim (cases_Bool (ends_at e k)) [
      | inl ends ↦
          let here : cond (ends_at e k) (siemens e.role) (pos 0) ≡ each = ap (λ b. cond b (siemens e.role) (pos 0)) ends ∙ ap siemens same.0 in
          let more : pos (count_by (λ x. ends_at x k) (e ∷ es)) ≡ pos 1 +ℤ pos count = ap pos (sum ∙ ap (λ b. cond b 1 0 + count) ends) in
          let whole : pos (count_by (λ x. ends_at x k) (e ∷ es)) *ℤ each ≡ pos 1 *ℤ each +ℤ pos count *ℤ each = ap (λ z. z *ℤ each) more ∙ +ℤ-*ℤ (pos 1) (pos count) each in
          let one : pos 1 *ℤ each ≡ each = omega (arith, ints) in
          omega (arith, linear)
      | inr away ↦
          let here : cond (ends_at e k) (siemens e.role) (pos 0) ≡ pos 0 = ap (λ b. cond b (siemens e.role) (pos 0)) away in
          let zeros : 0 + count ≡ count = omega arith in
          let same_count : pos (count_by (λ x. ends_at x k) (e ∷ es)) ≡ pos count = ap pos (sum ∙ ap (λ b. cond b 1 0 + count) away ∙ zeros) in
          let whole : pos (count_by (λ x. ends_at x k) (e ∷ es)) *ℤ each ≡ pos count *ℤ each = ap (λ z. z *ℤ each) same_count in
          omega (arith, linear)
    ]

-- those of the elements of a made case
module _ (states : List ℕ) (size k : ℕ) (siemens : Role → ℤ) where
  pub siemens_at : sum_of (λ p. siemens p.1.role) (elements_at (standing_at states size) k)
      ≡ pos (earthings_at states size k) *ℤ siemens role.Ground +ℤ (pos (lines_at states size k) *ℤ siemens role.Line +ℤ pos (windings_at states size k) *ℤ siemens role.High)
  siemens_at =
      let part = λ (e : Element). cond (ends_at e k) (siemens e.role) (pos 0) in
      let earthings = map (earthing_at states) (range_with_len 0 size) in
      let lines = map (line_at states size) (range_with_len 0 (size - 1)) in
      let windings = map (winding_at states size) (range_with_len 0 size) in
      let all = at_node siemens k 0 (drawn_elements states size) in
      let first = sum_of-++ part earthings (lines ++ windings) in
      let second = sum_of-++ part lines windings in
      let of_earthings = of_role siemens k role.Ground earthings (each_site (λ e. e.role ≡ role.Ground) (earthing_at states) 0 size (λ i low high. refl)) in
      let of_lines = of_role siemens k role.Line lines (each_site (λ e. e.role ≡ role.Line) (line_at states size) 0 (size - 1) (λ i low high. refl)) in
      let of_windings = of_role siemens k role.High windings (each_site (λ e. e.role ≡ role.High) (winding_at states size) 0 size (λ i low high. refl)) in
      omega (arith, linear)

-- ---- substations

-- an earthing has 1 siemens at least, so 31 times its conductance is 31 at least; a winding has 30 at most
substation_siemens : Role → ℤ
substation_siemens role.Ground = negsuc 30
substation_siemens role.Line = pos 3
substation_siemens role.High = pos 30
substation_siemens role.Low = pos 0
substation_siemens role.Series = pos 0
substation_siemens role.Common = pos 0
substation_siemens role.Third = pos 0
substation_siemens role.Neutral = pos 0

substation_bounded : (states : List ℕ) (size : ℕ) → AllByRecursion (IsBounded is_earthing 32 substation_siemens) (drawn_elements states size)
unfolding substation_siemens
substation_bounded states size =
    let P = IsBounded is_earthing 32 substation_siemens in
    all_joined P _ _ (each_site P (earthing_at states) 0 size (λ i low high. let small = draw_small states (first_draw i) 900 (omega arith) in omega (arith, ints)))
    (all_joined P _ _ (each_site P (line_at states size) 0 (size - 1) (λ i low high. omega (arith, ints)))
    (each_site P (winding_at states size) 0 size (λ i low high. omega (arith, ints))))

-- ---- buses

-- a winding has 6 siemens at least, so 5 times its conductance is 30 at least; a line has 3 at most
bus_siemens : Role → ℤ
bus_siemens role.Ground = pos 10
bus_siemens role.Line = pos 3
bus_siemens role.High = negsuc 29
bus_siemens role.Low = pos 0
bus_siemens role.Series = pos 0
bus_siemens role.Common = pos 0
bus_siemens role.Third = pos 0
bus_siemens role.Neutral = pos 0

bus_bounded : (states : List ℕ) (size : ℕ) → AllByRecursion (IsBounded (runs_to_substation size) 6 bus_siemens) (drawn_elements states size)
unfolding bus_siemens
bus_bounded states size =
    let P = IsBounded (runs_to_substation size) 6 bus_siemens in
    all_joined P _ _ (each_site P (earthing_at states) 0 size (λ i low high. omega (arith, ints)))
    (all_joined P _ _ (each_site P (line_at states size) 0 (size - 1) (λ i low high. let away = le-ltb (size + (i + 1)) size (omega arith) in rw away (omega (arith, ints))))
    (each_site P (winding_at states size) 0 size (λ i low high. let small = draw_small states (first_draw i + 1) 400 (omega arith) in let runs = lt-ltb i size (omega arith) in rw runs (omega (arith, ints)))))

-- ---- their shares

bounded_at : (test : Element → Bool) (s : ℕ) (siemens : Role → ℤ) (k : ℕ) (es : List Element) → AllByRecursion (IsBounded test s siemens) es
    → AllByRecursion (λ p. IsBounded test s siemens p.1) (elements_at (enumerate_from 0 es) k)
bounded_at test s siemens k es each = kept (λ p. ends_at p.1 k) (λ p. IsBounded test s siemens p.1) (λ p. IsBounded test s siemens p.1) (λ p is h. h) (enumerate_from 0 es) (placed (IsBounded test s siemens) 0 es each)

pub substation_share : (states : List ℕ) (size k : ℕ) → k < size → HaveShare is_earthing 32 (standing_at states size) k
unfolding substation_siemens
substation_share states size k within =
    let at = at_substation states size k within in
    let all = siemens_at states size k substation_siemens in
    let few : sum_of (λ p. substation_siemens p.1.role) (elements_at (standing_at states size) k) ≤ℤ pos 0 = rw (all, at.one_earthing, at.no_line, at.one_winding) (omega (arith, ints)) in
    share_by is_earthing 32 substation_siemens (elements_at (standing_at states size) k) (bounded_at is_earthing 32 substation_siemens k (drawn_elements states size) (substation_bounded states size)) few

pub bus_share : (states : List ℕ) (size k : ℕ) → size ≤ k → k < 2 * size → HaveShare (runs_to_substation size) 6 (standing_at states size) k
unfolding bus_siemens
bus_share states size k past within =
    let at = at_bus states size k past within in
    let lines = at.nine_lines in
    let all = siemens_at states size k bus_siemens in
    let few : sum_of (λ p. bus_siemens p.1.role) (elements_at (standing_at states size) k) ≤ℤ pos 0 = rw (all, at.no_earthing, at.one_winding) (omega (arith, ints)) in
    share_by (runs_to_substation size) 6 bus_siemens (elements_at (standing_at states size) k) (bounded_at (runs_to_substation size) 6 bus_siemens k (drawn_elements states size) (bus_bounded states size)) few
