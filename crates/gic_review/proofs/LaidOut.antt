-- Places that lie in groups, and what a line between two groups keeps.
use Rattle.std.proofs.Common.{◌≡◌, ◌≢◌, ℕ, zero, suc, ◌+◌, ◌<◌, ◌≤◌, ◌==◌, Bool, cond, List, [], ◌∷◌, ◌++◌, length, map, All, refl, ap, sym, ◌∙◌, subst, arith, inl, inr}
use Rattle.std.specs.Prelude.{ℤ, pos, ◌+ℤ◌, ◌-ℤ◌, unsigned_abs, count_by}
use Rattle.std.proofs.lemmas.Int.{ints}
use Rattle.std.proofs.lemmas.Bool.{cases_eq, eq-eqb, ne_eqb}
use Rattle.std.proofs.lemmas.List.{length-map, get_or-map}
use Rattle.std.proofs.lemmas.List.Sums.{sum_by-cons, count_by-le-length}
use Rattle.std.proofs.lemmas.List.Elements.{All-from_get_or}
use Rattle.std.proofs.lemmas.List.FromFn.{length-map-range_with_len, get_or-map-range_with_len, map-range_with_len_more}
use Rattle.gic_review.specs.declared.findings.span.Span.{Span}
use Rattle.gic_review.specs.declared.findings.places.Position.{Position}
use Rattle.gic_review.specs.declared.findings.places.Gap.{Gap}
use Rattle.gic_review.specs.Places.{IsNearPosition, alone, start_of, gap_of, moved, carried, group_moved}
use Rattle.gic_review.specs.Closures.{at, size_of, IsWithinSteps, AreLaidOut}

-- ---- how many places are in a group

counted_cons : (p : Position → Bool) (x : Position) (xs : List Position) → count_by p (x ∷ xs) ≡ cond (p x) 1 0 + count_by p xs
counted_cons p x xs = sum_by-cons (λ y. cond (p y) 1 0) x xs

hit : (m n : ℕ) → m ≡ n → ◌≡◌ {A = ℕ} (cond (m == n) 1 0) 1
hit m n e = rw (eq-eqb m n e) refl

miss : (m n : ℕ) → m ≢ n → ◌≡◌ {A = ℕ} (cond (m == n) 1 0) 0
miss m n apart = rw (ne_eqb m n apart) refl

module _ (from to : Position) (gap : Gap) (apart : from.group ≢ to.group) where
  abbrev step : Position → Position
  step = carried from to gap

  carried_there : (p : Position) → p.group ≡ to.group → step p ≡ moved from.group gap p
  carried_there p e = rw (eq-eqb p.group to.group e) refl

  carried_not : (p : Position) → p.group ≢ to.group → step p ≡ p
  carried_not p other = rw (ne_eqb p.group to.group other) refl

  -- both groups are in the one
  pub size_into : (ps : List Position) → size_of (map step ps) from.group ≡ size_of ps from.group + size_of ps to.group
  size_into [] = refl
  size_into (p ∷ ps) = elim (cases_eq p.group to.group) [
    | inl e ↦
        let now : ◌≡◌ {A = ℕ} (cond ((step p).group == from.group) 1 0) 1 = ap (λ (q : Position). cond (q.group == from.group) 1 0) (carried_there p e) ∙ hit from.group from.group refl in
        let other : p.group ≢ from.group = λ z. apart (sym z ∙ e) in
        omega (arith, counted_cons (λ q. q.group == from.group) (step p) (map step ps), counted_cons (λ q. q.group == from.group) p ps, counted_cons (λ q. q.group == to.group) p ps, now, miss p.group from.group other, hit p.group to.group e, size_into ps)
    | inr other ↦
        let now : ◌≡◌ {A = ℕ} (cond ((step p).group == from.group) 1 0) (cond (p.group == from.group) 1 0) = ap (λ (q : Position). cond (q.group == from.group) 1 0) (carried_not p other) in
        omega (arith, counted_cons (λ q. q.group == from.group) (step p) (map step ps), counted_cons (λ q. q.group == from.group) p ps, counted_cons (λ q. q.group == to.group) p ps, now, miss p.group to.group other, size_into ps)
  ]

  -- and others stay as large as they were
  pub size_other : (group : ℕ) → group ≢ from.group → group ≢ to.group → (ps : List Position) → size_of (map step ps) group ≡ size_of ps group
  size_other group not_from not_to [] = refl
  size_other group not_from not_to (p ∷ ps) = elim (cases_eq p.group to.group) [
    | inl e ↦
        let now : ◌≡◌ {A = ℕ} (cond ((step p).group == group) 1 0) 0 = ap (λ (q : Position). cond (q.group == group) 1 0) (carried_there p e) ∙ miss from.group group (λ z. not_from (sym z)) in
        let old : p.group ≢ group = λ z. not_to (sym z ∙ e) in
        omega (arith, counted_cons (λ q. q.group == group) (step p) (map step ps), counted_cons (λ q. q.group == group) p ps, now, miss p.group group old, size_other group not_from not_to ps)
    | inr other ↦
        let now : ◌≡◌ {A = ℕ} (cond ((step p).group == group) 1 0) (cond (p.group == group) 1 0) = ap (λ (q : Position). cond (q.group == group) 1 0) (carried_not p other) in
        omega (arith, counted_cons (λ q. q.group == group) (step p) (map step ps), counted_cons (λ q. q.group == group) p ps, now, size_other group not_from not_to ps)
  ]

-- ---- the ways between places of a group, in one direction

-- a million metres for each place of the group but one
abbrev Near : (way : Position → ℤ) → List Position → Type 0
Near way places = (k m : ℕ) → k < length places → m < length places → (at places k).group ≡ (at places m).group →
    IsWithinSteps (way (at places k)) (way (at places m)) (size_of places (at places k).group)

-- the sums of ways
both_there : (k m d : ℤ) (b more : ℕ) → IsWithinSteps k m b → IsWithinSteps (k +ℤ d) (m +ℤ d) (more + b)
both_there k m d b more h = omega (arith, ints, h)

larger : (k m : ℤ) (a more : ℕ) → IsWithinSteps k m a → IsWithinSteps k m (a + more)
larger k m a more h = omega (arith, ints, h)

one_there : (k m f t s : ℤ) (a b : ℕ) → unsigned_abs s ≤ 1000000 → IsWithinSteps k t b → IsWithinSteps f m a
    → IsWithinSteps (k +ℤ ((f +ℤ s) -ℤ t)) m (a + b)
one_there k m f t s a b short h g = omega (arith, ints, short, h, g)

other_there : (k m f t s : ℤ) (a b : ℕ) → unsigned_abs s ≤ 1000000 → IsWithinSteps k f a → IsWithinSteps t m b
    → IsWithinSteps k (m +ℤ ((f +ℤ s) -ℤ t)) (a + b)
other_there k m f t s a b short h g = omega (arith, ints, short, h, g)

module _ (places : List Position) (p q : ℕ) (p_in : p < length places) (q_in : q < length places) (span : Span) (apart : (at places p).group ≢ (at places q).group) where
  abbrev from : Position
  from = at places p

  abbrev to : Position
  to = at places q

  abbrev gap : Gap
  gap = gap_of from span to

  abbrev after : List Position
  after = group_moved from to gap places

  length-after : length after ≡ length places
  length-after = length-map places (carried from to gap)

  at_after : (k : ℕ) → k < length places → at after k ≡ carried from to gap (at places k)
  at_after k within = get_or-map (carried from to gap) places k (alone 0) (alone 0) within

  goes : (k : ℕ) → k < length places → (at places k).group ≡ to.group → at after k ≡ moved from.group gap (at places k)
  goes k within e = at_after k within ∙ carried_there from to gap apart (at places k) e

  stays : (k : ℕ) → k < length places → (at places k).group ≢ to.group → at after k ≡ at places k
  stays k within other = at_after k within ∙ carried_not from to gap apart (at places k) other

  into : size_of after from.group ≡ size_of places from.group + size_of places to.group
  into = size_into from to gap apart places

  -- a group that isn't moved is no smaller
  module _ (way : Position → ℤ) (s : ℤ) (short : unsigned_abs s ≤ 1000000) (moves : (x : Position) → way (moved from.group gap x) ≡ way x +ℤ ((way from +ℤ s) -ℤ way to)) (near : Near way places) where
    abbrev Goal : (x y : Position) → Type 0
    Goal x y = IsWithinSteps (way x) (way y) (size_of after x.group)

    by_places : (x x' y y' : Position) → x' ≡ x → y' ≡ y → Goal x y → Goal x' y'
    by_places x x' y y' e f h = subst (λ (z : Position). Goal z y') (sym e) (subst (λ (z : Position). Goal x z) (sym f) h)

    -- both are moved
    two_moved : (k m : ℕ) → k < length places → m < length places → (at places k).group ≡ to.group → (at places m).group ≡ to.group → Goal (at after k) (at after m)
    two_moved k m k_in m_in k_to m_to =
        let old : IsWithinSteps (way (at places k)) (way (at places m)) (size_of places to.group) =
        subst (λ (g : ℕ). IsWithinSteps (way (at places k)) (way (at places m)) (size_of places g)) k_to (near k m k_in m_in (k_to ∙ sym m_to)) in
        let sum = both_there (way (at places k)) (way (at places m)) ((way from +ℤ s) -ℤ way to) (size_of places to.group) (size_of places from.group) old in
        by_places (moved from.group gap (at places k)) (at after k) (moved from.group gap (at places m)) (at after m) (goes k k_in k_to) (goes m m_in m_to)
        (subst (λ (n : ℕ). IsWithinSteps (way (moved from.group gap (at places k))) (way (moved from.group gap (at places m))) n) (sym into)
        (subst (λ (z : ℤ). IsWithinSteps z (way (moved from.group gap (at places m))) (size_of places from.group + size_of places to.group)) (sym (moves (at places k)))
        (subst (λ (z : ℤ). IsWithinSteps (way (at places k) +ℤ ((way from +ℤ s) -ℤ way to)) z (size_of places from.group + size_of places to.group)) (sym (moves (at places m))) sum)))

    -- only the first is
    first_moved : (k m : ℕ) → k < length places → m < length places → (at places k).group ≡ to.group → (at places m).group ≢ to.group → from.group ≡ (at places m).group → Goal (at after k) (at after m)
    first_moved k m k_in m_in k_to m_not same =
        let back : IsWithinSteps (way (at places k)) (way to) (size_of places to.group) =
        subst (λ (g : ℕ). IsWithinSteps (way (at places k)) (way to) (size_of places g)) k_to (near k q k_in q_in k_to) in
        let on = near p m p_in m_in same in
        let sum = one_there (way (at places k)) (way (at places m)) (way from) (way to) s (size_of places from.group) (size_of places to.group) short back on in
        by_places (moved from.group gap (at places k)) (at after k) (at places m) (at after m) (goes k k_in k_to) (stays m m_in m_not)
        (subst (λ (n : ℕ). IsWithinSteps (way (moved from.group gap (at places k))) (way (at places m)) n) (sym into)
        (subst (λ (z : ℤ). IsWithinSteps z (way (at places m)) (size_of places from.group + size_of places to.group)) (sym (moves (at places k))) sum))

    -- only the second is
    second_moved : (k m : ℕ) → k < length places → m < length places → (at places k).group ≢ to.group → (at places m).group ≡ to.group → (at places k).group ≡ from.group → Goal (at after k) (at after m)
    second_moved k m k_in m_in k_not m_to same =
        let on : IsWithinSteps (way (at places k)) (way from) (size_of places from.group) =
        subst (λ (g : ℕ). IsWithinSteps (way (at places k)) (way from) (size_of places g)) same (near k p k_in p_in same) in
        let back = near q m q_in m_in (sym m_to) in
        let sum = other_there (way (at places k)) (way (at places m)) (way from) (way to) s (size_of places from.group) (size_of places to.group) short on back in
        by_places (at places k) (at after k) (moved from.group gap (at places m)) (at after m) (stays k k_in k_not) (goes m m_in m_to)
        (subst (λ (g : ℕ). IsWithinSteps (way (at places k)) (way (moved from.group gap (at places m))) (size_of after g)) (sym same)
        (subst (λ (n : ℕ). IsWithinSteps (way (at places k)) (way (moved from.group gap (at places m))) n) (sym into)
        (subst (λ (z : ℤ). IsWithinSteps (way (at places k)) z (size_of places from.group + size_of places to.group)) (sym (moves (at places m))) sum)))

    -- neither is
    none_moved : (k m : ℕ) → k < length places → m < length places → (at places k).group ≢ to.group → (at places m).group ≢ to.group → (at places k).group ≡ (at places m).group → Goal (at after k) (at after m)
    none_moved k m k_in m_in k_not m_not same =
        let old = near k m k_in m_in same in
        by_places (at places k) (at after k) (at places m) (at after m) (stays k k_in k_not) (stays m m_in m_not) (elim (cases_eq (at places k).group from.group) [
          | inl is ↦
              let here : IsWithinSteps (way (at places k)) (way (at places m)) (size_of places from.group) =
              subst (λ (g : ℕ). IsWithinSteps (way (at places k)) (way (at places m)) (size_of places g)) is old in
              subst (λ (g : ℕ). IsWithinSteps (way (at places k)) (way (at places m)) (size_of after g)) (sym is)
              (subst (λ (n : ℕ). IsWithinSteps (way (at places k)) (way (at places m)) n) (sym into)
              (larger (way (at places k)) (way (at places m)) (size_of places from.group) (size_of places to.group) here))
          | inr is_not ↦
              subst (λ (n : ℕ). IsWithinSteps (way (at places k)) (way (at places m)) n) (sym (size_other from to gap apart (at places k).group is_not k_not places)) old
        ])

    near_after : Near way after
    near_after k m k_after m_after same =
        let k_in : k < length places = omega (arith, k_after, length-after) in
        let m_in : m < length places = omega (arith, m_after, length-after) in
        elim (cases_eq (at places k).group to.group) [
          | inl k_to ↦ elim (cases_eq (at places m).group to.group) [
            | inl m_to ↦ two_moved k m k_in m_in k_to m_to
            | inr m_not ↦
                first_moved k m k_in m_in k_to m_not (ap (λ (x : Position). x.group) (sym (goes k k_in k_to)) ∙ same ∙ ap (λ (x : Position). x.group) (stays m m_in m_not))
          ]
          | inr k_not ↦ elim (cases_eq (at places m).group to.group) [
            | inl m_to ↦
                second_moved k m k_in m_in k_not m_to (ap (λ (x : Position). x.group) (sym (stays k k_in k_not)) ∙ same ∙ ap (λ (x : Position). x.group) (goes m m_in m_to))
            | inr m_not ↦
                none_moved k m k_in m_in k_not m_not (ap (λ (x : Position). x.group) (sym (stays k k_in k_not)) ∙ same ∙ ap (λ (x : Position). x.group) (stays m m_in m_not))
          ]
        ]

  module _ (h : AreLaidOut places) (north_short : unsigned_abs span.north ≤ 1000000) (east_short : unsigned_abs span.east ≤ 1000000) where
    -- the place that names a group that isn't moved stays
    named : (k : ℕ) → k < length places → (at places k).group ≢ to.group → at after (at places k).group ≡ alone (at places k).group
    named k within other =
        let g_in = h.inside k within in
        let is = h.own k within in
        let not_to : (at places (at places k).group).group ≢ to.group = λ e. other (sym (ap (λ (x : Position). x.group) is) ∙ e) in
        stays (at places k).group g_in not_to ∙ is

    own_after : (k : ℕ) → k < length places → at after (at after k).group ≡ alone (at after k).group
    own_after k within = elim (cases_eq (at places k).group to.group) [
      | inl k_to ↦ subst (λ (x : Position). at after x.group ≡ alone x.group) (sym (goes k within k_to)) (named p p_in apart)
      | inr k_not ↦ subst (λ (x : Position). at after x.group ≡ alone x.group) (sym (stays k within k_not)) (named k within k_not)
    ]

    inside_after : (k : ℕ) → k < length places → (at after k).group < length places
    inside_after k within = elim (cases_eq (at places k).group to.group) [
      | inl k_to ↦ subst (λ (x : Position). x.group < length places) (sym (goes k within k_to)) (h.inside p p_in)
      | inr k_not ↦ subst (λ (x : Position). x.group < length places) (sym (stays k within k_not)) (h.inside k within)
    ]

    pub laid_after : AreLaidOut after
    laid_after = record {
      few = omega (arith, length-after, h.few);
      inside = λ k within. omega (arith, length-after, inside_after k (omega (arith, within, length-after)));
      own = λ k within. own_after k (omega (arith, within, length-after));
      north_near = near_after (λ x. x.north) span.north north_short (λ x. refl) h.north_near;
      east_near = near_after (λ x. x.east) span.east east_short (λ x. refl) h.east_near;
    }

-- ---- at the start

start_at : (count k : ℕ) → k < count → at (start_of count) k ≡ alone k
start_at count k within = get_or-map-range_with_len alone 0 count k k (alone 0) within (omega arith)

pub length-start : (count : ℕ) → length (start_of count) ≡ count
length-start count = length-map-range_with_len alone 0 count

-- a place counts in its own group
counted_itself : (ps : List Position) (k : ℕ) → k < length ps → 1 ≤ size_of ps (at ps k).group
counted_itself [] k h = absurd (omega (arith, h))
counted_itself (p ∷ ps) zero h = omega (arith, counted_cons (λ q. q.group == p.group) p ps, hit p.group p.group refl)
counted_itself (p ∷ ps) (suc k) h = omega (arith, counted_cons (λ q. q.group == (at ps k).group) p ps, counted_itself ps k (omega (arith, h)))

start_group : (count k : ℕ) → k < count → (at (start_of count) k).group ≡ k
start_group count k within = ap (λ (x : Position). x.group) (start_at count k within)

near_itself : (k m : ℤ) (n : ℕ) → k ≡ m → 1 ≤ n → IsWithinSteps k m n
near_itself k m n is least = omega (arith, ints, is, least)

start_near : (count : ℕ) (way : Position → ℤ) → Near way (start_of count)
start_near count way k m k_in m_in same =
    let count_is = length-start count in
    let k_less : k < count = omega (arith, count_is, k_in) in
    let m_less : m < count = omega (arith, count_is, m_in) in
    let one : k ≡ m = sym (start_group count k k_less) ∙ same ∙ start_group count m m_less in
    near_itself (way (at (start_of count) k)) (way (at (start_of count) m)) (size_of (start_of count) (at (start_of count) k).group)
    (ap (λ (j : ℕ). way (at (start_of count) j)) one) (counted_itself (start_of count) k k_in)

pub laid_start : (count : ℕ) → count ≤ 4096 → AreLaidOut (start_of count)
laid_start count few =
    let count_is = length-start count in
    record {
      few = omega (arith, count_is, few);
      inside = λ k k_in. let k_less : k < count = omega (arith, count_is, k_in) in omega (arith, start_group count k k_less, k_in);
      own = λ k k_in.
          let k_less : k < count = omega (arith, count_is, k_in) in
          let is = start_group count k k_less in
          ap (at (start_of count)) is ∙ start_at count k k_less ∙ ap alone (sym is);
      north_near = start_near count (λ x. x.north);
      east_near = start_near count (λ x. x.east);
    }

-- ---- no place lies far off in its group

from_zero : (x zero_way : ℤ) (n : ℕ) → zero_way ≡ pos 0 → n ≤ 4096 → IsWithinSteps x zero_way n → IsWithinSteps zero_way x n → unsigned_abs x ≤ 4096000000
from_zero x zero_way n is few above below = omega (arith, ints, is, few, above, below)

way_near : (places : List Position) → AreLaidOut places → (way : Position → ℤ) → ((g : ℕ) → way (alone g) ≡ pos 0) → Near way places → (k : ℕ) → k < length places → unsigned_abs (way (at places k)) ≤ 4096000000
way_near places h way zeroed near k within =
    let g_in = h.inside k within in
    let is = h.own k within in
    let group_is : (at places (at places k).group).group ≡ (at places k).group = ap (λ (x : Position). x.group) is in
    let few = count_by-le-length (λ q. q.group == (at places k).group) places in
    let below = near (at places k).group k g_in within group_is in
    from_zero (way (at places k)) (way (at places (at places k).group)) (size_of places (at places k).group)
    (ap way is ∙ zeroed (at places k).group) (omega (arith, few, h.few)) (near k (at places k).group within g_in (sym group_is))
    (subst (λ (g : ℕ). IsWithinSteps (way (at places (at places k).group)) (way (at places k)) (size_of places g)) group_is below)

pub near_at : (places : List Position) → AreLaidOut places → (k : ℕ) → k < length places → IsNearPosition (at places k)
near_at places h k within = record {
  north_near = way_near places h (λ x. x.north) (λ g. refl) h.north_near k within;
  east_near = way_near places h (λ x. x.east) (λ g. refl) h.east_near k within;
}

pub all_near : (places : List Position) → AreLaidOut places → All IsNearPosition places
all_near places h = All-from_get_or IsNearPosition places (alone 0) (near_at places h)

-- one more place at the start
pub start_next : (n : ℕ) → start_of (n + 1) ≡ start_of n ++ alone n ∷ []
start_next n = map-range_with_len_more alone 0 n n (omega arith)

-- a gap by its two parts
pub gap_by : (g : Gap) (from : Position) (span : Span) (to : Position) → g.north ≡ (from.north +ℤ span.north) -ℤ to.north → g.east ≡ (from.east +ℤ span.east) -ℤ to.east → g ≡ gap_of from span to
gap_by g from span to north east =
    ap (λ (x : ℤ). record { north = x; east = g.east }) north ∙ ap (λ (y : ℤ). record { north = (from.north +ℤ span.north) -ℤ to.north; east = y }) east
