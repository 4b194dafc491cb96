-- Lists of the nodes' intervals.
use Rattle.std.proofs.Common.{◌≡◌, ℕ, ◌+◌, ◌*◌, ◌^◌, ◌<◌, ◌≤◌, ◌++◌, List, map, take, drop, set, get_or, length, sym, ap, ◌∙◌, arith, subst, ℤ, pos, ◌*ℤ◌, ◌≤ℤ◌, neg_ℤ, unsigned_abs, refl, ⊎_elim}
use Rattle.std.proofs.lemmas.Bool.{cases_lt}
use Rattle.std.proofs.lemmas.Int.{ints}
use Rattle.std.proofs.lemmas.List.{get_or_past, get_or-map, get_or-set_same, get_or-set_other, map-set, length-map, take_all, drop_all, append-nil}
use Rattle.std.proofs.lemmas.List.Edits.{map_over_more}
use Rattle.gic_enclose.specs.Ends.{potential_ends, low_at, high_at}
use Rattle.gic_fixed.proofs.Divisions.{floor_ge, floor_le}
use Rattle.gic_fixed.proofs.Integers.{*ℤ-neg_ℤ}
use Rattle.gic_fixed.specs.declared.interval.Interval.{Interval}
use Rattle.gic_fixed.specs.Encloses.{IsWithin}
use Rattle.gic_fixed.specs.Ends.{Ends, ends_of, zero_ends}
use Rattle.gic_fixed.specs.Rounding.{floor_div, ceil_div}
use Rattle.gic_varied.specs.Certified.{in_units}
use Rattle.gic_grounds.specs.NodeEnds.{AreAllWithin}

-- past the end all is 0
pub all_within : (bound : ℕ) (list : List Ends) → ((k : ℕ) → k < length list → IsWithin bound (low_at list k) (high_at list k)) →
    AreAllWithin bound list
all_within bound list each k = ⊎_elim
    (λ inside. each k inside)
    (λ past. subst (λ (e : Ends). IsWithin bound e.low e.high) (sym (get_or_past list k zero_ends past)) (record { low = omega arith; high = omega arith }))
    (cases_lt k (length list))

-- what is at most b times d has a quotient that is at most b
pub floor_small : (z : ℤ) (d b : ℕ) → 0 < d → unsigned_abs z ≤ d * b → unsigned_abs (floor_div z (pos d)) ≤ b
floor_small z d b some small =
    let turned = *ℤ-neg_ℤ (pos d) (pos b) in
    let product : pos d *ℤ pos b ≡ pos (d * b) = refl in
    let least : neg_ℤ (pos b) ≤ℤ floor_div z (pos d) = floor_ge z d (neg_ℤ (pos b)) some (omega (arith, ints, turned)) in
    let most : floor_div z (pos d) ≤ℤ pos b = floor_le z d (pos b) some (omega (arith, ints)) in
    omega (arith, ints, least, most)

-- so has what is rounded up
pub ceil_small : (z : ℤ) (d b : ℕ) → 0 < d → unsigned_abs z ≤ d * b → unsigned_abs (ceil_div z (pos d)) ≤ b
ceil_small z d b some small =
    let down : unsigned_abs (floor_div (neg_ℤ z) (pos d)) ≤ b = floor_small (neg_ℤ z) d b some (omega (arith, ints)) in
    omega (arith, ints, down)

-- ends within so many units are within as many in units
pub units_within : (unit bound : ℕ) (grains : Ends) → 0 < unit → IsWithin (2 ^ 36 * unit * bound) grains.low grains.high →
    IsWithin bound (in_units unit grains).low (in_units unit grains).high
units_within unit bound grains some small = record {
  low = floor_small grains.low (2 ^ 36 * unit) bound (omega arith) small.low;
  high = ceil_small grains.high (2 ^ 36 * unit) bound (omega arith) small.high;
}

-- so are those of all nodes
pub all_units_within : (unit bound : ℕ) (grains : List Ends) → 0 < unit → AreAllWithin (2 ^ 36 * unit * bound) grains →
    AreAllWithin bound (map (in_units unit) grains)
all_units_within unit bound grains some small = all_within bound (map (in_units unit) grains) (λ k inside.
    let there : k < length grains = omega (arith, inside, length-map grains (in_units unit)) in
    subst (λ (e : Ends). IsWithin bound e.low e.high) (sym (get_or-map (in_units unit) grains k zero_ends zero_ends there))
    (units_within unit bound (potential_ends grains k) some (small k)))

-- one more interval is in units
pub next_in_units : (unit i : ℕ) (init items : List Interval) (d new : Interval) → i < length init → length items ≡ length init
    → ends_of new ≡ in_units unit (ends_of (get_or items i d))
    → map ends_of items ≡ map (in_units unit) (take i (map ends_of init)) ++ drop i (map ends_of init)
    → map ends_of (set items i new) ≡ map (in_units unit) (take (i + 1) (map ends_of init)) ++ drop (i + 1) (map ends_of init)
next_in_units unit i init items d new inside count rounded before =
    let old = ends_of (get_or items i d) in
    map-set ends_of items i new
    ∙ ap (λ e. set (map ends_of items) i e) rounded
    ∙ map_over_more (in_units unit) (map ends_of init) (map ends_of items) i old (omega (arith, inside, length-map init ends_of)) before
    (sym (get_or-map ends_of items i d old (omega (arith, inside, count))))

-- all are
pub all_in_units : (unit i : ℕ) (init items : List Ends) → length init ≤ i → items ≡ map (in_units unit) (take i init) ++ drop i init →
    items ≡ map (in_units unit) init
all_in_units unit i init items past all =
    all
    ∙ ap (λ l. map (in_units unit) l ++ drop i init) (take_all i init past)
    ∙ ap (λ l. map (in_units unit) init ++ l) (drop_all i init past)
    ∙ append-nil (map (in_units unit) init)

-- an interval with these ends
pub ends_same : (interval : Interval) (ends : Ends) → interval.lo ≡ ends.low → interval.hi ≡ ends.high → ends_of interval ≡ ends
ends_same interval ends low high i = record { low = low i; high = high i }

-- one more node has its interval
pub next_kept : (potentials : List Ends) (list : List Interval) (i : ℕ) (new : Interval) → i < length list → new.lo ≡ low_at potentials i →
    new.hi ≡ high_at potentials i
    → ((k : ℕ) → k < i → potential_ends (map ends_of list) k ≡ potential_ends potentials k)
    → (k : ℕ) → k < i + 1 → potential_ends (map ends_of (set list i new)) k ≡ potential_ends potentials k
next_kept potentials list i new inside low high before k below = ⊎_elim
    (λ less. read k ∙ get_or-set_other (map ends_of list) i k (ends_of new) zero_ends (λ same. absurd (omega (arith, less, same))) ∙ before k less)
    (λ past. let here : k ≡ i = omega (arith, below, past) in
    subst (λ j. potential_ends (map ends_of (set list i new)) j ≡ potential_ends potentials j) (sym here)
    (read i ∙ get_or-set_same (map ends_of list) i (ends_of new) zero_ends (omega (arith, inside, length-map list ends_of)) ∙ ends_same new (potential_ends potentials i) low high))
    (cases_lt k i)
  where
    read : (j : ℕ) → potential_ends (map ends_of (set list i new)) j ≡ potential_ends (set (map ends_of list) i (ends_of new)) j
    read j = ap (λ l. potential_ends l j) (map-set ends_of list i new)

-- one more node's interval is within a bound that is no less than that of those before
pub next_within : (list : List Ends) (i least most : ℕ) (new : Interval) → least ≤ most → new.lo ≡ low_at list i → new.hi ≡ high_at list i →
    IsWithin most new.lo new.hi
    → ((k : ℕ) → k < i → IsWithin least (low_at list k) (high_at list k))
    → (k : ℕ) → k < i + 1 → IsWithin most (low_at list k) (high_at list k)
next_within list i least most new order low high within before k below = ⊎_elim
    (λ less. let old = before k less in record { low = omega (arith, order, old.low); high = omega (arith, order, old.high) })
    (λ past. let here : k ≡ i = omega (arith, below, past) in
    subst (λ j. IsWithin most (low_at list j) (high_at list j)) (sym here)
    (subst (λ (e : Ends). IsWithin most e.low e.high) (ends_same new (potential_ends list i) low high) within))
    (cases_lt k i)

-- the interval at a node is within a bound of all
pub at_node_within : (bound : ℕ) (list : List Ends) (k : ℕ) (interval : Interval) → interval.lo ≡ low_at list k →
    interval.hi ≡ high_at list k → AreAllWithin bound list → IsWithin bound interval.lo interval.hi
at_node_within bound list k interval low high small = record
    { low = omega (arith, ap unsigned_abs low, (small k).low); high = omega (arith, ap unsigned_abs high, (small k).high) }
