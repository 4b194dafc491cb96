-- Sums that one element more is added to.
use Rattle.std.proofs.Common.{arith, ◌≡◌, ℕ, ◌+◌, ◌*◌, ◌^◌, ◌<◌, ◌≤◌, Bool, true, false, cond, List, [], ◌∷◌, length, get_or, drop, refl, ap, sym, subst, subst₂, ◌∙◌, ℤ, pos, neg_ℤ, ◌+ℤ◌, unsigned_abs, add-one}
use Rattle.std.proofs.Math.Seq.{drop-cons}
use Rattle.std.proofs.lemmas.Int.{ints}
use Rattle.std.proofs.lemmas.List.{drop_all}
use Rattle.std.proofs.lemmas.List.Sums.{sum_by-cons}
use Rattle.std.specs.List.{filter, enumerate_from, sum_by}
use Rattle.gic_fixed.specs.Encloses.{IsWithin}
use Rattle.gic_model.specs.declared.parts.Element.{Element}
use Rattle.gic_model.specs.Network.{ends_at}
use Rattle.gic_model.specs.Standing.{elements_at}
use Rattle.gic_model.specs.Sums.{Placed, sum_of}
use Rattle.gic_model.specs.Voltages.{number_at}
use Rattle.gic_net.specs.Net.{NetView, stands, no_element, element_of}
use Rattle.gic_sweep.proofs.NodeSums.{diagonal_part}
use Rattle.gic_sweep.specs.Passes.{part_down, part_up, share_at, left_at, IsCarriedOn}
use Rattle.gic_sweep.proofs.Shares.{down_share, up_share, share_small}

drop_more : (es : List Element) (i : ℕ) (d : Element) → i < length es → drop i es ≡ get_or es i d ∷ drop (i + 1) es
drop_more es i d h = drop-cons es i d h ∙ ap (λ j. get_or es i d ∷ drop j es) (sym (add-one i))

-- no element is left at the end
pub none_left : (net : NetView) (place k : ℕ) → place ≡ length net.network.list → left_at net place k ≡ []
none_left net place k end = ap (λ (es : List Element). elements_at (filter (λ p. stands net p.1.item) (enumerate_from place es)) k) (drop_all place net.network.list (omega arith))

sum_if : (f : Placed → ℤ) (b : Bool) (p : Placed) (ps : List Placed) → sum_of f (cond b (p ∷ ps) ps) ≡ cond b (f p) (pos 0) +ℤ sum_of f ps
sum_if f true p ps = refl
sum_if f false p ps = omega (arith, ints)

weight_if : (b : Bool) (p : Placed) (ps : List Placed) → sum_by diagonal_part (cond b (p ∷ ps) ps) ≡ cond b (diagonal_part p) 0 + sum_by diagonal_part ps
weight_if true p ps = sum_by-cons diagonal_part p ps
weight_if false p ps = omega arith

-- the standing elements behind this place
abbrev behind : NetView → ℕ → List Placed
behind net place = filter (λ p. stands net p.1.item) (enumerate_from (place + 1) (drop (place + 1) net.network.list))

moved : (new old share part rest more : ℤ) → new ≡ share +ℤ old → share ≡ part → rest ≡ part +ℤ more → (new +ℤ more) ≡ (old +ℤ rest)
moved new old share part rest more a b e = omega (arith, ints)

moved_small : (b : Bool) (new old w more d : ℕ) → new ≤ old + cond b (d * 2 ^ 86) 0 → w ≡ cond b d 0 + more → new + more * 2 ^ 86 ≤ old + w * 2 ^ 86
moved_small true new old w more d h e = omega arith
moved_small false new old w more d h e = omega arith

module _ (net : NetView) (place : ℕ) (inside : place < length net.network.list) where
  left_is : (k : ℕ) → left_at net place k ≡ elements_at (cond (stands net (element_of net.network place).item) ((place, element_of net.network place) ∷ behind net place) (behind net place)) k
  left_is k = ap (λ (es : List Element). elements_at (filter (λ p. stands net p.1.item) (enumerate_from place es)) k) (drop_more net.network.list place no_element inside)

  stays : stands net (element_of net.network place).item ≡ false → (k : ℕ) → left_at net place k ≡ left_at net (place + 1) k
  stays none k = left_is k ∙ ap (λ b. elements_at (cond b ((place, element_of net.network place) ∷ behind net place) (behind net place)) k) none

  -- an element that does not stand adds nothing
  pub skipped : (part : ℕ → Placed → ℤ) (old : List ℤ) → stands net (element_of net.network place).item ≡ false → IsCarriedOn net part place old old
  skipped part old none = record {
    count = refl;
    sums = λ k. ap (λ (ps : List Placed). number_at old k +ℤ sum_of (part k) ps) (sym (stays none k));
    small = λ k. let e : sum_by diagonal_part (left_at net place k) ≡ sum_by diagonal_part (left_at net (place + 1) k) = ap (sum_by diagonal_part) (stays none k) in omega (arith, e);
  }

  -- and one that stands its part at each of its ends
  module _ (e : Element) (is : e ≡ element_of net.network place) (stand : stands net (element_of net.network place).item ≡ true) where
    takes : (k : ℕ) → left_at net place k ≡ cond (ends_at e k) ((place, e) ∷ left_at net (place + 1) k) (left_at net (place + 1) k)
    takes k =
        left_is k ∙ ap (λ b. elements_at (cond b ((place, element_of net.network place) ∷ behind net place) (behind net place)) k) stand ∙
        ap (λ (y : Element). cond (ends_at y k) ((place, y) ∷ left_at net (place + 1) k) (left_at net (place + 1) k)) (sym is)

    carried : (part : ℕ → Placed → ℤ) (out back : ℤ) (old new : List ℤ) → length new ≡ length old →
        unsigned_abs out ≤ diagonal_part (place, e) * 2 ^ 86 → unsigned_abs back ≤ diagonal_part (place, e) * 2 ^ 86 →
        ((k : ℕ) → share_at e k out back ≡ cond (ends_at e k) (part k (place, e)) (pos 0)) →
        ((k : ℕ) → number_at new k ≡ (share_at e k out back +ℤ number_at old k)) → IsCarriedOn net part place old new
    carried part out back old new count small_out small_back share sums = record {
      count = count;
      sums = λ k. moved (number_at new k) (number_at old k) (share_at e k out back) (cond (ends_at e k) (part k (place, e)) (pos 0)) (sum_of (part k) (left_at net place k)) (sum_of (part k) (left_at net (place + 1) k))
          (sums k) (share k)
          (ap (sum_of (part k)) (takes k) ∙ sum_if (part k) (ends_at e k) (place, e) (left_at net (place + 1) k));
      small = λ k. moved_small (ends_at e k) (unsigned_abs (number_at new k)) (unsigned_abs (number_at old k)) (sum_by diagonal_part (left_at net place k)) (sum_by diagonal_part (left_at net (place + 1) k)) (diagonal_part (place, e))
          (subst (λ (z : ℤ). unsigned_abs z ≤ unsigned_abs (number_at old k) + cond (ends_at e k) (diagonal_part (place, e) * 2 ^ 86) 0) (sym (sums k)) (share_small e k out back (number_at old k) (diagonal_part (place, e) * 2 ^ 86) small_out small_back))
          (ap (sum_by diagonal_part) (takes k) ∙ weight_if (ends_at e k) (place, e) (left_at net (place + 1) k));
    }

    module _ (v x : ℕ → ℤ) (low high : ℤ) (small : IsWithin (diagonal_part (place, e) * 2 ^ 86) low high) (le : low ≡ part_down v x e.from.0 (place, e)) (he : high ≡ part_up v x e.from.0 (place, e)) where
      turned_low : unsigned_abs (neg_ℤ low) ≤ diagonal_part (place, e) * 2 ^ 86
      turned_low = omega (arith, ints, small.low)

      turned_high : unsigned_abs (neg_ℤ high) ≤ diagonal_part (place, e) * 2 ^ 86
      turned_high = omega (arith, ints, small.high)

      pub carried_down : (out back : ℤ) (old new : List ℤ) → length new ≡ length old → out ≡ low → back ≡ neg_ℤ high →
          ((k : ℕ) → number_at new k ≡ (share_at e k out back +ℤ number_at old k)) → IsCarriedOn net (part_down v x) place old new
      carried_down out back old new count oe be sums =
          carried (part_down v x) low (neg_ℤ high) old new count small.low turned_high (down_share v x (place, e) low high le he)
          (λ k. subst₂ (λ (o b : ℤ). number_at new k ≡ (share_at e k o b +ℤ number_at old k)) oe be (sums k))

      pub carried_up : (out back : ℤ) (old new : List ℤ) → length new ≡ length old → out ≡ high → back ≡ neg_ℤ low →
          ((k : ℕ) → number_at new k ≡ (share_at e k out back +ℤ number_at old k)) → IsCarriedOn net (part_up v x) place old new
      carried_up out back old new count oe be sums =
          carried (part_up v x) high (neg_ℤ low) old new count small.high turned_low (up_share v x (place, e) low high le he)
          (λ k. subst₂ (λ (o b : ℤ). number_at new k ≡ (share_at e k o b +ℤ number_at old k)) oe be (sums k))

-- a pass begins with sums that are 0, and ends with all parts in them
pub begun : (z s : ℤ) → z ≡ pos 0 → (z +ℤ s) ≡ s
begun z s e = omega (arith, ints)

pub begun_small : (z : ℤ) (w : ℕ) → z ≡ pos 0 → unsigned_abs z + w * 2 ^ 86 ≤ w * 2 ^ 86
begun_small z w e = omega (arith, ints)

pub ended : (net : NetView) (place k : ℕ) (part : Placed → ℤ) (z total : ℤ) → place ≡ length net.network.list → (z +ℤ sum_of part (left_at net place k)) ≡ total → z ≡ total
ended net place k part z total end sum =
    let none : sum_of part (left_at net place k) ≡ pos 0 = ap (sum_of part) (none_left net place k end) in
    by z (sum_of part (left_at net place k)) total none sum
  where
    by : (z rest total : ℤ) → rest ≡ pos 0 → (z +ℤ rest) ≡ total → z ≡ total
    by z rest total none sum = omega (arith, ints)
