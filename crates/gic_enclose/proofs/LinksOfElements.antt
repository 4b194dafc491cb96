-- A node's standing elements as a row of conductances.
use Rattle.std.proofs.Common.{◌≡◌, ℕ, ◌+◌, ◌*◌, ◌^◌, Bool, true, false, cond, ◌==◌, List, [], ◌∷◌, length, map, Option, Some, None, ℤ, pos, ◌+ℤ◌, ◌-ℤ◌, ◌*ℤ◌, neg_ℤ, arith, refl, ap, sym, ◌∙◌}
use lib.IntN.{*ℤ_comm, *ℤ-zero}
use Rattle.std.specs.List.{AllByRecursion, sum_by}
use Rattle.std.specs.Int.{div_ceil, int_div_euclid}
use Rattle.std.proofs.lemmas.List.Sums.{sum_by-cons}
use Rattle.gic_model.specs.declared.parts.End.{End}
use Rattle.gic_model.specs.declared.parts.End.TheVariants.{Node, Earth}
use Rattle.gic_model.specs.Network.{ends_at}
use Rattle.gic_model.specs.Standing.{value_at, leaving, other_end, elements_at}
use Rattle.gic_model.specs.Sums.{Placed, sum_of}
use Rattle.gic_model.specs.Ohms.{product_of_ohms, sum_over_ohms}
use Rattle.gic_model.specs.Guess.{guessed_current}
use Rattle.gic_model.specs.Bound.{row_part}
use Rattle.gic_fixed.proofs.Integers.{linear, *ℤ-+ℤ, *ℤ-neg_ℤ, *ℤ_left_comm, *ℤ_assoc}
use Rattle.gic_model.proofs.Row.{weight}
use Rattle.gic_model.proofs.Residual.{fall-from, fall-to}
use Rattle.gic_enclose.proofs.Links.{Link, denominator, conductance, flow, residual, diagonal, row_sum, guess_at, entry_at}

abbrev pub far_of : End → Option ℕ
far_of (Node m) = Some m.0
far_of Earth = None

-- an element as the node k sees it
abbrev pub link_of : (ℕ → ℤ) → ℕ → Placed → Link
link_of volts k p = record {
  far = far_of (other_end k p.1);
  numerator = p.1.times * 1000000 * 2 ^ 20;
  resistance = p.1.micro_ohm;
  push = leaving k p.1 (pos (2 ^ 36) *ℤ volts p.0);
}

abbrev pub links_at : List Placed → (ℕ → ℤ) → ℕ → List Link
links_at standing volts k = map (link_of volts k) (elements_at standing k)

pub guess_is : (x : ℕ → ℤ) (e : End) → guess_at x (far_of e) ≡ value_at x e
guess_is x (Node m) = refl
guess_is x Earth = refl

pub entry_is : (v : ℕ → ℕ) (e : End) → pos (entry_at v (far_of e)) ≡ value_at (λ m. pos (v m)) e
entry_is v (Node m) = refl
entry_is v Earth = refl

pub length_is : (volts : ℕ → ℤ) (k : ℕ) (ps : List Placed) → length (map (link_of volts k) ps) ≡ length ps
length_is volts k [] = refl
length_is volts k (p ∷ ps) = omega (arith, length_is volts k ps)

pub denominator_is : (volts : ℕ → ℤ) (k : ℕ) (ps : List Placed) → denominator (map (link_of volts k) ps) ≡ product_of_ohms ps
denominator_is volts k [] = refl
denominator_is volts k (p ∷ ps) = ap (λ n. p.1.micro_ohm * n) (denominator_is volts k ps)

pub diagonal_is : (volts : ℕ → ℤ) (k : ℕ) (ps : List Placed) → diagonal (map (link_of volts k) ps) ≡ sum_by (λ p. div_ceil (p.1.times * 1000000 * 2 ^ 20) p.1.micro_ohm) ps
diagonal_is volts k [] = refl
diagonal_is volts k (p ∷ ps) =
    ap (λ n. div_ceil (p.1.times * 1000000 * 2 ^ 20) p.1.micro_ohm + n) (diagonal_is volts k ps) ∙
    sym (sum_by-cons (λ p. div_ceil (p.1.times * 1000000 * 2 ^ 20) p.1.micro_ohm) p ps)

pub conductance_is : (volts : ℕ → ℤ) (k : ℕ) (ps : List Placed) → (n : ℕ) × (sum_over_ohms weight ps ≡ pos n) × (conductance (map (link_of volts k) ps) ≡ 2 ^ 20 * n)
conductance_is volts k [] = (0, refl, refl)
conductance_is volts k (p ∷ ps) =
    let rest = conductance_is volts k ps in
    let w = p.1.times * 1000000 in
    let den = denominator_is volts k ps in
    let part = ap (λ n. p.1.times * 1000000 * 2 ^ 20 * 1 * n) den in
    let more = ap (λ n. p.1.micro_ohm * n) rest.2 in (
      w * product_of_ohms ps + p.1.micro_ohm * rest.0,
      ap (λ z. weight p *ℤ pos (product_of_ohms ps) +ℤ pos p.1.micro_ohm *ℤ z) rest.1,
      omega arith,
    )

pub row_sum_is : (volts : ℕ → ℤ) (v : ℕ → ℕ) (k : ℕ) (ps : List Placed) → row_sum (map (link_of volts k) ps) v k ≡ sum_of (row_part v k) ps
row_sum_is volts v k [] = refl
row_sum_is volts v k (p ∷ ps) =
    ap (λ z. int_div_euclid (pos (p.1.times * 1000000 * 2 ^ 20) *ℤ (pos (v k) -ℤ z -ℤ pos 1)) (pos p.1.micro_ohm) +ℤ row_sum (map (link_of volts k) ps) v k) (entry_is v (other_end k p.1)) ∙
    ap (λ z. row_part v k p +ℤ z) (row_sum_is volts v k ps)

-- one element's current, seen from the node k
unfoldable pub drop_at : (ℕ → ℤ) → (ℕ → ℤ) → ℕ → Link → ℤ
drop_at volts x k l = guess_at x (Some k) -ℤ guess_at x l.far +ℤ l.push

pub element_is : (volts x : ℕ → ℤ) (k : ℕ) (p : Placed) → ends_at p.1 k ≡ true →
    leaving k p.1 (guessed_current volts x p) ≡ weight p *ℤ drop_at volts x k (link_of volts k p)
unfolding drop_at
element_is volts x k p ends = by (p.1.from.0 == k) refl
  where
    u : ℤ
    u = pos (2 ^ 36) *ℤ volts p.0

    there : guess_at x (far_of (other_end k p.1)) ≡ value_at x (other_end k p.1)
    there = guess_is x (other_end k p.1)

    by : (b : Bool) → (p.1.from.0 == k) ≡ b → leaving k p.1 (guessed_current volts x p) ≡ weight p *ℤ (x k -ℤ guess_at x (far_of (other_end k p.1)) +ℤ leaving k p.1 (pos (2 ^ 36) *ℤ volts p.0))
    by true is =
        let whole = ap (λ b. cond b (guessed_current volts x p) (neg_ℤ (guessed_current volts x p))) is in
        let push = ap (λ b. cond b (pos (2 ^ 36) *ℤ volts p.0) (neg_ℤ (pos (2 ^ 36) *ℤ volts p.0))) is in
        let drop = fall-from x k p is in
        let inner : x k -ℤ guess_at x (far_of (other_end k p.1)) +ℤ leaving k p.1 (pos (2 ^ 36) *ℤ volts p.0) ≡ x p.1.from.0 -ℤ value_at x p.1.to +ℤ pos (2 ^ 36) *ℤ volts p.0 = omega (arith, linear, there, push, drop) in
        whole ∙ ap (λ z. weight p *ℤ z) (sym inner)
    by false is =
        let whole = ap (λ b. cond b (guessed_current volts x p) (neg_ℤ (guessed_current volts x p))) is in
        let push = ap (λ b. cond b (pos (2 ^ 36) *ℤ volts p.0) (neg_ℤ (pos (2 ^ 36) *ℤ volts p.0))) is in
        let drop = fall-to x k p is ends in
        let inner : x k -ℤ guess_at x (far_of (other_end k p.1)) +ℤ leaving k p.1 (pos (2 ^ 36) *ℤ volts p.0) ≡ neg_ℤ (x p.1.from.0 -ℤ value_at x p.1.to +ℤ pos (2 ^ 36) *ℤ volts p.0) = omega (arith, linear, there, push, drop) in
        let turned = *ℤ-neg_ℤ (weight p) (x p.1.from.0 -ℤ value_at x p.1.to +ℤ pos (2 ^ 36) *ℤ volts p.0) in
        whole ∙ sym turned ∙ ap (λ z. weight p *ℤ z) (sym inner)

-- over plain numbers
one_more : (w g n d r : ℕ) (f z s s' : ℤ) → n ≡ w * g → f ≡ pos w *ℤ z → s' ≡ pos g *ℤ s →
    (pos (n * d) *ℤ z) +ℤ (pos r *ℤ s') ≡ pos g *ℤ (f *ℤ pos d +ℤ pos r *ℤ s)
one_more w g n d r f z s s' ne fe se =
    let number : n * d ≡ g * (w * d) = omega (arith, ap (λ m. m * d) ne) in
    let a = ap (λ m. pos m *ℤ z) number in
    let b = *ℤ_assoc (pos g) (pos (w * d)) z in
    let c = ap (λ y. pos g *ℤ (y *ℤ pos d)) fe in
    let c2 = ap (λ y. pos g *ℤ y) (*ℤ_comm (pos w *ℤ z) (pos d)) in
    let c3 = ap (λ y. pos g *ℤ y) (*ℤ_assoc (pos d) (pos w) z) in
    let c4 = ap (λ m. pos g *ℤ (pos m *ℤ z)) (wd) in
    let e = ap (λ y. pos r *ℤ y) se in
    let e2 = *ℤ_left_comm (pos r) (pos g) s in
    let split = *ℤ-+ℤ (pos g) (f *ℤ pos d) (pos r *ℤ s) in
    omega (arith, linear)
  where
    wd : d * w ≡ w * d
    wd = omega arith

pub flow_is_residual : (volts x : ℕ → ℤ) (k : ℕ) (ps : List Placed) → AllByRecursion (λ p. ends_at p.1 k ≡ true) ps →
    flow (drop_at volts x k) (map (link_of volts k) ps) ≡ pos (2 ^ 20) *ℤ sum_over_ohms (λ p. leaving k p.1 (guessed_current volts x p)) ps
flow_is_residual volts x k [] h = sym (*ℤ-zero (pos (2 ^ 20)))
flow_is_residual volts x k (p ∷ ps) h =
    let den = denominator_is volts k ps in
    let first = ap (λ n. (pos (p.1.times * 1000000 * 2 ^ 20 * n) *ℤ drop_at volts x k (link_of volts k p)) +ℤ (pos p.1.micro_ohm *ℤ flow (drop_at volts x k) (map (link_of volts k) ps))) den in
    first ∙ one_more (p.1.times * 1000000) (2 ^ 20) (p.1.times * 1000000 * 2 ^ 20) (product_of_ohms ps) p.1.micro_ohm (leaving k p.1 (guessed_current volts x p)) (drop_at volts x k (link_of volts k p))
    (sum_over_ohms (λ p. leaving k p.1 (guessed_current volts x p)) ps) (flow (drop_at volts x k) (map (link_of volts k) ps)) refl (element_is volts x k p h.0) (flow_is_residual volts x k ps h.1)

pub residual_is : (volts x : ℕ → ℤ) (k : ℕ) (ps : List Placed) → AllByRecursion (λ p. ends_at p.1 k ≡ true) ps →
    residual (map (link_of volts k) ps) x k ≡ pos (2 ^ 20) *ℤ sum_over_ohms (λ p. leaving k p.1 (guessed_current volts x p)) ps
unfolding drop_at
residual_is volts x k ps h = flow_is_residual volts x k ps h
