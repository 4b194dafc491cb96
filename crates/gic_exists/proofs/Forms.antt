-- The equations of the nodes: Kirchhoff's law at a live node, and potential 0 at a dead one.
use Rattle.std.proofs.Common.{◌≡◌, ℕ, ◌<◌, ◌==◌, Bool, true, false, cond, List, [], ◌∷◌, ℤ, pos, ◌-ℤ◌, ◌*ℤ◌, neg_ℤ, arith, refl, ap, subst, ◌∙◌}
use lib.IntN.{*ℤ-zero}
use Rattle.std.specs.List.{AllByRecursion}
use Rattle.std.proofs.lemmas.Int.{ints}
use Rattle.gic_model.specs.declared.parts.End.{End}
use Rattle.gic_model.specs.declared.parts.End.TheVariants.{Node, Earth}
use Rattle.gic_model.specs.declared.parts.Element.{Element}
use Rattle.gic_model.specs.Standing.{is_live, elements_at, value_at, leaving}
use Rattle.gic_model.specs.Sums.{Placed}
use Rattle.gic_model.specs.Ohms.{sum_over_ohms}
use Rattle.gic_fixed.proofs.Integers.{linear, *ℤ-+ℤ, *ℤ--ℤ, *ℤ-neg_ℤ, *ℤ_left_comm}
use Rattle.gic_model.proofs.SumLaws.{sum_over_ohms-same, sum_over_ohms-*ℤ, sum_over_ohms-+ℤ}
use Rattle.gic_model.proofs.Row.{weight}
use Rattle.gic_exists.specs.Linear.{mix, Equation}
use Rattle.gic_exists.proofs.Listed.{listed, at_listed}
use Rattle.gic_exists.proofs.Balanced.{driven}

pub everywhere : (P : Placed → Type 0) → ((p : Placed) → P p) → (ps : List Placed) → AllByRecursion P ps
everywhere P h [] = tt
everywhere P h (p ∷ ps) = (h p, everywhere P h ps)

-- what leaves k through one element over the potentials x, without voltages, times R
abbrev pub part : ℕ → (ℕ → ℤ) → Placed → ℤ
part k x p = leaving k p.1 (weight p *ℤ (x p.1.from.0 -ℤ value_at x p.1.to))

-- what its voltage drives out of k
abbrev pub push : ℕ → (ℕ → ℤ) → Placed → ℤ
push k volts p = leaving k p.1 (weight p *ℤ volts p.0)

value-mix : (c d : ℤ) (x y : ℕ → ℤ) (t : End) → value_at (λ m. mix c d (x m) (y m)) t ≡ mix c d (value_at x t) (value_at y t)
value-mix c d x y (Node m) = refl
value-mix c d x y Earth =
    let first = *ℤ-zero c in
    let second = *ℤ-zero d in
    omega (arith, linear)

pub leaving-mix : (k : ℕ) (e : Element) (c d a b : ℤ) → leaving k e (mix c d a b) ≡ mix c d (leaving k e a) (leaving k e b)
leaving-mix k e c d a b = by (e.from.0 == k)
  where
    by : (t : Bool) → cond t (mix c d a b) (neg_ℤ (mix c d a b)) ≡ mix c d (cond t a (neg_ℤ a)) (cond t b (neg_ℤ b))
    by true = refl
    by false =
        let first = *ℤ-neg_ℤ c a in
        let second = *ℤ-neg_ℤ d b in
        omega (arith, linear)

-- over plain numbers
weighed-mix : (w c d xf xt yf yt : ℤ) → w *ℤ (mix c d xf yf -ℤ mix c d xt yt) ≡ mix c d (w *ℤ (xf -ℤ xt)) (w *ℤ (yf -ℤ yt))
weighed-mix w c d xf xt yf yt =
    let first = *ℤ--ℤ c xf xt in
    let second = *ℤ--ℤ d yf yt in
    let inner : mix c d xf yf -ℤ mix c d xt yt ≡ mix c d (xf -ℤ xt) (yf -ℤ yt) = omega (arith, linear) in
    let split = *ℤ-+ℤ w (c *ℤ (xf -ℤ xt)) (d *ℤ (yf -ℤ yt)) in
    let one = *ℤ_left_comm w c (xf -ℤ xt) in
    let other = *ℤ_left_comm w d (yf -ℤ yt) in
    ap (λ z. w *ℤ z) inner ∙ omega (arith, linear)

pub part-mix : (k : ℕ) (c d : ℤ) (x y : ℕ → ℤ) (p : Placed) → part k (λ m. mix c d (x m) (y m)) p ≡ mix c d (part k x p) (part k y p)
part-mix k c d x y p =
    ap (λ z. leaving k p.1 (weight p *ℤ (mix c d (x p.1.from.0) (y p.1.from.0) -ℤ z))) (value-mix c d x y p.1.to) ∙
    ap (λ z. leaving k p.1 z) (weighed-mix (weight p) c d (x p.1.from.0) (value_at x p.1.to) (y p.1.from.0) (value_at y p.1.to)) ∙
    leaving-mix k p.1 c d (weight p *ℤ (x p.1.from.0 -ℤ value_at x p.1.to)) (weight p *ℤ (y p.1.from.0 -ℤ value_at y p.1.to))

pub sum-mix : (c d : ℤ) (f g : Placed → ℤ) (ps : List Placed) → sum_over_ohms (λ p. mix c d (f p) (g p)) ps ≡ mix c d (sum_over_ohms f ps) (sum_over_ohms g ps)
sum-mix c d f g ps =
    let split = sum_over_ohms-+ℤ (λ p. c *ℤ f p) (λ p. d *ℤ g p) ps in
    let first = sum_over_ohms-*ℤ c f ps in
    let second = sum_over_ohms-*ℤ d g ps in
    omega (arith, linear)

-- the equation of a node, live or not
abbrev pub row_by : List Placed → (ℕ → ℤ) → ℕ → Bool → Equation
row_by standing volts k true = record {
  form = λ x. sum_over_ohms (part k x) (elements_at standing k);
  right = neg_ℤ (sum_over_ohms (push k volts) (elements_at standing k));
  linear = λ c d x y. sum_over_ohms-same (part k (λ m. mix c d (x m) (y m))) (λ p. mix c d (part k x p) (part k y p)) (elements_at standing k) (everywhere _ (part-mix k c d x y) (elements_at standing k)) ∙
      sum-mix c d (part k x) (part k y) (elements_at standing k);
}
row_by standing volts k false = record { form = λ x. x k; right = pos 0; linear = λ c d x y. refl }

-- those of the nodes below n
abbrev pub rows_of : List Placed → (ℕ → ℤ) → ℕ → List Equation
rows_of standing volts n = listed (λ k. row_by standing volts k (is_live standing k)) n

pub at_live : (P : Equation → Type 0) (standing : List Placed) (volts : ℕ → ℤ) (n : ℕ) → AllByRecursion P (rows_of standing volts n) → (k : ℕ) → k < n → is_live standing k ≡ true → P (row_by standing volts k true)
at_live P standing volts n h k below live = subst (λ (b : Bool). P (row_by standing volts k b)) live (at_listed P (λ j. row_by standing volts j (is_live standing j)) n h k below)

pub at_dead : (P : Equation → Type 0) (standing : List Placed) (volts : ℕ → ℤ) (n : ℕ) → AllByRecursion P (rows_of standing volts n) → (k : ℕ) → k < n → is_live standing k ≡ false → P (row_by standing volts k false)
at_dead P standing volts n h k below dead = subst (λ (b : Bool). P (row_by standing volts k b)) dead (at_listed P (λ j. row_by standing volts j (is_live standing j)) n h k below)

once : (z : ℤ) → pos 1 *ℤ z ≡ z
once z = omega (arith, ints)

-- one element's current is what the potentials give and what its voltage drives
driven-mix : (volts x : ℕ → ℤ) (d k : ℕ) (p : Placed) → leaving k p.1 (driven volts x d p) ≡ mix (pos 1) (pos d) (part k x p) (push k volts p)
driven-mix volts x d k p =
    let fall = x p.1.from.0 -ℤ value_at x p.1.to in
    let split = *ℤ-+ℤ (weight p) fall (pos d *ℤ volts p.0) in
    let out = *ℤ_left_comm (weight p) (pos d) (volts p.0) in
    let one = once (weight p *ℤ fall) in
    let inner : driven volts x d p ≡ mix (pos 1) (pos d) (weight p *ℤ fall) (weight p *ℤ volts p.0) = omega (arith, linear) in
    ap (λ z. leaving k p.1 z) inner ∙ leaving-mix k p.1 (pos 1) (pos d) (weight p *ℤ fall) (weight p *ℤ volts p.0)

pub balance : (standing : List Placed) (volts x : ℕ → ℤ) (d k : ℕ) → sum_over_ohms (part k x) (elements_at standing k) ≡ pos d *ℤ neg_ℤ (sum_over_ohms (push k volts) (elements_at standing k)) →
    sum_over_ohms (λ p. leaving k p.1 (driven volts x d p)) (elements_at standing k) ≡ pos 0
balance standing volts x d k h =
    let at_k = elements_at standing k in
    let same = sum_over_ohms-same (λ p. leaving k p.1 (driven volts x d p)) (λ p. mix (pos 1) (pos d) (part k x p) (push k volts p)) (elements_at standing k) (everywhere _ (driven-mix volts x d k) (elements_at standing k)) in
    let split = sum-mix (pos 1) (pos d) (part k x) (push k volts) (elements_at standing k) in
    let minus = *ℤ-neg_ℤ (pos d) (sum_over_ohms (push k volts) (elements_at standing k)) in
    let one = once (sum_over_ohms (part k x) (elements_at standing k)) in
    omega (arith, linear)
