use Rattle.std.proofs.Common.{◌≡◌, ◌-◌, pos, ◌+ℤ◌, ◌*ℤ◌, ap, ◌∙◌, arith}
use Rattle.std.proofs.lemmas.Int.{ints}
use Rattle.std.specs.Prelude.{if◌then◌else◌}
use Rattle.gic_fixed.proofs.Integers.{linear, +ℤ-*ℤ, *ℤ--ℤ}
use Rattle.gic_case.specs.Windings.{end_volts, volts_across}
use Rattle.gic_winding.specs.Weights.{weight_of}
use Rattle.gic_winding.proofs.laws.autotransformer_terminal_law.Goals as goal

pub returns : goal.returns
returns c = λ t s w series common high low effect to neutral order enters leaves.
    let v = s.from.volts in
    let x = w.from.volts in
    let first_weight : weight_of t s ≡ v - x = ap (λ has. if has then volts_across s else 0) effect ∙ ap (λ e. v - end_volts e) to in
    let other_weight : weight_of t w ≡ x - 0 = ap (λ has. if has then volts_across w else 0) effect ∙ ap (λ e. x - end_volts e) neutral in
    let split : pos v ≡ pos (weight_of t s) +ℤ pos x = omega (arith, ints, first_weight) in
    let whole : pos (weight_of t w) ≡ pos x = omega (arith, ints, other_weight) in
    let shared = ap (λ z. z *ℤ series) split ∙ +ℤ-*ℤ (pos (weight_of t s)) (pos x) series in
    let behind = ap (λ z. z *ℤ common) whole in
    let beyond = *ℤ--ℤ (pos x) common series in
    let first = ap (λ z. pos v *ℤ z) enters in
    let second = ap (λ z. pos x *ℤ z) leaves in
    omega (arith, linear)
