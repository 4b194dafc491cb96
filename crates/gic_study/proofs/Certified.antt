-- What `certify` writes is accepted.
use Rattle.std.proofs.Common.{ℕ, List, Option, ℤ, sym, subst}
use Rattle.gic_case.specs.Lists.{Lists}
use Rattle.gic_cert.specs.Passing.{IsPassing}
use Rattle.gic_model.specs.declared.parts.Switching.{Switching}
use Rattle.gic_stand.specs.Standing.{standing_of}
use Rattle.gic_uniform.specs.Uniform.{uniform_volts}
use Rattle.gic_winding.specs.ElementList.{elements_of}
use Rattle.gic_recheck.specs.Accepted.{IsAccepted}
use Rattle.gic_recheck.specs.Determines.{PassingTextIsAccepted}
use Rattle.gic_study.specs.Laws.{CertifiedIsAccepted}

pub certified_is_accepted : PassingTextIsAccepted → CertifiedIsAccepted
certified_is_accepted law inputs other text sound same_case same_switchings right =
    let c = right.certificate in
    let standing = standing_of inputs.case inputs.switchings in
    let of_north = subst (λ (n : ℤ). IsPassing (elements_of inputs.case).nodes standing (uniform_volts inputs.case n inputs.question.east) c) (sym right.field.0) right.passes in
    let passes = subst (λ (e : ℤ). IsPassing (elements_of inputs.case).nodes standing (uniform_volts inputs.case c.north e) c) (sym right.field.1) of_north in
    let accepted : IsAccepted inputs.case standing text c = subst (λ (t : List ℕ). IsAccepted inputs.case standing t c) (sym right.text_is) (law inputs.case standing c sound right.written passes) in
    let of_switchings : IsAccepted inputs.case (standing_of inputs.case other.switchings) text c =
    subst (λ (s : Option (List Switching)). IsAccepted inputs.case (standing_of inputs.case s) text c) (sym same_switchings) accepted in
    (c, subst (λ (k : Lists). IsAccepted k (standing_of k other.switchings) text c) (sym same_case) of_switchings)
