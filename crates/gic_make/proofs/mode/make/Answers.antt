use Rattle.std.proofs.Common.{◌≡◌, ◌∙◌, ℕ, ◌*◌, ℤ, None, List, [], ◌∷◌, refl, ap, sym, subst, arith}
use Rattle.gic_case.specs.Lists.{Lists}
use Rattle.gic_model.specs.Network.{Network}
use Rattle.gic_model.specs.Sums.{Placed}
use Rattle.gic_model.specs.Voltages.{number_at}
use Rattle.gic_net.specs.Net.{standing}
use Rattle.gic_winding.specs.ElementList.{elements_of}
use Rattle.gic_stand.specs.Needs.{Nothing}
use Rattle.gic_stand.specs.Standing.{IsSolvable, standing_of}
use Rattle.gic_stand.proofs.Served.{served, met_nothing}
use Rattle.gic_make.specs.MadeCase.{made_case}
use Rattle.gic_make.specs.RightMake.{benchmark_volts, IsRightSummary, IsRightMake}
use Rattle.gic_make.proofs.Solvable.{made_solvable}
use Rattle.gic_make.proofs.mode.make.Goals as goal

pub summarise-summary-requires-clause-some : goal.summarise-summary-requires-clause-some
summarise-summary-requires-clause-some g c =
    let sized = c.made_cases_law.ensures.size c.args.seed c.args.size (omega (arith, c.ranges.seed.fits)) c.requires.least c.requires.most in
    let workspace = c.args.workspace.now in
    let nodes : workspace.net.network.nodes ≡ 2 * c.args.size =
    ap (λ (n : Network). n.nodes) c.requires.workspace.network ∙ ap (λ (case : Lists). (elements_of case).nodes) c.requires.workspace.case_is ∙ sized.nodes in
    omega (arith, nodes, c.requires.least)

pub summarise-summary-requires-clause-solvable : goal.summarise-summary-requires-clause-solvable
summarise-summary-requires-clause-solvable g c =
    let workspace = c.args.workspace.now in
    let made : standing_of workspace.case None ≡ standing_of (made_case c.args.seed c.args.size) None = ap (λ (case : Lists). standing_of case None) c.requires.workspace.case_is in
    subst (λ (s : List Placed). IsSolvable s) (sym (c.requires.workspace.stands ∙ made))
    (made_solvable c.limits_law.ensures c.made_cases_law.ensures.sound c.made_cases_law.ensures.earthed c.made_cases_law.ensures.near
    c.args.seed c.args.size (omega (arith, c.ranges.seed.fits)) c.requires.least c.requires.most)

pub returns : goal.returns
returns g c =
    let seed = c.args.seed in
    let size = c.args.size in
    let workspace = c.args.workspace.now in
    let case = workspace.case in
    let summary = c.summarise-summary.result in
    let answer : IsRightSummary (made_case seed size) (standing_of (made_case seed size) None) (benchmark_volts (made_case seed size)) summary =
    subst (λ (made : Lists). IsRightSummary made (standing_of made None) (benchmark_volts made) summary) c.requires.workspace.case_is
    (subst (λ (v : ℕ → ℤ). IsRightSummary case (standing_of case None) v summary) c.requires.workspace.volts
    (subst (λ (s : List Placed). IsRightSummary case s (number_at workspace.volts) summary) c.requires.workspace.stands c.summarise-summary.ensures)) in
    let right : IsRightMake seed size _ = record { shown = summary; answer = answer; text_is = refl } in
    served Nothing (made_case seed size) _ (IsRightMake seed size) _ _ _ c.write_make-writing.result c.ended.result
    (met_nothing (standing_of (made_case seed size) None ∷ [])) right
    c.write_make-writing.ensures.all c.write_make-writing.ensures.part c.write_make-writing.ensures.cause c.ended.ensures
