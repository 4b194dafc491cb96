use Rattle.std.proofs.Common.{◌≡◌, ℕ, List, [], length, map, sym, ap, ◌∙◌, arith}
use Rattle.std.proofs.lemmas.List.{length-map}
use Rattle.gic_view.specs.View.{View}
use Rattle.gic_stand.specs.Serves.{shown}
use Rattle.gic_monitor.specs.OnBoard.{monitors_of}
use Rattle.gic_study_mode.specs.Asked.{asked_step}
use Rattle.gic_study_mode.specs.RightStudy.{IsRightStudy}
use Rattle.gic_study_mode.proofs.RightStudies.{right_study, zones_of, writing_served, unserved_steps, lacking_texts}
use Rattle.gic_study_mode.proofs.mode.study_steps.Goals as goal

pub write_seen-writing-requires : goal.write_seen-writing-requires
write_seen-writing-requires g c =
    zones_of c.args.inputs.now (asked_step c.args.inputs.now c.args.detail) c.args.workspace.now.fields c.requires.workspace.course.storm c.requires.workspace.fields

pub returns : goal.returns
returns g c =
    let inputs = c.args.inputs.now in
    let before : List View → List (List ℕ) = λ views. map (λ m. (goal.Monitor-dyn g (m.vtable, m.value)).outlook m.value views) (monitors_of c.args.board.now) in
    writing_served inputs _ (IsRightStudy inputs c.args.detail (λ roster views. before views))
    c.write_seen-writing.result c.written_so.result c.in_ok-expect_solvable.ensures.met.solvable
    (right_study inputs c.args.detail c.asked_step-asked.result before _ c.see_steps.new.views c.args.workspace.now.fields (map (λ text. text.items) c.as_slice.result.now)
    c.see_steps.ensures.seen c.asked_step-asked.ensures.value c.asked_step-asked.ensures.step c.requires.workspace.fields (ap (map (λ text. text.items)) c.as_slice.ensures.value ∙ c.in_ok-texts.ensures.texts))
    c.write_seen-writing.ensures c.written_so.ensures

pub returns-in_err-expect_solvable : goal.returns-in_err-expect_solvable
returns-in_err-expect_solvable g c =
    unserved_steps c.args.inputs.now _ _ (shown g.S.Sink.written g.S.Sink.faults c.args.out.now) c.in_err-expect_solvable.field-0.0
    c.from_residual.result c.from_residual.ensures.1 c.in_err-expect_solvable.ensures.unmet

pub returns-in_err-texts : goal.returns-in_err-texts
returns-in_err-texts g c =
    let same : length (monitors_of c.see_steps.new.board) ≡ length (monitors_of c.args.board.now) =
    sym (length-map (monitors_of c.see_steps.new.board) _) ∙ ap length (c.see_steps.ensures.seen.texts []) ∙ length-map (monitors_of c.args.board.now) _ in
    lacking_texts c.args.inputs.now _ _ (shown g.S.Sink.written g.S.Sink.faults c.args.out.now)
    c.from_residual-in_err-texts.result c.from_residual-in_err-texts.ensures.1 (omega (arith, same, c.in_err-texts.ensures.some)) c.in_ok-expect_solvable.ensures.met.solvable
