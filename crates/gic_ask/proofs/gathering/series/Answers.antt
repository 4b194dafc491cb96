use Rattle.std.proofs.Common.{ap, Some, Ok, Err, refl}
use Rattle.gic_ask.specs.Contents.{Names, of_case}
use Rattle.gic_ask.specs.Outcome.{Accepts, ◌>>=◌, reading_case, reading_over, asking_series, series_given}
use Rattle.gic_ask.specs.declared.fault.File.TheVariants as file
use Rattle.gic_ask.proofs.InTurn.{reads_by, file_fails, file_read, last_step, last_fails}
use Rattle.gic_ask.proofs.AllNamed.{up_to_case, in_criteria, found, unfound}
use Rattle.gic_criteria.specs.Questions.{usual_criteria}
use Rattle.gic_criteria.specs.declared.asked.Criteria.{Criteria}
use Rattle.gic_ask.proofs.gathering.series.Goals as goal

pub returns-in_err-case-clause-reads : goal.returns-in_err-case-clause-reads
returns-in_err-case-clause-reads g c =
    reads_by _ _ _ _ _ _ c.from_residual.result c.in_err-case.field-0.0 c.from_residual.ensures.1
    (file_fails _ (record (of_case c.args.request.now.case c.args.request.now.switch) { storm = Some c.args.request.now.storm }) file.Case c.args.request.now.case reading_case _
    (asking_series c.args.request.now) _ _ c.in_err-case.field-0.0 refl c.in_err-case.ensures.gives)

pub returns-in-Err-clause-reads : goal.returns-in-Err-clause-reads
returns-in-Err-clause-reads g c =
    unfound _ (record (of_case c.args.request.now.case c.args.request.now.switch) { storm = Some c.args.request.now.storm }) c.args.request.now.case _ _ _ c.in_ok-case.case c.args.request.now.transformer
    (λ case place contents. reading_over c.args.request.now.switch (record usual_criteria { width = c.args.request.now.width }) case contents >>= (λ inputs. Accepts (series_given c.args.request.now place inputs)))
    c.in-Err.refusal refl c.in_ok-case.ensures.gives c.in-Err.ensures.place

pub returns-in_err-inputs-clause-reads : goal.returns-in_err-inputs-clause-reads
returns-in_err-inputs-clause-reads g c =
    let names : Names = record (of_case c.args.request.now.case c.args.request.now.switch) { storm = Some c.args.request.now.storm } in
    reads_by _ names _ _ _ _ c.from_residual-in_err-inputs.result c.in_err-inputs.field-0.0 c.from_residual-in_err-inputs.ensures.1
    (file_read _ names file.Case c.args.request.now.case reading_case _ (asking_series c.args.request.now)
    up_to_case _ _ _ _ c.in_ok-case.case (Err c.in_err-inputs.field-0.0) refl refl (λ one two. refl) c.in_ok-case.ensures.gives c.in_ok-case.ensures.content
    (found _ names _ _ _ c.in_ok-case.case c.args.request.now.transformer c.in-Ok.place
    (λ place contents. reading_over c.args.request.now.switch (record usual_criteria { width = c.args.request.now.width }) c.in_ok-case.case contents >>= (λ inputs. Accepts (series_given c.args.request.now place inputs)))
    _ c.in-Ok.ensures.place
    (last_fails _ names _ _ (series_given c.args.request.now c.in-Ok.place) _ _ c.in_err-inputs.field-0.0
    (in_criteria _ names _ (λ q. reading_over c.args.request.now.switch q c.in_ok-case.case) (record { width = c.args.request.now.width; event = c.usual.result.event }) (record usual_criteria { width = c.args.request.now.width }) _ _ _
    (ap (λ (usual : Criteria). record usual { width = c.args.request.now.width }) c.usual.ensures.value) (c.in_err-inputs.ensures.reads c.args.request.now.case)))))

pub returns-clause-reads : goal.returns-clause-reads
returns-clause-reads g c =
    let names : Names = record (of_case c.args.request.now.case c.args.request.now.switch) { storm = Some c.args.request.now.storm } in
    file_read _ names file.Case c.args.request.now.case reading_case _ (asking_series c.args.request.now)
    up_to_case _ _ _ _ c.in_ok-case.case (Ok (series_given c.args.request.now c.in-Ok.place c.in_ok-inputs.inputs)) refl refl (λ one two. refl) c.in_ok-case.ensures.gives c.in_ok-case.ensures.content
    (found _ names _ _ _ c.in_ok-case.case c.args.request.now.transformer c.in-Ok.place
    (λ place contents. reading_over c.args.request.now.switch (record usual_criteria { width = c.args.request.now.width }) c.in_ok-case.case contents >>= (λ inputs. Accepts (series_given c.args.request.now place inputs)))
    _ c.in-Ok.ensures.place
    (last_step _ names _ _ (series_given c.args.request.now c.in-Ok.place) _ _ c.in_ok-inputs.inputs
    (in_criteria _ names _ (λ q. reading_over c.args.request.now.switch q c.in_ok-case.case) (record { width = c.args.request.now.width; event = c.usual.result.event }) (record usual_criteria { width = c.args.request.now.width }) _ _ _
    (ap (λ (usual : Criteria). record usual { width = c.args.request.now.width }) c.usual.ensures.value) (c.in_ok-inputs.ensures.reads c.args.request.now.case))))
