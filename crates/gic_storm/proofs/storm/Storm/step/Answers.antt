use Rattle.std.proofs.Common.{ap}
use Rattle.std.proofs.lemmas.List.Elements.{All-take, All-drop}
use Rattle.gic_storm.specs.StormView.{IsRow}
use Rattle.gic_storm.proofs.Cuts.{step_law}
use Rattle.gic_storm.proofs.StepRows.{some_row, one_time}
use Rattle.gic_storm.proofs.storm.Storm.step.Goals as goal

pub part-requires : goal.part-requires
part-requires c =
    let rows = ap (λ s. s.rows) c.self.view_is in
    let law = step_law c.self.inside.rows.items c.self.inside.starts.items c.args.number c.start_at-start.result c.start_at-end.result c.self.invariant.1 c.requires.least (rw rows c.requires.most)
    (rw (c.as_slice-starts.ensures.value, c.as_slice-rows.ensures.value) at c.start_at-start.ensures) (rw (c.as_slice-starts.ensures.value, c.as_slice-rows.ensures.value) at c.start_at-end.ensures) in
    record { ordered = law.0; within = rw c.as_slice-rows.ensures.value law.1 }

pub returns-clause-value : goal.returns-clause-value
returns-clause-value c =
    let rows = ap (λ s. s.rows) c.self.view_is in
    let law = step_law c.self.inside.rows.items c.self.inside.starts.items c.args.number c.start_at-start.result c.start_at-end.result c.self.invariant.1 c.requires.least (rw rows c.requires.most)
    (rw (c.as_slice-starts.ensures.value, c.as_slice-rows.ensures.value) at c.start_at-start.ensures) (rw (c.as_slice-starts.ensures.value, c.as_slice-rows.ensures.value) at c.start_at-end.ensures) in
    rw (c.part.ensures, c.as_slice-rows.ensures.value, ← rows) law.2

pub returns-clause-some : goal.returns-clause-some
returns-clause-some c =
    rw (returns-clause-value c) (some_row c.args.self.now.rows c.args.number c.requires.least c.requires.most)

pub returns-clause-time : goal.returns-clause-time
returns-clause-time c =
    rw (returns-clause-value c) (one_time c.args.self.now.rows c.args.number c.requires.least c.requires.most)

pub returns-clause-sound : goal.returns-clause-sound
returns-clause-sound c =
    let zones = ap (λ s. s.zones) c.self.view_is in
    rw (c.part.ensures, c.as_slice-rows.ensures.value, ← zones) (All-take (IsRow c.self.inside.zones) _ _ (All-drop (IsRow c.self.inside.zones) _ c.self.inside.rows.items c.self.invariant.0.each_row))
