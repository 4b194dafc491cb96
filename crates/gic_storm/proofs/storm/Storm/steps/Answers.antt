use Rattle.std.proofs.Common.{arith}
use Rattle.gic_storm.proofs.Cuts.{steps_law, few_steps, some_step}
use Rattle.gic_storm.proofs.storm.Storm.steps.Goals as goal

pub overflow_cast-result : goal.overflow_cast-result
overflow_cast-result c =
    let many = steps_law c.self.inside.rows.items c.self.inside.starts.items c.self.invariant.1 in
    let few = few_steps c.self.inside.rows.items in
    let limit = c.self.invariant.0.few_rows in
    omega (arith, c.len.ensures)

pub returns-clause-value : goal.returns-clause-value
returns-clause-value c =
    let many = steps_law c.self.inside.rows.items c.self.inside.starts.items c.self.invariant.1 in
    rw (← c.self.view_is) (omega (arith, c.len.ensures, many))

pub returns-clause-least : goal.returns-clause-least
returns-clause-least c =
    let many = steps_law c.self.inside.rows.items c.self.inside.starts.items c.self.invariant.1 in
    let some = some_step c.self.inside.rows.items c.self.invariant.0.some_row in
    omega (arith, c.len.ensures)

pub returns-clause-most : goal.returns-clause-most
returns-clause-most c =
    let many = steps_law c.self.inside.rows.items c.self.inside.starts.items c.self.invariant.1 in
    let few = few_steps c.self.inside.rows.items in
    let limit = c.self.invariant.0.few_rows in
    omega (arith, c.len.ensures)
