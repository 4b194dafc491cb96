use Rattle.std.proofs.Common.{◌≡◌, ◌*◌, ◌+ℤ◌, ◌-ℤ◌, pos, rules, slice_index}
use Rattle.gic_model.specs.Guess.{cut}
use Rattle.gic_model.specs.Voltages.{number_at}
use Rattle.gic_enclose.proofs.Cuts.{cut_small}
use Rattle.gic_enclose.proofs.enclosing.interval_at.Goals as goal

pub returns-then-live : goal.returns-then-live
returns-then-live c =
    let k = c.args.node.0 in
    let x = number_at c.args.solver.now in
    let v = slice_index c.args.bound.now in
    let t = c.args.reach in
    let low : c.around.result.lo ≡ cut (x k -ℤ pos (v k * t)) = search (rules, c.around.ensures.low, c.guess.ensures.value, c.radius.ensures.value, c.entry.ensures.value) in
    let high : c.around.result.hi ≡ cut (x k +ℤ pos (v k * t)) = search (rules, c.around.ensures.high, c.guess.ensures.value, c.radius.ensures.value, c.entry.ensures.value) in
    record {
      round = record {
        low = λ live. low;
        high = λ live. high;
        dead = λ dead. let h = c.if-live.true in let e = c.live.ensures in absurd (cc);
      };
      small = record { low = cut_small (x k -ℤ pos (v k * t)) c.around.result.lo low; high = cut_small (x k +ℤ pos (v k * t)) c.around.result.hi high };
    }
