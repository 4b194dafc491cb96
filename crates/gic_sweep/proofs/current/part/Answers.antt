use Rattle.std.proofs.Common.{◌≡◌, ◌*◌, ◌^◌, pos, ◌+ℤ◌, ◌-ℤ◌, ◌*ℤ◌, rules, refl}
use Rattle.gic_model.specs.Standing.{leaving}
use Rattle.gic_model.specs.Voltages.{number_at}
use Rattle.gic_sweep.proofs.Parts.{part_is}
use Rattle.gic_sweep.proofs.current.part.Goals as goal

pub returns-clause-value : goal.returns-clause-value
returns-clause-value c =
    let x = number_at c.args.guesses.now in
    let v = number_at c.args.volts.now in
    let e = c.args.element.now in
    let push : c.in_grains-push.result ≡ pos (2 ^ 36) *ℤ v c.args.place.0 = search (rules, c.in_grains-push.ensures.value, c.get.ensures.value) in
    let drive : c.drive.result ≡ x e.from.0 -ℤ c.guess_there-to.result +ℤ c.in_grains-push.result = search (rules, c.drive.ensures.value) in
    let weighed : c.weighed.result ≡ pos (256 * (e.times * 1000000)) *ℤ c.drive.result = search (rules, c.weighed.ensures.value) in
    let left : c.leaving.result ≡ leaving c.args.node.0 e c.weighed.result = search (rules, c.leaving.ensures.value) in
    let whole = part_is v x c.args.node.0 c.args.place.0 e (x e.from.0) c.guess_there-to.result c.in_grains-push.result c.drive.result c.weighed.result c.leaving.result refl c.guess_there-to.ensures push drive weighed left in
    search (rules, whole)
