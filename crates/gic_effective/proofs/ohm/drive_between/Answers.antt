use Rattle.std.proofs.Common.{◌≡◌, ◌^◌, ◌+ℤ◌, ◌-ℤ◌, ◌≤ℤ◌, ℤ, arith, rules}
use Rattle.std.proofs.lemmas.Int.{ints}
use Rattle.gic_effective.specs.Ohm.{drive_of}
use Rattle.gic_effective.proofs.Currents.{Encloses-same, drive_holds}
use Rattle.gic_effective.proofs.ohm.drive_between.Goals as goal

in_order : (a b p q v x y : ℤ) → a ≤ℤ b → p ≤ℤ q → x ≡ a -ℤ q +ℤ v → y ≡ b -ℤ p +ℤ v → x ≤ℤ y
in_order a b p q v x y h k e f = omega (arith, ints)

pub new-requires : goal.new-requires
new-requires c =
    let low : c.drive.result ≡ c.args.from.lo -ℤ c.args.to.hi +ℤ c.in_grains-push.result = search (rules, c.drive.ensures.value) in
    let high : c.drive-2.result ≡ c.args.from.hi -ℤ c.args.to.lo +ℤ c.in_grains-push.result = search (rules, c.drive-2.ensures.value) in
    let order = in_order c.args.from.lo c.args.from.hi c.args.to.lo c.args.to.hi c.in_grains-push.result c.drive.result c.drive-2.result c.args.from.ordered c.args.to.ordered low high in
    search (rules, order)

low : (c : goal.After-new) → c.new.result.lo ≡ drive_of c.args.from.lo c.args.to.hi c.args.volts
low c = search rules

high : (c : goal.After-new) → c.new.result.hi ≡ drive_of c.args.from.hi c.args.to.lo c.args.volts
high c = search rules

pub returns-clause-low : goal.returns-clause-low
returns-clause-low c = low c

pub returns-clause-high : goal.returns-clause-high
returns-clause-high c = high c

pub returns-clause-holds : goal.returns-clause-holds
returns-clause-holds c p q d from to =
    Encloses-same _ _ _ _ _ d (low c) (high c) (drive_holds (2 ^ 36) c.args.from.lo c.args.from.hi c.args.to.lo c.args.to.hi p q c.args.volts d from to)
