use Rattle.std.proofs.Common.{◌≡◌, ◌+◌, ◌*◌, ◌^◌, ◌+ℤ◌}
use Rattle.gic_fixed.specs.Encloses.{IsWithin}
use Rattle.gic_net.specs.Net.{stands}
use Rattle.gic_grounds.specs.Corner.{is_most_at}
use Rattle.gic_grounds.specs.Varying.{stray_power_at}
use Rattle.gic_grounds.proofs.Strayed.{sum_from}
use Rattle.gic_grounds.proofs.sum.enclosure.Given as goal

-- what is added up, and the stray powers of the grounds that are left, are all
abbrev pub invariant-loop-place : goal.invariant-loop-place
invariant-loop-place l =
    let least = l.nets.least.network in
    let strays = stray_power_at least l.nets.most.network (is_most_at l.corner) l.unit l.adjoint l.potentials in
    record {
      low : l.total.lo +ℤ sum_from (λ k. (strays k).low) (stands l.nets.least) least.list l.place ≡ l.fn.own.lo +ℤ sum_from
          (λ k. (strays k).low) (stands l.nets.least) least.list 0;
      high : l.total.hi +ℤ sum_from (λ k. (strays k).high) (stands l.nets.least) least.list l.place ≡ l.fn.own.hi +ℤ sum_from
          (λ k. (strays k).high) (stands l.nets.least) least.list 0;
      small : IsWithin (2 ^ 100 + l.place * 2 ^ 105) l.total.lo l.total.hi;
    }
