use Rattle.std.proofs.Common.{◌≡◌, ◌≤◌, length, take}
use Rattle.std.specs.List.{filter}
use Rattle.gic_net.specs.Row.{stands_by}
use Rattle.gic_net.proofs.row.gather_standing.Given as goal

abbrev pub invariant-loop-place : goal.invariant-loop-place
invariant-loop-place l = record {
  space : length l.all ≤ length l.standing_first;
  behind : l.degree ≤ l.place-index;
  standing_first : take l.degree l.standing_first ≡ filter (stands_by l.list l.opened) (take l.place-index l.all);
}
