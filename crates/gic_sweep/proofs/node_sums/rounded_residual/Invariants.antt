use Rattle.std.proofs.Common.{◌≡◌, ◌*◌, ◌^◌, pos, take}
use Rattle.std.specs.List.{sum_by}
use Rattle.gic_fixed.specs.Encloses.{IsWithin}
use Rattle.gic_fixed.specs.Rounding.{floor_div, ceil_div}
use Rattle.gic_model.specs.Guess.{part_times_ohms}
use Rattle.gic_model.specs.Sums.{sum_of}
use Rattle.gic_model.specs.Voltages.{number_at}
use Rattle.gic_net.specs.Net.{row_at}
use Rattle.gic_sweep.proofs.NodeSums.{diagonal_part}
use Rattle.gic_sweep.proofs.node_sums.rounded_residual.Given as goal

abbrev pub invariant-loop-place : goal.invariant-loop-place
invariant-loop-place l = record {
  low : l.sum.lo ≡ sum_of (λ p. floor_div (part_times_ohms (number_at l.volts) (number_at l.guesses) l.node.0 p) (pos p.1.micro_ohm)) (take l.place (row_at l.net l.node.0));
  high : l.sum.hi ≡ sum_of (λ p. ceil_div (part_times_ohms (number_at l.volts) (number_at l.guesses) l.node.0 p) (pos p.1.micro_ohm)) (take l.place (row_at l.net l.node.0));
  small : IsWithin (sum_by diagonal_part (take l.place (row_at l.net l.node.0)) * 2 ^ 86) l.sum.lo l.sum.hi;
}
