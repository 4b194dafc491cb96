use Rattle.std.proofs.Common.{ℕ, ◌≤◌, List, arith}
use Rattle.gic_model.specs.Sums.{Placed}
use Rattle.gic_model.specs.Bound.{IsCappedVector, IsBoundVector}
use Rattle.gic_model.proofs.laws.capped_law.Goals as goal

capped_bound : (standing : List Placed) (v : ℕ → ℕ) → IsCappedVector standing v → ((k : ℕ) → v k ≤ 4096) → IsBoundVector standing v
capped_bound standing v capped small = record {
  live_above_0 = capped.live_above_0;
  dead_0 = capped.dead_0;
  rows = λ k live. capped.rows k live (let entry = small k in omega arith);
}

pub returns-clause-bound : goal.returns-clause-bound
returns-clause-bound c = capped_bound

pub returns-clause-earthed : goal.returns-clause-earthed
returns-clause-earthed c standing v capped small = record { entries = v; bound = capped_bound standing v capped small; none_above = small }
