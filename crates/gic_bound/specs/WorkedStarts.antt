-- Vectors of the loop worked by hand: its nodes are the substations A and B and the buses a and b.
use Rattle.std.specs.Prelude.{ℕ, [], ◌∷◌, slice_index}
use Rattle.gic_base.specs.declared.limits.TheConstants.{FULL_WALK}
use Rattle.gic_model.specs.WorkedLoop.{loop_standing}
use Rattle.gic_bound.specs.Shares.{entries_where_live}

-- 1 at each node
abbrev pub loop_ones : ℕ → ℕ
loop_ones = entries_where_live loop_standing (λ k. 1)

-- `FULL_WALK` at each node
abbrev pub loop_full : ℕ → ℕ
loop_full = entries_where_live loop_standing (λ k. FULL_WALK)

-- twice the bound vector
abbrev pub loop_twice : ℕ → ℕ
loop_twice = slice_index (62 ∷ 62 ∷ 66 ∷ 66 ∷ [])

-- that less 1
abbrev pub loop_twice_less : ℕ → ℕ
loop_twice_less = slice_index (61 ∷ 61 ∷ 65 ∷ 65 ∷ [])
