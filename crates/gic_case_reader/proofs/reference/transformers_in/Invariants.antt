use Rattle.std.proofs.Common.{◌≡◌, ◌+◌, drop, vec_len}
use Rattle.std.specs.HashMap.{get}
use Rattle.gic_case.specs.Names.{same}
use Rattle.gic_case_reader.specs.Pass.{each, transformer_in}
use Rattle.gic_case_reader.proofs.Rows.{with_prefix}
use Rattle.gic_case_reader.proofs.reference.transformers_in.Given as goal

-- the transformers so far and those that are left are all of them
abbrev pub invariant-loop-i : goal.invariant-loop-i
invariant-loop-i l = record {
  many : vec_len l.transformers ≡ l.i;
  rest : with_prefix l.transformers.items (each (transformer_in (get same l.buses)) (l.i + 1) (drop l.i l.rows)) ≡ each (transformer_in (get same l.buses)) 1 l.rows;
}
