use Rattle.std.proofs.Common.{◌≡◌, ◌<◌, ℕ, take, vec_len}
use Rattle.std.specs.Prelude.{slice_index}
use Rattle.gic_case.specs.Lists.{degree_of}
use Rattle.gic_case_reader.proofs.degree.degrees.Given as goal

-- the counts are those of the ends so far
abbrev pub invariant-loop-end : goal.invariant-loop-end
invariant-loop-end l = record {
  many : vec_len l.counts ≡ l.nodes;
  counted : (k : ℕ) → k < l.nodes → slice_index l.counts.items k ≡ degree_of (take l.end-index l.ends) k;
}
