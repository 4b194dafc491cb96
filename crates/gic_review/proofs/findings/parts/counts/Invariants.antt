use Rattle.std.proofs.Common.{◌≡◌, ◌<◌, ℕ, take, length, vec_len}
use Rattle.std.specs.Prelude.{slice_index}
use Rattle.gic_review.specs.PartSizes.{times_first}
use Rattle.gic_review.proofs.findings.parts.counts.Given as goal

-- the counts are those of the first nodes so far
abbrev pub invariant-loop-first : goal.invariant-loop-first
invariant-loop-first l = record {
  many : vec_len l.counts ≡ length l.firsts;
  counted : (k : ℕ) → k < length l.firsts → slice_index l.counts.items k ≡ times_first (take l.first-index l.firsts) k;
}
