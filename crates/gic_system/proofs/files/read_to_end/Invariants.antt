-- not more than the limit was read, and what was read stands in the list
use Rattle.std.proofs.Common.{◌<◌, ◌≤◌, length}
use Rattle.std.specs.Io.KnownBytes.{Consumes}
use Rattle.gic_system.proofs.files.read_to_end.Given as goal

abbrev pub invariant-loop : goal.invariant-loop
invariant-loop g l = (length l.into.items ≤ l.limit) × (0 < length l.buffer) × Consumes (g.R.Read.remaining l.initial.reader) (g.R.Read.remaining l.reader) l.into.items
