use Rattle.std.proofs.Common.{◌≡◌, ℕ, List, take}
use Rattle.std.specs.HashMap.{get}
use Rattle.gic_case.specs.Names.{same, place_in}
use Rattle.gic_case_reader.proofs.names.places_of.Given as goal

abbrev pub invariant-loop-name : goal.invariant-loop-name
invariant-loop-name l = record {
  count : l.place ≡ l.name-index;
  found : (q : List ℕ) → get same l.places q ≡ place_in (take l.name-index l.names) q;
}
