use Rattle.std.proofs.Common.{◌≡◌, ◌≤◌, ◌+◌, ◌++◌, length, drop}
use Rattle.gic_case.specs.Lists.{neutrals_from, neutrals_of}
use Rattle.gic_case.proofs.network.CaseLists.neutrals.Given as goal

-- the neutrals so far and those that are left are all of them
abbrev pub invariant-loop-transformer : goal.invariant-loop-transformer
invariant-loop-transformer l = record {
  few : l.own ≤ length l.self.substations + length l.self.buses + l.transformer-index;
  rest : l.neutrals.items ++ neutrals_from l.self.buses l.own (drop l.transformer-index l.self.transformers) ≡ neutrals_of l.self;
}
