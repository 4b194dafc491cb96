-- What stays of a workspace: its nets, when the network is looked at, and its references, when transformers are asked for.
use Rattle.std.proofs.Common.{◌≡◌, ℕ, ℤ, ap, sym, subst, ◌∙◌}
use Rattle.gic_case.specs.Lists.{Lists}
use Rattle.gic_grounds.specs.declared.workspace.VariedWorkspace.{VariedWorkspace}
use Rattle.gic_grounds.specs.Varied.{AreReferred, HasReferences, KeepsReferences}

-- a network that was looked at is the same
pub same_nets : (before now : VariedWorkspace) → now ≡ record before { solving = now.solving } → now.nets ≡ before.nets
same_nets before now rest = ap (λ (w : VariedWorkspace). w.nets) rest

-- the references for these voltages are still there
pub still_referred : (case : Lists) (north east : ℕ → ℤ) (before now : VariedWorkspace) → KeepsReferences before now
    → AreReferred case north east before → AreReferred case north east now
still_referred case north east before now rest referred =
    subst (AreReferred case north east) (sym rest) (record {
      north_grains = referred.north_grains;
      east_grains = referred.east_grains;
      in_north = referred.in_north;
      in_east = referred.in_east;
      least_unit = referred.least_unit;
    })

-- so are those from which rows are made
pub still_references : (before now : VariedWorkspace) → KeepsReferences before now → HasReferences before → HasReferences now
still_references before now rest has =
    subst HasReferences (sym rest) (record {
      small_unit = has.small_unit;
      north_within = has.north_within;
      east_within = has.east_within;
      own_north = has.own_north;
      own_east = has.own_east;
    })

-- what is kept twice is kept
pub keeps_on : (before now after : VariedWorkspace) → KeepsReferences before now → KeepsReferences now after → KeepsReferences before after
keeps_on before now after first second =
    second ∙ ap (λ (w : VariedWorkspace). record w { solving = after.solving; volts = after.volts; adjoint = after.adjoint; at_corner = after.at_corner }) first
