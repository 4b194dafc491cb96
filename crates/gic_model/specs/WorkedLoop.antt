-- A network worked by hand: the substations A and B with a grounding resistance of 1 ohm each, the buses a and b with a winding of 0.3 ohm per phase each to their substation, and a line from a to b of 3 ohm per phase, with 100 volts in it. With its three phases in parallel the loop has 3.2 ohm, and 31.25 amperes flow round it.
use Rattle.std.specs.Prelude.{ℕ, ◌^◌, ◌*ℤ◌, ◌==◌, Bool, true, List, [], ◌∷◌, if◌then◌else◌, ℤ, pos, neg_ℤ, slice_index, slice_index_or}
use Rattle.gic_base.specs.declared.id.NodeId.{NodeId}
use Rattle.gic_model.specs.declared.parts.End.TheVariants.{Node, Earth}
use Rattle.gic_model.specs.declared.parts.Item.{Item}
use Rattle.gic_model.specs.declared.parts.Item.TheVariants as item
use Rattle.gic_model.specs.declared.parts.Role.TheVariants as role
use Rattle.gic_model.specs.Network.{Network}
use Rattle.gic_model.specs.Sums.{Placed}
use Rattle.gic_model.specs.Standing.{standing_elements}
use Rattle.gic_model.specs.Solution.{Solution}

abbrev pub node : ℕ → NodeId
node k = record { 0 = k }

-- the nodes in order are A, B, a, b
abbrev pub loop : Network
loop = record {
  nodes = 4;
  list =
      record { from = node 0; to = Earth; times = 1; micro_ohm = 1000000; item = item.Ground 0; role = role.Ground } ∷
      record { from = node 1; to = Earth; times = 1; micro_ohm = 1000000; item = item.Ground 1; role = role.Ground } ∷
      record { from = node 2; to = Node (node 3); times = 3; micro_ohm = 3000000; item = item.Line 0; role = role.Line } ∷
      record { from = node 2; to = Node (node 0); times = 3; micro_ohm = 300000; item = item.Transformer 0; role = role.High } ∷
      record { from = node 3; to = Node (node 1); times = 3; micro_ohm = 300000; item = item.Transformer 1; role = role.High } ∷ [];
}

-- nothing is open
abbrev pub all_stand : Item → Bool
all_stand item = true

abbrev pub loop_standing : List Placed
loop_standing = standing_elements loop all_stand

-- 100 volts in the line
abbrev pub loop_volts : ℕ → ℤ
loop_volts place = if place == 2 then pos 100000000000 else pos 0

abbrev pub loop_potentials : List ℤ
loop_potentials = neg_ℤ (pos 31250000000) ∷ pos 31250000000 ∷ neg_ℤ (pos 34375000000) ∷ pos 34375000000 ∷ []

abbrev pub loop_currents : List ℤ
loop_currents = neg_ℤ (pos 31250000000) ∷ pos 31250000000 ∷ pos 31250000000 ∷ neg_ℤ (pos 31250000000) ∷ pos 31250000000 ∷ []

abbrev pub loop_solution : Solution
loop_solution = record {
  potential = λ k. slice_index_or loop_potentials k (pos 0);
  current = λ place. slice_index_or loop_currents place (pos 0);
  denominator = 1;
}

abbrev pub loop_entries : List ℕ
loop_entries = 31 ∷ 31 ∷ 33 ∷ 33 ∷ []

-- a bound vector
abbrev pub loop_vector : ℕ → ℕ
loop_vector = slice_index loop_entries

-- the potentials as guesses, in grains
abbrev pub loop_guesses : ℕ → ℤ
loop_guesses k = pos (2 ^ 36) *ℤ slice_index_or loop_potentials k (pos 0)
