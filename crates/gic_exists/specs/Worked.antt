-- Networks worked by hand: the loop of two substations with one or both of its grounds open, and with a resistor in a transformer's neutral.
use Rattle.std.specs.Prelude.{ℕ, List, [], ◌∷◌, ℤ, pos, neg_ℤ, slice_index_or}
use Rattle.gic_model.specs.declared.parts.End.TheVariants.{Node, Earth}
use Rattle.gic_model.specs.declared.parts.Item.TheVariants as item
use Rattle.gic_model.specs.declared.parts.Role.TheVariants as role
use Rattle.gic_model.specs.Network.{Network}
use Rattle.gic_model.specs.Solution.{Solution}
use Rattle.gic_model.specs.WorkedLoop.{node}

-- the potentials and currents of these lists, over 1
abbrev pub solution_of : List ℤ → List ℤ → Solution
solution_of potentials currents = record {
  potential = λ k. slice_index_or potentials k (pos 0);
  current = λ place. slice_index_or currents place (pos 0);
  denominator = 1;
}

-- with the ground of A open nothing flows, and the 100 volts of the line stand between the two substations
abbrev pub one_ground_solution : Solution
one_ground_solution = solution_of (neg_ℤ (pos 100000000000) ∷ pos 0 ∷ neg_ℤ (pos 100000000000) ∷ pos 0 ∷ []) []

-- no voltage in any element
abbrev pub no_volts : ℕ → ℤ
no_volts place = pos 0

-- the potential z at every node, and no current
abbrev pub level_solution : ℤ → Solution
level_solution z = record { potential = λ k. z; current = λ place. pos 0; denominator = 1 }

-- the loop with a resistor of 1.8 ohm between the neutral of the transformer at A and the substation A; the nodes in order are A, B, a, b and that neutral
abbrev pub neutral_loop : Network
neutral_loop = record {
  nodes = 5;
  list =
      record { from = node 0; to = Earth; times = 1; micro_ohm = 1000000; item = item.Ground 0; role = role.Ground } ∷
      record { from = node 1; to = Earth; times = 1; micro_ohm = 1000000; item = item.Ground 1; role = role.Ground } ∷
      record { from = node 2; to = Node (node 3); times = 3; micro_ohm = 3000000; item = item.Line 0; role = role.Line } ∷
      record { from = node 2; to = Node (node 4); times = 3; micro_ohm = 300000; item = item.Transformer 0; role = role.High } ∷
      record { from = node 3; to = Node (node 1); times = 3; micro_ohm = 300000; item = item.Transformer 1; role = role.High } ∷
      record { from = node 4; to = Node (node 0); times = 1; micro_ohm = 1800000; item = item.Neutral 0; role = role.Neutral } ∷ [];
}

abbrev pub neutral_potentials : List ℤ
neutral_potentials = neg_ℤ (pos 20000000000) ∷ pos 20000000000 ∷ neg_ℤ (pos 58000000000) ∷ pos 22000000000 ∷ neg_ℤ (pos 56000000000) ∷ []

abbrev pub neutral_currents : List ℤ
neutral_currents = neg_ℤ (pos 20000000000) ∷ pos 20000000000 ∷ pos 20000000000 ∷ neg_ℤ (pos 20000000000) ∷ pos 20000000000 ∷ neg_ℤ (pos 20000000000) ∷ []

-- with 100 volts in the line the loop has 5 ohm, and 20 amperes flow round it
abbrev pub neutral_solution : Solution
neutral_solution = solution_of neutral_potentials neutral_currents
