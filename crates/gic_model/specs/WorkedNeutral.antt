-- A second network worked by hand: the loop with a resistor of 1.8 ohm between the neutral of the transformer TA and the substation A, and a third bus c, to which a line leads that a row opens. The loop has 5 ohm, and 20 amperes flow round it; c is dead.
use Rattle.std.specs.Prelude.{ℕ, ◌==◌, true, false, List, [], ◌∷◌, if◌then◌else◌, ℤ, pos, neg_ℤ, slice_index, slice_index_or}
use Rattle.gic_model.specs.declared.parts.End.TheVariants.{Node, Earth}
use Rattle.gic_model.specs.declared.parts.Item.TheVariants as item
use Rattle.gic_model.specs.declared.parts.Role.TheVariants as role
use Rattle.gic_model.specs.declared.parts.Switching.{Switching}
use Rattle.gic_model.specs.Network.{Network}
use Rattle.gic_model.specs.Sums.{Placed}
use Rattle.gic_model.specs.Standing.{standing_elements, stands_after}
use Rattle.gic_model.specs.Solution.{Solution}
use Rattle.gic_model.specs.WorkedLoop.{node}

-- the nodes in order are A, B, a, b, c and the neutral of TA
abbrev pub grid : Network
grid = record {
  nodes = 6;
  list =
      record { from = node 0; to = Earth; times = 1; micro_ohm = 1000000; item = item.Ground 0; role = role.Ground } ∷
      record { from = node 1; to = Earth; times = 1; micro_ohm = 1000000; item = item.Ground 1; role = role.Ground } ∷
      record { from = node 2; to = Node (node 3); times = 3; micro_ohm = 3000000; item = item.Line 0; role = role.Line } ∷
      record { from = node 3; to = Node (node 4); times = 3; micro_ohm = 3000000; item = item.Line 1; role = role.Line } ∷
      record { from = node 2; to = Node (node 5); times = 3; micro_ohm = 300000; item = item.Transformer 0; role = role.High } ∷
      record { from = node 3; to = Node (node 1); times = 3; micro_ohm = 300000; item = item.Transformer 1; role = role.High } ∷
      record { from = node 5; to = Node (node 0); times = 1; micro_ohm = 1800000; item = item.Neutral 0; role = role.Neutral } ∷ [];
}

-- the neutral resistor is blocked and unblocked again, and the line to c is opened
abbrev pub grid_rows : List Switching
grid_rows =
    record { time = 0; item = item.Neutral 0; opens = true } ∷
    record { time = 5; item = item.Line 1; opens = true } ∷
    record { time = 5; item = item.Neutral 0; opens = false } ∷ []

abbrev pub grid_standing : List Placed
grid_standing = standing_elements grid (stands_after grid_rows)

-- 100 volts in the line from a to b, and as much in the open one
abbrev pub grid_volts : ℕ → ℤ
grid_volts place = if place == 2 then pos 100000000000 else if place == 3 then pos 100000000000 else pos 0

abbrev pub grid_potentials : List ℤ
grid_potentials = neg_ℤ (pos 20000000000) ∷ pos 20000000000 ∷ neg_ℤ (pos 58000000000) ∷ pos 22000000000 ∷ pos 0 ∷ neg_ℤ (pos 56000000000) ∷ []

abbrev pub grid_currents : List ℤ
grid_currents = neg_ℤ (pos 20000000000) ∷ pos 20000000000 ∷ pos 20000000000 ∷ pos 0 ∷ neg_ℤ (pos 20000000000) ∷ pos 20000000000 ∷ neg_ℤ (pos 20000000000) ∷ []

abbrev pub grid_solution : Solution
grid_solution = record {
  potential = λ k. slice_index_or grid_potentials k (pos 0);
  current = λ place. slice_index_or grid_currents place (pos 0);
  denominator = 1;
}

abbrev pub grid_entries : List ℕ
grid_entries = 21 ∷ 41 ∷ 55 ∷ 44 ∷ 0 ∷ 55 ∷ []

-- a bound vector
abbrev pub grid_vector : ℕ → ℕ
grid_vector = slice_index grid_entries
