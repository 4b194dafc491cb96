-- The generator: states, and the numbers that are drawn from them.
use Rattle.std.specs.Prelude.{ℕ, zero, suc, ◌+◌, ◌*◌, ◌/◌, ◌%◌, ◌^◌, List, [], ◌∷◌, slice_index}

-- the state that follows
abbrev pub next_state : (state : ℕ) → ℕ
next_state state = (1664525 * state + 1013904223) % 2 ^ 32

-- a given number of states behind this one, each following from the one before
abbrev pub states_after : (state count : ℕ) → List ℕ
states_after state zero = []
states_after state (suc count) = next_state state ∷ states_after (next_state state) count

-- the number below a bound that is drawn from the state at a place
abbrev pub draw : (states : List ℕ) → (place below : ℕ) → ℕ
draw states place below = slice_index states place / 65536 % below
