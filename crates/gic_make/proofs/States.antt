-- States of the generator.
use Rattle.std.proofs.Common.{◌≡◌, ℕ, zero, suc, ◌+◌, ◌-◌, ◌<◌, ◌≤◌, List, [], ◌∷◌, ◌++◌, length, refl, sym, ap, ◌∙◌, append_assoc, append-nil, arith}
use Rattle.std.proofs.Math.Nat.{mod-add-mod}
use Rattle.gic_make.specs.Generator.{next_state, states_after}

-- a product that wraps, and a sum that wraps behind it, wrap once
pub ruleset wrapped = (mod-add-mod)

-- one more state follows
pub state_more : (before now whole : List ℕ) (state next count i : ℕ) → i < count → next ≡ next_state state → now ≡ before ++ next ∷ []
    → before ++ states_after state (count - i) ≡ whole → now ++ states_after next (count - (i + 1)) ≡ whole
state_more before now whole state next count i within is pushed all =
    let left : count - i ≡ suc (count - (i + 1)) = omega arith in
    let split : before ++ states_after state (count - i) ≡ before ++ next_state state ∷ states_after (next_state state) (count - (i + 1)) = ap (λ n. before ++ states_after state n) left in
    rw (pushed, is) (append_assoc before (next_state state ∷ []) (states_after (next_state state) (count - (i + 1))) ∙ sym split ∙ all)

-- no more states follow
pub state_last : (now whole : List ℕ) (state count i : ℕ) → count ≤ i → now ++ states_after state (count - i) ≡ whole → now ≡ whole
state_last now whole state count i past all =
    let none : count - i ≡ 0 = omega arith in
    sym (append-nil now) ∙ sym (ap (λ n. now ++ states_after state n) none) ∙ all

length-states_after : (state count : ℕ) → length (states_after state count) ≡ count
length-states_after state zero = refl
length-states_after state (suc count) = ap suc (length-states_after (next_state state) count)

-- a state for each draw
pub enough : (states : List ℕ) (seed count : ℕ) → states ≡ states_after seed count → count ≤ length states
enough states seed count are = let many = ap length are ∙ length-states_after seed count in omega arith
