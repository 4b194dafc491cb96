-- A network of conductances as its nodes see it: for each node a row of the elements that end there.
use Rattle.std.proofs.Common.{ℕ, ◌+◌, ◌*◌, ◌^◌, ◌≤◌, ◌<◌, List, [], ◌∷◌, length, Option, Some, None, ℤ, pos, ◌+ℤ◌, ◌-ℤ◌, ◌*ℤ◌, ◌≤ℤ◌}
use Rattle.std.specs.Int.{div_ceil}
use Rattle.gic_fixed.specs.Rounding.{floor_div}

-- an element as one of its nodes sees it: the node at its far end (none: earth), its conductance as a fraction, and the voltage in it in grains, counted away from the node
pub record Link : Type 0 where
  pub far : Option ℕ
  pub numerator : ℕ
  pub resistance : ℕ
  pub push : ℤ

-- some element ends at the node k
abbrev pub IsLiveRow : (ℕ → List Link) → ℕ → Type 0
IsLiveRow rows k = 0 < length (rows k)

-- the product of the resistances of a row
abbrev pub denominator : List Link → ℕ
denominator [] = 1
denominator (l ∷ ls) = l.resistance * denominator ls

-- the sum of numerator * f / resistance, over that denominator
abbrev pub weighted : (Link → ℕ) → List Link → ℕ
weighted f [] = 0
weighted f (l ∷ ls) = l.numerator * f l * denominator ls + l.resistance * weighted f ls

-- the sum of the conductances, over that denominator
abbrev pub conductance : List Link → ℕ
conductance row = weighted (λ _. 1) row

-- the sum of numerator * f / resistance, over that denominator, for a signed f
abbrev pub flow : (Link → ℤ) → List Link → ℤ
flow f [] = pos 0
flow f (l ∷ ls) = ((pos (l.numerator * denominator ls) *ℤ f l) +ℤ (pos l.resistance *ℤ flow f ls))

-- the guess and the entry at a far end, 0 at earth
abbrev pub guess_at : (ℕ → ℤ) → Option ℕ → ℤ
guess_at xs None = pos 0
guess_at xs (Some i) = xs i

abbrev pub entry_at : (ℕ → ℕ) → Option ℕ → ℕ
entry_at vs None = 0
entry_at vs (Some i) = vs i

-- the current that leaves the node k, over the row's denominator
abbrev pub residual : List Link → (ℕ → ℤ) → ℕ → ℤ
residual row xs k = flow (λ l. guess_at xs (Some k) -ℤ guess_at xs l.far +ℤ l.push) row

-- the sum of the conductances, each rounded up
abbrev pub diagonal : List Link → ℕ
diagonal [] = 0
diagonal (l ∷ ls) = div_ceil l.numerator l.resistance + diagonal ls

-- the sum of numerator * (v_k - v_far - 1) / resistance, each rounded down
abbrev pub row_sum : List Link → (ℕ → ℕ) → ℕ → ℤ
row_sum [] vs k = pos 0
row_sum (l ∷ ls) vs k = floor_div (pos l.numerator *ℤ (pos (vs k) -ℤ pos (entry_at vs l.far) -ℤ pos 1)) (pos l.resistance) +ℤ row_sum ls vs k

-- a link of a network within the limits
pub record IsLinkWithin (l : Link) : Type 0 where
  pub resistance_least : 1000 ≤ l.resistance
  pub resistance_most : l.resistance ≤ 1000000000
  pub numerator_least : 1000000 * 2 ^ 20 ≤ l.numerator
  pub numerator_most : l.numerator ≤ 3000000 * 2 ^ 20

-- entries from 1 to 4096 at live nodes that meet the row rule
pub record AreRowsBound (rows : ℕ → List Link) (vs : ℕ → ℕ) : Type 0 where
  pub positive : (k : ℕ) → IsLiveRow rows k → 1 ≤ vs k
  pub within : (k : ℕ) → vs k ≤ 4096
  pub row : (k : ℕ) → IsLiveRow rows k → pos 0 ≤ℤ row_sum (rows k) vs k
