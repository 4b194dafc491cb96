-- Conductances of which each element's part is rounded down.
use Rattle.std.proofs.Common.{ℕ, ◌*◌, ◌/◌, ◌^◌, ◌<◌, ◌≤◌, List, [], ◌∷◌, length, arith, inl, inr, div-add-mod', mul-le-mul_left}
use Rattle.std.specs.List.{AllByRecursion, sum_by}
use Rattle.std.proofs.lemmas.Nat.{le-div}
use Rattle.std.proofs.lemmas.List.Sums.{sum_by-cons, sum_by-le}
use Rattle.std.proofs.lemmas.List.Elements.{All-from_recursion}
use Rattle.gic_base.proofs.Each.{weaker}
use Rattle.gic_model.specs.Conductance.{conductance_down}
use Rattle.gic_model.specs.Limits.{IsWithinLimits, IsElementWithin}
use Rattle.gic_model.specs.Sums.{Placed}
use Rattle.gic_model.specs.Ohms.{product_of_ohms}
use Rattle.gic_model.specs.Standing.{IsLive}
use Rattle.gic_model.specs.Guess.{least_conductance}
use Rattle.gic_model.proofs.SumLaws.{product_positive}
use Rattle.gic_model.proofs.Ends.{standing_within, within_at, ohms_at_node}
use Rattle.gic_net.specs.Net.{NetView, row_at, standing, stands}
use Rattle.gic_net.proofs.Places.{few_at}
use Rattle.gic_sweep.proofs.NodeSums.{live_some}

-- one element's part
abbrev pub floor_part : Placed → ℕ
floor_part p = conductance_down p.1

-- it is from 1048 to 2^32
pub part_least : (nodes : ℕ) (p : Placed) → IsElementWithin nodes p.1 → 1048 ≤ floor_part p
part_least nodes p h =
    let some : 1 ≤ p.1.times = elim h.one_or_three [ inl one ↦ omega arith | inr three ↦ omega arith ] in
    le-div 1048 (p.1.times * 1000000 * 2 ^ 20) p.1.micro_ohm (omega (arith, h.least_ohm)) (omega (arith, h.most_ohm, some))

part_most : (nodes : ℕ) (p : Placed) → IsElementWithin nodes p.1 → floor_part p ≤ 2 ^ 32
part_most nodes p h =
    let three : p.1.times ≤ 3 = elim h.one_or_three [ inl one ↦ omega arith | inr three ↦ omega arith ] in
    let n = p.1.times * 1000000 * 2 ^ 20 in
    let q : n / p.1.micro_ohm * 1000 ≤ n / p.1.micro_ohm * p.1.micro_ohm = mul-le-mul_left (n / p.1.micro_ohm) h.least_ohm in
    omega (arith, div-add-mod' n p.1.micro_ohm, three, q)

floors_many : (ps : List Placed) → AllByRecursion (λ p. 1048 ≤ floor_part p) ps → 1048 * length ps ≤ sum_by floor_part ps
floors_many [] h = omega arith
floors_many (p ∷ ps) h = omega (arith, h.0, floors_many ps h.1, sum_by-cons floor_part p ps)

module _ (net : NetView) (k : ℕ) (limits : IsWithinLimits net.network) where
  within : AllByRecursion (λ p. IsElementWithin net.network.nodes p.1) (row_at net k)
  within = within_at net.network.nodes (standing net) k (standing_within net.network (stands net) limits)

  -- at least 1048 for each element
  pub conductance_many : 1048 * length (row_at net k) ≤ least_conductance (standing net) k
  conductance_many = floors_many (row_at net k) (weaker (λ p. IsElementWithin net.network.nodes p.1) (λ p. 1048 ≤ floor_part p) (λ p f. part_least net.network.nodes p f) (row_at net k) within)

  pub conductance_some : IsLive (standing net) k → 0 < least_conductance (standing net) k
  conductance_some live = omega (arith, conductance_many, live_some net k live)

  pub conductance_most : k < net.network.nodes → least_conductance (standing net) k ≤ 2 ^ 40
  conductance_most h =
      let each = weaker (λ p. IsElementWithin net.network.nodes p.1) (λ p. floor_part p ≤ 2 ^ 32) (λ p f. part_most net.network.nodes p f) (row_at net k) within in
      let most = sum_by-le floor_part (2 ^ 32) (row_at net k) (All-from_recursion (λ p. floor_part p ≤ 2 ^ 32) (row_at net k) each) in
      omega (arith, most, few_at net k limits h)

  pub ohms_some : 0 < product_of_ohms (row_at net k)
  ohms_some = product_positive (row_at net k) (ohms_at_node net.network.nodes (standing net) k (standing_within net.network (stands net) limits))
