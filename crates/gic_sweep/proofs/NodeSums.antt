-- Sums over the standing elements of a node, as far as a loop has come.
use Rattle.std.proofs.Common.{◌≡◌, ℕ, ◌+◌, ◌*◌, ◌^◌, ◌<◌, ◌≤◌, nat_lt, true, List, [], ◌∷◌, length, take, get_or, ℤ, ◌+ℤ◌, unsigned_abs, FitsSigned, arith, ap, ◌∙◌}
use mir.Syntax.{w128}
use Rattle.std.specs.List.{sum_by}
use Rattle.std.proofs.lemmas.Bool.Decides.{nat_tests}
use Rattle.std.proofs.lemmas.Int.{ints, fits_signed_from_abs}
use Rattle.std.proofs.lemmas.List.{take_more}
use Rattle.std.proofs.lemmas.List.Sums.{sum_by_more, sum_by_more_le, sum_by-le}
use Rattle.std.proofs.lemmas.List.Elements.{All-from_recursion}
use Rattle.gic_base.proofs.Each.{weaker}
use Rattle.gic_fixed.proofs.Sums.{sum_of-++}
use Rattle.gic_model.specs.declared.parts.Element.{Element}
use Rattle.gic_model.specs.Network.{ends_at}
use Rattle.gic_model.specs.Limits.{IsWithinLimits, IsElementWithin}
use Rattle.gic_model.specs.Sums.{Placed, sum_of}
use Rattle.gic_model.specs.Standing.{IsLive}
use Rattle.gic_model.specs.Guess.{diagonal}
use Rattle.gic_model.proofs.Ends.{standing_within, within_at}
use Rattle.gic_net.specs.Net.{NetView, row_at, placed_at, no_element, standing, stands}
use Rattle.gic_net.proofs.Places.{few_at, placed_is, some_any}
use Rattle.gic_model.specs.Conductance.{conductance_up}
use Rattle.gic_sweep.proofs.Parts.{one_le, part_most}

-- what a standing element adds to the diagonal
abbrev pub diagonal_part : Placed → ℕ
diagonal_part p = conductance_up p.1

sum_of_more : (f : Placed → ℤ) (ps : List Placed) (i : ℕ) (d : Placed) → i < length ps → sum_of f (take (i + 1) ps) ≡ sum_of f (take i ps) +ℤ f (get_or ps i d)
sum_of_more f ps i d h =
    let last = sum_of-++ f (take i ps) (get_or ps i d ∷ []) in
    rw (take_more ps i d h) (omega (arith, ints, last))

pub diagonal_most : (net : NetView) (k : ℕ) → IsWithinLimits net.network → k < net.network.nodes → diagonal (standing net) k ≤ 2 ^ 40
diagonal_most net k limits h =
    let within = within_at net.network.nodes (standing net) k (standing_within net.network (stands net) limits) in
    let each = weaker (λ p. IsElementWithin net.network.nodes p.1) (λ p. diagonal_part p ≤ 2 ^ 32) (λ p f. part_most net.network.nodes p.1 f) (row_at net k) within in
    let most = sum_by-le diagonal_part (2 ^ 32) (row_at net k) (All-from_recursion (λ p. diagonal_part p ≤ 2 ^ 32) (row_at net k) each) in
    omega (arith, most, few_at net k limits h)

pub live_some : (net : NetView) (k : ℕ) → IsLive (standing net) k → 0 < length (row_at net k)
live_some net k live = above (length (row_at net k)) (some_any (λ p. ends_at p.1 k) (standing net) ∙ live)
  where
    above : (n : ℕ) → nat_lt 0 n ≡ true → 0 < n
    above n h = grind (arith, nat_tests)

pub diagonal_some : (net : NetView) (k : ℕ) → IsWithinLimits net.network → IsLive (standing net) k → 0 < diagonal (standing net) k
diagonal_some net k limits live =
    let some = live_some net k live in
    let p = placed_is net limits k 0 some in
    let more = sum_by_more_le diagonal_part (row_at net k) 0 (0, no_element) some in
    omega (arith, one_le net.network.nodes (placed_at net k 0).1 p.within, more)

-- one more element
module _ (f : Placed → ℤ) (net : NetView) (k i : ℕ) (h : i < length (row_at net k)) (place : ℕ) (e : Element) (is : placed_at net k i ≡ (place, e)) where
  pub sum_more : (sum part s : ℤ) → sum ≡ sum_of f (take i (row_at net k)) → part ≡ f (place, e) → s ≡ sum +ℤ part → s ≡ sum_of f (take (i + 1) (row_at net k))
  sum_more sum part s a b c =
      let more = sum_of_more f (row_at net k) i (0, no_element) h in
      let last : f (placed_at net k i) ≡ f (place, e) = ap f is in
      cc

-- the same of parts that aren't below 0, and what they come to in the end
pub part_more : (part : Placed → ℕ) (net : NetView) (k i : ℕ) → i < length (row_at net k) → (place : ℕ) (e : Element) → placed_at net k i ≡ (place, e) →
    (sum_by part (take (i + 1) (row_at net k)) ≡ sum_by part (take i (row_at net k)) + part (place, e))
    × (sum_by part (take i (row_at net k)) + part (place, e) ≤ sum_by part (row_at net k))
part_more part net k i h place e is =
    let one = sum_by_more part (row_at net k) i (0, no_element) h in
    let all = sum_by_more_le part (row_at net k) i (0, no_element) h in
    let last : part (placed_at net k i) ≡ part (place, e) = ap part is in
    (omega (arith, one, last), omega (arith, all, last))

-- a sum of parts and one more fit, and are as small as the diagonal tells
pub sum_fits : (sum part : ℤ) (m n d : ℕ) → unsigned_abs sum ≤ m * 2 ^ 86 → unsigned_abs part ≤ n * 2 ^ 86 → m + n ≤ d → d ≤ 2 ^ 40 → FitsSigned w128 (sum +ℤ part)
sum_fits sum part m n d a b h most = fits_signed_from_abs w128 (sum +ℤ part) (omega (arith, ints, a, b, h, most))

pub sum_small : (sum part s : ℤ) (m n d : ℕ) → unsigned_abs sum ≤ m * 2 ^ 86 → unsigned_abs part ≤ n * 2 ^ 86 → s ≡ sum +ℤ part → d ≡ m + n → unsigned_abs s ≤ d * 2 ^ 86
sum_small sum part s m n d a b is h = omega (arith, ints, a, b, is, h)
