-- What a certificate with the network's nodes says of them.
use Rattle.std.proofs.Common.{◌≡◌, ℕ, ◌≤◌, true, false, List, Option, None, Some, IfSome, arith, refl, ap, ◌∙◌, ⊎_elim}
use Rattle.std.specs.List.{AllByRecursion}
use Rattle.std.specs.Option.{option_map_or, is_some}
use Rattle.std.proofs.lemmas.Bool.{cases_lt}
use Rattle.std.proofs.lemmas.List.{get_or_past}
use Rattle.gic_model.specs.Limits.{IsElementWithin}
use Rattle.gic_model.specs.Bound.{IsBoundVector, MeetsRowRule}
use Rattle.gic_model.specs.Sums.{Placed}
use Rattle.gic_model.proofs.Ends.{live_within}
use Rattle.gic_cert.specs.Written.{Written, Certificate, IsWritten, IsWrittenNode, written_at, entry_of}
use Rattle.gic_cert.specs.Passing.{HasNodes, HoldsWhereLive}

some_entry : (w : Option Written) → is_some w ≡ true → IfSome w IsWrittenNode → 1 ≤ option_map_or (λ w. w.entry) w 0
some_entry None is h = absurd (no_way is)
  where
    no_way : false ≡ true → ⊥
    no_way e = cc
some_entry (Some w) is h = h.entry_some

no_entry : (w : Option Written) → is_some w ≡ false → option_map_or (λ w. w.entry) w 0 ≡ 0
no_entry None is = refl
no_entry (Some w) is = absurd (no_way is)
  where
    no_way : true ≡ false → ⊥
    no_way e = cc

-- its entries are a bound vector where the row rule holds
pub bound_vector : (nodes : ℕ) (standing : List Placed) → AllByRecursion (λ p. IsElementWithin nodes p.1) standing → (c : Certificate) → IsWritten c → HasNodes nodes standing c →
    HoldsWhereLive standing (MeetsRowRule standing (entry_of c)) → IsBoundVector standing (entry_of c)
bound_vector nodes standing within c written has rows = record {
  live_above_0 = λ k live. some_entry (written_at c k) (has.live k (live_within nodes standing k within live) ∙ live) (written.each k);
  dead_0 = λ k dead. ⊎_elim
      (λ inside. no_entry (written_at c k) (has.live k inside ∙ dead))
      (λ past. ap (λ w. option_map_or (λ w. w.entry) w 0) (get_or_past c.nodes k None (omega (arith, past, has.count))))
      (cases_lt k nodes);
  rows = rows;
}
