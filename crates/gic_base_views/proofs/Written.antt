-- Rows into which a pair was written.
use Rattle.std.proofs.Common.{◌≡◌, ◌≢◌, ◌⊎◌, ℕ, ◌+◌, ◌<◌, arith, inr, inl, sym, subst, ⊎_elim, ◌∙◌}
use Rattle.std.proofs.lemmas.Bool.{cases_eq}
use Rattle.gic_superpose.specs.Superposed.{ZoneEnds, zone_at}
use Rattle.gic_superpose.specs.Rows.{FlatRows, row_at}
use Rattle.gic_base_views.specs.Table.{OthersStay}

-- this pair was written for a zone into the row at a place, and no other
pub record IsWritten (zone at : ℕ) (pair : ZoneEnds) (old new : FlatRows) : Type 0 where
  pub written : zone_at (row_at new at) zone ≡ pair
  pub others : (p z : ℕ) → z < old.zones → (p ≢ at) ⊎ (z ≢ zone) → zone_at (row_at new p) z ≡ zone_at (row_at old p) z

-- what holds of the zone's pairs at the places below, and of the pair that is written, holds at one place more
pub next_written : (P : ℕ → ZoneEnds → Type 0) (zone at : ℕ) (pair : ZoneEnds) (old new : FlatRows) → zone < old.zones → IsWritten zone at pair old new →
    ((k : ℕ) → k < at → P k (zone_at (row_at old k) zone)) → P at pair → (k : ℕ) → k < at + 1 → P k (zone_at (row_at new k) zone)
next_written P zone at pair old new inside is before here k below =
    ⊎_elim
    (λ e. subst (λ (n : ℕ). P n (zone_at (row_at new n) zone)) (sym e) (subst (P at) (sym is.written) here))
    (λ d. subst (P k) (sym (is.others k zone inside (inl d))) (before k (omega (arith, below, d))))
    (cases_eq k at)

-- the pairs of other zones stay from the first rows on
pub others_stay : (zone at : ℕ) (pair : ZoneEnds) (first old new : FlatRows) → old.zones ≡ first.zones → OthersStay zone first old → IsWritten zone at pair old new → OthersStay zone first new
others_stay zone at pair first old new same before is place other less differs =
    is.others place other (subst (λ (n : ℕ). other < n) (sym same) less) (inr differs) ∙ before place other less differs
