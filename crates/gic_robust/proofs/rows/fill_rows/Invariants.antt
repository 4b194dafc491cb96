use Rattle.std.proofs.Common.{◌≡◌, ℕ, ◌<◌, List, length}
use Rattle.gic_model.specs.Voltages.{number_at}
use Rattle.gic_model.specs.declared.parts.Switching.{Switching}
use Rattle.gic_grounds.specs.Tolerated.{tolerated, AreNetsOf}
use Rattle.gic_grounds.specs.Varied.{IsReadyToVary, AreReferred, KeepsReferences}
use Rattle.gic_worst.specs.Rows.{screen_row_at}
use Rattle.gic_robust.specs.RightRobust.{IsRobustRow}
use Rattle.gic_robust.proofs.rows.fill_rows.Given as goal

-- the rows so far are those of the references, which are as they were
abbrev pub invariant-loop-transformer : goal.invariant-loop-transformer
invariant-loop-transformer l = record {
  right : (switched : List Switching) (percent : ℕ) →
      AreNetsOf (tolerated l.case switched percent) l.fn.varied.nets → AreReferred l.case (number_at l.volts.north) (number_at l.volts.east) l.fn.varied →
      (t : ℕ) → t < l.transformer →
      IsRobustRow (tolerated l.case switched percent) (number_at l.volts.north) (number_at l.volts.east) t (screen_row_at l.rows t);
  count : length l.rows ≡ length l.case.transformers;
  ready : IsReadyToVary l.case l.varied;
  rest : KeepsReferences l.fn.varied l.varied;
}
