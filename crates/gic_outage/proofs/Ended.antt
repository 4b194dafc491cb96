-- How the outage of an item ends, by the answer of a screen of the network without it.
use Rattle.std.proofs.Common.{◌≡◌, ℕ, List, [], Option, ℤ, refl, sym, subst, ◌∙◌}
use Rattle.std.proofs.Math.ListN.{get_or-map}
use Rattle.std.proofs.lemmas.List.{length-map}
use Rattle.gic_fixed.specs.Ends.{Ends}
use Rattle.gic_model.specs.declared.parts.Item.{Item}
use Rattle.gic_model.specs.Sums.{Placed}
use Rattle.gic_report.specs.declared.counts.Counts.{Counts}
use Rattle.gic_report.specs.Counts.{counts_of}
use Rattle.gic_worst.specs.Rows.{ScreenRowView, no_screen_row, screen_row_at}
use Rattle.gic_worst.specs.Screening.{AreScreened}
use Rattle.gic_stand.specs.declared.fault.NetworkRefusal.{NetworkRefusal}
use Rattle.gic_stand.specs.declared.fault.NetworkRefusal.TheVariants.{Unearthed, Unresolved}
use Rattle.gic_criteria.specs.declared.asked.Criteria.{Criteria}
use Rattle.gic_inputs.specs.declared.inputs.Inputs.{Inputs}
use Rattle.gic_stand.specs.Needs.{Solved as IsSolved, Fails}
use Rattle.gic_stand.specs.Standing.{IsSolvable, IsNameOfUnearthed, IsNameOfUnresolved}
use Rattle.gic_outage.specs.declared.outcome.OutageOutcome.{OutageOutcome}
use Rattle.gic_outage.specs.declared.outcome.OutageOutcome.TheVariants.{Solved}
use Rattle.gic_outage.specs.Outages.{standing_in_outage}
use Rattle.gic_outage.specs.RightOutage.{northward_volts, eastward_volts, threshold_asked, IsTakenOut, worst_verdicts}
use Rattle.gic_outage.specs.Taking.{worsts_in, AreRaisedBy, HasEnded, outcome_of}
use Rattle.gic_outage.proofs.Taken.{not_raised}

-- the network is refused
pub refused_ended : (inputs : Inputs Criteria) (item : Item) (standing : List Placed) (refusal : NetworkRefusal) (outcome : OutageOutcome) (greatest : List (Option Ends)) → outcome ≡ outcome_of refusal
    → IsTakenOut inputs item → standing ≡ standing_in_outage inputs item → Fails IsSolved inputs.case 1 standing refusal → HasEnded inputs item outcome greatest greatest
refused_ended inputs item standing (Unearthed step node) outcome greatest is taken_out without fails =
    subst (λ (o : OutageOutcome). HasEnded inputs item o greatest greatest) (sym is) (record {
      worsts = [];
      ends = (taken_out, subst (λ (s : List Placed). IsNameOfUnearthed inputs.case s node) without fails.1, refl);
      raised = not_raised greatest;
    })
refused_ended inputs item standing (Unresolved step node) outcome greatest is taken_out without fails =
    subst (λ (o : OutageOutcome). HasEnded inputs item o greatest greatest) (sym is) (record {
      worsts = [];
      ends = (taken_out, subst (λ (s : List Placed). IsNameOfUnresolved inputs.case s node) without fails.1, refl);
      raised = not_raised greatest;
    })

-- it is solved
pub solved_ended : (inputs : Inputs Criteria) (item : Item) (standing : List Placed) (north east : ℕ → ℤ) (rows : List ScreenRowView) (counts : Counts) (old new : List (Option Ends))
    → IsTakenOut inputs item → standing ≡ standing_in_outage inputs item → north ≡ northward_volts inputs → east ≡ eastward_volts inputs
    → IsSolvable standing → AreScreened inputs.case standing north east inputs.question.width rows
    → counts ≡ counts_of (worst_verdicts inputs.case (threshold_asked inputs) (worsts_in rows)) → AreRaisedBy (worsts_in rows) old new → HasEnded inputs item (Solved counts) old new
solved_ended inputs item standing north east rows counts old new taken_out without to_north to_east solvable screened counted raised =
    let case = inputs.case in
    let width = inputs.question.width in
    let own : AreScreened case (standing_in_outage inputs item) (northward_volts inputs) (eastward_volts inputs) width rows =
    subst (λ (v : ℕ → ℤ). AreScreened case (standing_in_outage inputs item) (northward_volts inputs) v width rows) to_east
    (subst (λ (v : ℕ → ℤ). AreScreened case (standing_in_outage inputs item) v east width rows) to_north
    (subst (λ (s : List Placed). AreScreened case s north east width rows) without screened)) in
    record {
      worsts = worsts_in rows;
      ends = (
        taken_out,
        record {
          solvable = subst (λ (s : List Placed). IsSolvable s) without solvable;
          count = length-map rows (λ (row : ScreenRowView). row.worst) ∙ own.count;
          right = λ t inside. record { row = screen_row_at rows t; right = own.right t inside; is = get_or-map (λ (row : ScreenRowView). row.worst) rows t no_screen_row };
          counted = counted;
        },
      );
      raised = raised;
    }
