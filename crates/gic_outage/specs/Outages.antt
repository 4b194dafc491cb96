-- One item out of a network: how that ends, and the worst intervals over all items.
use Rattle.std.specs.Prelude.{ℕ, List, [], ◌∷◌, ◌++◌, map, slice_get, slice_index_or, Option, None}
use Rattle.gic_case.specs.Lists.{Lists}
use Rattle.gic_fixed.specs.Ends.{Ends, zero_ends}
use Rattle.gic_model.specs.declared.parts.Item.{Item}
use Rattle.gic_model.specs.declared.parts.Item.TheVariants.{Line}
use Rattle.gic_model.specs.Sums.{Placed}
use Rattle.gic_view.specs.Peaks.{greater}
use Rattle.gic_winding.specs.InForce.{standing_in}
use Rattle.gic_outage.specs.Plan.{plan_of}
use Rattle.gic_outage.specs.Removing.{opening}
use Rattle.gic_criteria.specs.declared.asked.Criteria.{Criteria}
use Rattle.gic_inputs.specs.declared.inputs.Inputs.{Inputs}
use Rattle.gic_inputs.specs.Inputs.{rows_in}
use Rattle.gic_outage.specs.declared.outcome.OutageOutcome.{OutageOutcome}
use Rattle.gic_outage.specs.declared.outcome.OutageOutcome.TheVariants.{Idle}

-- the elements that stand without an item: with all switchings in force, and then the item opened
abbrev pub standing_in_outage : Inputs Criteria → Item → List Placed
standing_in_outage inputs item = standing_in inputs.case (rows_in inputs.switchings ++ opening item ∷ [])

-- how the outage of an item ends, and the worst intervals of the transformers meanwhile, which there are only where the network is solved
pub record Outage : Type 0 where
  pub outcome : OutageOutcome
  pub worsts : List Ends

-- of an item that is never reached
abbrev pub no_outage : Outage
no_outage = record { outcome = Idle; worsts = [] }

-- the item at a place of the plan, and its outage
abbrev pub item_at : Lists → (place : ℕ) → Item
item_at case place = slice_index_or (plan_of case) place (Line 0)

abbrev pub outage_at : List Outage → (place : ℕ) → Outage
outage_at outages place = slice_index_or outages place no_outage

-- the worst interval of the transformer at a place
abbrev pub worst_at : List Ends → (t : ℕ) → Ends
worst_at worsts t = slice_index_or worsts t zero_ends

-- the worst intervals of a transformer in these outages, none where the network isn't solved
abbrev pub worsts_of : List Outage → (t : ℕ) → List (Option Ends)
worsts_of outages t = map (λ outage. slice_get outage.worsts t) outages

-- the greatest low end and the greatest high end of the intervals that are there; none where there is none
abbrev pub greatest_worst : List (Option Ends) → Option Ends
greatest_worst [] = None
greatest_worst (cell ∷ cells) = greater cell (greatest_worst cells)

-- the greatest worst interval of the transformer at a place
abbrev pub greatest_at : List (Option Ends) → (t : ℕ) → Option Ends
greatest_at greatest t = slice_index_or greatest t None
