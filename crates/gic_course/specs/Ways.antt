-- How the steps of an epoch are shown: each solved by itself, or superposed from certified base fields. For the contracts of this crate.
use Rattle.std.specs.Prelude.{ℕ, ◌+◌, ◌*◌, ◌-◌, nat_lt, nat_le, Bool, not, ◌||◌, length, None, Some, option_map, if◌then◌else◌}
use Rattle.std.specs.declared.option.Option.{Option}
use Rattle.gic_case.specs.Lists.{Lists}
use Rattle.gic_switch.specs.declared.epoch.Epoch.{Epoch}
use Rattle.gic_winding.specs.ElementList.{elements_of}
use Rattle.gic_course.specs.declared.ready.Ready.{Ready}
use Rattle.gic_course.specs.declared.ready.Way.{Way}
use Rattle.gic_course.specs.declared.ready.Way.TheVariants.{Solve, Superpose}
use Rattle.gic_course.specs.declared.workspace.TheConstants.{MOST_PAIRS}

-- whether base fields can be certified: the pairs of their intervals, one for each zone and each node, element and transformer, are few enough to be kept
abbrev pub can_superpose : Lists → Bool
can_superpose case = nat_le (length case.zones * ((elements_of case).nodes + length (elements_of case).list + length case.transformers)) MOST_PAIRS

-- base fields take two solves for each zone, and then hardly anything for a step; so where there can be some, steps are superposed where there are more of them
abbrev pub way_by_count : Epoch → (zones : ℕ) → (superposes : Bool) → Way
way_by_count epoch zones superposes = if not superposes || nat_lt (epoch.last - epoch.first) (2 * zones) then Solve else Superpose

-- base fields that are certified are used, and others certified where the steps are more
abbrev pub way_from : Option Way → Epoch → (zones : ℕ) → (superposes : Bool) → Way
way_from (Some Superpose) epoch zones superposes = Superpose
way_from (Some Solve) epoch zones superposes = way_by_count epoch zones superposes
way_from None epoch zones superposes = way_by_count epoch zones superposes

-- what was ready stays so where the net does
abbrev pub way_after : (changed : Bool) → Option Ready → Option Way
way_after changed ready = if changed then None else option_map (λ r. r.way) ready
