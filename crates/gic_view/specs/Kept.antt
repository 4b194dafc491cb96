-- What every view keeps, and a view in which nothing shows.
use Rattle.std.specs.Prelude.{ℕ, ◌^◌, ◌<◌, replicate, Option, None, Some}
use Rattle.gic_fixed.specs.declared.interval.Interval.{Interval}
use Rattle.gic_fixed.specs.Ends.{Ends, ends_of, zero_ends}
use Rattle.gic_view.specs.View.{View}

abbrev pub optional_ends : Option Interval → Option Ends
optional_ends None = None
optional_ends (Some interval) = Some (ends_of interval)

-- number and time 0, no node live, no element standing, and no current in any transformer
abbrev pub blank_view : (nodes elements transformers : ℕ) → View
blank_view nodes elements transformers = record {
  number = 0;
  time = 0;
  nodes = replicate nodes None;
  elements = replicate elements None;
  effective = replicate transformers zero_ends;
}

-- what every view keeps: each of its numbers of places is one of 16 bits
pub record AreFew (nodes elements transformers : ℕ) : Type 0 where
  pub nodes_few : nodes < 2 ^ 16
  pub elements_few : elements < 2 ^ 16
  pub transformers_few : transformers < 2 ^ 16
