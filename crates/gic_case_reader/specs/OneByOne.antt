-- What is left of a rule or of a list, numbered from a place on: what the loops of the reader speak of. No public contract does.
use Rattle.std.specs.Prelude.{ℕ, zero, suc, ◌+◌, ◌==◌, nat_le, List, length, flat_map, Bool, not, if◌then◌else◌, Option, Some, None}
use Rattle.std.specs.List.{enumerate_from}
use Rattle.gic_base.specs.Refusals.{unless}
use Rattle.gic_base.specs.declared.limits.TheConstants.{MOST_AT_A_NODE}
use Rattle.gic_case.specs.Names.{is_repeat}
use Rattle.gic_case.specs.Lists.{degree_of}
use Rattle.gic_case.specs.Windings.{windings_of}
use Rattle.gic_case_reader.specs.Sides.{sides_differ, are_together, are_ordered}
use Rattle.gic_case.specs.declared.case_list.CaseList.TheVariants as lists
use Rattle.gic_case_reader.specs.declared.refusal.CaseRefusal.{CaseRefusal}
use Rattle.gic_case_reader.specs.declared.refusal.CaseRefusal.TheVariants as refusals
use Rattle.gic_case.specs.declared.item.Bus.{Bus}
use Rattle.gic_case.specs.declared.item.Line.{Line}
use Rattle.gic_case.specs.declared.item.Transformer.{Transformer}

-- the two buses of each of these lines, numbered from here on, are not one
abbrev pub breaks_same_ends_from : (row : ℕ) → List Line → List CaseRefusal
breaks_same_ends_from row lines = flat_map (λ p. unless (not (p.1.from == p.1.to)) (refusals.SameEnds lists.Line p.0)) (enumerate_from row lines)

-- the sides of each of these transformers, numbered from here on, have each a bus of its own
abbrev pub breaks_same_sides_from : (row : ℕ) → List Transformer → List CaseRefusal
breaks_same_sides_from row transformers = flat_map (λ p. unless (sides_differ (windings_of p.1)) (refusals.SameEnds lists.Transformer p.0)) (enumerate_from row transformers)

-- the sides of each of these transformers, numbered from here on, are in one substation
abbrev pub breaks_apart_from : List Bus → (row : ℕ) → List Transformer → List CaseRefusal
breaks_apart_from buses row transformers = flat_map (λ p. unless (are_together buses (windings_of p.1)) (refusals.Apart p.0)) (enumerate_from row transformers)

-- neither the low nor a third voltage of each of these transformers, numbered from here on, is above its high voltage
abbrev pub breaks_voltage_order_from : (row : ℕ) → List Transformer → List CaseRefusal
breaks_voltage_order_from row transformers = flat_map (λ p. unless (are_ordered p.1.high_volts (windings_of p.1)) (refusals.VoltageOrder p.0)) (enumerate_from row transformers)

-- at most `MOST_AT_A_NODE` of the ends are at each of the nodes with these names, numbered from here on
abbrev pub breaks_degree_from : (node : ℕ) → (names : List (List ℕ)) → (ends : List ℕ) → List CaseRefusal
breaks_degree_from node names ends = flat_map (λ p. unless (nat_le (degree_of ends p.0) MOST_AT_A_NODE) (refusals.Degree p.1)) (enumerate_from node names)

-- the first number of n, from i on, that passes the test
abbrev pub first_from : (ℕ → Bool) → ℕ → ℕ → Option ℕ
first_from test zero i = None
first_from test (suc n) i = if test i then Some i else first_from test n (i + 1)

-- the first place that repeats a name
unfoldable pub first_repeat : List (List ℕ) → Option ℕ
first_repeat names = first_from (is_repeat names) (length names) 0
