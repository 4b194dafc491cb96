use Rattle.std.proofs.Common.{◌≡◌, ◌||◌, string_bytes}
use Rattle.std.specs.List.{list_all}
use Rattle.toml.specs.View.{table_view}
use Rattle.gic_case_reader.specs.Keys.{is_key_of, has_only}
use Rattle.gic_case_reader.proofs.keys.has_only.Given as goal

-- the keys that are left decide
abbrev pub invariant-loop-key : goal.invariant-loop-key
invariant-loop-key l = list_all (λ k. is_key_of l.required (string_bytes k) || is_key_of l.others (string_bytes k)) l.key-iterator ≡ has_only (λ k. is_key_of l.required k || is_key_of l.others k) (table_view l.table)
