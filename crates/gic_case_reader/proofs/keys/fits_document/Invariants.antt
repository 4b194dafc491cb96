use Rattle.std.proofs.Common.{◌≡◌, string_bytes}
use Rattle.std.specs.List.{list_all}
use Rattle.toml.specs.View.{table_view}
use Rattle.gic_case_reader.specs.Keys.{is_document_key, has_only}
use Rattle.gic_case_reader.proofs.keys.fits_document.Given as goal

-- the keys that are left decide
abbrev pub invariant-loop-key : goal.invariant-loop-key
invariant-loop-key l = list_all (λ k. is_document_key (string_bytes k)) l.key-iterator ≡ has_only is_document_key (table_view l.table)
