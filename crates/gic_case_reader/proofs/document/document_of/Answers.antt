use Rattle.std.proofs.Common.{Err, ap, rules, ◌∙◌}
use Rattle.toml.specs.View.{table_view}
use Rattle.gic_base.specs.Passes.{or_refuse}
use Rattle.gic_base.proofs.RefusalLaws.{same_refusal}
use Rattle.gic_case_reader.specs.declared.refusal.CaseRefusal.TheVariants.{NotToml}
use Rattle.gic_case_reader.proofs.Documents.{document_there, document_none}
use Rattle.gic_case_reader.proofs.document.document_of.Goals as goal

pub returns-in-Ok : goal.returns-in-Ok
returns-in-Ok c = ap (λ o. or_refuse o NotToml) (document_there c.args.bytes.now (table_view c.in-Ok.table) c.in-Ok.ensures.ok)

pub returns-else-is_memory : goal.returns-else-is_memory
returns-else-is_memory c = λ e is. ap (λ o. or_refuse o NotToml) (document_none c.args.bytes.now (c.in-Err.ensures.refused (search rules))) ∙ ap (λ r. Err r) (same_refusal NotToml e is)
