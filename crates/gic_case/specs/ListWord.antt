-- How the lists of a case are named.
use Rattle.std.specs.Prelude.{ℕ, List, codes}
use Rattle.gic_case.specs.declared.case_list.CaseList.{CaseList}
use Rattle.gic_case.specs.declared.case_list.CaseList.TheVariants as lists

-- the key of a list in the document, by which fault lines and reports name it too; the document itself goes by `case`
abbrev pub list_word : CaseList → List ℕ
list_word lists.Document = codes "case"
list_word lists.Zone = codes "zone"
list_word lists.Substation = codes "substation"
list_word lists.Bus = codes "bus"
list_word lists.Line = codes "line"
list_word lists.Transformer = codes "transformer"
