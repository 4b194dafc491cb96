use Rattle.std.proofs.Common.{sym}
use Rattle.gic_case.proofs.Table.{row_tenths}
use Rattle.gic_case.proofs.alpha.alpha_tenths.Goals as goal

pub returns-in-Some-clause-least : goal.returns-in-Some-clause-least
returns-in-Some-clause-least c = (row_tenths c.args.latitude c.in-Some.row (sym c.in-Some.ensures)).least

pub returns-in-Some-clause-most : goal.returns-in-Some-clause-most
returns-in-Some-clause-most c = (row_tenths c.args.latitude c.in-Some.row (sym c.in-Some.ensures)).most
