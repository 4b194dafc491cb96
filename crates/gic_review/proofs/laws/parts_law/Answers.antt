use Rattle.gic_review.proofs.PartLaws.{sizes_right, sizes_only}
use Rattle.gic_review.proofs.laws.parts_law.Goals as goal

pub returns : goal.returns
returns c = record { counted = sizes_right; no_others = λ network sizes limits h. sizes_only network limits sizes h }
