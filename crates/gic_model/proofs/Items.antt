-- No two items have the same number, so items are one where they are equal.
use Rattle.std.proofs.Common.{◌≡◌, IsTrue, ◌↔◌, arith, ap, eqb-true, eq-eqb}
use Rattle.gic_model.specs.declared.parts.Item.{Item}
use Rattle.gic_model.specs.declared.parts.Item.TheVariants.{Ground, Line, Transformer, Neutral}
use Rattle.gic_model.specs.Standing.{item_number, is_item}

same_item : (a b : Item) → item_number a ≡ item_number b → a ≡ b
same_item (Ground a) (Ground b) same = ap Ground (omega arith)
same_item (Ground a) (Line b) same = absurd (omega arith)
same_item (Ground a) (Transformer b) same = absurd (omega arith)
same_item (Ground a) (Neutral b) same = absurd (omega arith)
same_item (Line a) (Ground b) same = absurd (omega arith)
same_item (Line a) (Line b) same = ap Line (omega arith)
same_item (Line a) (Transformer b) same = absurd (omega arith)
same_item (Line a) (Neutral b) same = absurd (omega arith)
same_item (Transformer a) (Ground b) same = absurd (omega arith)
same_item (Transformer a) (Line b) same = absurd (omega arith)
same_item (Transformer a) (Transformer b) same = ap Transformer (omega arith)
same_item (Transformer a) (Neutral b) same = absurd (omega arith)
same_item (Neutral a) (Ground b) same = absurd (omega arith)
same_item (Neutral a) (Line b) same = absurd (omega arith)
same_item (Neutral a) (Transformer b) same = absurd (omega arith)
same_item (Neutral a) (Neutral b) same = ap Neutral (omega arith)

pub one_where_equal : (a b : Item) → IsTrue (is_item a b) ↔ (a ≡ b)
one_where_equal a b = (λ one. same_item a b (eqb-true (item_number a) (item_number b) one), λ is. eq-eqb (item_number a) (item_number b) (ap item_number is))
