use Rattle.std.proofs.Common.{◌≡◌, ◌<◌, ◌≤◌, ◌+◌, ℕ, length, get_or}
use Rattle.gic_net.specs.Row.{item_number_at}
use Rattle.gic_net.specs.ItemIndex.{IsNextOf}
use Rattle.gic_net.proofs.item_index.index_items.Given as goal

abbrev pub invariant-loop-place : goal.invariant-loop-place
invariant-loop-place l = record {
  numbers : (p : ℕ) → p < length l.list → item_number_at l.list p < length l.first.items;
  firsts : (n : ℕ) → n < length l.first.items → IsNextOf l.list n l.place (get_or l.first.items n 0);
  next_count : length l.next.items ≡ length l.list;
  nexts : (p : ℕ) → l.place ≤ p → p < length l.list → IsNextOf l.list (item_number_at l.list p) (p + 1) (get_or l.next.items p 0);
}
