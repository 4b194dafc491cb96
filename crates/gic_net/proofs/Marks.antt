-- Marks beside the list of the marked nodes.
use Rattle.std.proofs.Common.{◌≡◌, ◌⊎◌, ℕ, zero, suc, ◌+◌, ◌<◌, Bool, true, false, cond, ◌||◌, ◌==◌, List, [], ◌∷◌, ◌++◌, length, take, get_or, set, replicate, All, arith, refl, ap, sym, ◌∙◌, subst, inl, inr, eq-eqb}
use Rattle.std.proofs.lemmas.Bool.{ne_eqb, cases_eq, or_right}
use Rattle.std.proofs.lemmas.List.{length-set, length-replicate, get_or-set_same, get_or-set_other, take_more_set}
use Rattle.std.proofs.lemmas.List.Elements.{All-push}
use Rattle.std.proofs.lemmas.List.Folds.{list_any-append}
use Rattle.std.proofs.lemmas.List.Sums.{sum_by-cons, sum_by-set, count_by-le-length}
use Rattle.std.specs.List.{count_by}
use Rattle.gic_net.proofs.OpenSet.{no_mark}
use Rattle.gic_net.specs.Scratch.{ScratchView, IsMarked, is_reached, with_node}

none_counted : (n : ℕ) → count_by (λ mark. mark) (replicate n false) ≡ 0
none_counted zero = refl
none_counted (suc n) = omega (arith, sum_by-cons (λ mark. cond mark 1 0) false (replicate n false), none_counted n)

-- no marks
pub marked_none : (n : ℕ) (queue : List ℕ) → length queue ≡ n → IsMarked (replicate n false) queue 0
marked_none n queue h = record {
  space = h ∙ sym (length-replicate n false);
  counted = none_counted n;
  marked = λ k _. no_mark n k;
  inside = λ k d h. absurd (omega arith);
}

or_false : (b : Bool) → (b || (false || false)) ≡ b
or_false true = refl
or_false false = refl

-- one more mark
module _ (marks : List Bool) (queue : List ℕ) (count node : ℕ) (h : IsMarked marks queue count) (inside : node < length marks) (is : get_or marks node false ≡ false) where
  no_one : ◌≡◌ {A = ℕ} (cond (get_or marks node false) 1 0) 0
  no_one = by (get_or marks node false) is
    where
      by : (b : Bool) → b ≡ false → ◌≡◌ {A = ℕ} (cond b 1 0) 0
      by true e = cc
      by false e = refl

  one_more : count_by (λ mark. mark) (set marks node true) ≡ count + 1
  one_more = omega (arith, sum_by-set (λ mark. cond mark 1 0) marks node true false inside, no_one, h.counted)

  pub space_left : count < length queue
  space_left = omega (arith, one_more, count_by-le-length (λ mark. mark) (set marks node true), length-set marks node true, h.space)

  pub taken : take (count + 1) (set queue count node) ≡ take count queue ++ node ∷ []
  taken = take_more_set queue count node space_left

  mark_is : (k : ℕ) → k < length marks → get_or (set marks node true) k false ≡ is_reached (take count queue ++ node ∷ []) k
  mark_is k within = by (cases_eq k node) ∙ sym (list_any-append (λ m. m == k) (take count queue) (node ∷ []))
    where
      by : (k ≡ node) ⊎ (k ≡ node → ⊥) → get_or (set marks node true) k false ≡ (is_reached (take count queue) k || ((node == k) || false))
      by (inl e) =
          ap (λ n. get_or (set marks node true) n false) e ∙ get_or-set_same marks node true false inside ∙
          sym (ap (λ b. is_reached (take count queue) k || (b || false)) (eq-eqb node k (sym e)) ∙ or_right (is_reached (take count queue) k) true refl)
      by (inr other) =
          get_or-set_other marks node k true false other ∙ h.marked k within ∙ sym (ap (λ b. is_reached (take count queue) k || (b || false)) (ne_eqb node k (λ e. other (sym e))) ∙ or_false (is_reached (take count queue) k))

  pub marked_more : IsMarked (set marks node true) (set queue count node) (count + 1)
  marked_more = record {
    space = length-set queue count node ∙ h.space ∙ sym (length-set marks node true);
    counted = one_more;
    marked = λ k within. mark_is k (omega (arith, length-set marks node true)) ∙ ap (λ (ns : List ℕ). is_reached ns k) (sym taken);
    inside =
        subst (λ (ns : List ℕ). All (λ k. k < length (set marks node true)) ns) (sym taken)
        (subst (λ (n : ℕ). All (λ k. k < n) (take count queue ++ node ∷ [])) (sym (length-set marks node true)) (All-push (λ k. k < length marks) (take count queue) node h.inside inside));
  }

  pub seen_more : ◌≡◌ {A = ScratchView} (record { nodes = length (set marks node true); reached = take (count + 1) (set queue count node) })
      (record { nodes = length marks; reached = with_node (take count queue) node })
  seen_more =
      ap (λ n. record { nodes = n; reached = take (count + 1) (set queue count node) }) (length-set marks node true) ∙
      ap (λ (ns : List ℕ). record { nodes = length marks; reached = ns })
      (taken ∙ sym (ap (λ b. cond b (take count queue) (take count queue ++ node ∷ [])) (sym (h.marked node inside) ∙ is)))
