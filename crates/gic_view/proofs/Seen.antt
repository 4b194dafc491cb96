-- The peaks with one more view.
use Rattle.std.proofs.Common.{◌≡◌, ℕ, ◌<◌, List, [], ◌∷◌, ◌++◌, length, slice_index_or, Option, None, Some, option_map, unwrap_or, ◌≤ℤ◌, sym, ap, ◌∙◌, subst}
use Rattle.std.proofs.lemmas.List.Elements.{All-push, All-weaker}
use Rattle.gic_fixed.specs.Ends.{Ends, zero_ends}
use Rattle.gic_view.specs.View.{View, node_at, element_at, effective_at}
use Rattle.gic_view.specs.Peaks.{greater, greater_ends, peak_of, shown_of_transformer, HasLengthsOf, IsPeaksOf}
use Rattle.gic_view.specs.Absolute.{absolute_ends}
use Rattle.gic_view.proofs.PeakSteps.{peak-push_shown, unwrapped}

-- what a view adds to each list of peaks
pub record IsSeen (before view after : View) : Type 0 where
  pub lengths : HasLengthsOf before after
  pub nodes : (k : ℕ) → k < length before.nodes → node_at after k ≡ greater (node_at before k) (option_map absolute_ends (node_at view k))
  pub elements : (k : ℕ) → k < length before.elements → element_at after k ≡ greater (element_at before k) (option_map absolute_ends (element_at view k))
  pub transformers : (t : ℕ) → t < length before.effective → effective_at after t ≡ greater_ends (effective_at before t) (absolute_ends (effective_at view t))
  pub ordered : (t : ℕ) → t < length before.effective → (effective_at view t).low ≤ℤ (effective_at view t).high

lengths_of_after : (before after view : View) → HasLengthsOf before after → HasLengthsOf before view → HasLengthsOf after view
lengths_of_after before after view h v = record {
  nodes = v.nodes ∙ sym h.nodes;
  elements = v.elements ∙ sym h.elements;
  transformers = v.transformers ∙ sym h.transformers;
}

pub peaks_seen : (views : List View) (before view after : View) → HasLengthsOf before view → IsSeen before view after → IsPeaksOf views before → IsPeaksOf (views ++ view ∷ []) after
peaks_seen views before view after fits seen peaks = record {
  lengths = All-push (HasLengthsOf after) views view
      (All-weaker (HasLengthsOf before) (HasLengthsOf after) (λ v. lengths_of_after before after v seen.lengths) views peaks.lengths)
      (lengths_of_after before after view seen.lengths fits);
  nodes = λ k inside.
      let within = subst (λ n. k < n) seen.lengths.nodes inside in
      seen.nodes k within
      ∙ ap (λ (o : Option Ends). greater o (option_map absolute_ends (node_at view k))) (peaks.nodes k within)
      ∙ sym (peak-push_shown (λ v. node_at v k) views view);
  elements = λ k inside.
      let within = subst (λ n. k < n) seen.lengths.elements inside in
      seen.elements k within
      ∙ ap (λ (o : Option Ends). greater o (option_map absolute_ends (element_at view k))) (peaks.elements k within)
      ∙ sym (peak-push_shown (λ v. element_at v k) views view);
  transformers = λ t inside.
      let within = subst (λ n. t < n) seen.lengths.transformers inside in
      seen.transformers t within
      ∙ ap (λ (e : Ends). greater_ends e (absolute_ends (effective_at view t))) (peaks.transformers t within)
      ∙ unwrapped (peak_of (shown_of_transformer views t)) (effective_at view t) (seen.ordered t within)
      ∙ ap (λ (o : Option Ends). unwrap_or o zero_ends) (sym (peak-push_shown (λ v. Some (effective_at v t)) views view));
}

-- the three lists one after the other
pub seen_in_turn : (before view one two after : View) →
    one ≡ record before { nodes = one.nodes } → two ≡ record one { elements = two.elements } → after ≡ record two { effective = after.effective } →
    length one.nodes ≡ length before.nodes → length two.elements ≡ length one.elements → length after.effective ≡ length two.effective →
    ((k : ℕ) → k < length before.nodes → node_at one k ≡ greater (node_at before k) (option_map absolute_ends (node_at view k))) →
    ((k : ℕ) → k < length one.elements → element_at two k ≡ greater (element_at one k) (option_map absolute_ends (element_at view k))) →
    ((t : ℕ) → t < length two.effective → effective_at after t ≡ greater_ends (effective_at two t) (absolute_ends (effective_at view t))) →
    ((t : ℕ) → t < length two.effective → (effective_at view t).low ≤ℤ (effective_at view t).high) →
    IsSeen before view after
seen_in_turn before view one two after first second third node_count element_count transformer_count nodes elements transformers ordered =
    let after_nodes : after.nodes ≡ one.nodes = ap (λ v. v.nodes) third ∙ ap (λ v. v.nodes) second in
    let after_elements : after.elements ≡ two.elements = ap (λ v. v.elements) third in
    let one_elements : one.elements ≡ before.elements = ap (λ v. v.elements) first in
    let two_effective : two.effective ≡ before.effective = ap (λ v. v.effective) second ∙ ap (λ v. v.effective) first in
    record {
      lengths = record {
        nodes = ap length after_nodes ∙ node_count;
        elements = ap length after_elements ∙ element_count ∙ ap length one_elements;
        transformers = transformer_count ∙ ap length two_effective;
      };
      nodes = λ k inside. ap (λ xs. slice_index_or xs k None) after_nodes ∙ nodes k inside;
      elements = λ k inside.
          ap (λ xs. slice_index_or xs k None) after_elements
          ∙ subst (λ xs. element_at two k ≡ greater (slice_index_or xs k None) (option_map absolute_ends (element_at view k))) one_elements
          (elements k (subst (λ xs. k < length xs) (sym one_elements) inside));
      transformers = λ t inside.
          subst (λ xs. effective_at after t ≡ greater_ends (slice_index_or xs t zero_ends) (absolute_ends (effective_at view t))) two_effective
          (transformers t (subst (λ xs. t < length xs) (sym two_effective) inside));
      ordered = λ t inside. ordered t (subst (λ xs. t < length xs) (sym two_effective) inside);
    }
