-- Rows of all elements, as they are built element by element.
use Rattle.std.proofs.Common.{◌≡◌, ℕ, suc, ◌+◌, ◌<◌, Bool, true, false, cond, List, [], ◌∷◌, ◌++◌, length, map, take, get_or, arith, refl, ap, sym, ◌∙◌}
use Rattle.std.proofs.Math.Nat.{add-zero}
use Rattle.std.proofs.lemmas.List.{append-nil, take_more, length-take-le}
use Rattle.std.specs.List.{filter, enumerate_from}
use Rattle.gic_model.specs.declared.parts.Element.{Element}
use Rattle.gic_model.specs.Network.{ends_at}
use Rattle.gic_net.specs.Row.{NodeRow, full_row}
use Rattle.gic_net.specs.Rows.{node_row_at, places_from, AreFullRows, ArePushedAt}

-- one more element at the end
places_from-push : (i : ℕ) (xs : List Element) (e : Element) (k : ℕ) → places_from i (xs ++ e ∷ []) k ≡ places_from i xs k ++ cond (ends_at e k) ((i + length xs) ∷ []) []
places_from-push i [] e k = by (ends_at e k)
  where
    by : (b : Bool) → map (λ (p : ℕ × Element). p.0) (cond b ((i, e) ∷ []) []) ≡ cond b ((i + 0) ∷ []) []
    by true = ap (λ n. n ∷ []) (sym (add-zero i))
    by false = refl
places_from-push i (x ∷ xs) e k = by (ends_at x k) (ends_at e k) (places_from-push (i + 1) xs e k)
  where
    at : (c : Bool) → cond c ((i + 1 + length xs) ∷ []) [] ≡ cond c ((i + suc (length xs)) ∷ []) []
    at c = let same : i + 1 + length xs ≡ i + suc (length xs) = omega arith in ap (λ n. cond c (n ∷ []) []) same

    by : (b c : Bool) → places_from (i + 1) (xs ++ e ∷ []) k ≡ places_from (i + 1) xs k ++ cond c ((i + 1 + length xs) ∷ []) [] →
        map (λ (p : ℕ × Element). p.0) (cond b ((i, x) ∷ filter (λ p. ends_at p.1 k) (enumerate_from (i + 1) (xs ++ e ∷ []))) (filter (λ p. ends_at p.1 k) (enumerate_from (i + 1) (xs ++ e ∷ []))))
        ≡ map (λ (p : ℕ × Element). p.0) (cond b ((i, x) ∷ filter (λ p. ends_at p.1 k) (enumerate_from (i + 1) xs)) (filter (λ p. ends_at p.1 k) (enumerate_from (i + 1) xs))) ++ cond c ((i + suc (length xs)) ∷ []) []
    by true c rest = ap (λ (ps : List ℕ). i ∷ ps) (rest ∙ ap (λ (ps : List ℕ). places_from (i + 1) xs k ++ ps) (at c))
    by false c rest = rest ∙ ap (λ (ps : List ℕ). places_from (i + 1) xs k ++ ps) (at c)

-- the rows after one more element
pub full_more : (nodes : ℕ) (list : List Element) (place : ℕ) (d : Element) (old lent new : List NodeRow) → place < length list →
    AreFullRows nodes (take place list) old → lent ≡ old → ArePushedAt (get_or list place d) place lent new → AreFullRows nodes (take (place + 1) list) new
full_more nodes list place d old lent new inside full same pushed = record {
  count = omega (arith, full.count, pushed.count, ap length same);
  each = λ k h.
      let e = get_or list place d in
      let row = ap (λ (rows : List NodeRow). node_row_at rows k) same ∙ full.each k h in
      let now = pushed.each k (omega (arith, full.count, ap length same)) in
      let more : places_from 0 (take (place + 1) list) k ≡ places_from 0 (take place list) k ++ cond (ends_at e k) (place ∷ []) [] =
      ap (λ (xs : List Element). places_from 0 xs k) (take_more list place d inside) ∙ places_from-push 0 (take place list) e k ∙
      ap (λ n. places_from 0 (take place list) k ++ cond (ends_at e k) (n ∷ []) []) (omega (arith, length-take-le place list (omega arith))) in
      now ∙ by (node_row_at lent k) (places_from 0 (take place list) k) (ends_at e k) row ∙ ap full_row (sym more);
}
  where
    by : (r : NodeRow) (ps : List ℕ) (b : Bool) → r ≡ full_row ps → cond b (full_row (r.all ++ place ∷ [])) r ≡ full_row (ps ++ cond b (place ∷ []) [])
    by r ps true row = ap (λ (x : NodeRow). full_row (x.all ++ place ∷ [])) row
    by r ps false row = row ∙ ap full_row (sym (append-nil ps))
