-- Reached nodes that spread until all that are joined to them are reached.
use Rattle.std.proofs.Common.{◌≡◌, ℕ, ◌+◌, ◌<◌, ◌≤◌, ◌==◌, List, [], ◌∷◌, length, get_or, arith, ap, sym, ◌∙◌, subst, inl, inr, eqb-true}
use Rattle.std.proofs.lemmas.Bool.{cases_eq}
use Rattle.std.proofs.lemmas.List.{length-append, get_or_append_left}
use Rattle.std.proofs.lemmas.List.Elements.{All-from_get_or, recursion_from_All}
use Rattle.gic_model.specs.Earthing.{IsJoined, IsChainToEarth}
use Rattle.gic_model.specs.Sums.{Placed}
use Rattle.gic_model.proofs.Members.{by_any}
use Rattle.gic_net.specs.Scratch.{IsReached}
use Rattle.gic_net.specs.Spread.{StartsAtEarth, IsSpread, GainsJoined}
use Rattle.gic_net.proofs.Members.{reached_more}
use Rattle.gic_net.proofs.Joined.{joined_turned, earthed_next}

module _ (all : List Placed) (old new : List ℕ) (k : ℕ) (gains : GainsJoined all k old new) where
  pub kept : (m : ℕ) → IsReached old m → IsReached new m
  kept m h = subst (λ (ns : List ℕ). IsReached ns m) (sym gains.at_the_end) (reached_more old gains.more m h)

  pub longer : length old ≤ length new
  longer = omega (arith, ap length gains.at_the_end, length-append old gains.more)

  same_at : (i : ℕ) → i < length old → get_or new i 0 ≡ get_or old i 0
  same_at i h = ap (λ (ns : List ℕ). get_or ns i 0) gains.at_the_end ∙ get_or_append_left old gains.more 0 i h

  -- what is joined to one more node
  pub starts_more : StartsAtEarth all old → IsReached old k → StartsAtEarth all new
  starts_more starts reached = record {
    earthed = λ m h. elim (gains.no_other m h) [ inl before ↦ starts.earthed m before | inr joined ↦ earthed_next all k m (starts.earthed k reached) joined ];
    from_earth = λ m h. kept m (starts.from_earth m h);
  }

  pub closed_more : (done : ℕ) → done < length old → k ≡ get_or old done 0 → ((i m : ℕ) → i < done → IsJoined all (get_or old i 0) m → IsReached old m) →
      (i m : ℕ) → i < done + 1 → IsJoined all (get_or new i 0) m → IsReached new m
  closed_more done inside is closed i m h joined = elim (cases_eq i done) [
    | inl e ↦ gains.each m (subst (λ (n : ℕ). IsJoined all n m) (ap (λ n. get_or new n 0) e ∙ same_at done inside ∙ sym is) joined)
    | inr other ↦ kept m (closed i m (omega arith) (subst (λ (n : ℕ). IsJoined all n m) (same_at i (omega arith)) joined))
  ]

-- all that are joined to the nodes in the list are reached
pub spread_of : (all : List Placed) (reached : List ℕ) (done : ℕ) → StartsAtEarth all reached → length reached ≤ done → ((i m : ℕ) → i < done → IsJoined all (get_or reached i 0) m → IsReached reached m) → IsSpread all reached
spread_of all reached done starts h closed = record {
  starts = starts;
  closed = λ k m is joined.
      by_any (λ x. x == k) (λ x. (n : ℕ) → IsJoined all x n → IsReached reached n)
      (λ x test each. each m (subst (λ (n : ℕ). IsJoined all n m) (sym (eqb-true x k test)) joined)) reached
      (recursion_from_All (λ x. (n : ℕ) → IsJoined all x n → IsReached reached n) reached
      (All-from_get_or (λ x. (n : ℕ) → IsJoined all x n → IsReached reached n) reached 0 (λ i inside n. closed i n (omega arith))))
      is;
}

-- each node from which a chain leads to earth is reached
pub all_reached : (all : List Placed) (reached : List ℕ) → IsSpread all reached → (k : ℕ) (over : List ℕ) → IsChainToEarth all k over → IsReached reached k
all_reached all reached spread k [] chain = spread.starts.from_earth k chain
all_reached all reached spread k (next ∷ rest) chain = spread.closed next k (all_reached all reached spread next rest chain.1) (joined_turned all k next chain.0)
