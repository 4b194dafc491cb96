-- A standing network as rows of conductances.
use Rattle.std.proofs.Common.{◌≡◌, ℕ, ◌*◌, ◌^◌, ◌≤◌, Bool, true, false, cond, ◌||◌, ◌==◌, List, [], ◌∷◌, length, map, All, ℤ, pos, ◌*ℤ◌, neg_ℤ, ◌≤ℤ◌, unsigned_abs, arith, refl, ap, sym, subst, ◌∙◌, inl, inr}
use Rattle.std.proofs.lemmas.Int.{ints, unsigned_abs-mul}
use Rattle.std.proofs.lemmas.List.Elements.{All-nil, All-cons}
use Rattle.std.specs.List.{AllByRecursion, filter, list_any}
use Rattle.gic_model.specs.declared.parts.End.{End}
use Rattle.gic_model.specs.declared.parts.End.TheVariants.{Node, Earth}
use Rattle.gic_model.specs.declared.parts.Item.{Item}
use Rattle.gic_model.specs.Network.{Network, ends_at}
use Rattle.gic_model.specs.Limits.{IsWithinLimits, IsElementWithin, most_volts}
use Rattle.gic_model.specs.Standing.{standing_elements, is_live, IsLive, elements_at, other_end, leaving}
use Rattle.gic_model.specs.Sums.{Placed}
use Rattle.gic_model.specs.Guess.{residual as residual_of, IsSettledAt}
use Rattle.gic_model.proofs.Members.{kept, some_kept}
use Rattle.gic_model.proofs.Ends.{standing_within, IsLiveEnd, others_live, within_at}
use Rattle.gic_enclose.proofs.Links.{Link, IsLiveRow, IsLinkWithin, AreRowsBound, residual, conductance}
use Rattle.gic_enclose.proofs.LinkSweeps.{IsRowSweep, IsRowTarget, AreRowsWithin, AreRoughRows, IsFarLive, most_push}
use Rattle.gic_sweep.specs.Sweep.{IsSweep, IsTarget}
use Rattle.gic_bound.specs.Entries.{IsBoundWithin}
use Rattle.gic_enclose.specs.Drive.{in_grains, AreRoughPotentials}
use Rattle.gic_enclose.proofs.LinksOfElements.{far_of, link_of, links_at, length_is, denominator_is, diagonal_is, conductance_is, row_sum_is, residual_is}

none_kept : {X : Type 0} (test : X → Bool) (xs : List X) → list_any test xs ≡ false → length (filter test xs) ≡ 0
none_kept test [] any = refl
none_kept test (x ∷ xs) any = by (none_kept test xs) (test x) refl
  where
    no_way : true ≡ false → ⊥
    no_way e = cc

    by : (list_any test xs ≡ false → length (filter test xs) ≡ 0) → (b : Bool) → test x ≡ b → length (cond b (x ∷ filter test xs) (filter test xs)) ≡ 0
    by later true is = absurd (no_way (sym (ap (λ b. b || list_any test xs) is) ∙ any))
    by later false is = later (sym (ap (λ b. b || list_any test xs) is) ∙ any)

-- a fact of each element is one of each link
each_link : (P : Link → Type 0) (volts : ℕ → ℤ) (k : ℕ) (ps : List Placed) → AllByRecursion (λ p. P (link_of volts k p)) ps → All P (map (link_of volts k) ps)
each_link P volts k [] h = All-nil P
each_link P volts k (p ∷ ps) h = All-cons P (link_of volts k p) (map (link_of volts k) ps) h.0 (each_link P volts k ps h.1)

module _ (network : Network) (stands : Item → Bool) (volts : ℕ → ℤ) (limits : IsWithinLimits network) where
  abbrev pub standing : List Placed
  standing = standing_elements network stands

  abbrev pub rows : ℕ → List Link
  rows = links_at standing volts

  pub ends : (k : ℕ) → AllByRecursion (λ p. ends_at p.1 k ≡ true) (elements_at standing k)
  ends k = kept (λ p. ends_at p.1 k) (λ p. IsElementWithin network.nodes p.1) (λ p. ends_at p.1 k ≡ true) (λ p is h. is) standing (standing_within network stands limits)

  each_at : (k : ℕ) → AllByRecursion (λ p. IsElementWithin network.nodes p.1) (elements_at standing k)
  each_at k = within_at network.nodes standing k (standing_within network stands limits)

  pub row_length : (k : ℕ) → length (rows k) ≡ length (elements_at standing k)
  row_length k = length_is volts k (elements_at standing k)

  pub live_row : (k : ℕ) → IsLive standing k → IsLiveRow rows k
  live_row k live = let some = some_kept (λ p. ends_at p.1 k) standing live in omega (arith, row_length k, some)

  pub dead_row : (k : ℕ) → is_live standing k ≡ false → length (rows k) ≡ 0
  dead_row k dead = row_length k ∙ none_kept (λ p. ends_at p.1 k) standing dead

  pub row_live : (k : ℕ) → IsLiveRow rows k → IsLive standing k
  row_live k some = by (is_live standing k) refl
    where
      by : (b : Bool) → is_live standing k ≡ b → IsLive standing k
      by true is = is
      by false is = absurd (omega (arith, dead_row k is, some))

  pub row_dead : (k : ℕ) → length (rows k) ≡ 0 → is_live standing k ≡ false
  row_dead k none = by (is_live standing k) refl
    where
      by : (b : Bool) → is_live standing k ≡ b → is_live standing k ≡ false
      by false is = is
      by true is = absurd (omega (arith, live_row k is, none))

  pub fits : AreRowsWithin rows
  fits = record {
    links = λ k. each_link IsLinkWithin volts k (elements_at standing k) (links k (elements_at standing k) (each_at k));
    ends = λ k. each_link (λ l. IsFarLive rows l.far) volts k (elements_at standing k) (far k (elements_at standing k) (others_live standing k));
  }
    where
      links : (k : ℕ) (ps : List Placed) → AllByRecursion (λ p. IsElementWithin network.nodes p.1) ps → AllByRecursion (λ p. IsLinkWithin (link_of volts k p)) ps
      links k [] h = tt
      links k (p ∷ ps) h =
          let three : p.1.times ≤ 3 = elim h.0.one_or_three [ inl one ↦ omega arith | inr three ↦ omega arith ] in
          let some : 1 ≤ p.1.times = elim h.0.one_or_three [ inl one ↦ omega arith | inr three ↦ omega arith ] in
          (record { resistance_least = h.0.least_ohm; resistance_most = h.0.most_ohm; numerator_least = omega arith; numerator_most = omega arith }, links k ps h.1)

      one_far : (e : End) → IsLiveEnd (is_live standing) e → IsFarLive rows (far_of e)
      one_far (Node m) live = live_row m.0 live
      one_far Earth live = tt

      far : (k : ℕ) (ps : List Placed) → AllByRecursion (λ p. IsLiveEnd (is_live standing) (other_end k p.1)) ps → AllByRecursion (λ p. IsFarLive rows (link_of volts k p).far) ps
      far k [] h = tt
      far k (p ∷ ps) h = (one_far (other_end k p.1) h.0, far k ps h.1)

  pub bound : (v : ℕ → ℕ) → IsBoundWithin standing 4096 v → AreRowsBound rows v
  bound v within = record {
    positive = λ k some. within.bound.live_above_0 k (row_live k some);
    within = within.none_above;
    row = λ k some. subst (λ (z : ℤ). pos 0 ≤ℤ z) (sym (row_sum_is volts v k (elements_at standing k))) (within.bound.rows k (row_live k some));
  }

  -- the definitions at a node
  residual_row : (x : ℕ → ℤ) (k : ℕ) → residual (rows k) x k ≡ pos (2 ^ 20) *ℤ residual_of standing volts x k
  residual_row x k = residual_is volts x k (elements_at standing k) (ends k)

  pub settled_at : (x : ℕ → ℤ) (k t : ℕ) → unsigned_abs (residual (rows k) x k) ≤ t * conductance (rows k) → IsSettledAt standing volts x t k
  settled_at x k t h =
      let g = conductance_is volts k (elements_at standing k) in
      let size = ap unsigned_abs g.1 in
      let whole = residual_row x k in
      let scaled : 2 ^ 20 * unsigned_abs (residual_of standing volts x k) ≤ 2 ^ 20 * (t * g.0) = omega (arith, ints, whole, ap (λ n. t * n) g.2, h) in
      subst (λ (n : ℕ). unsigned_abs (residual_of standing volts x k) ≤ t * n) (sym size) (omega (arith, scaled))

  pub rough : (potential : ℕ → ℤ) → AreRoughPotentials standing volts potential → AreRoughRows rows (in_grains potential)
  rough potential are_rough = record {
    within = λ k some.
        let most = are_rough.within k (row_live k some) in
        let size = unsigned_abs-mul (pos (2 ^ 36)) (potential k) in
        omega (arith, most, size);
    rough = λ k some.
        let g = conductance_is volts k (elements_at standing k) in
        let whole = residual_row (in_grains potential) k in
        let most : unsigned_abs (residual_of standing volts (in_grains potential) k) ≤ 2 ^ 36 * most_volts * g.0 = omega (arith, ints, are_rough.rough k (row_live k some), ap (λ z. 2 ^ 36 * most_volts * unsigned_abs z) g.1) in
        let times : most_push * conductance (rows k) ≡ most_push * (2 ^ 20 * g.0) = ap (λ n. most_push * n) g.2 in
        let size = unsigned_abs-mul (pos (2 ^ 20)) (residual_of standing volts (in_grains potential) k) in
        omega (arith, ap unsigned_abs whole, size, most, times);
  }

  target : (x : ℕ → ℤ) (k : ℕ) (t : ℤ) → IsTarget standing volts x k t → IsRowTarget (rows k) x k t
  target x k t h =
      let ps = elements_at standing k in
      rw (residual_is volts x k ps (ends k), denominator_is volts k ps, diagonal_is volts k ps, length_is volts k ps) h

  pub sweep : (x y : ℕ → ℤ) → IsSweep standing volts x y → IsRowSweep rows x y
  sweep x y s = record {
    live = λ k some. let t = (s k).live (row_live k some) in (t.0, target x k t.0 t.1, t.2);
    dead = λ k none. (s k).dead (row_dead k none);
  }
