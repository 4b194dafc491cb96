-- Vectors that are held between two others, and what they have to do with capped ones.
use Rattle.std.proofs.Common.{◌≡◌, ℕ, zero, suc, ◌+◌, ◌-◌, ◌*◌, ◌<◌, ◌≤◌, min, max, List, length, map, set, sum, IsFalse, slice_index, ◌↔◌, arith, refl, ap, sym, subst, ◌∙◌, ⊎_elim}
use Rattle.std.specs.List.{AllByRecursion, range_with_len}
use Rattle.std.proofs.lemmas.Int.{ints}
use Rattle.std.proofs.lemmas.Bool.{cases_lt, cases_eq}
use Rattle.std.proofs.lemmas.List.{length-set, get_or_past, ext_get_or}
use Rattle.std.proofs.lemmas.List.FromFn.{length-map-range_with_len, get_or-map-range_with_len}
use Rattle.gic_model.specs.Limits.{IsElementWithin}
use Rattle.gic_model.specs.Standing.{is_live, IsLive, elements_at}
use Rattle.gic_model.specs.Sums.{Placed}
use Rattle.gic_model.specs.Bound.{MeetsRowRule, IsCappedVector, IsLeastCappedVector}
use Rattle.gic_model.proofs.Ends.{live_within, ohms_at_node, standing_within}
use Rattle.gic_bound.specs.Shares.{entries_where_live}
use Rattle.gic_bound.specs.Raising.{IsUnderCapped, IsTooSmall}
use Rattle.gic_bound.specs.Starting.{IsNotAbove, IsInRange, IsHeld, IsLeastHeld, IsUnderHeld, KeepsShifts, lowered, IsSunk, IsHeldAlone}
use Rattle.gic_bound.specs.StartLaws.{raised_at, RaisesKeepShifts, ShiftsLeadUnder, HeldAloneIsUnder, HeldAloneIsLeast, HeldIsCapped}
use Rattle.gic_bound.proofs.RowParts.{parts_le, parts_le_by}
use Rattle.gic_bound.proofs.Rising.{IsRaisedAt, IsEnough, raised_list, raised_sum, sum_most, live_or_dead, look, starts_under}

module _ (standing : List Placed) where
  entry_live : (f : ℕ → ℕ) (k : ℕ) → IsLive standing k → entries_where_live standing f k ≡ f k
  entry_live f k live = rw live refl

  entry_dead : (f : ℕ → ℕ) (k : ℕ) → IsFalse (is_live standing k) → entries_where_live standing f k ≡ 0
  entry_dead f k dead = rw dead refl

  -- one step down
  step_down : (v u : ℕ → ℕ) (d : ℕ) → IsInRange standing v → IsCappedVector standing u → KeepsShifts standing (lowered standing 1 v) v → IsNotAbove v (λ k. u k + suc d) → IsNotAbove v (λ k. u k + d)
  step_down v u d range capped keeps before = keeps u d capped (λ k. ⊎_elim
      (λ live. let e = entry_live (λ j. max (v j - 1) 1) k live in let h = before k in let some = capped.live_above_0 k live in omega (arith, e, h, some))
      (λ dead. let e = entry_dead (λ j. max (v j - 1) 1) k dead in omega (arith, e))
      (live_or_dead standing k))

  all_down : (v u : ℕ → ℕ) (d : ℕ) → IsInRange standing v → IsCappedVector standing u → KeepsShifts standing (lowered standing 1 v) v → IsNotAbove v (λ k. u k + d) → IsNotAbove v u
  all_down v u zero range capped keeps before k = let h = before k in omega (arith, h)
  all_down v u (suc d) range capped keeps before k = all_down v u d range capped keeps (step_down v u d range capped keeps before) k

  pub shifts_lead_under : (v : ℕ → ℕ) → IsInRange standing v → KeepsShifts standing (lowered standing 1 v) v → IsUnderCapped standing v
  shifts_lead_under v range keeps = record {
    live_above_0 = range.live_above_0;
    capped = range.capped;
    dead_0 = range.dead_0;
    under = λ u capped. all_down v u 4097 range capped keeps (λ k. let h = range.capped k in omega (arith, h));
  }

  lowered_below : (step : ℕ) (v : ℕ → ℕ) → IsInRange standing v → IsNotAbove (lowered standing step v) v
  lowered_below step v range k = ⊎_elim
      (λ live. let e = entry_live (λ j. max (v j - step) 1) k live in let some = range.live_above_0 k live in omega (arith, e, some))
      (λ dead. let e = entry_dead (λ j. max (v j - step) 1) k dead in omega (arith, e))
      (live_or_dead standing k)

  pub alone_held : (v : ℕ → ℕ) → IsInRange standing v → IsHeldAlone standing v → IsSunk standing 1 v v
  alone_held v range alone = record {
    itself = record { from_low = lowered_below 1 v range; to_cap = λ k. omega arith; rows = λ k live space. absurd (omega (arith, space)) };
    least = λ other held k. omega (arith, alone other held k);
  }

  lowered_less : (step : ℕ) (v : ℕ → ℕ) → 1 ≤ step → IsNotAbove (lowered standing step v) (lowered standing 1 v)
  lowered_less step v some k = ⊎_elim
      (λ live. let a = entry_live (λ j. max (v j - step) 1) k live in let b = entry_live (λ j. max (v j - 1) 1) k live in omega (arith, a, b, some))
      (λ dead. let a = entry_dead (λ j. max (v j - step) 1) k dead in omega (arith, a))
      (live_or_dead standing k)

  pub lowered_range : (step : ℕ) (v w : ℕ → ℕ) → ((k : ℕ) → v k ≤ 4097) → ((k : ℕ) → w k ≡ lowered standing step v k) → IsInRange standing w
  lowered_range step v w few is = record {
    live_above_0 = λ k live. let a = is k in let e = entry_live (λ j. max (v j - step) 1) k live in omega (arith, a, e);
    capped = λ k. let a = is k in let most = few k in ⊎_elim
        (λ live. let e = entry_live (λ j. max (v j - step) 1) k live in omega (arith, a, e, most))
        (λ dead. let e = entry_dead (λ j. max (v j - step) 1) k dead in omega (arith, a, e))
        (live_or_dead standing k);
    dead_0 = λ k dead. is k ∙ entry_dead (λ j. max (v j - step) 1) k dead;
  }

  -- a vector that sinks by some step to itself is held alone
  pub sunk_alone : (step : ℕ) (v : ℕ → ℕ) → 1 ≤ step → IsSunk standing step v v → IsHeldAlone standing v
  sunk_alone step v some sunk other held k =
      let low = lowered_less step v some in
      let above = sunk.least other (record { from_low = λ j. let a = low j in let b = held.from_low j in omega (arith, a, b); to_cap = held.to_cap; rows = held.rows }) k in
      let below = held.to_cap k in
      omega (arith, above, below)

  -- so a vector is held alone exactly where it sinks to itself
  pub alone_where_same : (vs ws : List ℕ) → length ws ≡ length vs → IsSunk standing 1 (slice_index vs) (slice_index ws) → ((ws ≡ vs) ↔ IsHeldAlone standing (slice_index vs))
  alone_where_same vs ws count sunk = (
    λ same. sunk_alone 1 (slice_index vs) (omega arith) (subst (λ (xs : List ℕ). IsSunk standing 1 (slice_index vs) (slice_index xs)) same sunk),
    λ alone. ext_get_or 0 ws vs count (λ k _. alone (slice_index ws) sunk.itself k),
  )

  pub sunk_range : (step : ℕ) (v w : ℕ → ℕ) → IsInRange standing v → IsSunk standing step v w → IsInRange standing w
  sunk_range step v w range sunk = record {
    live_above_0 = λ k live. let e = entry_live (λ j. max (v j - step) 1) k live in let a = sunk.itself.from_low k in omega (arith, e, a);
    capped = λ k. let a = sunk.itself.to_cap k in let b = range.capped k in omega (arith, a, b);
    dead_0 = λ k dead. let a = sunk.itself.to_cap k in let b = range.dead_0 k dead in omega (arith, a, b);
  }

  pub same_low : (low low2 cap v : ℕ → ℕ) → ((k : ℕ) → low2 k ≡ low k) → IsLeastHeld standing low2 cap v → IsLeastHeld standing low cap v
  same_low low low2 cap v same least = record {
    itself = record { from_low = λ k. let e = same k in let a = least.itself.from_low k in omega (arith, e, a); to_cap = least.itself.to_cap; rows = least.itself.rows };
    least = λ other held. least.least other (record { from_low = λ k. let e = same k in let a = held.from_low k in omega (arith, e, a); to_cap = held.to_cap; rows = held.rows });
  }

  -- ---- a cap of 4097

  pub full_range : (low cap v : ℕ → ℕ) → ((k : ℕ) → cap k ≡ entries_where_live standing (λ j. 4097) k) → IsInRange standing low → IsNotAbove low v → IsNotAbove v cap → IsInRange standing v
  full_range low cap v is range from_low to_cap = record {
    live_above_0 = λ k live. let a = range.live_above_0 k live in let b = from_low k in omega (arith, a, b);
    capped = λ k. let a = to_cap k in let e = is k in ⊎_elim
        (λ live. let f = entry_live (λ j. 4097) k live in omega (arith, a, e, f))
        (λ dead. let f = entry_dead (λ j. 4097) k dead in omega (arith, a, e, f))
        (live_or_dead standing k);
    dead_0 = λ k dead. let a = to_cap k in let e = is k in let f = entry_dead (λ j. 4097) k dead in omega (arith, a, e, f);
  }

  pub full_capped : (low cap v : ℕ → ℕ) → ((k : ℕ) → cap k ≡ entries_where_live standing (λ j. 4097) k) → IsInRange standing low → IsHeld standing low cap v → IsCappedVector standing v
  full_capped low cap v is range held =
      let in_range = full_range low cap v is range held.from_low held.to_cap in
      record {
        live_above_0 = in_range.live_above_0;
        capped = in_range.capped;
        dead_0 = in_range.dead_0;
        rows = λ k live space. let e = is k in let f = entry_live (λ j. 4097) k live in held.rows k live (omega (arith, e, f, space));
      }

  pub below_full : (v : ℕ → ℕ) → IsInRange standing v → IsNotAbove v (entries_where_live standing (λ j. 4097))
  below_full v range k = ⊎_elim
      (λ live. let f = entry_live (λ j. 4097) k live in let a = range.capped k in omega (arith, f, a))
      (λ dead. let a = range.dead_0 k dead in omega (arith, a))
      (live_or_dead standing k)

  pub full_few : (k : ℕ) → entries_where_live standing (λ j. 4097) k ≤ 4097
  full_few k = ⊎_elim
      (λ live. let f = entry_live (λ j. 4097) k live in omega (arith, f))
      (λ dead. let f = entry_dead (λ j. 4097) k dead in omega (arith, f))
      (live_or_dead standing k)

  pub under_range : (v : ℕ → ℕ) → IsUnderCapped standing v → IsInRange standing v
  under_range v under = record { live_above_0 = under.live_above_0; capped = under.capped; dead_0 = under.dead_0 }

  pub full_least : (low cap v : ℕ → ℕ) → ((k : ℕ) → cap k ≡ entries_where_live standing (λ j. 4097) k) → IsUnderCapped standing low → IsLeastHeld standing low cap v → IsLeastCappedVector standing v
  full_least low cap v is under least = record {
    itself = full_capped low cap v is (under_range low under) least.itself;
    least = λ other capped. least.least other (record {
      from_low = under.under other capped;
      to_cap = λ k. let e = is k in ⊎_elim
          (λ live. let f = entry_live (λ j. 4097) k live in let a = capped.capped k in omega (arith, e, f, a))
          (λ dead. let a = capped.dead_0 k dead in omega (arith, a))
          (live_or_dead standing k);
      rows = λ k live space. let e = is k in let f = entry_live (λ j. 4097) k live in capped.rows k live (omega (arith, e, f, space));
    });
  }

  -- ---- raising on

  pub starts_held : (cap v : ℕ → ℕ) → IsNotAbove v cap → IsUnderHeld standing v cap v
  starts_held cap v below = record { from_low = λ k. omega arith; to_cap = below; under = λ other held. held.from_low }

  held_on : (low low2 cap other : ℕ → ℕ) → IsHeld standing low cap other → IsNotAbove low2 other → IsHeld standing low2 cap other
  held_on low low2 cap other held from = record { from_low = from; to_cap = held.to_cap; rows = held.rows }

  pub under_on : (low cap v w : ℕ → ℕ) → IsUnderHeld standing low cap v → IsUnderHeld standing v cap w → IsUnderHeld standing low cap w
  under_on low cap v w before more = record {
    from_low = λ k. let a = before.from_low k in let b = more.from_low k in omega arith;
    to_cap = more.to_cap;
    under = λ other held. more.under other (held_on low v cap other held (before.under other held));
  }

  pub least_on : (low cap v w : ℕ → ℕ) → IsUnderHeld standing low cap v → IsLeastHeld standing v cap w → IsLeastHeld standing low cap w
  least_on low cap v w before more = record {
    itself = held_on v low cap w more.itself (λ k. let a = before.from_low k in let b = more.itself.from_low k in omega arith);
    least = λ other held. more.least other (held_on low v cap other held (before.under other held));
  }

module _ (nodes : ℕ) (standing : List Placed) (within : AllByRecursion (λ p. IsElementWithin nodes p.1) standing) where
  -- where no entry of v is above that of other and they have the same entry at k, v's row holds where other's does
  row_from : (v other : ℕ → ℕ) (k : ℕ) → IsNotAbove v other → other k ≤ v k → MeetsRowRule standing other k → MeetsRowRule standing v k
  row_from v other k below same holds =
      let order = parts_le v other k (elements_at standing k) (ohms_at_node nodes standing k within) below same in
      omega (arith, ints, holds, order)

  -- ---- raising under a cap

  below_held : (low cap v other : ℕ → ℕ) (k : ℕ) → IsUnderHeld standing low cap v → IsTooSmall standing cap v k → IsHeld standing low cap other → v k < other k
  below_held low cap v other k under small held =
      ⊎_elim (λ less. less)
      (λ same. absurd (small.row (row_from v other k (under.under other held) same (held.rows k small.live (omega (arith, same, small.space))))))
      (cases_lt (v k) (other k))

  -- an entry that is too small is raised
  pub raised_held : (low cap v w : ℕ → ℕ) (k : ℕ) → IsUnderHeld standing low cap v → IsTooSmall standing cap v k → IsRaisedAt v k w → IsUnderHeld standing low cap w
  raised_held low cap v w k under small raised = record {
    from_low = λ j. let before = under.from_low j in ⊎_elim
        (λ here. let same = ap v here.0 in omega (arith, here.1, before, same))
        (λ away. omega (arith, away.1, before))
        (raised j);
    to_cap = λ j. ⊎_elim
        (λ here. let same = ap cap here.0 in omega (arith, here.1, same, small.space))
        (λ away. let before = under.to_cap j in omega (arith, away.1, before))
        (raised j);
    under = λ other held j. ⊎_elim
        (λ here. let more = below_held low cap v other k under small held in let same = ap other here.0 in omega (arith, here.1, more, same))
        (λ away. let before = under.under other held j in omega (arith, away.1, before))
        (raised j);
  }

  -- where no entry is too small any more, the vector is the least held one
  pub least_held : (low cap v : ℕ → ℕ) → IsUnderHeld standing low cap v → ((k : ℕ) → k < nodes → IsEnough standing cap v k) → IsLeastHeld standing low cap v
  least_held low cap v under enough = record {
    itself = record {
      from_low = under.from_low;
      to_cap = under.to_cap;
      rows = λ k live space. enough k (live_within nodes standing k within live) live space;
    };
    least = under.under;
  }

  -- an entry of a list is raised
  module _ (low cap : ℕ → ℕ) (vs : List ℕ) (count : length vs ≡ nodes) (under : IsUnderHeld standing low cap (slice_index vs)) (k : ℕ) (small : IsTooSmall standing cap (slice_index vs) k) where
    within_list : k < length vs
    within_list = omega (arith, live_within nodes standing k within small.live, count)

    pub up_held : IsUnderHeld standing low cap (slice_index (set vs k (slice_index vs k + 1)))
    up_held = raised_held low cap (slice_index vs) (slice_index (set vs k (slice_index vs k + 1))) k under small (raised_list vs k within_list)

    pub up_held_sum : sum (set vs k (slice_index vs k + 1)) ≡ sum vs + 1
    up_held_sum = raised_sum vs k within_list

    pub up_held_count : length (set vs k (slice_index vs k + 1)) ≡ nodes
    up_held_count = length-set vs k (slice_index vs k + 1) ∙ count

  -- ---- shifts

  -- a capped vector and d more, cut at the cap, is held
  shifted_held : (low cap u : ℕ → ℕ) (d : ℕ) → ((k : ℕ) → cap k ≤ 4097) → IsNotAbove low cap → IsCappedVector standing u → IsNotAbove low (λ k. u k + d) → IsHeld standing low cap (λ k. min (u k + d) (cap k))
  shifted_held low cap u d most to_cap capped below = record {
    from_low = λ k. let a = to_cap k in let b = below k in omega arith;
    to_cap = λ k. omega arith;
    rows = λ k live space.
        let few = most k in
        let holds = capped.rows k live (omega (arith, space, few)) in
        let order = parts_le_by d (λ m. min (u m + d) (cap m)) u k (elements_at standing k) (ohms_at_node nodes standing k within) (λ m. omega arith) (omega (arith, space)) in
        omega (arith, ints, holds, order);
  }

  pub keeps_shifts : (low cap v : ℕ → ℕ) → ((k : ℕ) → cap k ≤ 4097) → IsLeastHeld standing low cap v → KeepsShifts standing low v
  keeps_shifts low cap v most least u d capped below k =
      let to_cap = λ (j : ℕ). let a = least.itself.from_low j in let b = least.itself.to_cap j in let c : low j ≤ cap j = omega arith in c in
      let held = shifted_held low cap u d most to_cap capped below in
      let h = least.least (λ j. min (u j + d) (cap j)) held k in
      omega (arith, h)

  -- one raise
  pub raise_keeps : (v : ℕ → ℕ) (k : ℕ) → IsTooSmall standing (λ j. 4097) v k → KeepsShifts standing v (raised_at k v)
  raise_keeps v k small u d capped below j =
      let before = below j in
      ⊎_elim
      (λ same. let e = ap v same in let f = ap u same in
      ⊎_elim
      (λ less. at_node same (omega (arith, less, e, f)))
      (λ more.
      let holds = capped.rows k small.live (omega (arith, more, small.space)) in
      let order = parts_le_by d v u k (elements_at standing k) (ohms_at_node nodes standing k within) below more in
      absurd (small.row (omega (arith, ints, holds, order))))
      (cases_lt (v k) (u k + d)))
      (λ other. elsewhere other before)
      (cases_eq j k)
    where
      at_node : j ≡ k → v j + 1 ≤ u j + d → raised_at k v j ≤ u j + d
      at_node same h = grind (arith, h)

      elsewhere : (j ≡ k → ⊥) → v j ≤ u j + d → raised_at k v j ≤ u j + d
      elsewhere other h = grind (arith, h)

  -- ---- vectors held alone

  pub alone_under : (v : ℕ → ℕ) → IsInRange standing v → IsHeldAlone standing v → IsUnderCapped standing v
  alone_under v range alone = shifts_lead_under standing v range (keeps_shifts (lowered standing 1 v) v v range.capped (alone_held standing v range alone))

  -- what is held from a vector in range up to a capped vector is capped
  pub held_capped : (low v w : ℕ → ℕ) → IsInRange standing low → IsCappedVector standing v → IsHeld standing low v w → IsCappedVector standing w
  held_capped low v w range capped held = record {
    live_above_0 = λ k live. let a = range.live_above_0 k live in let h = held.from_low k in omega (arith, a, h);
    capped = λ k. let a = held.to_cap k in let b = capped.capped k in omega (arith, a, b);
    dead_0 = λ k dead. let a = held.to_cap k in let b = capped.dead_0 k dead in omega (arith, a, b);
    rows = λ k live space. ⊎_elim
        (λ less. held.rows k live less)
        (λ same. row_from w v k held.to_cap same (capped.rows k live (let a = held.to_cap k in omega (arith, a, same, space))))
        (cases_lt (w k) (v k));
  }

  pub sunk_capped : (step : ℕ) (v w : ℕ → ℕ) → IsCappedVector standing v → IsHeld standing (lowered standing step v) v w → IsCappedVector standing w
  sunk_capped step v w capped held = held_capped (lowered standing step v) v w (lowered_range standing step v (lowered standing step v) capped.capped (λ k. refl)) capped held

  range_of : (v : ℕ → ℕ) → IsCappedVector standing v → IsInRange standing v
  range_of v capped = record { live_above_0 = capped.live_above_0; capped = capped.capped; dead_0 = capped.dead_0 }

  pub alone_least : (v : ℕ → ℕ) → IsCappedVector standing v → (IsHeldAlone standing v ↔ IsLeastCappedVector standing v)
  alone_least v capped = (
    λ alone. record { itself = capped; least = (alone_under v (range_of v capped) alone).under },
    λ least other held k.
        let below = least.least other (sunk_capped 1 v other capped held) k in
        let above = held.to_cap k in
        omega (arith, below, above),
  )

  -- ---- lists of entries

  -- entries at the nodes are those at all places, since no other place is live
  pub entries_by : (f : ℕ → ℕ) (vs : List ℕ) → length vs ≡ nodes → ((k : ℕ) → k < nodes → slice_index vs k ≡ entries_where_live standing f k) → (k : ℕ) → slice_index vs k ≡ entries_where_live standing f k
  entries_by f vs count each k =
      ⊎_elim (λ inside. each k inside)
      (λ past. ⊎_elim
      (λ live. absurd (omega (arith, live_within nodes standing k within live, past)))
      (λ dead. get_or_past vs k 0 (omega (arith, count, past)) ∙ sym (entry_dead standing f k dead))
      (live_or_dead standing k))
      (cases_lt k nodes)

  pub ones_under : (v : ℕ → ℕ) → ((k : ℕ) → v k ≡ entries_where_live standing (λ j. 1) k) → IsUnderCapped standing v
  ones_under v is = starts_under nodes standing within v (λ k h. is k) (λ k past. ⊎_elim
      (λ live. absurd (omega (arith, live_within nodes standing k within live, past)))
      (λ dead. is k ∙ entry_dead standing (λ j. 1) k dead)
      (live_or_dead standing k))

  -- a capped vector that sinks by some step to itself is the least one
  pub sunk_least : (step : ℕ) (v : ℕ → ℕ) → 1 ≤ step → IsCappedVector standing v → IsSunk standing step v v → IsLeastCappedVector standing v
  sunk_least step v some capped sunk = (alone_least v capped).0 (sunk_alone standing step v some sunk)

  -- ---- raising ends, since each raise takes one off the space that is left

  module _ (low cap : ℕ → ℕ) (few : (k : ℕ) → cap k ≤ 4097) where
    climb : (space : ℕ) (vs : List ℕ) → length vs ≡ nodes → IsUnderHeld standing low cap (slice_index vs) → nodes * 4097 ≤ sum vs + space → (v : ℕ → ℕ) × IsLeastHeld standing low cap v
    climb zero vs count under h =
        ⊎_elim
        (λ enough. (slice_index vs, least_held low cap (slice_index vs) under enough))
        (λ small.
        let more = up_held low cap vs count under small.0 small.1 in
        let most = sum_most (set vs small.0 (slice_index vs small.0 + 1)) (λ k. let a = more.to_cap k in let b = few k in omega (arith, a, b)) in
        let same : length (set vs small.0 (slice_index vs small.0 + 1)) * 4097 ≡ nodes * 4097 = ap (λ n. n * 4097) (up_held_count low cap vs count under small.0 small.1) in
        absurd (omega (arith, most, same, up_held_sum low cap vs count under small.0 small.1, h)))
        (look standing cap (slice_index vs) nodes)
    climb (suc space) vs count under h =
        ⊎_elim
        (λ enough. (slice_index vs, least_held low cap (slice_index vs) under enough))
        (λ small. climb space (set vs small.0 (slice_index vs small.0 + 1)) (up_held_count low cap vs count under small.0 small.1) (up_held low cap vs count under small.0 small.1) (omega (arith, up_held_sum low cap vs count under small.0 small.1, h)))
        (look standing cap (slice_index vs) nodes)

  first_entries : List ℕ
  first_entries = map (entries_where_live standing (λ j. 1)) (range_with_len 0 nodes)

  first_is : (k : ℕ) → slice_index first_entries k ≡ entries_where_live standing (λ j. 1) k
  unfolding first_entries
  first_is = entries_by (λ j. 1) first_entries (length-map-range_with_len (entries_where_live standing (λ j. 1)) 0 nodes)
      (λ k h. get_or-map-range_with_len (entries_where_live standing (λ j. 1)) 0 nodes k k 0 h (omega arith))

  -- there is a least capped vector
  pub least_exists : (v : ℕ → ℕ) × IsLeastCappedVector standing v
  unfolding first_entries
  least_exists =
      let cap = entries_where_live standing (λ j. 4097) in
      let below : IsNotAbove (slice_index first_entries) cap = λ k. let is = first_is k in ⊎_elim
      (λ live. let e = entry_live standing (λ j. 1) k live in let f = entry_live standing (λ j. 4097) k live in omega (arith, is, e, f))
      (λ dead. let e = entry_dead standing (λ j. 1) k dead in omega (arith, is, e))
      (live_or_dead standing k) in
      let held = climb (slice_index first_entries) cap (full_few standing) (nodes * 4097) first_entries (length-map-range_with_len (entries_where_live standing (λ j. 1)) 0 nodes) (starts_held standing cap (slice_index first_entries) below) (omega arith) in
      (held.0, full_least standing (slice_index first_entries) cap held.0 (λ k. refl) (ones_under (slice_index first_entries) first_is) held.1)

pub raises_keep_shifts : RaisesKeepShifts
raises_keep_shifts network stands v k limits small = raise_keeps network.nodes _ (standing_within network stands limits) v k small

pub shifts_law : ShiftsLeadUnder
shifts_law network stands v range keeps = shifts_lead_under _ v range keeps

pub alone_is_under : HeldAloneIsUnder
alone_is_under network stands v limits range alone = alone_under network.nodes _ (standing_within network stands limits) v range alone

pub alone_is_least : HeldAloneIsLeast
alone_is_least network stands v limits capped = alone_least network.nodes _ (standing_within network stands limits) v capped

pub held_is_capped : HeldIsCapped
held_is_capped network stands low v w limits range capped held = held_capped network.nodes _ (standing_within network stands limits) low v w range capped held
