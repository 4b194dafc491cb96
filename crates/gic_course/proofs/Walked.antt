-- A walk over the epochs of a storm.
use Rattle.std.proofs.Common.{◌≡◌, ℕ, suc, ◌+◌, ◌-◌, ◌<◌, ◌≤◌, List, [], ◌∷◌, length, drop, get_or, drop-cons, refl, ap, sym, subst, ◌∙◌, arith, inl, inr}
use Rattle.std.specs.Prelude.{All, Any, Contains}
use Rattle.std.specs.List.{AllByRecursion}
use Rattle.std.proofs.lemmas.Bool.{cases_lt}
use Rattle.std.proofs.lemmas.List.Elements.{All-nil, All-cons, All-contains}
use Rattle.gic_storm.specs.Steps.{steps_in}
use Rattle.gic_switch.specs.declared.epoch.Epoch.{Epoch}
use Rattle.gic_switch.specs.Epochs.{Cover, HoldsIn, AreEpochs}
use Rattle.gic_stand.specs.Needs.{Solved, Fails, IsMet, IsUnmet}
use Rattle.gic_inputs.specs.Inputs.{rows_in}
use Rattle.gic_stand.specs.Standing.{IsSolvable}
use Rattle.gic_stand.specs.declared.fault.NetworkRefusal.{NetworkRefusal}
use Rattle.gic_inputs.specs.declared.inputs.StormInputs.{StormInputs}
use Rattle.gic_course.specs.Epochs.{HasStep, IsEpochOf}
use Rattle.gic_course.specs.Steps.{standing_at_step, storm_steps}
use Rattle.gic_course.proofs.StepsStand.{steps-length, stands_at}

-- the steps go on behind what epochs cover
cover_most : (from last : ℕ) (es : List Epoch) → Cover from last es → from ≤ last + 1
cover_most from last [] h = omega (arith, h)
cover_most from last (e ∷ es) h = let rest = cover_most (e.last + 1) last es h.2 in omega (arith, rest, h.1)

-- a step that epochs cover lies in one of them
pub has_epoch : (from last number : ℕ) (es : List Epoch) → Cover from last es → from ≤ number → number ≤ last → Any (HasStep number) es
has_epoch from last number [] h low high = absurd (omega (arith, h, low, high))
has_epoch from last number (e ∷ es) h low high =
    elim (cases_lt e.last number) [
      | inl later ↦ let rest = has_epoch (e.last + 1) last number es h.2 (omega (arith, later)) high in
          (suc rest.0, rest.1, omega (arith, rest.2), rest.3, rest.4)
      | inr here ↦ (0, e, omega arith, refl, record { from_first = omega (arith, h.0, low); to_last = omega (arith, here) })
    ]

module _ (inputs : StormInputs) where
  -- these epochs are left, and the steps before them can be solved
  pub record Walked (rest : List Epoch) : Type 0 where
    pub from : ℕ
    pub least : 1 ≤ from
    pub cover : Cover from (length (steps_in inputs.storm.rows)) rest
    pub in_force : AllByRecursion (HoldsIn inputs.storm.rows (rows_in inputs.switchings)) rest
    pub met : (number : ℕ) → 1 ≤ number → number < from → IsSolvable (standing_at_step inputs number)

  pub walk_begins : (es : List Epoch) → AreEpochs inputs.storm.rows (rows_in inputs.switchings) es → Walked es
  walk_begins es h = record {
    from = 1;
    least = omega arith;
    cover = h.cover;
    in_force = h.in_force;
    met = λ number least before. absurd (omega (arith, least, before));
  }

  -- the first of some that cover steps of the storm is an epoch of it
  epoch_of : (from : ℕ) (e : Epoch) (es : List Epoch) → 1 ≤ from → Cover from (length (steps_in inputs.storm.rows)) (e ∷ es) →
      HoldsIn inputs.storm.rows (rows_in inputs.switchings) e → IsEpochOf inputs e
  epoch_of from e es least cover in_force =
      let most = cover_most (e.last + 1) (length (steps_in inputs.storm.rows)) es cover.2 in
      record {
        some = omega (arith, cover.0, cover.1);
        least = omega (arith, cover.0, least);
        most = omega (arith, most);
        in_force = in_force;
      }

  -- so is the next one
  pub next_epoch : (e : Epoch) (es : List Epoch) → Walked (e ∷ es) → IsEpochOf inputs e
  next_epoch e es h = epoch_of h.from e es h.least h.cover h.in_force.0

  -- where it can be solved, the walk goes on
  pub walk_goes_on : (e : Epoch) (es : List Epoch) → Walked (e ∷ es) → ((number : ℕ) → HasStep number e → IsSolvable (standing_at_step inputs number)) → Walked es
  walk_goes_on e es h solvable = record {
    from = e.last + 1;
    least = omega arith;
    cover = h.cover.2;
    in_force = h.in_force.1;
    met = λ number least before. elim (cases_lt number h.from) [
      | inl earlier ↦ h.met number least earlier
      | inr here ↦ solvable number (record { from_first = omega (arith, h.cover.0, here); to_last = omega (arith, before) })
    ];
  }

  -- where none is left, all steps can be solved
  pub walk_ends : Walked [] → IsMet Solved (storm_steps inputs)
  walk_ends h place within =
      let inside : place < length (steps_in inputs.storm.rows) = omega (arith, within, steps-length inputs) in
      subst IsSolvable (sym (stands_at inputs place inside)) (h.met (suc place) (omega arith) (omega (arith, inside, h.cover)))

  -- where the next can't, its first step is the first that can't
  pub walk_stops : (e : Epoch) (es : List Epoch) (refusal : NetworkRefusal) → Walked (e ∷ es) → Fails Solved inputs.case e.first (standing_at_step inputs e.first) refusal →
      IsUnmet Solved inputs.case (storm_steps inputs) refusal
  walk_stops e es refusal h fails =
      let own = next_epoch e es h in
      let steps = length (steps_in inputs.storm.rows) in
      let at : suc (e.first - 1) ≡ e.first = omega (arith, own.least) in
      let inside : e.first - 1 < steps = omega (arith, own.least, own.some, own.most) in
      record {
        place = e.first - 1;
        within = omega (arith, inside, steps-length inputs);
        met_before = λ earlier before.
            let within : earlier < steps = omega (arith, before, inside) in
            subst IsSolvable (sym (stands_at inputs earlier within)) (h.met (suc earlier) (omega arith) (omega (arith, before, h.cover.0)));
        fails =
            subst (λ standing. Fails Solved inputs.case (suc (e.first - 1)) standing refusal) (sym (stands_at inputs (e.first - 1) inside))
            (subst (λ n. Fails Solved inputs.case n (standing_at_step inputs n) refusal) (sym at) fails);
      }

  -- the next one by its place
  pub walked_at : (es : List Epoch) (i : ℕ) (d : Epoch) → i < length es → Walked (drop i es) → Walked (get_or es i d ∷ drop (i + 1) es)
  walked_at es i d within h =
      let next : suc i ≡ i + 1 = omega arith in
      subst Walked (drop-cons es i d within ∙ ap (λ n. get_or es i d ∷ drop n es) next) h

  -- all epochs of the storm are
  each_left : (from : ℕ) (es : List Epoch) → 1 ≤ from → Cover from (length (steps_in inputs.storm.rows)) es →
      AllByRecursion (HoldsIn inputs.storm.rows (rows_in inputs.switchings)) es → All (IsEpochOf inputs) es
  each_left from [] least cover in_force = All-nil (IsEpochOf inputs)
  each_left from (e ∷ es) least cover in_force =
      All-cons (IsEpochOf inputs) e es (epoch_of from e es least cover in_force.0) (each_left (e.last + 1) es (omega arith) cover.2 in_force.1)

  pub each_epoch : (es : List Epoch) → AreEpochs inputs.storm.rows (rows_in inputs.switchings) es → All (IsEpochOf inputs) es
  each_epoch es h = each_left 1 es (omega arith) h.cover h.in_force

  -- one of them that is listed
  pub listed_epoch : (es lent : List Epoch) (e : Epoch) → lent ≡ es → AreEpochs inputs.storm.rows (rows_in inputs.switchings) es → Contains lent e → IsEpochOf inputs e
  listed_epoch es lent e same all listed = All-contains (IsEpochOf inputs) es e (each_epoch es all) (subst (λ (l : List Epoch). Contains l e) same listed)
