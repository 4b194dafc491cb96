-- The certificate of settled guesses.
use Rattle.std.proofs.Common.{◌≡◌, ℕ, zero, suc, ◌*◌, ◌^◌, ◌<◌, ◌≤◌, Bool, true, false, cond, List, length, ℤ, pos, unsigned_abs, slice_index, arith, refl, ap, sym, subst, ◌∙◌, ⊎_elim, mul-le-mul}
use Rattle.std.specs.Option.{is_some}
use Rattle.std.proofs.lemmas.Bool.{cases_lt}
use Rattle.std.proofs.lemmas.List.{get_or_past}
use Rattle.gic_base.specs.declared.limits.TheConstants.{MOST_FIELD, MOST_WALK}
use Rattle.gic_model.specs.Limits.{IsWithinLimits}
use Rattle.gic_model.specs.Standing.{is_live, IsLive}
use Rattle.gic_model.specs.Bound.{IsBoundVector}
use Rattle.gic_model.specs.Guess.{IsSettled}
use Rattle.gic_model.specs.Voltages.{number_at}
use Rattle.gic_model.proofs.Ends.{live_within, standing_within}
use Rattle.gic_net.specs.Net.{NetView, standing, stands}
use Rattle.gic_sweep.specs.Residuals.{most_reach}
use Rattle.gic_cert.specs.declared.limits.TheConstants.{MOST_MADE_RADIUS}
use Rattle.gic_cert.specs.Certifiable.{IsCertifiable}
use Rattle.gic_cert.specs.Made.{IsMadeOf}
use Rattle.gic_cert.specs.Written.{Certificate, entry_of, guess_of, radius_of}
use Rattle.gic_cert.specs.Columns.{written_of, IsKept}
use Rattle.gic_cert.specs.Step.{most_residual, checked_step}
use Rattle.gic_cert.specs.Passing.{IsPassing}
use Rattle.gic_cert.specs.Laws.{LiveGuessesAreEnough}
use Rattle.gic_cert.proofs.Columns.{cert, count_is, row_is, entries_are, guesses_are, guesses_same, radii_are}

some_written : (v : ℕ) (x : ℤ) (r : ℕ) → 1 ≤ v → is_some (written_of v x r) ≡ true
some_written zero x r h = absurd (omega (arith, h))
some_written (suc v) x r h = refl

none_written : (v : ℕ) (x : ℤ) (r : ℕ) → v ≡ 0 → is_some (written_of v x r) ≡ false
none_written zero x r h = refl
none_written (suc v) x r h = absurd (omega (arith, h))

cond_small : (b : Bool) (z : ℤ) → (b ≡ true → unsigned_abs z ≤ 2 ^ 95) → unsigned_abs (cond b z (pos 0)) ≤ 2 ^ 95
cond_small true z h = h refl
cond_small false z h = omega arith

-- guesses that are the solver's at live nodes are settled as these are
pub settled_there : LiveGuessesAreEnough → (net : NetView) (volts guesses xs : List ℤ) → IsWithinLimits net.network → IsSettled (standing net) (number_at volts) (number_at guesses) →
    ((k : ℕ) → k < net.network.nodes → number_at xs k ≡ cond (is_live (standing net) k) (number_at guesses k) (pos 0)) → IsSettled (standing net) (number_at volts) (number_at xs)
settled_there law net volts guesses xs limits settled each = law net (number_at volts) (number_at guesses) (number_at xs) agree settled
  where
    agree : (k : ℕ) → IsLive (standing net) k → number_at guesses k ≡ number_at xs k
    agree k live =
        let inside = live_within net.network.nodes (standing net) k (standing_within net.network (stands net) limits) live in
        sym (each k inside ∙ ap (λ b. cond b (number_at guesses k) (pos 0)) live)

-- the columns of a certificate, each told for the net's nodes, and the step that the radii are made with
pub record AreMade (net : NetView) (volts guesses : List ℤ) (bound vs : List ℕ) (xs : List ℤ) (rs : List ℕ) (step : ℕ) : Type 0 where
  pub certifiable : IsCertifiable net volts guesses bound
  pub entry_count : length vs ≡ net.network.nodes
  pub entry_each : (k : ℕ) → k < net.network.nodes → slice_index vs k ≡ slice_index bound k
  pub guess_count : length xs ≡ net.network.nodes
  pub guess_each : (k : ℕ) → k < net.network.nodes → number_at xs k ≡ cond (is_live (standing net) k) (number_at guesses k) (pos 0)
  pub radius_count : length rs ≡ net.network.nodes
  pub radius_each : (k : ℕ) → k < net.network.nodes → slice_index rs k ≡ slice_index bound k * step
  pub residual_small : (k : ℕ) → IsLive (standing net) k → most_residual (standing net) (number_at volts) (number_at xs) k ≤ 2 ^ 47
  pub step_is : step ≡ checked_step (standing net) (number_at volts) (number_at xs) net.network.nodes
  pub step_small : step ≤ most_reach (2 ^ 18)

-- the certificate passes and is made of these guesses and this vector, with no radius above `MOST_MADE_RADIUS`
pub record IsCertified (net : NetView) (volts guesses : List ℤ) (vector : List ℕ) (c : Certificate) : Type 0 where
  pub passes : IsPassing net.network.nodes (standing net) (number_at volts) c
  pub made : IsMadeOf net volts guesses vector c
  pub small : (k : ℕ) → radius_of c k ≤ MOST_MADE_RADIUS

module _ {net : NetView} {volts guesses : List ℤ} {bound vs : List ℕ} {xs : List ℤ} {rs : List ℕ} {step : ℕ} (columns : AreMade net volts guesses bound vs xs rs step)
    (limits : IsWithinLimits net.network) (north east : ℤ) (north_range : unsigned_abs north ≤ MOST_FIELD) (east_range : unsigned_abs east ≤ MOST_FIELD) where
  entries_same : (k : ℕ) → slice_index vs k ≡ slice_index bound k
  entries_same k =
      ⊎_elim (λ inside. columns.entry_each k inside)
      (λ past. get_or_past vs k 0 (omega (arith, past, columns.entry_count)) ∙ sym (get_or_past bound k 0 (omega (arith, past, columns.certifiable.entry_count))))
      (cases_lt k net.network.nodes)

  radii_same : (k : ℕ) → slice_index rs k ≡ slice_index bound k * step
  radii_same k =
      ⊎_elim (λ inside. columns.radius_each k inside)
      (λ past.
      let none = get_or_past rs k 0 (omega (arith, past, columns.radius_count)) in
      let nothing = ap (λ n. n * step) (get_or_past bound k 0 (omega (arith, past, columns.certifiable.entry_count))) in
      omega (arith, none, nothing))
      (cases_lt k net.network.nodes)

  radius_most : (k : ℕ) → slice_index rs k ≤ 2 ^ 31
  radius_most k =
      let most : slice_index bound k * step ≤ MOST_WALK * (most_reach (2 ^ 18)) = mul-le-mul (columns.certifiable.bound.none_above k) columns.step_small in
      omega (arith, most, radii_same k)

  dead_where_0 : (k : ℕ) → slice_index bound k ≡ 0 → (b : Bool) → is_live (standing net) k ≡ b → cond b (number_at guesses k) (pos 0) ≡ pos 0
  dead_where_0 k none true live = absurd (omega (arith, none, columns.certifiable.bound.bound.live_above_0 k live))
  dead_where_0 k none false dead = refl

  pub kept : IsKept north east vs xs rs
  kept = record {
    north_range = north_range;
    east_range = east_range;
    guess_count = columns.guess_count ∙ sym columns.entry_count;
    radius_count = columns.radius_count ∙ sym columns.entry_count;
    entry_range = λ k. omega (arith, entries_same k, columns.certifiable.bound.none_above k);
    guess_range = λ k. ⊎_elim
        (λ inside. subst (λ (z : ℤ). unsigned_abs z ≤ 2 ^ 95) (sym (columns.guess_each k inside)) (cond_small (is_live (standing net) k) (number_at guesses k) (columns.certifiable.written k)))
        (λ past. let none = get_or_past xs k (pos 0) (omega (arith, past, columns.guess_count)) in subst (λ (z : ℤ). unsigned_abs z ≤ 2 ^ 95) (sym none) (omega arith))
        (cases_lt k net.network.nodes);
    radius_range = λ k. omega (arith, radius_most k);
    dead_guess = λ k none. ⊎_elim
        (λ inside. columns.guess_each k inside ∙ dead_where_0 k (sym (entries_same k) ∙ none) (is_live (standing net) k) refl)
        (λ past. get_or_past xs k (pos 0) (omega (arith, past, columns.guess_count)))
        (cases_lt k net.network.nodes);
    dead_radius = λ k none. let nothing = ap (λ n. n * step) (sym (entries_same k) ∙ none) in omega (arith, radii_same k, nothing);
  }

  abbrev made : Certificate
  made = cert north east vs xs rs

  entry_is : (k : ℕ) → slice_index bound k ≡ entry_of made k
  entry_is k = sym (entries_are north east vs xs rs k ∙ entries_same k)

  entry_fun : slice_index bound ≡ entry_of made
  entry_fun = λ i k. entry_is k i

  guess_fun : number_at xs ≡ guess_of made
  guess_fun = guesses_same north east vs xs rs kept

  radius_is : (k : ℕ) → radius_of made k ≡ entry_of made k * checked_step (standing net) (number_at volts) (guess_of made) net.network.nodes
  radius_is k =
      radii_are north east vs xs rs kept k ∙ radii_same k ∙ ap (λ n. n * step) (entry_is k) ∙
      ap (λ t. entry_of made k * t) (columns.step_is ∙ ap (λ f. checked_step (standing net) (number_at volts) f net.network.nodes) guess_fun)

  written_live : (k : ℕ) (b : Bool) → is_live (standing net) k ≡ b → is_some (written_of (slice_index vs k) (number_at xs k) (slice_index rs k)) ≡ b
  written_live k true live = some_written (slice_index vs k) (number_at xs k) (slice_index rs k) (omega (arith, entries_same k, columns.certifiable.bound.bound.live_above_0 k live))
  written_live k false dead = none_written (slice_index vs k) (number_at xs k) (slice_index rs k) (entries_same k ∙ columns.certifiable.bound.bound.dead_0 k dead)

  passing : IsPassing net.network.nodes (standing net) (number_at volts) made
  passing = record {
    placed = record {
      count = count_is north east vs xs rs ∙ columns.entry_count;
      live = λ k inside. ap is_some (row_is north east vs xs rs k) ∙ written_live k (is_live (standing net) k) refl;
    };
    vector = subst (IsBoundVector (standing net)) entry_fun columns.certifiable.bound.bound;
    residuals = λ k live. subst (λ (f : ℕ → ℤ). most_residual (standing net) (number_at volts) f k ≤ 2 ^ 110) guess_fun (omega (arith, columns.residual_small k live));
    radii = λ k live. omega (arith, radius_is k);
  }

  guess_live : (k : ℕ) → IsLive (standing net) k → guess_of made k ≡ number_at guesses k
  guess_live k live =
      let inside = live_within net.network.nodes (standing net) k (standing_within net.network (stands net) limits) live in
      guesses_are north east vs xs rs kept k ∙ columns.guess_each k inside ∙ ap (λ b. cond b (number_at guesses k) (pos 0)) live

  pub certified : IsCertified net volts guesses bound (cert north east vs xs rs)
  certified = record {
    passes = passing;
    made = record { entry = λ k. sym (entry_is k); guess = guess_live; radius = radius_is };
    small = λ k. omega (arith, radii_are north east vs xs rs kept k, radius_most k);
  }
