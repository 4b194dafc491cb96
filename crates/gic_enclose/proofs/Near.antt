-- Sweeps over a standing network settle.
use Rattle.std.proofs.Common.{ℕ, ◌+◌, ◌*◌, ◌^◌, ◌≤◌, ◌-◌, Bool, ℤ}
use Rattle.gic_model.specs.declared.parts.Item.{Item}
use Rattle.gic_model.specs.Network.{Network}
use Rattle.gic_model.specs.Limits.{IsWithinLimits}
use Rattle.gic_model.specs.Standing.{standing_elements}
use Rattle.gic_model.specs.Guess.{IsSettled}
use Rattle.gic_sweep.specs.Guesses.{AreCut}
use Rattle.gic_sweep.specs.Sweep.{IsSweep}
use Rattle.gic_bound.specs.Entries.{IsBoundWithin}
use Rattle.gic_enclose.proofs.Stages.{stages}
use Rattle.gic_enclose.proofs.Closer.{one_sweep}
use Rattle.gic_enclose.proofs.SettledLinks.{nearer, last_settles, first_close, first_within}
use Rattle.gic_enclose.specs.Near.{AreNearGuesses, FirstSweepIsNear, SweepBringsNearer, NearIsSettled, SweepsSettle}
use Rattle.gic_enclose.specs.Drive.{in_grains, AreRoughPotentials}
use Rattle.gic_enclose.proofs.RowsOfNetwork.{rows, fits, rough, bound, sweep, row_live, live_row, settled_at}

pub first_is_near : FirstSweepIsNear
first_is_near network stands volts potential x y v limits within near_it cut one =
    let net = rows network stands volts limits in
    let f = fits network stands volts limits in
    let r = rough network stands volts limits potential near_it in
    let ps = in_grains potential in
    let b = bound network stands volts limits v within in
    let s = sweep network stands volts limits x y one in
    record {
      sweep = one;
      close = first_close net v ps f r b x y s cut;
      within = λ k live. first_within net v ps x r b cut k (live_row network stands volts limits k live);
    }

pub brings_nearer : SweepBringsNearer
brings_nearer network stands volts potential x y z v left off limits within near_it fit near next =
    let net = rows network stands volts limits in
    let f = fits network stands volts limits in
    let r = rough network stands volts limits potential near_it in
    let ps = in_grains potential in
    let b = bound network stands volts limits v within in
    let s = sweep network stands volts limits x y near.sweep in
    let t = sweep network stands volts limits y z next in
    record {
      sweep = next;
      close = one_sweep net v x y z left off f.links b s t fit near.close;
      within = λ k live. nearer net v ps f r b x y s left off fit (λ j some. near.within j (row_live network stands volts limits j some)) k (live_row network stands volts limits k live);
    }

pub near_settled : NearIsSettled
near_settled network stands volts potential x y v limits within near_it near k live =
    let net = rows network stands volts limits in
    let f = fits network stands volts limits in
    let r = rough network stands volts limits potential near_it in
    let ps = in_grains potential in
    let b = bound network stands volts limits v within in
    let s = sweep network stands volts limits x y near.sweep in
    settled_at network stands volts limits y k (2 ^ 18)
    (last_settles net v ps f r b x y s (λ j some. near.within j (row_live network stands volts limits j some)) near.close k (live_row network stands volts limits k live))

module _ (network : Network) (stands : Item → Bool) (volts potential : ℕ → ℤ) (v : ℕ → ℕ) (guesses : ℕ → ℕ → ℤ)
    (limits : IsWithinLimits network) (within : IsBoundWithin (standing_elements network stands) 4096 v) (near_it : AreRoughPotentials (standing_elements network stands) volts potential)
    (cut : AreCut (guesses 0)) (run : (n : ℕ) → IsSweep (standing_elements network stands) volts (guesses n) (guesses (n + 1))) where
  near_at : ℕ → ℕ → Type 0
  near_at left n = AreNearGuesses (standing_elements network stands) volts potential v left (guesses n) (guesses (n + 1))

  next : (left off n : ℕ) → 8192 * off ≤ left → near_at left n → near_at (left - off) (n + 1)
  unfolding near_at
  next left off n fit near = brings_nearer network stands volts potential (guesses n) (guesses (n + 1)) (guesses (n + 1 + 1)) v left off limits within near_it fit near (run (n + 1))

  begins : near_at (8192 * 2 ^ 98) 0
  unfolding near_at
  begins = first_is_near network stands volts potential (guesses 0) (guesses 1) v limits within near_it cut (run 0)

  ends : near_at 8192 802816
  ends = stages near_at next 98 0 begins

  pub settled : IsSettled (standing_elements network stands) volts (guesses 802817)
  unfolding near_at
  settled = near_settled network stands volts potential (guesses 802816) (guesses 802817) v limits within near_it ends

pub sweeps_settle : SweepsSettle
sweeps_settle network stands volts potential v guesses limits within near_it cut run = settled network stands volts potential v guesses limits within near_it cut run
