-- A need that is met is not refused.
use Rattle.std.proofs.Common.{◌≡◌, ℕ, suc, ◌≤◌, ◌<◌, List, refl, subst, arith}
use Rattle.gic_case.specs.Lists.{Lists}
use Rattle.gic_model.specs.Bound.{IsEarthedWithin, IsCappedVector}
use Rattle.gic_model.specs.Sums.{Placed}
use Rattle.gic_stand.specs.Needs.{Need, Nothing, Earthed, Solved, Meets, Fails, IsMet, IsUnmet, standing_at}
use Rattle.gic_stand.specs.Standing.{IsFirstUnresolved}
use Rattle.gic_stand.specs.declared.fault.NetworkRefusal.{NetworkRefusal}
use Rattle.gic_stand.specs.declared.fault.NetworkRefusal.TheVariants.{Unearthed, Unresolved}
use Rattle.gic_stand.specs.declared.fault.ReportFault.TheVariants as report
use Rattle.gic_study.specs.Faults.{status_of_fault}
use Rattle.gic_study.specs.declared.fault.Fault.TheVariants.{Report}

-- a bound vector without an entry above 4096 is capped
capped_within : (standing : List Placed) (within : IsEarthedWithin standing 4096) → IsCappedVector standing within.entries
capped_within standing within = record {
  live_above_0 = within.bound.live_above_0;
  capped = λ k. omega (arith, within.none_above k);
  dead_0 = within.bound.dead_0;
  rows = λ k live below. within.bound.rows k live;
}

-- so the least capped vector has no entry 4097
unresolved_or_within : (standing : List Placed) (k : ℕ) → IsFirstUnresolved standing k → ¬ IsEarthedWithin standing 4096
unresolved_or_within standing k unresolved within =
    let least : unresolved.entries k ≤ within.entries k = unresolved.least.least within.entries (capped_within standing within) k in
    omega (arith, least, unresolved.full, within.none_above k)

-- standing elements don't both meet the need and fail it
fails_or_meets : (need : Need) (case : Lists) (number : ℕ) (standing : List Placed) (refusal : NetworkRefusal) → Fails need case number standing refusal → ¬ Meets need standing
fails_or_meets Nothing case number standing refusal fails meets = fails
fails_or_meets Earthed case number standing (Unearthed step node) fails meets = fails.1.1.0.unearthed (meets fails.1.0 fails.1.1.0.live)
fails_or_meets Earthed case number standing (Unresolved step node) fails meets = fails
fails_or_meets Solved case number standing (Unearthed step node) fails meets = fails.1.1.0.unearthed (meets.earthed fails.1.0 fails.1.1.0.live)
fails_or_meets Solved case number standing (Unresolved step node) fails meets = unresolved_or_within standing fails.1.node fails.1.unresolved meets.within

pub unmet_or_met : (need : Need) (case : Lists) (steps : List (List Placed)) (refusal : NetworkRefusal) → IsUnmet need case steps refusal → ¬ IsMet need steps
unmet_or_met need case steps refusal unmet met =
    fails_or_meets need case (suc unmet.place) (standing_at steps unmet.place) refusal unmet.fails (met unmet.place unmet.within)

-- of one step's failures all are of one kind
kind_of_fails : (need : Need) (case : Lists) (number : ℕ) (standing : List Placed) (one other : NetworkRefusal) → Fails need case number standing one → Fails need case number standing other
    → status_of_fault (Report (report.Refused one)) ≡ status_of_fault (Report (report.Refused other))
kind_of_fails Nothing case number standing one other a b = absurd a
kind_of_fails Earthed case number standing (Unearthed step node) (Unearthed step' node') a b = refl
kind_of_fails Earthed case number standing (Unearthed step node) (Unresolved step' node') a b = absurd b
kind_of_fails Earthed case number standing (Unresolved step node) other a b = absurd a
kind_of_fails Solved case number standing (Unearthed step node) (Unearthed step' node') a b = refl
kind_of_fails Solved case number standing (Unearthed step node) (Unresolved step' node') a b = absurd (a.1.1.0.unearthed (b.1.earthed a.1.0 a.1.1.0.live))
kind_of_fails Solved case number standing (Unresolved step node) (Unearthed step' node') a b = absurd (b.1.1.0.unearthed (a.1.earthed b.1.0 b.1.1.0.live))
kind_of_fails Solved case number standing (Unresolved step node) (Unresolved step' node') a b = refl

-- no step fails before the first that does
not_before : (need : Need) (case : Lists) (steps : List (List Placed)) (one other : NetworkRefusal) (a : IsUnmet need case steps one) (b : IsUnmet need case steps other) → ¬ (a.place < b.place)
not_before need case steps one other a b before =
    fails_or_meets need case (suc a.place) (standing_at steps a.place) one a.fails (b.met_before a.place before)

-- the kind of a refusal is determined
pub same_kind : (need : Need) (case : Lists) (steps : List (List Placed)) (one other : NetworkRefusal) → IsUnmet need case steps one → IsUnmet need case steps other
    → status_of_fault (Report (report.Refused one)) ≡ status_of_fault (Report (report.Refused other))
same_kind need case steps one other a b =
    let same : a.place ≡ b.place = omega (arith, not_before need case steps one other a b, not_before need case steps other one b a) in
    kind_of_fails need case (suc b.place) (standing_at steps b.place) one other
    (subst (λ k. Fails need case (suc k) (standing_at steps k) one) same a.fails) b.fails
