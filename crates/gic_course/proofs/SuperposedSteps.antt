-- What is shown of a step, also where it is superposed from certified base fields.
use Rattle.std.proofs.Common.{◌≡◌, ℕ, ◌<◌, ◌≤◌, List, length, ℤ, arith, ap, sym, subst, subst₂}
use Rattle.std.specs.Prelude.{All}
use Rattle.gic_case.specs.Lists.{Lists}
use Rattle.gic_case.specs.Sound.{IsSound}
use Rattle.gic_fixed.specs.Ends.{Ends}
use Rattle.gic_induce.specs.Fields.{IsField}
use Rattle.gic_induce.specs.LineVolts.{volts_of}
use Rattle.gic_model.specs.Earthing.{AreEarthed}
use Rattle.gic_model.specs.Limits.{IsWithinLimits}
use Rattle.gic_model.specs.Network.{Network}
use Rattle.gic_model.specs.Standing.{standing_elements}
use Rattle.gic_model.specs.Sums.{Placed}
use Rattle.gic_model.specs.Voltages.{number_at}
use Rattle.gic_net.specs.Net.{NetView, standing, stands}
use Rattle.gic_view.specs.View.{View}
use Rattle.gic_winding.specs.ElementList.{elements_of}
use Rattle.gic_effective.specs.Narrow.{IsNarrowView}
use Rattle.gic_effective.specs.RightView.{IsRightView, IsRightEffective}
use Rattle.gic_base_views.specs.BaseRows.{BaseRows, AreCertifiedRows}
use Rattle.gic_superpose.specs.Superposed.{superposed}
use Rattle.gic_base_views.specs.Superposed.{AreFieldsOf, IsSuperposedView, SuperposedViewsAreRight, SuperposedEffectiveIsRight}
use Rattle.gic_course.specs.Single.{IsNarrowEffective}
use Rattle.gic_course.specs.Views.{IsShownIn}

-- the fields are those of a sound case
pub fields_given : (case : Lists) (fields : List (ℤ × ℤ)) → IsSound case → length fields ≡ length case.zones → All IsField fields → AreFieldsOf case fields
fields_given case fields sound zones within = record { zones = zones; few = omega (arith, zones, sound.few_zones); within = within }

-- what the theorem says of a net of the case
pub right_and_narrow : SuperposedViewsAreRight → (case : Lists) (net : NetView) (fields : List (ℤ × ℤ)) (rows : BaseRows) (view : View) (width : ℕ) →
    net.network ≡ elements_of case → IsWithinLimits net.network → AreEarthed (standing net) → AreFieldsOf case fields → AreCertifiedRows case (standing net) rows →
    IsSuperposedView case (standing net) fields rows view → 2 ≤ width →
    IsRightView case (standing net) (number_at (volts_of case fields (elements_of case).list)) view × IsNarrowView case width view
right_and_narrow law case net fields rows view width network limits =
    let P : List Placed → Type 0 = λ s. AreEarthed s → AreFieldsOf case fields → AreCertifiedRows case s rows → IsSuperposedView case s fields rows view → 2 ≤ width →
    IsRightView case s (number_at (volts_of case fields (elements_of case).list)) view × IsNarrowView case width view in
    subst P (ap (λ (n : Network). standing_elements n (stands net)) (sym network)) (law case (stands net) fields rows view width (subst IsWithinLimits network limits))

-- it is shown for the same elements and the same fields
pub shown_with : (case : Lists) (one other : List Placed) (before after : List (ℤ × ℤ)) (width : ℕ) (view : View) → one ≡ other → before ≡ after → IsShownIn case one before width view → IsShownIn case other after width view
shown_with case one other before after width view stands fields = subst₂ (λ (s : List Placed) (f : List (ℤ × ℤ)). IsShownIn case s f width view) stands fields

-- what the theorem says of one transformer
pub right_single : SuperposedEffectiveIsRight → (case : Lists) (net : NetView) (fields : List (ℤ × ℤ)) (rows : BaseRows) (t width : ℕ) →
    net.network ≡ elements_of case → IsWithinLimits net.network → AreEarthed (standing net) → AreFieldsOf case fields → AreCertifiedRows case (standing net) rows →
    t < length case.transformers → 2 ≤ width → IsNarrowEffective case (standing net) (number_at (volts_of case fields (elements_of case).list)) t width (superposed fields (rows.effective t))
right_single law case net fields rows t width network limits =
    let volts = number_at (volts_of case fields (elements_of case).list) in
    let P : List Placed → Type 0 = λ s. AreEarthed s → AreFieldsOf case fields → AreCertifiedRows case s rows → t < length case.transformers → 2 ≤ width →
    IsNarrowEffective case s volts t width (superposed fields (rows.effective t)) in
    let both = law case (stands net) fields rows t width (subst IsWithinLimits network limits) in
    subst P (ap (λ (n : Network). standing_elements n (stands net)) (sym network)) (λ earthed given certified within least.
    record { right = (both earthed given certified within least).0; narrow = (both earthed given certified within least).1 })

-- it is right for the same elements and the same fields
pub right_with : (case : Lists) (one other : List Placed) (before after : List (ℤ × ℤ)) (t width : ℕ) (ends : Ends) → one ≡ other → before ≡ after
    → IsNarrowEffective case one (number_at (volts_of case before (elements_of case).list)) t width ends → IsNarrowEffective case other (number_at (volts_of case after (elements_of case).list)) t width ends
right_with case one other before after t width ends stands fields =
    subst₂ (λ (s : List Placed) (f : List (ℤ × ℤ)). IsNarrowEffective case s (number_at (volts_of case f (elements_of case).list)) t width ends) stands fields
