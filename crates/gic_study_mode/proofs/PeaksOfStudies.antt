-- What follows of a right study of a storm that has a step.
use Rattle.std.proofs.Common.{ℕ, ◌<◌, List, length, sym, ◌∙◌, arith}
use Rattle.std.proofs.lemmas.List.Elements.{All-get_or}
use Rattle.gic_case.specs.Lists.{Lists}
use Rattle.gic_view.specs.View.{View}
use Rattle.gic_view.specs.Kept.{blank_view}
use Rattle.gic_effective.specs.Narrow.{IsNarrowView}
use Rattle.gic_effective.specs.ViewLengths.{HasViewLengths}
use Rattle.gic_criteria.specs.Event.{threshold_of}
use Rattle.gic_criteria.specs.VerdictLaws.{BelowIsUnder, ReachesIsAtLeast, UndecidedIsAcross}
use Rattle.gic_view.specs.Peaks.{HasLengthsOf, IsPeaksOf}
use Rattle.gic_view.specs.PeakLaws.{PeakEnclosesGreatest, TransformerPeakIsPeak, PeakIsNotNegative, PeakIsNoWider}
use Rattle.gic_course.specs.Views.{AreNarrowViews}
use Rattle.gic_study_mode.specs.Follows.{PeaksAreNarrow, PeaksEnclose, PeakVerdictsAreTrue, UndecidedPeaksAreNear}
use Rattle.gic_study_mode.proofs.EnclosedPeaks.{enclosing}
use Rattle.gic_study_mode.proofs.TrueVerdicts.{true_verdicts, undecided_near}
use Rattle.gic_study_mode.proofs.PeakCells.{narrow_peaks, not_negative_peaks}

-- the peaks are as long as any of the views, which are as long as the case asks
peak_lengths : (case : Lists) (width : ℕ) (views : List View) (peaks : View) → AreNarrowViews case width views → IsPeaksOf views peaks → 0 < length views → HasViewLengths case peaks
peak_lengths case width views peaks narrow peaks_are some =
    let own = (All-get_or (IsNarrowView case width) views 0 (blank_view 0 0 0) some narrow).lengths in
    let same = All-get_or (HasLengthsOf peaks) views 0 (blank_view 0 0 0) some peaks_are.lengths in
    record {
      nodes = sym same.nodes ∙ own.nodes;
      elements = sym same.elements ∙ own.elements;
      transformers = sym same.transformers ∙ own.transformers;
    }

pub peaks_narrow : PeakIsNoWider → TransformerPeakIsPeak → PeaksAreNarrow
peaks_narrow no_wider is_peak inputs detail plans text first report =
    let case = inputs.case in
    let width = inputs.question.width in
    let some : 0 < length report.views = omega (arith, first.most, report.right.one_each) in
    narrow_peaks no_wider is_peak case width report.views report.peaks report.narrow report.peaks_are (peak_lengths case width report.views report.peaks report.narrow report.peaks_are some) some

pub peaks_enclose : PeakEnclosesGreatest → TransformerPeakIsPeak → PeaksEnclose
peaks_enclose encloses is_peak inputs detail plans text first report =
    let some : 0 < length report.views = omega (arith, first.most, report.right.one_each) in
    enclosing encloses is_peak inputs report.views report.peaks report.right report.peaks_are
    (peak_lengths inputs.case inputs.question.width report.views report.peaks report.narrow report.peaks_are some) first.most

pub verdicts_true : PeakEnclosesGreatest → TransformerPeakIsPeak → BelowIsUnder → ReachesIsAtLeast → UndecidedIsAcross → PeakVerdictsAreTrue
verdicts_true encloses is_peak below reaches undecided inputs detail plans text first report sound =
    true_verdicts below reaches undecided inputs (threshold_of inputs.question.event) report.peaks sound
    (peaks_enclose encloses is_peak inputs detail plans text first report)

pub undecided_peaks_near : PeakEnclosesGreatest → TransformerPeakIsPeak → PeakIsNoWider → PeakIsNotNegative → UndecidedIsAcross → UndecidedPeaksAreNear
undecided_peaks_near encloses is_peak no_wider not_negative undecided inputs detail plans text first report sound =
    let some : 0 < length report.views = omega (arith, first.most, report.right.one_each) in
    undecided_near undecided inputs inputs.question.width (threshold_of inputs.question.event) report.peaks sound
    (peaks_enclose encloses is_peak inputs detail plans text first report)
    (peaks_narrow no_wider is_peak inputs detail plans text first report)
    (not_negative_peaks not_negative is_peak inputs.case report.views report.peaks report.peaks_are
    (peak_lengths inputs.case inputs.question.width report.views report.peaks report.narrow report.peaks_are some) some)
