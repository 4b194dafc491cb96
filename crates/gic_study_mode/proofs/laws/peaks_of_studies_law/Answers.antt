use Rattle.gic_study_mode.proofs.PeaksOfStudies.{peaks_narrow, peaks_enclose, verdicts_true, undecided_peaks_near}
use Rattle.gic_study_mode.proofs.laws.peaks_of_studies_law.Goals as goal

pub returns-clause-narrow : goal.returns-clause-narrow
returns-clause-narrow c = peaks_narrow c.peak_is_narrow_law.ensures.peak c.peaks_enclose_law.ensures.transformers

pub returns-clause-enclosed : goal.returns-clause-enclosed
returns-clause-enclosed c = peaks_enclose c.peaks_enclose_law.ensures.encloses c.peaks_enclose_law.ensures.transformers

pub returns-clause-verdicts : goal.returns-clause-verdicts
returns-clause-verdicts c =
    verdicts_true c.peaks_enclose_law.ensures.encloses c.peaks_enclose_law.ensures.transformers
    c.verdict_law.ensures.below c.verdict_law.ensures.reaches c.verdict_law.ensures.undecided

pub returns-clause-near : goal.returns-clause-near
returns-clause-near c =
    undecided_peaks_near c.peaks_enclose_law.ensures.encloses c.peaks_enclose_law.ensures.transformers c.peak_is_narrow_law.ensures.peak c.peak_is_absolute_law.ensures.not_negative
    c.verdict_law.ensures.undecided
