-- What is true of the reports over a storm, and of that of a made case.
use Rattle.std.proofs.Common.{ℕ, List, Option, None, arith}
use Rattle.gic_case.specs.Sound.{IsSound}
use Rattle.gic_exists.specs.Exists.{EarthedNetworksAreSolved, SolutionsAgree}
use Rattle.gic_winding.specs.Degrees.{ElementsAreWithinLimits}
use Rattle.gic_inputs.specs.Inputs.{rows_in}
use Rattle.gic_inputs.specs.declared.inputs.StormInputs.{StormInputs}
use Rattle.gic_stand.specs.Needs.{Solved, IsMet}
use Rattle.gic_course.specs.Steps.{IsStepOf, storm_steps}
use Rattle.gic_study_mode.specs.Follows.{PeaksAreNarrow, PeaksEnclose, PeakVerdictsAreTrue}
use Rattle.gic_study_mode.specs.RightStudy.{IsRightStudy}
use Rattle.gic_series.specs.RightSeries.{IsRightSeries}
use Rattle.gic_make.specs.Accepted.{MadeCasesAreSound, MadeNodesAreEarthed, MadeCasesAreNearEarth}
use Rattle.gic_make.specs.MadeCase.{made_case}
use Rattle.gic_make.specs.RightMake.{IsRightMake, benchmark_volts}
use Rattle.gic_make.proofs.Solvable.{made_solvable}
use Rattle.gic_words.specs.Accepted.{AreOfMade}
use Rattle.gic_laws.specs.Dwells.{DwellsAreTrue}
use Rattle.gic_laws.specs.Earthings.{EarthingsAreTrue}
use Rattle.gic_laws.specs.Losses.{LossesAreTrue}
use Rattle.gic_study.specs.Modes.{Plans}
use Rattle.gic_headline.specs.TrueReports.{IsTrueStudy, IsTrueSeries, IsTrueMake}
use Rattle.gic_headline.proofs.OneSolution.{one_solution, steps_solved}

module _ (exist : EarthedNetworksAreSolved) (agree : SolutionsAgree) (limits : ElementsAreWithinLimits) where
  pub true_study : PeaksAreNarrow → PeaksEnclose → PeakVerdictsAreTrue → DwellsAreTrue → EarthingsAreTrue → LossesAreTrue
      → (inputs : StormInputs) (detail : Option ℕ) (plans : Plans) (text : List ℕ) → IsSound inputs.case → IsStepOf inputs 1 → IsMet Solved (storm_steps inputs)
      → IsRightStudy inputs detail plans text → IsTrueStudy inputs detail plans text
  true_study narrow enclosed verdicts dwells earthings losses inputs detail plans text sound one met right = record {
    report = right;
    peaks = enclosed inputs detail plans text one right;
    narrow = narrow inputs detail plans text one right;
    verdicts = verdicts inputs detail plans text one right sound;
    dwells = dwells inputs detail plans text sound right;
    earthings = earthings inputs detail plans text sound right;
    losses = losses inputs detail plans text sound one right;
    solved = steps_solved exist agree limits inputs sound met;
  }

  pub true_series : (inputs : StormInputs) (transformer : ℕ) (text : List ℕ) → IsSound inputs.case → IsMet Solved (storm_steps inputs)
      → IsRightSeries inputs transformer text → IsTrueSeries inputs transformer text
  true_series inputs transformer text sound met right = record { report = right; solved = steps_solved exist agree limits inputs sound met }

  pub true_make : MadeCasesAreSound → MadeNodesAreEarthed → MadeCasesAreNearEarth → (seed size : ℕ) (text : List ℕ) → IsSound (made_case seed size) → AreOfMade seed size
      → IsRightMake seed size text → IsTrueMake seed size text
  true_make made earthed near seed size text sound range right = record {
    report = right;
    solved = one_solution exist agree limits (made_case seed size) sound (rows_in None)
        (made_solvable limits made earthed near seed size (omega (arith, range.seed_fits)) range.size_fits.least range.size_fits.most).earthed (benchmark_volts (made_case seed size));
  }
