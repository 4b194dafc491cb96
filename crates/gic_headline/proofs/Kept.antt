-- Each call keeps the headline.
use Rattle.std.proofs.Common.{◌≡◌, ℕ, ◌==◌, List, [], ◌∷◌, ◌⊎◌, inl, inr, Ok, Err, refl, sym, subst, arith}
use Rattle.std.specs.Prelude.{Contains, ⊤}
use Rattle.gic_case_reader.specs.declared.refusal.CaseRefusal.{CaseRefusal}
use Rattle.gic_storm.specs.declared.refusal.StormRefusal.{StormRefusal}
use Rattle.gic_switch.specs.declared.refusal.SwitchRefusal.{SwitchRefusal}
use Rattle.gic_words.specs.declared.fault.Usage.{Usage}
use Rattle.gic_ask.specs.declared.fault.File.{File}
use Rattle.gic_ask.specs.declared.fault.InputFault.{InputFault}
use Rattle.gic_ask.specs.declared.fault.InputFault.TheVariants as input
use Rattle.gic_ask.specs.declared.fault.InputRefusal.TheVariants as refused
use Rattle.gic_ask.specs.declared.request.Asked.{Asked}
use Rattle.gic_stand.specs.Needs.{IsMet}
use Rattle.gic_stand.specs.declared.fault.NetworkRefusal.{NetworkRefusal}
use Rattle.gic_stand.specs.declared.fault.NetworkRefusal.TheVariants as network
use Rattle.gic_stand.specs.declared.fault.ReportFault.TheVariants as report
use Rattle.gic_recheck.specs.declared.fault.CertificateRefusal.{CertificateRefusal}
use Rattle.gic_words.specs.Accepted.{MadeInRange}
use Rattle.gic_study.specs.Answers.{AsksFor, Call, CallEnds, Explains, Served, Tells, TellsLine, Unasked, status_of}
use Rattle.gic_study.specs.Concluding.{Answer, MayLackMemory}
use Rattle.gic_study.specs.Faults.{line_of_fault}
use Rattle.gic_study.specs.Laws.{AcceptedIsReported, AskedCasesAreSound, AskedStormsHaveSteps, need_of, steps_asked}
use Rattle.gic_study.specs.Modes.{IsRightText, RefusesCertificate}
use Rattle.gic_study.specs.declared.fault.Fault.{Fault}
use Rattle.gic_study.specs.declared.fault.Fault.TheVariants.{Input, Report, Certificate, Memory}
use Rattle.gic_study.specs.declared.fault.Wanting.{Wanting}
use Rattle.gic_study.proofs.Statuses.{chosen}
use Rattle.gic_headline.specs.Headline.{Headline, TrueReport, WritesReport, WritesPart, EndsUnasked, EndsUnreported, EndsUnmet}
use Rattle.gic_headline.specs.Laws.{EachCallKeepsTheHeadline}
use Rattle.gic_headline.proofs.MadeAsked.{made_asked}
use Rattle.gic_headline.proofs.TrueReport.{Theorems, true_report}

-- the line of the fault was told
abbrev TellsFault : Call → Fault → Type 0
TellsFault call fault = TellsLine call.before.err call.now.err (line_of_fault fault)

by_inputs : (call : Call) (fault : InputFault) → Unasked call fault → TellsFault call (Input fault) → EndsUnasked call fault
by_inputs call fault e line = record { cause = e.asks; told = record { nothing = e.kept; told = line } }

by_network : (call : Call) (r : NetworkRefusal) → Served call (Err (Report (report.Refused r))) → TellsFault call (Report (report.Refused r)) → EndsUnmet call r
by_network call r e line = record { asked = e.asked; asks = e.asks; cause = e.concludes.0; told = record { nothing = e.concludes.1; told = line } }

by_certificate : (call : Call) (r : CertificateRefusal) → Served call (Err (Certificate r)) → TellsFault call (Certificate r)
    → EndsUnreported call (Certificate r) (λ asked. RefusesCertificate asked r)
by_certificate call r e line = record { asked = e.asked; asks = e.asks; cause = e.concludes.0; told = record { nothing = e.concludes.1; told = line } }

by_memory : (call : Call) (wanting : Wanting) → Served call (Err (Memory wanting)) → TellsFault call (Memory wanting)
    → EndsUnreported call (Memory wanting) (MayLackMemory call.plans wanting)
by_memory call wanting e line = record { asked = e.asked; asks = e.asks; cause = e.concludes.0; told = record { nothing = e.concludes.1; told = line } }

-- how a call with a status ended, one row a status
abbrev Ended : Call → ℕ → Type 0
Ended call n =
    chosen (n == 0) (WritesReport call)
    (chosen (n == 2) ((u : Usage) × EndsUnasked call (input.Refused (refused.Usage u)))
    (chosen (n == 3) ((file : File) × EndsUnasked call (input.CannotRead file))
    (chosen (n == 4) (WritesPart call)
    (chosen (n == 5) ((e : CaseRefusal) × EndsUnasked call (input.Refused (refused.Case e)))
    (chosen (n == 6) ((e : StormRefusal) × EndsUnasked call (input.Refused (refused.Storm e)))
    (chosen (n == 7) ((e : SwitchRefusal) × EndsUnasked call (input.Refused (refused.Switch e)))
    (chosen (n == 8) ((step : ℕ) × ((node : List ℕ) × EndsUnmet call (network.Unearthed step node)))
    (chosen (n == 9) ((step : ℕ) × ((node : List ℕ) × EndsUnmet call (network.Unresolved step node)))
    (chosen (n == 10) ((file : File) × EndsUnasked call (input.Refused (refused.TooLong file)))
    (chosen (n == 11) (EndsUnasked call input.Memory ⊎ ((wanting : Wanting) × EndsUnreported call (Memory wanting) (MayLackMemory call.plans wanting)))
    (chosen (n == 12) (EndsUnasked call (input.Refused refused.UnknownTransformer))
    (chosen (n == 13) ((e : CertificateRefusal) × EndsUnreported call (Certificate e) (λ asked. RefusesCertificate asked e)) ⊤))))))))))))

-- the place of a status in the list of all
is_listed : (answer : Answer) → Contains (0 ∷ 2 ∷ 3 ∷ 4 ∷ 5 ∷ 6 ∷ 7 ∷ 8 ∷ 9 ∷ 10 ∷ 11 ∷ 12 ∷ 13 ∷ []) (status_of answer)
is_listed (Ok done) = (0, omega arith, refl)
is_listed (Err (Input (input.Refused (refused.Usage u)))) = (1, omega arith, refl)
is_listed (Err (Input (input.CannotRead file))) = (2, omega arith, refl)
is_listed (Err (Report report.CannotWrite)) = (3, omega arith, refl)
is_listed (Err (Input (input.Refused (refused.Case e)))) = (4, omega arith, refl)
is_listed (Err (Input (input.Refused (refused.Storm e)))) = (5, omega arith, refl)
is_listed (Err (Input (input.Refused (refused.Switch e)))) = (6, omega arith, refl)
is_listed (Err (Report (report.Refused (network.Unearthed step node)))) = (7, omega arith, refl)
is_listed (Err (Report (report.Refused (network.Unresolved step node)))) = (8, omega arith, refl)
is_listed (Err (Input (input.Refused (refused.TooLong file)))) = (9, omega arith, refl)
is_listed (Err (Input input.Memory)) = (10, omega arith, refl)
is_listed (Err (Memory wanting)) = (10, omega arith, refl)
is_listed (Err (Input (input.Refused refused.UnknownTransformer))) = (11, omega arith, refl)
is_listed (Err (Certificate e)) = (12, omega arith, refl)

module _ (law : Theorems) (ranges : MadeInRange) (sound : AskedCasesAreSound) (stepped : AskedStormsHaveSteps) (reported : AcceptedIsReported) where
  -- what is asked for, with the right text of it
  true_of : (call : Call) (asked : Asked) → AsksFor call (Ok asked) → IsMet (need_of asked) (steps_asked asked) → (text : List ℕ) → IsRightText call.plans asked text → TrueReport call
  true_of call asked asks met text right = record {
    asked = asked;
    asks = asks;
    met = met;
    text = text;
    is_true = true_report law call.plans asked text (sound call asked asks) (stepped call asked asks) (made_asked ranges call asked asks) met right;
  }

  writes_whole : (call : Call) → Served call (Ok tt) → Tells call.before.err call.now.err (Ok tt) → WritesReport call
  unfolding true_of
  writes_whole call e line = record {
    report = true_of call e.asked e.asks e.concludes.met e.concludes.text e.concludes.right;
    whole = e.concludes.written;
    silent = line;
  }

  writes_part : (call : Call) → Served call (Err (Report report.CannotWrite)) → TellsFault call (Report report.CannotWrite) → WritesPart call
  unfolding true_of
  writes_part call e line = record {
    report = true_of call e.asked e.asks e.concludes.met e.concludes.text e.concludes.right;
    part = e.concludes.part;
    cause = e.concludes.cause;
    told = line;
  }

  -- how a call with the status of an answer ended
  ended : (call : Call) (answer : Answer) → Explains call answer → Tells call.before.err call.now.err answer → Ended call (status_of answer)
  ended call (Ok done) explained line = writes_whole call explained line
  ended call (Err (Input (input.Refused (refused.Usage u)))) explained line = (u, by_inputs call _ explained line)
  ended call (Err (Input (input.CannotRead file))) explained line = (file, by_inputs call _ explained line)
  ended call (Err (Report report.CannotWrite)) explained line = writes_part call explained line
  ended call (Err (Input (input.Refused (refused.Case e)))) explained line = (e, by_inputs call _ explained line)
  ended call (Err (Input (input.Refused (refused.Storm e)))) explained line = (e, by_inputs call _ explained line)
  ended call (Err (Input (input.Refused (refused.Switch e)))) explained line = (e, by_inputs call _ explained line)
  ended call (Err (Report (report.Refused (network.Unearthed step node)))) explained line = (step, (node, by_network call _ explained line))
  ended call (Err (Report (report.Refused (network.Unresolved step node)))) explained line = (step, (node, by_network call _ explained line))
  ended call (Err (Input (input.Refused (refused.TooLong file)))) explained line = (file, by_inputs call _ explained line)
  ended call (Err (Input input.Memory)) explained line = inl (by_inputs call _ explained line)
  ended call (Err (Memory wanting)) explained line = inr (wanting, by_memory call wanting explained line)
  ended call (Err (Input (input.Refused refused.UnknownTransformer))) explained line = by_inputs call _ explained line
  ended call (Err (Certificate e)) explained line = (e, by_certificate call e explained line)

  kept : (call : Call) (answer : Answer) → Explains call answer → Tells call.before.err call.now.err answer → CallEnds call (status_of answer) → Headline call (status_of answer)
  kept call answer explained line ends = record {
    one_of_these = is_listed answer;
    reported = fact_of 0;
    comes = λ s. reported call _ ends s.asked s.accepted s.met s.certificate s.stood;
    unwritten = fact_of 4;
    usage = fact_of 2;
    unread = fact_of 3;
    case_refused = fact_of 5;
    storm_refused = fact_of 6;
    switch_refused = fact_of 7;
    unearthed = fact_of 8;
    unresolved = fact_of 9;
    too_long = fact_of 10;
    no_memory = fact_of 11;
    transformer_unknown = fact_of 12;
    certificate_refused = fact_of 13;
  }
    where
      fact_of : (n : ℕ) → status_of answer ≡ n → Ended call n
      fact_of n is = subst (Ended call) is (ended call answer explained line)

  pub each_call_keeps_the_headline : EachCallKeepsTheHeadline
  each_call_keeps_the_headline call status ends =
      subst (Headline call) (sym ends.status_is)
      (kept call ends.answer ends.explained ends.line (record { answer = ends.answer; status_is = refl; explained = ends.explained; line = ends.line }))
