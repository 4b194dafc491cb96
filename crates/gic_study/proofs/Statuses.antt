-- What each status says.
use Rattle.std.proofs.Common.{◌≡◌, ◌≢◌, ℕ, ◌==◌, Bool, true, false, List, ◌⊎◌, inl, inr, Ok, Err, refl, sym, subst}
use Rattle.std.specs.Prelude.{⊤}
use Rattle.std.specs.Io.KnownBytes.{Keeps}
use Rattle.gic_base.specs.Causes.{Rose}
use Rattle.gic_case_reader.specs.declared.refusal.CaseRefusal.{CaseRefusal}
use Rattle.gic_storm.specs.declared.refusal.StormRefusal.{StormRefusal}
use Rattle.gic_switch.specs.declared.refusal.SwitchRefusal.{SwitchRefusal}
use Rattle.gic_words.specs.declared.fault.Usage.{Usage}
use Rattle.gic_ask.specs.declared.fault.File.{File}
use Rattle.gic_ask.specs.declared.fault.InputFault.TheVariants as input
use Rattle.gic_ask.specs.declared.fault.InputRefusal.TheVariants as refusals
use Rattle.gic_recheck.specs.declared.fault.CertificateRefusal.{CertificateRefusal}
use Rattle.gic_stand.specs.declared.fault.ReportFault.TheVariants as report
use Rattle.gic_stand.specs.declared.fault.NetworkRefusal.TheVariants as network
use Rattle.gic_study.specs.Answers.{Call, Explains, Served, Unasked, status_of}
use Rattle.gic_study.specs.Concluding.{Answer}
use Rattle.gic_study.specs.Laws.{StatusSays, StatusesSay}
use Rattle.gic_study.specs.declared.fault.Fault.TheVariants.{Input, Report, Certificate, Memory}
use Rattle.gic_study.specs.declared.fault.Wanting.{Wanting}

-- one of two facts, by a test
abbrev pub chosen : Bool → Type 0 → Type 0 → Type 0
chosen true one other = one
chosen false one other = other

-- the fact of a status, one row a status
abbrev Said : Call → ℕ → Type 0
Said call n =
    chosen (n == 0) (Served call (Ok tt))
    (chosen (n == 2) ((u : Usage) × Unasked call (input.Refused (refusals.Usage u)))
    (chosen (n == 3) ((file : File) × Unasked call (input.CannotRead file))
    (chosen (n == 4) (Served call (Err (Report report.CannotWrite)) × Rose call.before.out.faults call.now.out.faults)
    (chosen (n == 5) ((e : CaseRefusal) × Unasked call (input.Refused (refusals.Case e)))
    (chosen (n == 6) ((e : StormRefusal) × Unasked call (input.Refused (refusals.Storm e)))
    (chosen (n == 7) ((e : SwitchRefusal) × Unasked call (input.Refused (refusals.Switch e)))
    (chosen (n == 8) ((step : ℕ) × ((node : List ℕ) × Served call (Err (Report (report.Refused (network.Unearthed step node))))))
    (chosen (n == 9) ((step : ℕ) × ((node : List ℕ) × Served call (Err (Report (report.Refused (network.Unresolved step node))))))
    (chosen (n == 10) ((file : File) × Unasked call (input.Refused (refusals.TooLong file)))
    (chosen (n == 11) (Unasked call input.Memory ⊎ ((wanting : Wanting) × Served call (Err (Memory wanting))))
    (chosen (n == 12) (Unasked call (input.Refused refusals.UnknownTransformer))
    (chosen (n == 13) ((e : CertificateRefusal) × Served call (Err (Certificate e))) ⊤))))))))))))

-- the fact of the status of an answer that has its reason
said : (call : Call) (answer : Answer) → Explains call answer → Said call (status_of answer)
said call (Ok done) explained = explained
said call (Err (Input (input.Refused (refusals.Usage u)))) explained = (u, explained)
said call (Err (Input (input.CannotRead file))) explained = (file, explained)
said call (Err (Report report.CannotWrite)) explained = (explained, explained.concludes.cause)
said call (Err (Input (input.Refused (refusals.Case e)))) explained = (e, explained)
said call (Err (Input (input.Refused (refusals.Storm e)))) explained = (e, explained)
said call (Err (Input (input.Refused (refusals.Switch e)))) explained = (e, explained)
said call (Err (Report (report.Refused (network.Unearthed step node)))) explained = (step, (node, explained))
said call (Err (Report (report.Refused (network.Unresolved step node)))) explained = (step, (node, explained))
said call (Err (Input (input.Refused (refusals.TooLong file)))) explained = (file, explained)
said call (Err (Input input.Memory)) explained = inl explained
said call (Err (Memory wanting)) explained = inr (wanting, explained)
said call (Err (Input (input.Refused refusals.UnknownTransformer))) explained = explained
said call (Err (Certificate e)) explained = (e, explained)

-- nothing is written by an answer that is neither a report nor a failed write
nothing_written : (call : Call) (answer : Answer) → Explains call answer → status_of answer ≢ 0 → status_of answer ≢ 4 → Keeps call.before.out.bytes call.now.out.bytes
nothing_written call (Ok done) explained not_done not_unwritten = absurd (not_done refl)
nothing_written call (Err (Report report.CannotWrite)) explained not_done not_unwritten = absurd (not_unwritten refl)
nothing_written call (Err (Report (report.Refused refusal))) explained not_done not_unwritten = explained.concludes.1
nothing_written call (Err (Certificate refusal)) explained not_done not_unwritten = explained.concludes.1
nothing_written call (Err (Memory wanting)) explained not_done not_unwritten = explained.concludes.1
nothing_written call (Err (Input fault)) explained not_done not_unwritten = explained.kept

says : (call : Call) (answer : Answer) → Explains call answer → StatusSays call (status_of answer)
says call answer explained = record {
  done = fact_of 0;
  usage = fact_of 2;
  unread = fact_of 3;
  unwritten = fact_of 4;
  case_refused = fact_of 5;
  storm_refused = fact_of 6;
  switch_refused = fact_of 7;
  unearthed = fact_of 8;
  unresolved = fact_of 9;
  too_long = fact_of 10;
  memory = fact_of 11;
  transformer_unknown = fact_of 12;
  certificate_refused = fact_of 13;
  nothing = nothing_written call answer explained;
}
  where
    fact_of : (n : ℕ) → status_of answer ≡ n → Said call n
    fact_of n is = subst (Said call) is (said call answer explained)

pub statuses_say : StatusesSay
statuses_say call status ends = subst (StatusSays call) (sym ends.status_is) (says call ends.answer ends.explained)
