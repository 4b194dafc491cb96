-- The answer over a library that tells its files is that of the files.
use Rattle.std.proofs.Common.{◌≡◌, ℕ, ◌<◌, ◌≤◌, ◌⊎◌, inl, inr, List, Bool, true, false, length, nat_lt, Option, Some, None, Result, Ok, Err, refl, sym, ap, subst, ◌∙◌, arith}
use Rattle.std.specs.Prelude.{IsSomeAnd, IfSome, IfOk}
use Rattle.std.proofs.lemmas.Bool.{ltb-true, ltb-false}
use Rattle.std.specs.FinMap.{get}
use Rattle.gic_files.specs.Files.{Files}
use Rattle.gic_base.specs.declared.limits.TheConstants.{LIMIT}
use Rattle.gic_case.specs.Lists.{Lists}
use Rattle.gic_case_reader.specs.Rules.{case_of}
use Rattle.gic_storm.specs.Rules.{storm_of}
use Rattle.gic_storm.specs.StormView.{StormView, zone_names}
use Rattle.gic_storm.specs.declared.refusal.StormRefusal.{StormRefusal}
use Rattle.gic_switch.specs.Rules.{switchings_of}
use Rattle.gic_words.specs.Requests.{request_of}
use Rattle.gic_words.specs.declared.request.Request.{Request}
use Rattle.gic_words.specs.declared.request.Request.TheVariants as request
use Rattle.gic_criteria.specs.declared.asked.Criteria.{Criteria}
use Rattle.gic_words.specs.declared.fault.Usage.{Usage}
use Rattle.gic_ask.specs.Asks.{IsAnswer}
use Rattle.gic_ask.specs.Contents.{Given, Absent, Long, Whole, Contents, Names, MayGive, MayHandOut, name_of_file, names_in, of_case}
use Rattle.gic_ask.specs.Held.{held, held_bytes, held_by_length, held_for, AnswersOfFiles}
use Rattle.gic_ask.specs.Outcome.{Outcome, Refuses, Lacks, Accepts, ◌>>=◌, reading, if_given, handing, reading_file, reading_case, reading_storm, reading_switchings, reading_inputs, reading_network, reading_after_storm, reading_over, transformer_asked, asking, asking_network, asking_study, asking_recheck, asking_series, outcome, network_given, recheck_given, series_given, study_given}
use Rattle.gic_ask.specs.declared.fault.File.{File}
use Rattle.gic_ask.specs.declared.fault.File.TheVariants as file
use Rattle.gic_ask.specs.declared.fault.InputFault.{InputFault}
use Rattle.gic_ask.specs.declared.fault.InputFault.TheVariants.{Refused, CannotRead, Memory}
use Rattle.gic_ask.specs.declared.fault.InputRefusal.{InputRefusal}
use Rattle.gic_ask.specs.declared.fault.InputRefusal.TheVariants.{Usage as UsageRefusal, Case as CaseRefused, Storm as StormRefused, Switch as SwitchRefused}
use Rattle.gic_ask.specs.declared.request.Asked.{Asked}
use Rattle.gic_ask.specs.declared.request.Asked.TheVariants as asked

-- what may be given of a length is what is held
long_held : (b : Bool) (n : ℕ) (bytes : List ℕ) → LIMIT < n → nat_lt LIMIT n ≡ b → held_by_length b bytes ≡ Long
long_held true n bytes more e = refl
long_held false n bytes more e = absurd (omega (arith, more, ltb-false LIMIT n e))

whole_held : (b : Bool) (n : ℕ) (bytes : List ℕ) → n ≤ LIMIT → nat_lt LIMIT n ≡ b → held_by_length b bytes ≡ Whole bytes
whole_held false n bytes few e = refl
whole_held true n bytes few e = absurd (omega (arith, few, ltb-true LIMIT n e))

long_bytes : (o : Option (List ℕ)) → IsSomeAnd o (λ bytes. LIMIT < length bytes) → held_bytes o ≡ Long
long_bytes None h = absurd h
long_bytes (Some bytes) h = long_held (nat_lt LIMIT (length bytes)) (length bytes) bytes h refl

-- a library that tells its files gives nothing, or what it has
given_or_held : (files : Files) (name : List ℕ) (g : Given) → MayGive (Some files) name g → (g ≡ Absent) ⊎ (held files (Some name) ≡ g)
given_or_held files name Absent h = inl refl
given_or_held files name Long h = inr (long_bytes (get files name) h)
given_or_held files name (Whole bytes) h = inr (ap held_bytes h.1 ∙ whole_held (nat_lt LIMIT (length bytes)) (length bytes) bytes h.0 refl)

-- two outcomes that are the same, or the first lacks a file
abbrev IsSameOrLacks : {A : Type 0} → Outcome A → Outcome A → Type 0
IsSameOrLacks o other = (o ≡ other) ⊎ ((f : File) × (o ≡ Lacks f))

module _ {A B : Type 0} where
  next_same : (o : Outcome A) (next more : A → Outcome B) → ((a : A) → IsSameOrLacks (next a) (more a)) → IsSameOrLacks (o >>= next) (o >>= more)
  next_same (Refuses refusal) next more h = inl refl
  next_same (Lacks file) next more h = inl refl
  next_same (Accepts a) next more h = h a

  both_same : (o other : Outcome A) (next more : A → Outcome B) → IsSameOrLacks o other → ((a : A) → IsSameOrLacks (next a) (more a)) → IsSameOrLacks (o >>= next) (other >>= more)
  both_same o other next more (inl same) h = subst (λ (x : Outcome A). IsSameOrLacks (o >>= next) (x >>= more)) same (next_same o next more h)
  both_same o other next more (inr lacks) h = inr (lacks.0, ap (λ (x : Outcome A). x >>= next) lacks.1)

  given_same : (given : Option A) (next more : A → Outcome B) → ((x : A) → given ≡ Some x → IsSameOrLacks (next x) (more x)) → IsSameOrLacks (if_given given next) (if_given given more)
  given_same None next more h = inl refl
  given_same (Some x) next more h = some_same (next x) (more x) (h x refl)
    where
      some_same : (o other : Outcome B) → IsSameOrLacks o other → IsSameOrLacks (o >>= (λ y. Accepts (Some y))) (other >>= (λ y. Accepts (Some y)))
      some_same o other (inl same) = inl (ap (λ (x : Outcome B). x >>= (λ y. Accepts (Some y))) same)
      some_same o other (inr lacks) = inr (lacks.0, ap (λ (x : Outcome B). x >>= (λ y. Accepts (Some y))) lacks.1)

-- and what is made of it
made_same : {A B : Type 0} (o other : Outcome A) (make : A → B) → IsSameOrLacks o other → IsSameOrLacks (o >>= (λ a. Accepts (make a))) (other >>= (λ a. Accepts (make a)))
made_same o other make h = both_same o other (λ a. Accepts (make a)) (λ a. Accepts (make a)) h (λ a. inl refl)

module _ (files : Files) (n : Names) (contents : Contents) (may : MayHandOut (Some files) n contents) where
  abbrev has : Contents
  has = λ file. held files (name_of_file file n)

  of_file : (file : File) (name : List ℕ) → (contents file ≡ Absent) ⊎ (held files (Some name) ≡ contents file) → name_of_file file n ≡ Some name
      → IsSameOrLacks (handing file (contents file)) (handing file (has file))
  of_file file name (inl none) named = inr (file, ap (handing file) none)
  of_file file name (inr same) named = inl (ap (handing file) (sym (ap (held files) named ∙ same)))

  handed_same : (file : File) (name : List ℕ) → name_of_file file n ≡ Some name → IsSameOrLacks (handing file (contents file)) (handing file (has file))
  handed_same file name named =
      of_file file name
      (given_or_held files name (contents file) (subst (λ (n : Option (List ℕ)). IfSome n (λ t. MayGive (Some files) t (contents file))) named (may file))) named

  read_same : {A E : Type 0} (file : File) (refusal : E → InputRefusal) (read : List ℕ → Result A E) (name : List ℕ) → name_of_file file n ≡ Some name
      → IsSameOrLacks (reading_file file refusal read (contents file)) (reading_file file refusal read (has file))
  read_same file refusal read name named =
      both_same (handing file (contents file)) (handing file (has file)) (λ b. reading refusal (read b)) (λ b. reading refusal (read b)) (handed_same file name named) (λ b. inl refl)

  switchings_same : (case : Lists) → IsSameOrLacks (reading_switchings n.switch case contents) (reading_switchings n.switch case has)
  switchings_same case =
      given_same n.switch (λ name. reading_file file.Switch SwitchRefused (switchings_of case) (contents file.Switch)) (λ name. reading_file file.Switch SwitchRefused (switchings_of case) (has file.Switch))
      (λ name named. read_same file.Switch SwitchRefused (switchings_of case) name named)

  inputs_same : {Q : Type 0} (question : Q) (case : Lists) → IsSameOrLacks (reading_inputs n.switch question case contents) (reading_inputs n.switch question case has)
  inputs_same question case =
      made_same (reading_switchings n.switch case contents) (reading_switchings n.switch case has) (λ rows. record { case = case; switchings = rows; question = question }) (switchings_same case)

  -- what comes behind the case
  from_case : {B : Type 0} (rest : Lists → Contents → Outcome B) (name : List ℕ) → n.case ≡ Some name → ((case : Lists) → IsSameOrLacks (rest case contents) (rest case has))
      → IsSameOrLacks (reading_case (contents file.Case) >>= (λ case. rest case contents)) (reading_case (has file.Case) >>= (λ case. rest case has))
  from_case rest name named more =
      both_same (reading_case (contents file.Case)) (reading_case (has file.Case)) (λ case. rest case contents) (λ case. rest case has) (read_same file.Case CaseRefused case_of name named) more

  network_same : {Q : Type 0} (question : Q) (name : List ℕ) → n.case ≡ Some name → IsSameOrLacks (reading_network n.switch question contents) (reading_network n.switch question has)
  network_same question name named = from_case (reading_inputs n.switch question) name named (inputs_same question)

  over_same : (question : Criteria) (name : List ℕ) → n.storm ≡ Some name → (case : Lists) → IsSameOrLacks (reading_over n.switch question case contents) (reading_over n.switch question case has)
  over_same question name named case =
      let read : List ℕ → Result StormView StormRefusal = storm_of (zone_names case.zones) in
      both_same (reading_storm case (contents file.Storm)) (reading_storm case (has file.Storm))
      (λ storm. reading_after_storm n.switch question case storm contents) (λ storm. reading_after_storm n.switch question case storm has) (read_same file.Storm StormRefused read name named)
      (λ storm. made_same (reading_switchings n.switch case contents) (reading_switchings n.switch case has)
      (λ rows. record { case = case; switchings = rows; storm = storm; question = question }) (switchings_same case))

-- what a request asks for
asked_same : (files : Files) (r : Request) (contents : Contents) → MayHandOut (Some files) (names_in r) contents → IsSameOrLacks (asking r contents) (asking r (held_for files (Ok r)))
asked_same files (request.Network m r) contents may =
    let n : Names = of_case r.case r.switch in
    from_case files n contents may (asking_network m r) r.case refl (λ lists. made_same _ _ (network_given m r lists) (switchings_same files n contents may lists))
asked_same files (request.Study r) contents may =
    let n : Names = record (of_case r.case r.switch) { storm = Some r.storm } in
    from_case files n contents may (asking_study r) r.case refl
    (λ lists. made_same _ _ (study_given r) (over_same files n contents may _ r.storm refl lists))
asked_same files (request.Make r) contents may = inl refl
asked_same files (request.Recheck r) contents may =
    let n : Names = record (of_case r.case r.switch) { cert = Some r.cert } in
    both_same _ _ (λ inputs. asking_recheck inputs contents) (λ inputs. asking_recheck inputs (held_for files (Ok (request.Recheck r)))) (network_same files n contents may _ r.case refl)
    (λ inputs. made_same _ _ (recheck_given inputs) (handed_same files n contents may file.Certificate r.cert refl))
asked_same files (request.Series r) contents may =
    let n : Names = record (of_case r.case r.switch) { storm = Some r.storm } in
    from_case files n contents may (asking_series r) r.case refl
    (λ lists. next_same (reading (λ refusal. refusal) (transformer_asked lists r.transformer)) _ _
    (λ place. made_same _ _ (series_given r place) (over_same files n contents may _ r.storm refl lists)))
asked_same files (request.Robust r) contents may = made_same _ _ asked.Robust (network_same files (of_case r.case r.switch) contents may _ r.case refl)

same_words : (files : Files) (r : Result Request Usage) (contents : Contents) → IfOk r (λ q. MayHandOut (Some files) (names_in q) contents)
    → IsSameOrLacks (reading UsageRefusal r >>= (λ q. asking q contents)) (reading UsageRefusal r >>= (λ q. asking q (held_for files r)))
same_words files (Ok q) contents may = asked_same files q contents may
same_words files (Err u) contents may = inl refl

-- an answer to a file that is lacking is that it can't be read, or out of memory
lacking : (o other : Outcome Asked) (f : File) (answer : Result Asked InputFault) → o ≡ Lacks f → IsAnswer o answer
    → ((file : File) → ¬ (answer ≡ Err (CannotRead file))) → IsAnswer other answer
lacking o other f (Ok inputs) is h read = absurd (grind (arith, sym is ∙ h))
lacking o other f (Err (Refused r)) is h read = absurd (grind (arith, sym is ∙ h))
lacking o other f (Err (CannotRead file)) is h read = absurd (read file refl)
lacking o other f (Err Memory) is h read = tt

either : (o other : Outcome Asked) (answer : Result Asked InputFault) → IsSameOrLacks o other → IsAnswer o answer
    → ((file : File) → ¬ (answer ≡ Err (CannotRead file))) → IsAnswer other answer
either o other answer (inl same) h read = subst (λ (x : Outcome Asked). IsAnswer x answer) same h
either o other answer (inr lacks) h read = lacking o other lacks.0 answer lacks.1 h read

pub answers_of_files : AnswersOfFiles
answers_of_files words files before now answer a can =
    either (outcome words a.contents) (outcome words (held_for files (request_of words))) answer
    (same_words files (request_of words) a.contents a.handed) a.asked (λ file e. can file (a.failed file e))
