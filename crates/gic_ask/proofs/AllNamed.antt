-- All that a request names is read one file after another.
use Rattle.std.proofs.Common.{◌≡◌, ℕ, List, [], ◌++◌, Bool, true, false, Option, Some, None, Result, Ok, Err, refl, sym, ap, subst, append-nil, arith}
use Rattle.std.specs.Prelude.{IfOk, IfErr, IfSome, IsSomeAnd, IsOkAnd, ok_or}
use Rattle.gic_files.specs.Files.{Files, Fetches, HasFailed}
use Rattle.gic_case.specs.Lists.{Lists}
use Rattle.gic_inputs.specs.declared.inputs.Inputs.{Inputs}
use Rattle.gic_criteria.specs.declared.asked.Criteria.{Criteria}
use Rattle.gic_words.specs.Requests.{request_of}
use Rattle.gic_words.specs.declared.fault.Usage.{Usage}
use Rattle.gic_words.specs.declared.request.Request.{Request}
use Rattle.gic_ask.specs.Asks.{Asks, IsAnswer, EndsAt, FetchesInOrder, CouldNotRead, file_of, files_given}
use Rattle.gic_ask.specs.Contents.{Absent, Contents, Names, NamedFile, MayHandOut, file_named, files_named, name_of_file, names_in, of_case}
use Rattle.gic_ask.specs.Outcome.{Outcome, Accepts, ◌>>=◌, reading, reading_case, reading_network, transformer_named, transformer_asked, asking, outcome}
use Rattle.gic_ask.specs.Steps.{Gives, Reads}
use Rattle.gic_ask.specs.declared.fault.File.{File}
use Rattle.gic_ask.specs.declared.fault.File.TheVariants as file
use Rattle.gic_ask.specs.declared.fault.InputFault.{InputFault}
use Rattle.gic_ask.specs.declared.fault.InputFault.TheVariants.{Refused, CannotRead, Memory}
use Rattle.gic_ask.specs.declared.fault.InputRefusal.{InputRefusal}
use Rattle.gic_ask.specs.declared.fault.InputRefusal.TheVariants.{UnknownTransformer, Usage as UsageRefusal}
use Rattle.gic_ask.specs.declared.request.Asked.{Asked}
use Rattle.gic_ask.proofs.InTurn.{goes_on, nowhere_unread, stops_nowhere, ends_alone, none_fetched, none_handed, among, first_refused, last_step, last_fails}

-- the files that are read up to a step
abbrev pub up_to_case : File → Bool
up_to_case file.Case = true
up_to_case _ = false

abbrev pub up_to_storm : File → Bool
up_to_storm file.Storm = true
up_to_storm _ = false

abbrev pub up_to_certificate : File → Bool
up_to_certificate file.Certificate = false
up_to_certificate _ = true

-- ---- the transformer

-- it is found
pub found : {B : Type 0} (files : Option Files) (o : Names) (named : List NamedFile) (before now : Fetches) (case : Lists) (name : List ℕ) (place : ℕ) (next : ℕ → Contents → Outcome B)
    (answer : Result B InputFault) → Ok place ≡ transformer_asked case name → Reads files o named (next place) before now answer
    → Reads files o named (λ contents. reading (λ refusal. refusal) (transformer_asked case name) >>= (λ p. next p contents)) before now answer
found files o named before now case name place next answer is r = record {
  contents = r.contents;
  handed = r.handed;
  is = goes_on (reading (λ refusal. refusal) (transformer_asked case name)) place (λ p. next p r.contents) answer (ap (reading (λ refusal. refusal)) (sym is)) r.is;
  fetched = r.fetched;
  failed = r.failed;
  kept = r.kept;
}

-- it isn't, which is a fault of the case
not_found : (place : Option ℕ) (refusal : InputRefusal) → Err refusal ≡ ok_or place UnknownTransformer → file_of (Refused refusal) ≡ Some file.Case
not_found None refusal is = let same : refusal ≡ UnknownTransformer = grind (arith, is) in ap (λ r. file_of (Refused r)) same
not_found (Some place) refusal is = absurd (grind (arith, is))

-- so no further file is asked for
pub unfound : {B : Type 0} (files : Option Files) (o : Names) (name : List ℕ) (more : List NamedFile) (before now : Fetches) (case : Lists) (unit : List ℕ) (next : Lists → ℕ → Contents → Outcome B)
    (refusal : InputRefusal) → o.case ≡ Some name → Gives files name file.Case reading_case before now (Ok case) → Err refusal ≡ transformer_asked case unit
    → Reads {A = B} files o (file_named file.Case (Some name) ++ more)
    (λ contents. reading_case (contents file.Case) >>= (λ c. reading (λ refusal. refusal) (transformer_asked c unit) >>= (λ p. next c p contents))) before now (Err (Refused refusal))
unfound files o name more before now case unit next refusal named c is =
    first_refused files o (file_named file.Case (Some name)) more (λ contents. reading_case (contents file.Case))
    (λ k contents. reading (λ refusal. refusal) (transformer_asked k unit) >>= (λ p. next k p contents)) before before now case refusal
    (among files o name file.Case reading_case before now (Ok case) named c)
    (λ contents. ap (λ r. reading (λ refusal. refusal) r >>= (λ p. next case p contents)) (sym is))
    (subst (λ (at : Option File). IfSome at (EndsAt (file_named file.Case (Some name)))) (sym (not_found (transformer_named case unit) refusal is)) (ends_alone file.Case name))

-- ---- requests

-- what a request reads, and its answer
abbrev pub Gathers : Option Files → Request → (before now : Fetches) → Result Asked InputFault → Type 0
Gathers files request before now answer = Reads files (names_in request) (files_named (names_in request)) (asking request) before now answer

-- a list of files that is that of a request
pub of_list : {A : Type 0} (files : Option Files) (o : Names) (named all : List NamedFile) (step : Contents → Outcome A) (before now : Fetches) (answer : Result A InputFault) → named ≡ all
    → Reads files o named step before now answer → Reads files o all step before now answer
of_list {A} files o named all step before now answer same r = subst (λ (l : List NamedFile). Reads {A = A} files o l step before now answer) same r

-- a request that is known
pub of_request : (files : Option Files) (request known : Request) (before now : Fetches) (answer : Result Asked InputFault) → request ≡ known
    → Gathers files known before now answer → Gathers files request before now answer
of_request files request known before now answer is g = subst (λ (r : Request). Gathers files r before now answer) (sym is) g

-- criteria that are known
pub in_criteria : {A : Type 0} (files : Option Files) (o : Names) (named : List NamedFile) (step : Criteria → Contents → Outcome A) (criteria known : Criteria) (before now : Fetches)
    (answer : Result A InputFault) → criteria ≡ known → Reads files o named (step criteria) before now answer → Reads files o named (step known) before now answer
in_criteria files o named step criteria known before now answer is r = subst (λ (q : Criteria). Reads files o named (step q) before now answer) is r

-- one of a network, and what is made of it
module _ {Q : Type 0} (files : Option Files) (case : List ℕ) (switch : Option (List ℕ)) (question : Q) (make : Inputs Q → Asked) (before now : Fetches) where
  abbrev network_files : List NamedFile
  network_files = file_named file.Case (Some case) ++ file_named file.Switch switch

  abbrev Made : Result Asked InputFault → Type 0
  Made answer = Reads files (of_case case switch) (file_named file.Case (Some case) ++ (file_named file.Switch switch ++ [])) (λ contents. reading_network switch question contents >>= (λ i. Accepts (make i))) before now answer

  whole : network_files ≡ file_named file.Case (Some case) ++ (file_named file.Switch switch ++ [])
  whole = ap (λ l. file_named file.Case (Some case) ++ l) (sym (append-nil (file_named file.Switch switch)))

  pub network_made : (inputs : Inputs Q) → Reads {A = Inputs Q} files (of_case case switch) network_files (reading_network switch question) before now (Ok inputs) → Made (Ok (make inputs))
  network_made inputs r =
      of_list files (of_case case switch) network_files _ _ before now (Ok (make inputs)) whole
      (last_step files (of_case case switch) network_files (reading_network switch question) make before now inputs r)

  pub network_fails : (fault : InputFault) → Reads {A = Inputs Q} files (of_case case switch) network_files (reading_network switch question) before now (Err fault) → Made (Err fault)
  network_fails fault r =
      of_list files (of_case case switch) network_files _ _ before now (Err fault) whole
      (last_fails files (of_case case switch) network_files (reading_network switch question) make before now fault r)

-- nothing is read
pub none_named : (files : Option Files) (o : Names) (asked : Asked) (before : Fetches) → Reads files o [] (λ contents. Accepts asked) before before (Ok asked)
none_named files o asked before = record {
  contents = λ file. Absent;
  handed = none_handed files o;
  is = refl;
  fetched = none_fetched [] before.fetched (Ok asked) refl tt;
  failed = tt;
  kept = refl;
}

-- ---- what is asked for

-- words that are refused, or no memory for them
pub nothing_asked : (words : List (List ℕ)) (files : Option Files) (before : Fetches) (fault : InputFault) → IsAnswer (outcome words (λ file. Absent)) (Err fault)
    → file_of fault ≡ None → Asks words files before before (Err fault)
nothing_asked words files before fault is none = record {
  contents = λ file. Absent;
  handed = handed_for (request_of words);
  asked = is;
  failed = λ file e. absurd (nowhere_unread {A = Asked} (Err fault) none file (grind (arith, e)));
  fetched = none_fetched (files_given (request_of words)) before.fetched (Err fault) tt (stops_nowhere {A = Asked} [] (Err fault) none);
}
  where
    handed_for : (r : Result Request Usage) → IfOk r (λ q. MayHandOut files (names_in q) (λ file. Absent))
    handed_for (Ok q) = none_handed files (names_in q)
    handed_for (Err u) = tt

pub words_refused : (words : List (List ℕ)) (files : Option Files) (before : Fetches) (u : Usage) → request_of words ≡ Err u → Asks words files before before (Err (Refused (UsageRefusal u)))
words_refused words files before u e =
    nothing_asked words files before (Refused (UsageRefusal u)) (ap (λ (r : Result Request Usage). reading UsageRefusal r >>= (λ q. asking q (λ file. Absent))) e) refl

pub memory_wanting : (words : List (List ℕ)) (files : Option Files) (before : Fetches) → Asks words files before before (Err Memory)
memory_wanting words files before = nothing_asked words files before Memory tt refl

-- the fault of a file that can't be read tells its fetch
told_of : (words : List (List ℕ)) (q : Request) (before now : Fetches) (answer : Result Asked InputFault) → request_of words ≡ Ok q
    → IfErr answer (λ fault. (unread : File) → fault ≡ CannotRead unread → IsSomeAnd (name_of_file unread (names_in q)) (HasFailed before.failures now.failures))
    → (file : File) → answer ≡ Err (CannotRead file) → CouldNotRead words file before.failures now.failures
told_of words q before now (Ok asked) e h file is = grind (arith, is)
told_of words q before now (Err fault) e h file is =
    subst (λ (r : Result Request Usage). IsOkAnd r (λ p. IsSomeAnd (name_of_file file (names_in p)) (HasFailed before.failures now.failures))) (sym e) (h file (grind (arith, is)))

-- words that are read, and what a reading of their files answers
pub gathered_asks : (words : List (List ℕ)) (files : Option Files) (q : Request) (before now : Fetches) (answer : Result Asked InputFault) → request_of words ≡ Ok q
    → Gathers files q before now answer → Asks words files before now answer
gathered_asks words files q before now answer e r = record {
  contents = r.contents;
  handed = subst (λ (a : Result Request Usage). IfOk a (λ p. MayHandOut files (names_in p) r.contents)) (sym e) r.handed;
  asked = subst (λ (a : Result Request Usage). IsAnswer (reading UsageRefusal a >>= (λ p. asking p r.contents)) answer) (sym e) r.is;
  failed = told_of words q before now answer e r.failed;
  fetched = subst (λ (a : Result Request Usage). FetchesInOrder (files_given a) before.fetched now.fetched answer) (sym e) r.fetched;
}
