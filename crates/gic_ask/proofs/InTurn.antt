-- Files that are fetched and read one after another.
use Rattle.std.proofs.Common.{◌≡◌, ℕ, List, [], ◌∷◌, ◌++◌, ◌⊎◌, inl, inr, Bool, true, false, cond, Option, Some, None, Result, Ok, Err, refl, sym, ap, subst, ◌∙◌, append_assoc, append-nil, arith}
use Rattle.std.proofs.lemmas.List.{map-append}
use Rattle.std.specs.Prelude.{IfErr, IfSome, IsSomeAnd, IsErrAnd, OnOk, map}
use Rattle.gic_inputs.proofs.Answered.{answered}
use Rattle.gic_files.specs.Files.{Files, Fetches, HasFailed}
use Rattle.gic_ask.specs.Asks.{IsAnswer, EndsAt, FetchesInOrder, file_of}
use Rattle.gic_ask.specs.Contents.{Given, Absent, Whole, Contents, Names, NamedFile, MayGive, MayHandOut, file_named, name_of_file}
use Rattle.gic_ask.specs.Outcome.{Outcome, Accepts, ◌>>=◌, reading, if_given, handing, reading_file}
use Rattle.gic_ask.specs.Steps.{Gives, Reads}
use Rattle.gic_ask.specs.declared.fault.File.{File}
use Rattle.gic_ask.specs.declared.fault.File.TheVariants as file
use Rattle.gic_ask.specs.declared.fault.InputFault.{InputFault}
use Rattle.gic_ask.specs.declared.fault.InputFault.TheVariants.{Refused, CannotRead, Memory}
use Rattle.gic_ask.specs.declared.fault.InputRefusal.{InputRefusal}

-- ---- answers

-- what holds anyway holds where there is no fault
on_ok : {A : Type 0} {P : Type 0} (answer : Result A InputFault) → P → OnOk answer P
on_ok (Ok a) p = p
on_ok (Err fault) p = tt

-- what comes after what is accepted
pub goes_on : {A B : Type 0} (o : Outcome A) (a : A) (next : A → Outcome B) (answer : Result B InputFault) → o ≡ Accepts a → IsAnswer (next a) answer → IsAnswer (o >>= next) answer
goes_on {A} {B} o a next answer is h = subst (λ (x : Outcome B). IsAnswer x answer) (sym (ap (λ (x : Outcome A). x >>= next) is)) h

-- and after a fault
pub stops : {A B : Type 0} (o : Outcome A) (next : A → Outcome B) (fault : InputFault) → IsAnswer {A = A} o (Err fault) → IsAnswer {A = B} (o >>= next) (Err fault)
stops {A} o next (Refused refusal) h = ap (λ (x : Outcome A). x >>= next) h
stops {A} o next (CannotRead file) h = ap (λ (x : Outcome A). x >>= next) h
stops o next Memory h = tt

-- what is read of bytes that are there lacks no file
never_unread : {A E : Type 0} (refusal : E → InputRefusal) (r : Result A E) (answer : Result A InputFault) → IsAnswer (reading refusal r) answer
    → IfErr answer (λ fault. (unread : File) → ¬ (fault ≡ CannotRead unread))
never_unread refusal r (Ok a) h = tt
never_unread refusal r (Err (Refused other)) h = λ unread e. grind (arith, e)
never_unread refusal (Ok a) (Err (CannotRead file)) h = λ unread e. grind (arith, h)
never_unread refusal (Err e) (Err (CannotRead file)) h = λ unread e. grind (arith, h)
never_unread refusal r (Err Memory) h = λ unread e. grind (arith, e)

-- nor does what arises at no file
pub nowhere_unread : {A : Type 0} (answer : Result A InputFault) → IfErr answer (λ fault. file_of fault ≡ None) → IfErr answer (λ fault. (unread : File) → ¬ (fault ≡ CannotRead unread))
nowhere_unread (Ok a) h = tt
nowhere_unread (Err fault) h = λ unread e. let none : Some unread ≡ None = sym (ap file_of e) ∙ h in grind (arith, none)

-- a fault that is none of these tells no failed fetch
untold : {A : Type 0} (P : File → Type 0) (answer : Result A InputFault) → IfErr answer (λ fault. (unread : File) → ¬ (fault ≡ CannotRead unread))
    → IfErr answer (λ fault. (unread : File) → fault ≡ CannotRead unread → P unread)
untold P (Ok a) h = tt
untold P (Err fault) h = λ unread e. absurd (h unread e)

-- ---- names

-- the names of these files
abbrev names_of : List NamedFile → List (List ℕ)
names_of named = map (λ (f : NamedFile). f.name) named

-- a fault arises at the last of these files, if at any
abbrev pub StopsAt : {A : Type 0} → List NamedFile → Result A InputFault → Type 0
StopsAt named answer = IfErr answer (λ fault. IfSome (file_of fault) (EndsAt named))

-- a file alone
pub ends_alone : (file : File) (name : List ℕ) → EndsAt (file_named file (Some name)) file
ends_alone file name = record { earlier = []; name = name; are = refl }

-- the last of the later ones is the last of all
ends_later : (named more : List NamedFile) (at : Option File) → IfSome at (EndsAt more) → IfSome at (EndsAt (named ++ more))
ends_later named more None h = tt
ends_later named more (Some file) h = record {
  earlier = named ++ h.earlier;
  name = h.name;
  are = ap (λ l. named ++ l) h.are ∙ sym (append_assoc named h.earlier (record { file = file; name = h.name } ∷ []));
}

stops_later : {A : Type 0} (named more : List NamedFile) (answer : Result A InputFault) → StopsAt more answer → StopsAt (named ++ more) answer
stops_later named more (Ok a) h = tt
stops_later named more (Err fault) h = ends_later named more (file_of fault) h

-- a fault that arises at no file
pub stops_nowhere : {A : Type 0} (named : List NamedFile) (answer : Result A InputFault) → IfErr answer (λ fault. file_of fault ≡ None) → StopsAt named answer
stops_nowhere named (Ok a) h = tt
stops_nowhere named (Err fault) h = subst (λ (at : Option File). IfSome at (EndsAt named)) (sym h) tt

-- no name yet
pub none_fetched : {A : Type 0} (named : List NamedFile) (before : List (List ℕ)) (answer : Result A InputFault) → OnOk answer (named ≡ []) → StopsAt [] answer
    → FetchesInOrder named before before answer
none_fetched named before answer h none = record { prefix = []; rest = named; named_are = refl; later = sym (append-nil before); all = h; none_after = none }

all_fetched : {A : Type 0} (named : List NamedFile) (before now : List (List ℕ)) (answer : Result A InputFault) → now ≡ before ++ names_of named → StopsAt named answer
    → FetchesInOrder named before now answer
all_fetched named before now answer h none = record { prefix = named; rest = []; named_are = sym (append-nil named); later = h; all = on_ok answer refl; none_after = none }

-- all names, where there is no fault
all_of : {A : Type 0} (named : List NamedFile) (before now : List (List ℕ)) (a : A) → FetchesInOrder {A = A} named before now (Ok a) → now ≡ before ++ names_of named
all_of named before now a f = f.later ∙ ap (λ l. before ++ names_of l) (sym (f.named_are ∙ ap (λ l. f.prefix ++ l) f.all ∙ append-nil f.prefix))

-- and further ones after them
in_order : {A B : Type 0} (named more : List NamedFile) (before mid now : List (List ℕ)) (a : A) (answer : Result B InputFault) → FetchesInOrder {A = A} named before mid (Ok a)
    → FetchesInOrder more mid now answer → FetchesInOrder (named ++ more) before now answer
in_order named more before mid now a answer f g = record {
  prefix = named ++ g.prefix;
  rest = g.rest;
  named_are = ap (λ l. named ++ l) g.named_are ∙ sym (append_assoc named g.prefix g.rest);
  later = g.later ∙ ap (λ l. l ++ names_of g.prefix) (all_of named before mid a f) ∙ append_assoc before (names_of named) (names_of g.prefix)
      ∙ ap (λ l. before ++ l) (sym (map-append (λ (f : NamedFile). f.name) named g.prefix));
  all = g.all;
  none_after = stops_later named g.prefix answer g.none_after;
}

-- up to a fault, whatever would have come after it
stopped : {A B : Type 0} (named more : List NamedFile) (before now : List (List ℕ)) (fault : InputFault) → FetchesInOrder {A = A} named before now (Err fault)
    → FetchesInOrder {A = B} (named ++ more) before now (Err fault)
stopped named more before now fault f = record {
  prefix = f.prefix;
  rest = f.rest ++ more;
  named_are = ap (λ l. l ++ more) f.named_are ∙ append_assoc f.prefix f.rest more;
  later = f.later;
  all = tt;
  none_after = f.none_after;
}

-- a fault at the last of those that are read, whatever would have come after it
refused_after : {A B : Type 0} (named more : List NamedFile) (before now : List (List ℕ)) (a : A) (fault : InputFault) → FetchesInOrder {A = A} named before now (Ok a)
    → IfSome (file_of fault) (EndsAt named) → FetchesInOrder {A = B} (named ++ more) before now (Err fault)
refused_after named more before now a fault f none = record {
  prefix = named;
  rest = more;
  named_are = refl;
  later = all_of named before now a f;
  all = tt;
  none_after = none;
}

-- a fault of another kind of answer
pub still : {A B : Type 0} (named : List NamedFile) (before now : List (List ℕ)) (fault : InputFault) → FetchesInOrder {A = A} named before now (Err fault)
    → FetchesInOrder {A = B} named before now (Err fault)
still named before now fault f = record { prefix = f.prefix; rest = f.rest; named_are = f.named_are; later = f.later; all = tt; none_after = f.none_after }

-- ---- one file that is fetched

-- under a name that is the same
pub renamed : {A : Type 0} (files : Option Files) (name other : List ℕ) (file : File) (step : Given → Outcome A) (before now : Fetches) (answer : Result A InputFault) → other ≡ name
    → Gives files other file step before now answer → Gives files name file step before now answer
renamed files name other file step before now answer same g = subst (λ (n : List ℕ). Gives files n file step before now answer) same g

-- its bytes
pub given_whole : (files : Option Files) (name bytes handed : List ℕ) (file : File) (before now : Fetches) → handed ≡ bytes → MayGive files name (Whole bytes)
    → now.fetched ≡ before.fetched ++ name ∷ [] → now.failures ≡ before.failures → Gives {A = List ℕ} files name file (handing file) before now (Ok handed)
given_whole files name bytes handed file before now same may fetched failures = record {
  given = Whole bytes;
  may = may;
  is = ap Accepts (sym same);
  fetched = all_fetched (file_named file (Some name)) before.fetched now.fetched (Ok handed) fetched tt;
  failed = tt;
  kept = failures;
}

-- a file that is there, or not, or is too long
pub not_given : (files : Option Files) (name : List ℕ) (file : File) (before now : Fetches) (given : Given) (fault : InputFault) → MayGive files name given
    → IsAnswer {A = List ℕ} (handing file given) (Err fault) → IfSome (file_of fault) (EndsAt (file_named file (Some name))) → now.fetched ≡ before.fetched ++ name ∷ []
    → ((unread : File) → fault ≡ CannotRead unread → (unread ≡ file) × HasFailed before.failures now.failures name)
    → Gives {A = List ℕ} files name file (handing file) before now (Err fault)
not_given files name file before now given fault may is at fetched failed = record {
  given = given;
  may = may;
  is = is;
  fetched = all_fetched (file_named file (Some name)) before.fetched now.fetched (Err fault) fetched at;
  failed = failed;
  kept = tt;
}

-- the failed fetch of a file
pub failed_now : (name : List ℕ) (file : File) (before now : Fetches) → now.failures ≡ before.failures ++ name ∷ []
    → (unread : File) → CannotRead file ≡ CannotRead unread → (unread ≡ file) × HasFailed before.failures now.failures name
failed_now name file before now e unread is = (grind (arith, is), record { gained = name ∷ []; later = e; among = (0, omega (arith), refl) })

-- no memory for the file, or for its name
pub memory_wants : (files : Option Files) (name : List ℕ) (file : File) (before now : Fetches) → (now.fetched ≡ before.fetched) ⊎ (now.fetched ≡ before.fetched ++ name ∷ [])
    → Gives {A = List ℕ} files name file (handing file) before now (Err Memory)
memory_wants files name file before now (inl none) = record {
  given = Absent;
  may = tt;
  is = tt;
  fetched = subst (λ (later : List (List ℕ)). FetchesInOrder {A = List ℕ} (file_named file (Some name)) before.fetched later (Err Memory)) (sym none)
      (none_fetched (file_named file (Some name)) before.fetched (Err Memory) tt tt);
  failed = λ unread e. grind (arith, e);
  kept = tt;
}
memory_wants files name file before now (inr fetched) = not_given files name file before now Absent Memory tt tt tt fetched (λ unread e. grind (arith, e))

-- ---- and read

-- the fault is handed on
pub gives_by : {A : Type 0} (files : Option Files) (name : List ℕ) (file : File) (step : Given → Outcome A) (before now : Fetches) (answer : Result A InputFault) (fault : InputFault)
    → IsErrAnd answer (λ e. e ≡ fault) → Gives {A = A} files name file step before now (Err fault) → Gives files name file step before now answer
gives_by {A} files name file step before now answer fault is g = subst (λ (a : Result A InputFault). Gives files name file step before now a) (sym (answered answer fault is)) g

module _ {A E : Type 0} (files : Option Files) (name : List ℕ) (file : File) (refusal : E → InputRefusal) (read : List ℕ → Result A E) (before now : Fetches) where
  given_read : (bytes : List ℕ) (answer : Result A InputFault) → Gives {A = List ℕ} files name file (handing file) before now (Ok bytes)
      → IsAnswer (reading refusal (read bytes)) answer → StopsAt (file_named file (Some name)) answer → Gives files name file (reading_file file refusal read) before now answer
  given_read bytes answer g h at = record {
    given = g.given;
    may = g.may;
    is = goes_on (handing file g.given) bytes (λ b. reading refusal (read b)) answer g.is h;
    fetched = all_fetched (file_named file (Some name)) before.fetched now.fetched answer (all_of (file_named file (Some name)) before.fetched now.fetched bytes g.fetched) at;
    failed = untold (λ unread. (unread ≡ file) × HasFailed before.failures now.failures name) answer (never_unread refusal (read bytes) answer h);
    kept = on_ok answer g.kept;
  }

  pub gives_fault : (fault : InputFault) → Gives {A = List ℕ} files name file (handing file) before now (Err fault)
      → Gives {A = A} files name file (reading_file file refusal read) before now (Err fault)
  gives_fault fault g = record {
    given = g.given;
    may = g.may;
    is = stops (handing file g.given) (λ b. reading refusal (read b)) fault g.is;
    fetched = still (file_named file (Some name)) before.fetched now.fetched fault g.fetched;
    failed = g.failed;
    kept = tt;
  }

  module _ (bytes held : List ℕ) (same : held ≡ bytes) (g : Gives {A = List ℕ} files name file (handing file) before now (Ok bytes)) where
    pub gives_read : (a : A) → read held ≡ Ok a → Gives files name file (reading_file file refusal read) before now (Ok a)
    gives_read a is = given_read bytes (Ok a) g (ap (reading refusal) (ap read (sym same) ∙ is)) tt

    pub gives_refused : (e : E) → file_of (Refused (refusal e)) ≡ Some file → read held ≡ Err e → Gives {A = A} files name file (reading_file file refusal read) before now (Err (Refused (refusal e)))
    gives_refused e at is =
        given_read bytes (Err (Refused (refusal e))) g (ap (reading refusal) (ap read (sym same) ∙ is))
        (subst (λ (f : Option File). IfSome f (EndsAt (file_named file (Some name)))) (sym at) (ends_alone file name))

    pub gives_memory : Gives {A = A} files name file (reading_file file refusal read) before now (Err Memory)
    gives_memory = given_read bytes (Err Memory) g tt tt

-- ---- among what a library may hand out

-- this of one file, and nothing of the others
abbrev pub only : File → Given → Contents
only file.Case given file.Case = given
only file.Storm given file.Storm = given
only file.Switch given file.Switch = given
only file.Certificate given file.Certificate = given
only _ given _ = Absent

only_same : (file : File) (given : Given) → only file given file ≡ given
only_same file.Case given = refl
only_same file.Storm given = refl
only_same file.Switch given = refl
only_same file.Certificate given = refl

nothing_given : (files : Option Files) (name : Option (List ℕ)) → IfSome name (λ n. MayGive files n Absent)
nothing_given files None = tt
nothing_given files (Some name) = tt

only_handed : (files : Option Files) (o : Names) (file : File) (given : Given) → IfSome (name_of_file file o) (λ n. MayGive files n given) → MayHandOut files o (only file given)
only_handed files o file.Case given may file.Case = may
only_handed files o file.Case given may file.Storm = nothing_given files o.storm
only_handed files o file.Case given may file.Switch = nothing_given files o.switch
only_handed files o file.Case given may file.Certificate = nothing_given files o.cert
only_handed files o file.Storm given may file.Case = nothing_given files o.case
only_handed files o file.Storm given may file.Storm = may
only_handed files o file.Storm given may file.Switch = nothing_given files o.switch
only_handed files o file.Storm given may file.Certificate = nothing_given files o.cert
only_handed files o file.Switch given may file.Case = nothing_given files o.case
only_handed files o file.Switch given may file.Storm = nothing_given files o.storm
only_handed files o file.Switch given may file.Switch = may
only_handed files o file.Switch given may file.Certificate = nothing_given files o.cert
only_handed files o file.Certificate given may file.Case = nothing_given files o.case
only_handed files o file.Certificate given may file.Storm = nothing_given files o.storm
only_handed files o file.Certificate given may file.Switch = nothing_given files o.switch
only_handed files o file.Certificate given may file.Certificate = may

-- nothing of any file
pub none_handed : (files : Option Files) (o : Names) → MayHandOut files o (λ file. Absent)
none_handed files o file = nothing_given files (name_of_file file o)

-- the failed fetch of the one file is that of a file that is named
failed_among : {A : Type 0} (o : Names) (name : List ℕ) (file : File) (before now : Fetches) (answer : Result A InputFault) → name_of_file file o ≡ Some name
    → IfErr answer (λ fault. (unread : File) → fault ≡ CannotRead unread → (unread ≡ file) × HasFailed before.failures now.failures name)
    → IfErr answer (λ fault. (unread : File) → fault ≡ CannotRead unread → IsSomeAnd (name_of_file unread o) (HasFailed before.failures now.failures))
failed_among o name file before now (Ok a) named h = tt
failed_among o name file before now (Err fault) named h = λ unread e.
    subst (λ f. IsSomeAnd (name_of_file f o) (HasFailed before.failures now.failures)) (sym (h unread e).0)
    (subst (λ (n : Option (List ℕ)). IsSomeAnd n (HasFailed before.failures now.failures)) (sym named) (h unread e).1)

pub among : {A : Type 0} (files : Option Files) (o : Names) (name : List ℕ) (file : File) (step : Given → Outcome A) (before now : Fetches) (answer : Result A InputFault)
    → name_of_file file o ≡ Some name → Gives files name file step before now answer → Reads files o (file_named file (Some name)) (λ contents. step (contents file)) before now answer
among files o name file step before now answer named g = record {
  contents = only file g.given;
  handed = only_handed files o file g.given (subst (λ (n : Option (List ℕ)). IfSome n (λ t. MayGive files t g.given)) (sym named) g.may);
  is = subst (λ (x : Given). IsAnswer (step x) answer) (sym (only_same file g.given)) g.is;
  fetched = g.fetched;
  failed = failed_among o name file before now answer named g.failed;
  kept = g.kept;
}

-- ---- where it is named

-- the answer, where something is named
abbrev pub some_answer : {A : Type 0} → Result A InputFault → Result (Option A) InputFault
some_answer (Ok a) = Ok (Some a)
some_answer (Err fault) = Err fault

module _ {A : Type 0} (files : Option Files) (o : Names) (named_by : Option (List ℕ) → List NamedFile) (given : Option (List ℕ)) (step : Contents → Outcome A) (before now : Fetches) where
  abbrev pub WhereNamed : Option (List ℕ) → Result (Option A) InputFault → Type 0
  WhereNamed n answer = Reads files o (named_by n) (λ contents. if_given n (λ name. step contents)) before now answer

  of_name : (name : List ℕ) (answer : Result A InputFault) → Reads files o (named_by (Some name)) step before now answer → WhereNamed (Some name) (some_answer answer)
  of_name name (Ok a) r = record {
    contents = r.contents;
    handed = r.handed;
    is = ap (λ (x : Outcome A). x >>= (λ y. Accepts (Some y))) r.is;
    fetched = all_fetched (named_by (Some name)) before.fetched now.fetched (Ok (Some a)) (all_of (named_by (Some name)) before.fetched now.fetched a r.fetched) tt;
    failed = tt;
    kept = r.kept;
  }
  of_name name (Err fault) r = record {
    contents = r.contents;
    handed = r.handed;
    is = stops (step r.contents) (λ y. Accepts (Some y)) fault r.is;
    fetched = still (named_by (Some name)) before.fetched now.fetched fault r.fetched;
    failed = r.failed;
    kept = tt;
  }

  pub where_named : (name : List ℕ) (answer : Result A InputFault) → given ≡ Some name → Reads files o (named_by (Some name)) step before now answer → WhereNamed given (some_answer answer)
  where_named name answer named r = subst (λ (n : Option (List ℕ)). WhereNamed n (some_answer answer)) (sym named) (of_name name answer r)

-- a file that may be named
pub where_file : {A : Type 0} (files : Option Files) (o : Names) (name : List ℕ) (file : File) (step : Given → Outcome A) (before now : Fetches) (answer : Result A InputFault)
    → name_of_file file o ≡ Some name → Gives files name file step before now answer
    → Reads files o (file_named file (name_of_file file o)) (λ contents. if_given (name_of_file file o) (λ n. step (contents file))) before now (some_answer answer)
where_file files o name file step before now answer named g =
    where_named files o (file_named file) (name_of_file file o) (λ contents. step (contents file)) before now name answer named (among files o name file step before now answer named g)

-- the fault is handed on
pub reads_by : {A : Type 0} (files : Option Files) (o : Names) (named : List NamedFile) (step : Contents → Outcome A) (before now : Fetches) (answer : Result A InputFault) (fault : InputFault)
    → IsErrAnd answer (λ e. e ≡ fault) → Reads {A = A} files o named step before now (Err fault) → Reads files o named step before now answer
reads_by {A} files o named step before now answer fault is r = subst (λ (a : Result A InputFault). Reads files o named step before now a) (sym (answered answer fault is)) r

-- nothing is named
pub unnamed : {A : Type 0} (files : Option Files) (o : Names) (named_by : Option (List ℕ) → List NamedFile) (given : Option (List ℕ)) (step : Contents → Outcome A) (before : Fetches)
    → named_by None ≡ [] → given ≡ None → Reads {A = Option A} files o (named_by given) (λ contents. if_given given (λ name. step contents)) before before (Ok None)
unnamed {A} files o named_by given step before empty not =
    subst (λ (n : Option (List ℕ)). Reads {A = Option A} files o (named_by n) (λ contents. if_given n (λ name. step contents)) before before (Ok None)) (sym not)
    (record {
      contents = λ file. Absent;
      handed = none_handed files o;
      is = refl;
      fetched = none_fetched (named_by None) before.fetched (Ok None) empty tt;
      failed = tt;
      kept = refl;
    })

-- ---- one after another

-- what is handed out of these files by the one, and of the others by the other
abbrev pub merged : (early : File → Bool) → Contents → Contents → Contents
merged early one two file = cond (early file) (one file) (two file)

either_handed : (files : Option Files) (name : Option (List ℕ)) (first : Bool) (one two : Given) → IfSome name (λ n. MayGive files n one) → IfSome name (λ n. MayGive files n two)
    → IfSome name (λ n. MayGive files n (cond first one two))
either_handed files name true one two h k = h
either_handed files name false one two h k = k

module _ {A B : Type 0} (files : Option Files) (o : Names) (named more : List NamedFile) (first : Contents → Outcome A) (rest : A → Contents → Outcome B) (before mid now : Fetches) where
  -- the second reads none of the files of the first
  pub then_reads : (later : Option Files) (early : File → Bool) (a : A) (answer : Result B InputFault)
      → ((one two : Contents) → first (merged early one two) ≡ first one) → ((one two : Contents) → rest a (merged early one two) ≡ rest a two)
      → Reads {A = A} files o named first before mid (Ok a) → later ≡ files → Reads later o more (rest a) mid now answer
      → Reads files o (named ++ more) (λ contents. first contents >>= (λ x. rest x contents)) before now answer
  then_reads later early a answer of_one of_two r content at =
      let s : Reads files o more (rest a) mid now answer = subst (λ (f : Option Files). Reads f o more (rest a) mid now answer) content at in
      let both : Contents = merged early r.contents s.contents in
      record {
        contents = both;
        handed = λ file. either_handed files (name_of_file file o) (early file) (r.contents file) (s.contents file) (r.handed file) (s.handed file);
        is = goes_on (first both) a (λ x. rest x both) answer (of_one r.contents s.contents ∙ r.is)
            (subst (λ (x : Outcome B). IsAnswer x answer) (sym (of_two r.contents s.contents)) s.is);
        fetched = in_order named more before.fetched mid.fetched now.fetched a answer r.fetched s.fetched;
        failed = subst (λ (b : List (List ℕ)). IfErr answer (λ fault. (unread : File) → fault ≡ CannotRead unread → IsSomeAnd (name_of_file unread o) (HasFailed b now.failures))) r.kept s.failed;
        kept = subst (λ (b : List (List ℕ)). OnOk answer (now.failures ≡ b)) r.kept s.kept;
      }

  -- the first has a fault
  pub first_fails : (fault : InputFault) → Reads {A = A} files o named first before now (Err fault)
      → Reads {A = B} files o (named ++ more) (λ contents. first contents >>= (λ x. rest x contents)) before now (Err fault)
  first_fails fault r = record {
    contents = r.contents;
    handed = r.handed;
    is = stops (first r.contents) (λ x. rest x r.contents) fault r.is;
    fetched = stopped named more before.fetched now.fetched fault r.fetched;
    failed = r.failed;
    kept = tt;
  }

  -- what comes after the first has a fault at the last of its files, whatever is handed out
  pub first_refused : (a : A) (refusal : InputRefusal) → Reads {A = A} files o named first before now (Ok a) → ((contents : Contents) → IsAnswer {A = B} (rest a contents) (Err (Refused refusal)))
      → IfSome (file_of (Refused refusal)) (EndsAt named) → Reads {A = B} files o (named ++ more) (λ contents. first contents >>= (λ x. rest x contents)) before now (Err (Refused refusal))
  first_refused a refusal r h at = record {
    contents = r.contents;
    handed = r.handed;
    is = goes_on (first r.contents) a (λ x. rest x r.contents) (Err (Refused refusal)) r.is (h r.contents);
    fetched = refused_after named more before.fetched now.fetched a (Refused refusal) r.fetched at;
    failed = λ unread e. grind (arith, e);
    kept = tt;
  }

-- what is made of all that is read, where no fault arises at a file
pub read_on : {A B : Type 0} (files : Option Files) (o : Names) (named : List NamedFile) (step : Contents → Outcome A) (next : A → Outcome B) (before now : Fetches) (a : A) (answer : Result B InputFault)
    → Reads {A = A} files o named step before now (Ok a) → IsAnswer (next a) answer → IfErr answer (λ fault. file_of fault ≡ None)
    → Reads files o named (λ contents. step contents >>= next) before now answer
read_on files o named step next before now a answer r h none = record {
  contents = r.contents;
  handed = r.handed;
  is = goes_on (step r.contents) a next answer r.is h;
  fetched = all_fetched named before.fetched now.fetched answer (all_of named before.fetched now.fetched a r.fetched) (stops_nowhere named answer none);
  failed = untold (λ unread. IsSomeAnd (name_of_file unread o) (HasFailed before.failures now.failures)) answer (nowhere_unread answer none);
  kept = on_ok answer r.kept;
}

-- the last step, of which something is made
pub last_step : {A B : Type 0} (files : Option Files) (o : Names) (named : List NamedFile) (step : Contents → Outcome A) (make : A → B) (before now : Fetches) (a : A)
    → Reads {A = A} files o named step before now (Ok a) → Reads {A = B} files o named (λ contents. step contents >>= (λ x. Accepts (make x))) before now (Ok (make a))
last_step files o named step make before now a r = read_on files o named step (λ x. Accepts (make x)) before now a (Ok (make a)) r refl tt

pub last_fails : {A B : Type 0} (files : Option Files) (o : Names) (named : List NamedFile) (step : Contents → Outcome A) (make : A → B) (before now : Fetches) (fault : InputFault)
    → Reads {A = A} files o named step before now (Err fault) → Reads {A = B} files o named (λ contents. step contents >>= (λ x. Accepts (make x))) before now (Err fault)
last_fails {A} {B} files o named step make before now fault r =
    subst (λ (all : List NamedFile). Reads {A = B} files o all (λ contents. step contents >>= (λ x. Accepts (make x))) before now (Err fault)) (append-nil named)
    (first_fails files o named [] step (λ x contents. Accepts (make x)) before before now fault r)

-- ---- a file that is read first

module _ {A B : Type 0} (files : Option Files) (o : Names) (file : File) (name : List ℕ) (step : Given → Outcome A) (more : List NamedFile) (rest : A → Contents → Outcome B) where
  pub file_fails : (before now : Fetches) (fault : InputFault) → name_of_file file o ≡ Some name → Gives {A = A} files name file step before now (Err fault)
      → Reads {A = B} files o (file_named file (Some name) ++ more) (λ contents. step (contents file) >>= (λ a. rest a contents)) before now (Err fault)
  file_fails before now fault named g =
      first_fails files o (file_named file (Some name)) more (λ contents. step (contents file)) rest before before now fault (among files o name file step before now (Err fault) named g)

  pub file_read : (early : File → Bool) (later : Option Files) (before mid now : Fetches) (a : A) (answer : Result B InputFault) → name_of_file file o ≡ Some name → early file ≡ true
      → ((one two : Contents) → rest a (merged early one two) ≡ rest a two) → Gives files name file step before mid (Ok a) → later ≡ files
      → Reads later o more (rest a) mid now answer
      → Reads files o (file_named file (Some name) ++ more) (λ contents. step (contents file) >>= (λ x. rest x contents)) before now answer
  file_read early later before mid now a answer named first of_two g at r =
      then_reads files o (file_named file (Some name)) more (λ contents. step (contents file)) rest before mid now later early a answer
      (λ one two. ap (λ b. step (cond b (one file) (two file))) first) of_two (among files o name file step before mid (Ok a) named g) at r
