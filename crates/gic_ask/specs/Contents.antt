-- What a library hands out of the files that are named.
use Rattle.std.specs.Prelude.{◌≡◌, ℕ, ◌≤◌, ◌<◌, List, [], ◌∷◌, ◌++◌, length, None, Some, IfSome, IsSomeAnd, ⊤}
use Rattle.std.specs.declared.option.Option.{Option}
use Rattle.std.specs.FinMap.{get}
use Rattle.gic_files.specs.Files.{Files}
use Rattle.gic_base.specs.declared.limits.TheConstants.{LIMIT}
use Rattle.gic_words.specs.declared.request.Request.{Request}
use Rattle.gic_words.specs.declared.request.Request.TheVariants as request
use Rattle.gic_ask.specs.declared.fault.File.{File}
use Rattle.gic_ask.specs.declared.fault.File.TheVariants.{Case, Storm, Switch, Certificate}

-- the names that a request gives for files
pub record Names : Type 0 where
  pub case : Option (List ℕ)
  pub storm : Option (List ℕ)
  pub switch : Option (List ℕ)
  pub cert : Option (List ℕ)

-- a case, with its switchings, where they are named
abbrev pub of_case : (case : List ℕ) → (switch : Option (List ℕ)) → Names
of_case case switch = record { case = Some case; storm = None; switch = switch; cert = None }

-- one row for the modes over the network of a case, and one for each other
abbrev pub names_in : Request → Names
names_in (request.Network m r) = of_case r.case r.switch
names_in (request.Study r) = record (of_case r.case r.switch) { storm = Some r.storm }
names_in (request.Make r) = record { case = None; storm = None; switch = None; cert = None }
names_in (request.Recheck r) = record (of_case r.case r.switch) { cert = Some r.cert }
names_in (request.Series r) = record (of_case r.case r.switch) { storm = Some r.storm }
names_in (request.Robust r) = of_case r.case r.switch

-- the name of a file
abbrev pub name_of_file : File → Names → Option (List ℕ)
name_of_file Case n = n.case
name_of_file Storm n = n.storm
name_of_file Switch n = n.switch
name_of_file Certificate n = n.cert

-- a file, and the name that is given for it
pub record NamedFile : Type 0 where
  pub file : File
  pub name : List ℕ

-- a file, where a name is given for it
abbrev pub file_named : File → (name : Option (List ℕ)) → List NamedFile
file_named file None = []
file_named file (Some name) = record { file = file; name = name } ∷ []

-- the files that are named, in the order in which they are fetched: the case, the storm and the switchings over it, and the certificate
abbrev pub files_named : Names → List NamedFile
files_named n = file_named Case n.case ++ (file_named Storm n.storm ++ (file_named Switch n.switch ++ file_named Certificate n.cert))

-- of a file: nothing, that it is longer than 16777216 bytes, `LIMIT`, or its bytes
pub data Given : Type 0 where
  Absent : Given
  Long : Given
  Whole : List ℕ → Given

-- a library may hand this out for a name: what it has, where it tells its files
abbrev pub MayGive : Option Files → (name : List ℕ) → Given → Type 0
MayGive files name Absent = ⊤
MayGive files name Long = IfSome files (λ f. IsSomeAnd (get f name) (λ bytes. LIMIT < length bytes))
MayGive files name (Whole bytes) = (length bytes ≤ LIMIT) × IfSome files (λ f. get f name ≡ Some bytes)

-- what was handed out of each file
abbrev pub Contents : Type 0
Contents = File → Given

-- each file that is named
abbrev pub MayHandOut : Option Files → Names → Contents → Type 0
MayHandOut files names contents = (file : File) → IfSome (name_of_file file names) (λ name. MayGive files name (contents file))
