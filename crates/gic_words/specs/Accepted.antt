-- What accepted words give: what their mode requires, with numbers in their ranges.
use Rattle.std.specs.Prelude.{ℕ, ◌≤◌, ◌≡◌, List, IsSome, IsOk, IfOk, IfSome, None, ⊤}
use Rattle.clap.specs.Words.{Row}
use Rattle.gic_criteria.specs.Ranges.{IsWidth, IsWithinCriteria, IsWithinRanges, IsWithinRobust}
use Rattle.gic_words.specs.Command.{given}
use Rattle.gic_words.specs.Requests.{first_fault, mode_in, number_given, request_by, request_of}
use Rattle.gic_words.specs.Table.{all_options}
use Rattle.gic_words.specs.Values.{event_of}
use Rattle.gic_words.specs.declared.mode.Mode.{Mode}
use Rattle.gic_words.specs.declared.mode.Mode.TheVariants as mode
use Rattle.gic_words.specs.declared.option.Opt.TheVariants.{Case, Storm, Seed, Size, Event, Cert, Transformer, Tolerance}
use Rattle.gic_words.specs.declared.request.Request.{Request}
use Rattle.gic_words.specs.declared.request.Request.TheVariants as request

-- what the mode requires is given
abbrev pub HasRequiredOf : Mode → List Row → Type 0
HasRequiredOf (mode.Network m) rows = IsSome (given rows Case)
HasRequiredOf mode.Study rows = IsSome (given rows Case) × IsSome (given rows Storm)
HasRequiredOf mode.Make rows = IsSome (number_given rows Seed) × IsSome (number_given rows Size)
HasRequiredOf mode.Recheck rows = IsSome (given rows Case) × IsSome (given rows Cert)
HasRequiredOf mode.Series rows = IsSome (given rows Case) × (IsSome (given rows Storm) × IsSome (given rows Transformer))
HasRequiredOf mode.Robust rows = IsSome (given rows Case) × IsSome (number_given rows Tolerance)

-- an event that is given is one by its name
abbrev pub NamesEvent : List Row → Type 0
NamesEvent rows = IfSome (given rows Event) (λ text. IsSome (event_of text))

-- matches without a fault have all that their mode's request is made of
pub record IsGivenAll (mode : Mode) (rows : List Row) : Type 0 where
  pub required : HasRequiredOf mode rows
  pub event : NamesEvent rows
  pub made : IsOk (request_by mode rows)

abbrev pub RequiredIsGiven : List Row → Type 0
RequiredIsGiven rows = IfSome (mode_in rows) (λ r. first_fault r rows all_options ≡ None → IsGivenAll r.mode rows)

-- a number of sites that a made case may have
pub record IsSize (n : ℕ) : Type 0 where
  pub least : 2 ≤ n
  pub most : n ≤ 1000

-- the numbers of a made case are in their ranges
pub record AreOfMade (seed size : ℕ) : Type 0 where
  pub seed_fits : seed ≤ 4294967295
  pub size_fits : IsSize size

-- a request for a made case has them in their ranges
abbrev pub CanBeMade : Request → Type 0
CanBeMade (request.Make r) = AreOfMade r.seed r.size
CanBeMade _ = ⊤

-- accepted words ask for none out of them
abbrev pub MadeInRange : Type 0
MadeInRange = (words : List (List ℕ)) → IfOk (request_of words) CanBeMade

-- the numbers are in their ranges
abbrev pub AreWithinRanges : Request → Type 0
AreWithinRanges (request.Network m r) = IsWithinRanges r.question
AreWithinRanges (request.Study r) = IsWithinCriteria r.criteria
AreWithinRanges (request.Make r) = IsSize r.size
AreWithinRanges (request.Series r) = IsWidth r.width
AreWithinRanges (request.Robust r) = IsWithinRobust r.criteria
AreWithinRanges _ = ⊤
