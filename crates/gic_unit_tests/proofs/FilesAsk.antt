-- What is accepted is what the files ask for.
use Rattle.std.proofs.Common.{◌≡◌, ℕ, List, [], Option, Some, None, Result, Ok, Err, sym, subst, arith}
use Rattle.std.specs.Prelude.{Contains, IsOkAnd, IsSomeAnd}
use Rattle.gic_files.specs.Files.{Files, Fetches, HasFailed}
use Rattle.gic_words.specs.Requests.{request_of}
use Rattle.gic_words.specs.declared.fault.Usage.{Usage}
use Rattle.gic_words.specs.declared.request.Request.{Request}
use Rattle.gic_ask.specs.Asks.{Asks}
use Rattle.gic_ask.specs.Contents.{name_of_file, names_in}
use Rattle.gic_ask.specs.Held.{held_for, AnswersOfFiles}
use Rattle.gic_ask.specs.Outcome.{outcome, Accepts}
use Rattle.gic_ask.specs.declared.fault.File.{File}
use Rattle.gic_ask.specs.declared.request.Asked.{Asked}

-- no fetch failed where no name was added
none_failed : (name : List ℕ) → ¬ HasFailed [] [] name
none_failed name h =
    let found : Contains [] name = subst (λ (names : List (List ℕ)). Contains names name) (sym h.later) h.among in
    absurd (omega (arith, found.1))

none_named : (name : Option (List ℕ)) → ¬ IsSomeAnd name (HasFailed [] [])
none_named None h = h
none_named (Some name) h = none_failed name h

none_unread : (file : File) (r : Result Request Usage) → ¬ IsOkAnd r (λ q. IsSomeAnd (name_of_file file (names_in q)) (HasFailed [] []))
none_unread file (Ok q) h = none_named (name_of_file file (names_in q)) h
none_unread file (Err u) h = h

-- of an answer that accepts it doesn't matter which fetches failed
pub files_ask : AnswersOfFiles → (words : List (List ℕ)) (files : Files) (before now : Fetches) (asked : Asked)
    → Asks words (Some files) before now (Ok asked) → outcome words (held_for files (request_of words)) ≡ Accepts asked
files_ask law words files before now asked asks =
    law words files (record { fetched = before.fetched; failures = [] }) (record { fetched = now.fetched; failures = [] }) (Ok asked)
    (record { contents = asks.contents; handed = asks.handed; asked = asks.asked; failed = λ file e. absurd (grind (arith, e)); fetched = asks.fetched })
    (λ file. none_unread file (request_of words))
