-- How a call parses words. For the contracts of this crate.
use Rattle.std.specs.Prelude.{◌≡◌, ◌≢◌, ℕ, true, List, [], Ok, Err, Result, ⊤}
use Rattle.clap.specs.Words.{found_of, rows_of}
use Rattle.clap.specs.declared.parser.matches.ArgMatches.{ArgMatches}
use Rattle.gic_words.specs.Command.{faults_of, matches_of_words, is_taken}
use Rattle.gic_words.specs.declared.command.ParseRefusal.{ParseRefusal}
use Rattle.gic_words.specs.declared.command.ParseRefusal.TheVariants.{NotTaken, Memory}

-- the matches are those of the words; words that are not taken have a fault
abbrev pub Parses : List (List ℕ) → Result ArgMatches ParseRefusal → Type 0
Parses words (Ok m) = (faults_of words ≡ []) × (rows_of (found_of m) ≡ matches_of_words words)
Parses words (Err NotTaken) = (faults_of words ≢ []) × (is_taken words ≢ true)
Parses words (Err Memory) = ⊤
