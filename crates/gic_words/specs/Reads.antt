-- How a call reads words. For the contracts of this crate.
use Rattle.std.specs.Prelude.{◌≡◌, ◌≢◌, ℕ, true, List, Ok, Err, Result, ⊤}
use Rattle.gic_words.specs.Command.{is_taken}
use Rattle.gic_words.specs.declared.request.Request.{Request}
use Rattle.gic_words.specs.declared.fault.Usage.{Usage}
use Rattle.gic_words.specs.declared.fault.Usage.TheVariants as usage
use Rattle.gic_words.specs.declared.fault.WordsRefusal.{WordsRefusal}
use Rattle.gic_words.specs.declared.fault.WordsRefusal.TheVariants as refusal

-- the answer is that of the words, except out of memory
abbrev pub ReadsWords : Result Request Usage → Result Request WordsRefusal → Type 0
ReadsWords right (Ok r) = right ≡ Ok r
ReadsWords right (Err (refusal.Usage u)) = right ≡ Err u
ReadsWords right (Err refusal.Memory) = ⊤

-- words that clap's test takes are not refused as such
abbrev pub KeepsTaken : List (List ℕ) → Result Request WordsRefusal → Type 0
KeepsTaken words r = is_taken words ≡ true → r ≢ Err (refusal.Usage usage.Words)
