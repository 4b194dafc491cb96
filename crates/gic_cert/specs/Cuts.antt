-- Bytes cut into lines, and lines into words.
use Rattle.std.specs.Prelude.{ℕ, ◌==◌, List, [], ◌∷◌, ◌++◌, length, take, if◌then◌else◌}
use Rattle.gic_report.specs.SharedLines.{Words}
use Rattle.gic_cert.specs.declared.limits.TheConstants.{MOST_WORDS}

-- what stands between the spaces of a line, of whose first word these bytes were begun; empty words too
abbrev pub words_from : (begun : List ℕ) → List ℕ → Words
words_from begun [] = begun ∷ []
words_from begun (b ∷ bs) = if b == 32 then begun ∷ words_from [] bs else words_from (begun ++ b ∷ []) bs

-- the words of a line: its first seven, which are more than any line of a certificate has
abbrev pub words_of : List ℕ → Words
words_of line = take MOST_WORDS (words_from [] line)

-- the words of the lines of a text, of whose first line these bytes were begun; a line without its line feed has no words
abbrev pub lines_from : (begun : List ℕ) → List ℕ → List Words
lines_from begun [] = if length begun == 0 then [] else [] ∷ []
lines_from begun (b ∷ bs) = if b == 10 then words_of begun ∷ lines_from [] bs else lines_from (begun ++ b ∷ []) bs

-- those of a whole text
abbrev pub lines_cut : List ℕ → List Words
lines_cut bytes = lines_from [] bytes
