-- Lines of words, joined by one space and ended by a line feed.
use Rattle.std.specs.Prelude.{ℕ, Bool, true, false, cond, List, [], ◌∷◌, ◌++◌}

-- the bytes of a line that is begun, and whether it has a word
pub record BegunLine : Type 0 where
  pub bytes : List ℕ
  pub begun : Bool

-- a line without a word
abbrev pub no_line : BegunLine
no_line = record { bytes = []; begun = false }

-- the line with one more word, behind a space unless it is the first
abbrev pub with_word : BegunLine → List ℕ → BegunLine
with_word line word = record { bytes = line.bytes ++ cond line.begun (32 ∷ word) word; begun = true }

-- the line with more words, in order
abbrev pub with_words : BegunLine → List (List ℕ) → BegunLine
with_words line [] = line
with_words line (word ∷ words) = with_words (with_word line word) words

-- the text of a line with these words
abbrev pub line_text : List (List ℕ) → List ℕ
line_text words = (with_words no_line words).bytes ++ 10 ∷ []

-- the text of lines, each given by its words
abbrev pub lines_text : List (List (List ℕ)) → List ℕ
lines_text [] = []
lines_text (words ∷ lines) = line_text words ++ lines_text lines
