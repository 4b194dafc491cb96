-- Words that make a line.
use Rattle.std.specs.Prelude.{ℕ, ◌≤◌, List, [], ◌∷◌, ◌++◌, ◌≢◌, length}
use Rattle.std.specs.List.{AllByRecursion}
use Rattle.gic_text.specs.Lines.{BegunLine}

-- the line fits in the 512 bytes
abbrev pub FitsLine : BegunLine → Type 0
FitsLine line = length line.bytes ≤ 512

-- words one after another, each behind a space
abbrev pub spaced : List (List ℕ) → List ℕ
spaced [] = []
spaced (word ∷ words) = 32 ∷ (word ++ spaced words)

-- a byte of a word: neither a space nor a line feed
pub record IsWordByte (byte : ℕ) : Type 0 where
  pub no_space : byte ≢ 32
  pub no_end : byte ≢ 10

-- a word has neither a space nor a line feed
abbrev pub IsWord : List ℕ → Type 0
IsWord word = AllByRecursion IsWordByte word

-- a line has a word at least, and each is a word
abbrev pub IsLine : List (List ℕ) → Type 0
IsLine [] = ⊥
IsLine (word ∷ words) = IsWord word × AllByRecursion IsWord words
