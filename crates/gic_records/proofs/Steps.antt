-- The steps of `csv`'s machine from the places that a text without comments and escapes comes to.
use Rattle.std.proofs.Common.{◌≡◌, ◌==◌, ℕ, List, [], ◌∷◌, ◌++◌, Bool, true, false, cond, refl, append-nil}
use Rattle.std.proofs.lemmas.Bool.{false≢true, true≢false}
use Rattle.csv.specs.Machine.{step, in_field, start_field, start_record, after_end, ends_with, is_end, ends_at_end, fields_after}
use Rattle.csv.specs.Reading.{default_config}
use Rattle.csv.specs.declared.parser.State.{State}
use Rattle.csv.specs.declared.parser.State.TheVariants as st
use Rattle.csv.specs.declared.parser.Terminator.TheVariants as term
use Rattle.csv.specs.declared.parser.Action.{Action}
use Rattle.csv.specs.declared.parser.Action.TheVariants as act

-- a state of comments or escapes
abbrev pub is_other : State → Bool
is_other st.InComment = true
is_other st.InEscape = true
is_other st.StartRecord = false
is_other st.StartField = false
is_other st.InField = false
is_other st.InQuoted = false
is_other st.AfterQuote = false
is_other st.AfterCr = false

-- a step comes to no such state, and to one in which no record is begun only at the end of a record or from such a state, by a byte that is skipped
pub record IsPlainStep (s : State) (p : State × Action) : Type 0 where
  pub plain : is_other p.0 ≡ false
  pub waits : is_end p.1 ≡ false → ends_at_end p.0 ≡ false → (ends_at_end s ≡ false) × (p.1 ≡ act.Skip)

-- a record is begun after the step
begun : (s q : State) (a : Action) → ends_at_end q ≡ true → is_other q ≡ false → IsPlainStep s (q, a)
begun s q a h plain = record { plain = plain; waits = λ e no. absurd (true≢false (rw h at no)) }

-- the step ends a record
ended : (s q : State) → is_other q ≡ false → IsPlainStep s (q, act.EndRecord)
ended s q plain = record { plain = plain; waits = λ e no. absurd (true≢false e) }

-- no record is begun before the step, which skips its byte
skipped : (s q : State) → ends_at_end s ≡ false → is_other q ≡ false → IsPlainStep s (q, act.Skip)
skipped s q h plain = record { plain = plain; waits = λ e no. (h, refl) }

-- one of two steps
either : (s : State) (b : Bool) (p q : State × Action) → IsPlainStep s p → IsPlainStep s q → IsPlainStep s (cond b p q)
either s true p q h k = h
either s false p q h k = k

after_plain : (c : ℕ) → is_other (after_end term.CRLF c) ≡ false
after_plain c = of (c == 13)
  where
    of : (b : Bool) → is_other (cond b st.AfterCr st.StartRecord) ≡ false
    of true = refl
    of false = refl

in_field_plain : (s : State) (c : ℕ) → IsPlainStep s (in_field default_config c)
in_field_plain s c =
    either s (c == 44) (st.StartField, act.EndField) _ (begun s st.StartField act.EndField refl refl)
    (either s (ends_with term.CRLF c) (after_end term.CRLF c, act.EndRecord) (st.InField, act.Copy) (ended s (after_end term.CRLF c) (after_plain c)) (begun s st.InField act.Copy refl refl))

start_field_plain : (s : State) (c : ℕ) → IsPlainStep s (start_field default_config c)
start_field_plain s c = either s (c == 34) (st.InQuoted, act.Skip) (in_field default_config c) (begun s st.InQuoted act.Skip refl refl) (in_field_plain s c)

start_record_plain : (s : State) (c : ℕ) → ends_at_end s ≡ false → IsPlainStep s (start_record default_config c)
start_record_plain s c h = either s (ends_with term.CRLF c) (st.StartRecord, act.Skip) (start_field default_config c) (skipped s st.StartRecord h refl) (start_field_plain s c)

-- each step from a place
pub step_plain : (s : State) (c : ℕ) → is_other s ≡ false → IsPlainStep s (step default_config s c)
step_plain st.StartRecord c h = start_record_plain st.StartRecord c refl
step_plain st.StartField c h = start_field_plain st.StartField c
step_plain st.InField c h = in_field_plain st.InField c
step_plain st.InQuoted c h =
    either st.InQuoted (c == 34) (st.AfterQuote, act.Skip) (st.InQuoted, act.Copy) (begun st.InQuoted st.AfterQuote act.Skip refl refl) (begun st.InQuoted st.InQuoted act.Copy refl refl)
step_plain st.InEscape c h = absurd (true≢false h)
step_plain st.AfterQuote c h = either st.AfterQuote (c == 34) (st.InQuoted, act.Copy) (in_field default_config c) (begun st.AfterQuote st.InQuoted act.Copy refl refl) (in_field_plain st.AfterQuote c)
step_plain st.InComment c h = absurd (true≢false h)
step_plain st.AfterCr c h = either st.AfterCr (c == 10) (st.StartRecord, act.Skip) (start_record default_config c) (skipped st.AfterCr st.StartRecord refl refl) (start_record_plain st.AfterCr c refl)

-- a place in a record with these fields before the one at hand: none, where no record is begun
pub record Stands (s : State) (fields : List (List ℕ)) : Type 0 where
  pub plain : is_other s ≡ false
  pub none : ends_at_end s ≡ false → fields ≡ []

-- the place after a step that ends no record
pub stands_next : (s : State) (fields : List (List ℕ)) (field : List ℕ) (p : State × Action) → Stands s fields → IsPlainStep s p → is_end p.1 ≡ false → Stands p.0 (fields_after p.1 fields field)
stands_next s fields field p h k goes = record {
  plain = k.plain;
  none = λ no. let w = k.waits goes no in rw w.1 (h.none w.0);
}

-- a record begins
pub stands_first : (s : State) → is_other s ≡ false → Stands s []
stands_first s plain = record { plain = plain; none = λ no. refl }

-- what the end of a record adds to its fields
pub fields_at_end : (a : Action) (fields : List (List ℕ)) (field : List ℕ) → is_end a ≡ true → fields_after a fields field ≡ fields ++ (field ∷ [])
fields_at_end act.EndRecord fields field h = refl
fields_at_end act.EndField fields field h = absurd (false≢true h)
fields_at_end act.Skip fields field h = absurd (false≢true h)
fields_at_end act.Copy fields field h = absurd (false≢true h)

-- what any step adds to them
pub fields_more : (a : Action) (fields : List (List ℕ)) (field : List ℕ) → (more : List (List ℕ)) × (fields_after a fields field ≡ fields ++ more)
fields_more act.EndRecord fields field = (field ∷ [], refl)
fields_more act.EndField fields field = (field ∷ [], refl)
fields_more act.Skip fields field = ([], rw (append-nil fields) refl)
fields_more act.Copy fields field = ([], rw (append-nil fields) refl)
