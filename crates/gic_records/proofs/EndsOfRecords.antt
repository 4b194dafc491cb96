-- A step that ends a record leaves no record begun.
use Rattle.std.proofs.Common.{◌≡◌, ◌==◌, ℕ, Bool, true, false, cond, ◌&&◌, refl}
use Rattle.csv.specs.Machine.{step, in_field, start_field, start_record, after_end, ends_with, is_byte, is_end, ends_at_end}
use Rattle.csv.specs.declared.parser.Config.{Config}
use Rattle.csv.specs.declared.parser.Terminator.{Terminator}
use Rattle.csv.specs.declared.parser.Terminator.TheVariants as term
use Rattle.csv.specs.declared.parser.State.{State}
use Rattle.csv.specs.declared.parser.State.TheVariants as st
use Rattle.csv.specs.declared.parser.Action.{Action}
use Rattle.csv.specs.declared.parser.Action.TheVariants as act

-- a step that ends a record leaves a state in which no record is begun
pub record EndsClean (p : State × Action) : Type 0 where
  pub clean : is_end p.1 ≡ true → ends_at_end p.0 ≡ false

-- the step ends no record
goes_on : (s : State) (a : Action) → is_end a ≡ false → EndsClean (s, a)
goes_on s a h = record { clean = λ e. cc }

-- the step comes to a state in which no record is begun
stops : (s : State) (a : Action) → ends_at_end s ≡ false → EndsClean (s, a)
stops s a h = record { clean = λ e. h }

-- one of two steps
either : (b : Bool) (p q : State × Action) → EndsClean p → EndsClean q → EndsClean (cond b p q)
either true p q h k = h
either false p q h k = k

after_clean : (t : Terminator) (c : ℕ) → ends_at_end (after_end t c) ≡ false
after_clean term.CRLF c = crlf (c == 13)
  where
    crlf : (b : Bool) → ends_at_end (cond b st.AfterCr st.StartRecord) ≡ false
    crlf true = refl
    crlf false = refl
after_clean (term.Any t) c = refl

in_field_clean : (cfg : Config) (c : ℕ) → EndsClean (in_field cfg c)
in_field_clean cfg c =
    either (c == cfg.delimiter) (st.StartField, act.EndField) _ (goes_on st.StartField act.EndField refl)
    (either (ends_with cfg.terminator c) (after_end cfg.terminator c, act.EndRecord) (st.InField, act.Copy) (stops (after_end cfg.terminator c) act.EndRecord (after_clean cfg.terminator c)) (goes_on st.InField act.Copy refl))

start_field_clean : (cfg : Config) (c : ℕ) → EndsClean (start_field cfg c)
start_field_clean cfg c = either (cfg.quoting && (c == cfg.quote)) (st.InQuoted, act.Skip) (in_field cfg c) (goes_on st.InQuoted act.Skip refl) (in_field_clean cfg c)

start_record_clean : (cfg : Config) (c : ℕ) → EndsClean (start_record cfg c)
start_record_clean cfg c =
    either (ends_with cfg.terminator c) (st.StartRecord, act.Skip) _ (goes_on st.StartRecord act.Skip refl)
    (either (is_byte cfg.comment c) (st.InComment, act.Skip) (start_field cfg c) (goes_on st.InComment act.Skip refl) (start_field_clean cfg c))

-- each step of the machine
pub step_clean : (cfg : Config) (s : State) (c : ℕ) → EndsClean (step cfg s c)
step_clean cfg st.StartRecord c = start_record_clean cfg c
step_clean cfg st.StartField c = start_field_clean cfg c
step_clean cfg st.InField c = in_field_clean cfg c
step_clean cfg st.InQuoted c =
    either (cfg.quoting && (c == cfg.quote)) (st.AfterQuote, act.Skip) _ (goes_on st.AfterQuote act.Skip refl)
    (either (cfg.quoting && is_byte cfg.escape c) (st.InEscape, act.Skip) (st.InQuoted, act.Copy) (goes_on st.InEscape act.Skip refl) (goes_on st.InQuoted act.Copy refl))
step_clean cfg st.InEscape c = goes_on st.InQuoted act.Copy refl
step_clean cfg st.AfterQuote c = either (cfg.quoting && cfg.double_quote && (c == cfg.quote)) (st.InQuoted, act.Copy) (in_field cfg c) (goes_on st.InQuoted act.Copy refl) (in_field_clean cfg c)
step_clean cfg st.InComment c = either (c == 10) (st.StartRecord, act.Skip) (st.InComment, act.Skip) (goes_on st.StartRecord act.Skip refl) (goes_on st.InComment act.Skip refl)
step_clean cfg st.AfterCr c = either (c == 10) (st.StartRecord, act.Skip) (start_record cfg c) (goes_on st.StartRecord act.Skip refl) (start_record_clean cfg c)
