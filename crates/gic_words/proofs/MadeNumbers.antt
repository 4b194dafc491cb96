-- The numbers of a made case that words give lie in their ranges.
use Rattle.std.proofs.Common.{◌≡◌, ℕ, ◌≤◌, ℤ, pos, negsuc, ◌≤ℤ◌, Bool, true, false, ◌&&◌, cond, List, [], ◌∷◌, Option, Some, None, Result, refl, arith}
use Rattle.std.specs.Prelude.{Ok, Err, IfOk, IfSome, int_le, ok_or, option_map, option_and_then, unsigned_abs}
use Rattle.std.proofs.lemmas.Int.{ints}
use Rattle.clap.specs.Words.{Kinds, Row}
use Rattle.gic_base.specs.Passes.{◌>>=◌}
use Rattle.gic_text.specs.Decimal.{within, whole_of, read_decimal}
use Rattle.gic_words.specs.Accepted.{AreOfMade, CanBeMade, MadeInRange}
use Rattle.gic_words.specs.Command.{faults_of, matches_of_words, given}
use Rattle.gic_words.specs.Requests.{as_request, count_given, make_request, first_fault, request_by, unless_refused, request_in_mode, mode_in, unless_faulty, request_of}
use Rattle.gic_words.specs.Table.{ModeRow, all_options}
use Rattle.gic_words.specs.Values.{number_in}
use Rattle.gic_words.specs.declared.mode.Mode.{Mode}
use Rattle.gic_words.specs.declared.mode.Mode.TheVariants as mode
use Rattle.gic_words.specs.declared.option.Opt.{Opt}
use Rattle.gic_words.specs.declared.option.Opt.TheVariants.{Seed, Size}
use Rattle.gic_words.specs.declared.request.Request.{Request}
use Rattle.gic_words.specs.declared.request.Request.TheVariants as request
use Rattle.gic_words.specs.declared.fault.Usage.{Usage}

-- ---- a number that words give lies in its range

at_most : (a b : ℤ) → int_le a b ≡ true → a ≤ℤ b
at_most a b h = grind (arith, ints, h)

in_range : (least most n : ℤ) (a b : Bool) → int_le least n ≡ a → int_le n most ≡ b → IfSome (cond (a && b) (Some n) None) (λ z. (least ≤ℤ z) × (z ≤ℤ most))
in_range least most n false b low high = tt
in_range least most n true false low high = tt
in_range least most n true true low high = (at_most least n low, at_most n most high)

whole_in_range : (least most : ℤ) (found : Option ℤ) → IfSome (option_and_then (within least most) found) (λ z. (least ≤ℤ z) × (z ≤ℤ most))
whole_in_range least most None = tt
whole_in_range least most (Some n) = in_range least most n (int_le least n) (int_le n most) refl refl

read_in_range : (text : List ℕ) (least most : ℤ) → IfSome (read_decimal text least most) (λ z. (least ≤ℤ z) × (z ≤ℤ most))
unfolding read_decimal
read_in_range text least most = whole_in_range least most (whole_of 18 text)

as_count : (least most : ℕ) (z : ℤ) → (pos least ≤ℤ z) × (z ≤ℤ pos most) → (least ≤ unsigned_abs z) × (unsigned_abs z ≤ most)
as_count least most (pos n) h = (omega (arith, ints, h.0), omega (arith, ints, h.1))
as_count least most (negsuc n) h = absurd (omega (arith, ints, h.0))

counts_in_range : (least most : ℕ) (z : Option ℤ) → IfSome z (λ n. (pos least ≤ℤ n) × (n ≤ℤ pos most)) → IfSome (option_map unsigned_abs z) (λ n. (least ≤ n) × (n ≤ most))
counts_in_range least most None h = tt
counts_in_range least most (Some z) h = as_count least most z h

numbers_in_range : (least most : ℕ) (number : List ℕ → Option ℤ) (value : Option (List ℕ)) → ((text : List ℕ) → IfSome (number text) (λ n. (pos least ≤ℤ n) × (n ≤ℤ pos most)))
    → IfSome (option_map unsigned_abs (option_and_then number value)) (λ n. (least ≤ n) × (n ≤ most))
numbers_in_range least most number None h = tt
numbers_in_range least most number (Some text) h = counts_in_range least most (number text) (h text)

-- where an option lacks, nothing is asked for
lacking_or : {A B : Type 0} (P : A → Type 0) (Q : B → Type 0) (value : Option A) (u : Usage) (next : A → Result B Usage) → IfSome value P → ((a : A) → P a → IfOk (next a) Q) → IfOk (ok_or value u >>= next) Q
lacking_or P Q None u next h more = tt
lacking_or P Q (Some a) u next h more = more a h

as_made : {A : Type 0} (make : A → Request) (asked : Result A Usage) → IfOk asked (λ a. CanBeMade (make a)) → IfOk (as_request make asked) CanBeMade
as_made make (Ok a) h = h
as_made make (Err u) h = tt

-- what has no numbers of a made case
as_other : {A : Type 0} (make : A → Request) (asked : Result A Usage) → ((a : A) → CanBeMade (make a)) → IfOk (as_request make asked) CanBeMade
as_other make (Ok a) h = h a
as_other make (Err u) h = tt

make_in_range : (rows : List Row) → IfOk (make_request rows) (λ r. AreOfMade r.seed r.size)
make_in_range rows =
    lacking_or (λ n. (0 ≤ n) × (n ≤ 4294967295)) _ (count_given rows Seed) _ _ (numbers_in_range 0 4294967295 (number_in Seed) (given rows Seed) (λ text. read_in_range text (pos 0) (pos 4294967295)))
    (λ seed fits. lacking_or (λ n. (2 ≤ n) × (n ≤ 1000)) _ (count_given rows Size) _ _ (numbers_in_range 2 1000 (number_in Size) (given rows Size) (λ text. read_in_range text (pos 2) (pos 1000)))
    (λ size within. record { seed_fits = fits.1; size_fits = record { least = within.0; most = within.1 } }))

made_by : (m : Mode) (rows : List Row) → IfOk (request_by m rows) CanBeMade
made_by (mode.Network m) rows = as_other (request.Network m) _ (λ r. tt)
made_by mode.Study rows = as_other request.Study _ (λ r. tt)
made_by mode.Make rows = as_made request.Make _ (make_in_range rows)
made_by mode.Recheck rows = as_other request.Recheck _ (λ r. tt)
made_by mode.Series rows = as_other request.Series _ (λ r. tt)
made_by mode.Robust rows = as_other request.Robust _ (λ r. tt)

made_unless : (asked : Result Request Usage) (u : Option Usage) → IfOk asked CanBeMade → IfOk (unless_refused u asked) CanBeMade
made_unless asked None h = h
made_unless asked (Some u) h = tt

made_in_mode : (found : Option ModeRow) (rows : List Row) → IfOk (request_in_mode found rows) CanBeMade
made_in_mode None rows = tt
made_in_mode (Some r) rows = made_unless (request_by r.mode rows) (first_fault r rows all_options) (made_by r.mode rows)

made_unless_faulty : (kinds : Kinds) (rows : List Row) → IfOk (unless_faulty kinds rows) CanBeMade
made_unless_faulty [] rows = made_in_mode (mode_in rows) rows
made_unless_faulty (k ∷ ks) rows = tt

pub made_in_range : MadeInRange
unfolding request_of
made_in_range words = made_unless_faulty (faults_of words) (matches_of_words words)
