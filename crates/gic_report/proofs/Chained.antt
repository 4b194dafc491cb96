-- How calls end that write one text behind another.
use Rattle.std.proofs.Common.{◌≡◌, ℕ, ◌≤◌, Option, List, ◌++◌, Result, Ok, Err, OnOk, OnErr, IsErrAnd, sym, subst, arith}
use Rattle.std.proofs.lemmas.Result.{on_ok_weaker, on_err_weaker}
use Rattle.gic_base.specs.Causes.{Rose}
use Rattle.gic_base.specs.Writes.{Writes}
use Rattle.gic_base.proofs.Parts.{appends-trans, part-after, part-before}
use Rattle.gic_text.specs.Lines.{lines_text}
use Rattle.gic_text.proofs.Joined.{lines_text-append}
use Rattle.gic_report.specs.SharedLines.{Words}

-- a count that rose after it had not fallen
rose_later : (before between now : ℕ) → before ≤ between → Rose between now → Rose before now
rose_later before between now kept rose = omega (arith, kept, rose)

-- an answer that is a refusal didn't get through
not_ok : {U E : Type 0} (X : Type 0) (e : E) (answer : Result U E) → IsErrAnd answer (λ x. x ≡ e) → OnOk answer X
not_ok X e (Ok x) is = absurd is
not_ok X e (Err x) is = tt

-- what holds holds of a refusal too
on_any : {U E X : Type 0} (answer : Result U E) → X → OnErr answer X
on_any (Ok x) h = tt
on_any (Err x) h = h

-- the same text in another form was written
pub writes_as : {S T E : Type 0} {bytes : S → Option (List ℕ)} {faults : S → ℕ} {old new : S} {text other : List ℕ} {result : Result T E}
    → text ≡ other → Writes bytes faults old new text result → Writes bytes faults old new other result
writes_as {bytes = bytes} {faults = faults} {old = old} {new = new} {result = result} same w = subst (λ t. Writes bytes faults old new t result) same w

-- a text was written whole, and then the next as this says
pub writes_then : {S T U E : Type 0} {bytes : S → Option (List ℕ)} {faults : S → ℕ} {old now new : S} {first next : List ℕ} {done : U} {result : Result T E}
    → Writes {E = E} bytes faults old now first (Ok done) → Writes bytes faults now new next result → Writes bytes faults old new (first ++ next) result
writes_then {bytes = bytes} {faults = faults} {old = old} {now = now} {new = new} {first = first} {next = next} {result = result} w p = record {
  all = on_ok_weaker result (appends-trans (bytes old) (bytes now) (bytes new) first next w.all) p.all;
  part = part-after (bytes old) (bytes now) (bytes new) first next w.all p.part;
  cause = record {
    kept = omega (arith, w.cause.kept, p.cause.kept);
    failed = on_err_weaker result (rose_later (faults old) (faults now) (faults new) w.cause.kept) p.cause.failed;
  };
}

-- a text was not written whole, and so nothing behind it
pub writes_stop : {S T U E : Type 0} {bytes : S → Option (List ℕ)} {faults : S → ℕ} {old new : S} {first : List ℕ} (next : List ℕ) {e : E} {answer : Result U E}
    → Writes {T = T} bytes faults old new first (Err e) → IsErrAnd answer (λ x. x ≡ e) → Writes bytes faults old new (first ++ next) answer
writes_stop {bytes = bytes} {old = old} {new = new} {first = first} next {e = e} {answer = answer} w is = record {
  all = not_ok _ e answer is;
  part = part-before (bytes old) (bytes new) first next w.part;
  cause = record { kept = w.cause.kept; failed = on_any answer w.cause.failed };
}

-- the same of lines
pub lines_then : {S T U E : Type 0} {bytes : S → Option (List ℕ)} {faults : S → ℕ} {old now new : S} (xs ys : List Words) {done : U} {result : Result T E}
    → Writes {E = E} bytes faults old now (lines_text xs) (Ok done) → Writes bytes faults now new (lines_text ys) result → Writes bytes faults old new (lines_text (xs ++ ys)) result
lines_then xs ys w p = writes_as (sym (lines_text-append xs ys)) (writes_then w p)

pub lines_stop : {S T U E : Type 0} {bytes : S → Option (List ℕ)} {faults : S → ℕ} {old new : S} (xs ys : List Words) {e : E} {answer : Result U E}
    → Writes {T = T} bytes faults old new (lines_text xs) (Err e) → IsErrAnd answer (λ x. x ≡ e) → Writes bytes faults old new (lines_text (xs ++ ys)) answer
lines_stop xs ys w is = writes_as (sym (lines_text-append xs ys)) (writes_stop (lines_text ys) w is)
