-- A text that is written part by part.
use Rattle.std.proofs.Common.{◌≡◌, ℕ, ◌≤◌, Option, List, [], ◌++◌, Result, Ok, Err, IsErrAnd, sym, ap, ◌∙◌, append_assoc, append-nil, arith}
use Rattle.std.specs.Io.KnownBytes.{Appends}
use Rattle.gic_base.specs.Writes.{Writes}
use Rattle.gic_base.proofs.Parts.{appends-nil, appends-trans, part-whole}
use Rattle.gic_report.proofs.Chained.{writes_as, writes_then, writes_stop}

-- of the whole text all was written but what is left, and the count of failed writes has not fallen
pub record Written {S : Type 0} (bytes : S → Option (List ℕ)) (faults : S → ℕ) (old now : S) (whole left : List ℕ) : Type 0 where
  pub done : List ℕ
  pub split : whole ≡ done ++ left
  pub appended : Appends (bytes old) (bytes now) done
  pub kept : faults old ≤ faults now

-- nothing was written yet
pub begins : {S : Type 0} {bytes : S → Option (List ℕ)} {faults : S → ℕ} {old : S} {whole left : List ℕ} → whole ≡ left → Written bytes faults old old whole left
begins {bytes = bytes} {old = old} e = record { done = []; split = e; appended = appends-nil (bytes old); kept = omega arith }

-- the next part was written
pub goes_on : {S T E : Type 0} {bytes : S → Option (List ℕ)} {faults : S → ℕ} {old now new : S} {whole left part rest : List ℕ} {done : T}
    → Written bytes faults old now whole left → left ≡ part ++ rest → Writes {E = E} bytes faults now new part (Ok done) → Written bytes faults old new whole rest
goes_on {bytes = bytes} {old = old} {now = now} {new = new} {part = part} {rest = rest} w next p = record {
  done = w.done ++ part;
  split = w.split ∙ ap (λ l. w.done ++ l) next ∙ sym (append_assoc w.done part rest);
  appended = appends-trans (bytes old) (bytes now) (bytes new) w.done part w.appended p.all;
  kept = omega (arith, w.kept, p.cause.kept);
}

-- what was written so far was written whole
so_far : {S T E : Type 0} {bytes : S → Option (List ℕ)} {faults : S → ℕ} {old now : S} {whole left : List ℕ} {done : T} (w : Written bytes faults old now whole left)
    → Writes {E = E} bytes faults old now w.done (Ok done)
so_far {bytes = bytes} {old = old} {now = now} w = record {
  all = w.appended;
  part = part-whole (bytes old) (bytes now) w.done w.appended;
  cause = record { kept = w.kept; failed = tt };
}

-- the next part was not written whole
pub stops : {S T U E : Type 0} {bytes : S → Option (List ℕ)} {faults : S → ℕ} {old now new : S} {whole left part : List ℕ} (rest : List ℕ) {e : E} {answer : Result U E}
    → Written bytes faults old now whole left → left ≡ part ++ rest → Writes {T = T} bytes faults now new part (Err e) → IsErrAnd answer (λ x. x ≡ e)
    → Writes bytes faults old new whole answer
stops rest w next p is = writes_as (sym (w.split ∙ ap (λ l. w.done ++ l) next)) (writes_then {U = Unit {0}} {done = tt} (so_far w) (writes_stop rest p is))

-- nothing is left
pub ends : {S T E : Type 0} {bytes : S → Option (List ℕ)} {faults : S → ℕ} {old now : S} {whole left : List ℕ} {done : T}
    → Written bytes faults old now whole left → left ≡ [] → Writes {E = E} bytes faults old now whole (Ok done)
ends w none = writes_as (sym (w.split ∙ ap (λ l. w.done ++ l) none ∙ append-nil w.done)) (so_far w)
