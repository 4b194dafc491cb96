-- What a read takes from the records that are left.
use Rattle.std.proofs.Common.{◌≡◌, ℕ, List, [], ◌∷◌, Bool, true, false, Option, Some, None, IsSome, Result, Ok, Err, IfOk, MatchResult, IsErr, IfErr, OnOk, refl, sym, ◌∙◌, inl, inr, Bor}
use Rattle.std.proofs.lemmas.Bool.{cases_Bool, false≢true}
use Rattle.csv.specs.Machine.{Read, next_record}
use Rattle.csv.specs.Reading.{Reached, ReadRecord, ReadsNext, pending_of, Ready, ExplainsRead, default_config, has_failed, is_flexible, reader_state, reader_trim, stops_reader, error_kind, took_first}
use Rattle.csv.specs.declared.parser.State.{State}
use Rattle.csv.specs.declared.reader.Reader.{Reader}
use Rattle.csv.specs.declared.reader.Trim.TheVariants as trim
use Rattle.csv.specs.declared.error.Error.{Error}
use Rattle.csv.specs.declared.error.ErrorKind.{ErrorKind}
use Rattle.csv.specs.declared.error.ErrorKind.TheVariants as kind
use Rattle.csv.proofs.ReadFacts.{rows-more, rows-end}
use Rattle.gic_records.specs.Reading.{records_left, bytes_left, IsReading, with_found}
use Rattle.gic_records.proofs.Turns.{left_none, left_more}

-- the first record of a run of reads
first_reached : (s s2 : State) (xs z : List ℕ) (f : List (List ℕ)) → Reached default_config s xs (f ∷ []) s2 z
    → (p : Read) × (next_record default_config s [] [] xs ≡ Some p) × (f ≡ p.0) × ((p.1 ≡ s2) × (p.2 ≡ z))
unfolding Reached
first_reached s s2 xs z f h = h

-- no read at all
start_reached : (s : State) (xs : List ℕ) → Reached default_config s xs [] s xs
unfolding Reached
start_reached s xs = (refl, refl)

-- the record that a read took, and those after it
took : (s s2 : State) (y z : List ℕ) (p : Read) (f : List (List ℕ)) (o : Option (List ℕ)) → next_record default_config s [] [] y ≡ Some p → f ≡ p.0 → p.1 ≡ s2 → p.2 ≡ z → o ≡ Some z
    → records_left s (Some y) ≡ f ∷ records_left s2 o
took s s2 y z p f o next a b c d = rw (d, a, ← b, ← c) (left_more s y p next)

-- what a reader that has not failed has left, before a read that found a record
read_more : (a b : Reader (Bor (List ℕ))) (f : List (List ℕ)) → IsReading a → ReadRecord (λ s. Some s.now) a b true f
    → records_left (reader_state a) (bytes_left a) ≡ f ∷ records_left (reader_state b) (bytes_left b)
read_more a b f h r = known (bytes_left a) refl h.known
  where
    known : (o : Option (List ℕ)) → bytes_left a ≡ o → IsSome o → records_left (reader_state a) o ≡ f ∷ records_left (reader_state b) (bytes_left b)
    known None e k = absurd (false≢true k)
    known (Some y) e k =
        let m = rows-more (λ (s : Bor (List ℕ)). Some s.now) a b f default_config a.state y y [] h.config e (start_reached a.state y) r in
        let (p, next, fields, ends) = first_reached a.state b.state y m.0 f m.2 in
        took a.state b.state y m.0 p f (bytes_left b) next fields ends.0 ends.1 m.1

-- where the read found none
read_none : (a b : Reader (Bor (List ℕ))) (f : List (List ℕ)) → IsReading a → ReadRecord (λ s. Some s.now) a b false f
    → records_left (reader_state a) (bytes_left a) ≡ []
read_none a b f h r = known (bytes_left a) refl
  where
    known : (o : Option (List ℕ)) → bytes_left a ≡ o → records_left (reader_state a) o ≡ []
    known None e = refl
    known (Some y) e = left_none a.state y (rows-end (λ (s : Bor (List ℕ)). Some s.now) a b f default_config y h.config e r)

-- a reader that has failed has none left
failed_none : (a : Reader (Bor (List ℕ))) → has_failed a ≡ true → records_left (reader_state a) (bytes_left a) ≡ []
failed_none a h = rw h refl

-- what a read answers
pub read_answers : {E D : Type 0} (a b : Reader (Bor (List ℕ))) (f : List (List ℕ)) (r : Result Bool E) (o : Result Bool D)
    → (has_failed a ≡ false → IsReading a)
    → IfOk r (λ found. (reader_trim a ≡ trim.None) → Ready a → ReadRecord (λ s. Some s.now) a b found f)
    → (has_failed a ≡ true → r ≡ Ok false)
    → MatchResult o (λ found. r ≡ Ok found) (λ e. IsErr r)
    → IfOk o (λ found. records_left (reader_state a) (bytes_left a) ≡ with_found found f (records_left (reader_state b) (bytes_left b)))
read_answers a b f r (Err e) inv reads failed same = tt
read_answers a b f (Err e) (Ok found) inv reads failed same = cc
read_answers a b f (Ok true) (Ok false) inv reads failed same = cc
read_answers a b f (Ok false) (Ok true) inv reads failed same = cc
read_answers a b f (Ok true) (Ok true) inv reads failed same = elim (cases_Bool (has_failed a)) [
  | inl fails ↦ let no = failed fails in cc
  | inr goes ↦ let h = inv goes in read_more a b f h (reads h.untrimmed h.is_ready)
]
read_answers a b f (Ok false) (Ok false) inv reads failed same = elim (cases_Bool (has_failed a)) [
  | inl fails ↦ failed_none a fails
  | inr goes ↦ let h = inv goes in read_none a b f h (reads h.untrimmed h.is_ready)
]

-- a reader of records of any length stops at each error
stops_of : (a b : Reader (Bor (List ℕ))) (k : ErrorKind) → is_flexible a ≡ true → ExplainsRead (λ s. Some s.now) a b false k → stops_reader k ≡ true
stops_of a b (kind.Io e) flexible why = refl
stops_of a b kind.OutOfMemory flexible why = refl
stops_of a b (kind.UnequalLengths pos expected len) flexible why = absurd (false≢true (sym why.0 ∙ flexible))
stops_of a b (kind.Utf8 pos err) flexible why = absurd (false≢true why.0)
stops_of a b (kind.Serialize text) flexible why = absurd why
stops_of a b (kind.Deserialize pos err) flexible why = absurd why

-- the bytes that are left stay known
known_after : (s s2 : State) (x y : Option (List ℕ)) (found : Bool) (f : List (List ℕ)) → IsSome x → ReadsNext default_config s x y found f s2 → IsSome y
known_after s s2 None y found f k r = absurd (false≢true k)
known_after s s2 (Some xs) None found f k r = absurd r
known_after s s2 (Some xs) (Some ys) found f k r = refl

-- a read leaves a reader that has not failed ready for the next
pub keeps_reading : (a b : Reader (Bor (List ℕ))) (f : List (List ℕ)) (r : Result Bool Error)
    → (has_failed a ≡ false → IsReading a)
    → (reader_trim a ≡ trim.None → OnOk r (took_first b ≡ true))
    → IfOk r (λ found. (reader_trim a ≡ trim.None) → Ready a → ReadRecord (λ s. Some s.now) a b found f)
    → OnOk r (is_flexible b ≡ is_flexible a)
    → OnOk r (has_failed b ≡ has_failed a)
    → IfErr r (λ e. has_failed b ≡ stops_reader (error_kind e))
    → (has_failed a ≡ true → r ≡ Ok false)
    → IfErr r (λ e. Ready a → ExplainsRead (λ s. Some s.now) a b false (error_kind e))
    → has_failed b ≡ false → IsReading b
keeps_reading a b f (Ok found) inv ready reads flexible goes fails failed why whole =
    let h = inv (sym goes ∙ whole) in
    let rr = reads h.untrimmed h.is_ready in
    let known = known_after a.state b.state (bytes_left a) (pending_of (Some b.rdr.now) b) found f h.known (rw h.config at rr.0) in
    record {
      untrimmed = rr.3 ∙ h.untrimmed;
      is_ready = inl (ready h.untrimmed);
      flexible = flexible ∙ h.flexible;
      config = rr.2 ∙ h.config;
      known = rw rr.1 known;
    }
keeps_reading a b f (Err e) inv ready reads flexible goes fails failed why whole = elim (cases_Bool (has_failed a)) [
  | inl before ↦ let no = failed before in absurd (err_ok no)
  | inr before ↦
      let h = inv before in
      let stop = stops_of a b (error_kind e) h.flexible (why h.is_ready) in
      absurd (false≢true (sym whole ∙ fails ∙ stop))
]
  where
    err_ok : Err e ≡ Ok false → ⊥
    err_ok k = cc
