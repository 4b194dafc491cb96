-- What a fetch does, by its answer.
use Rattle.std.specs.Prelude.{◌≡◌, ◌⊎◌, ℕ, List, [], ◌∷◌, ◌++◌, ⊤, Ok, Err}
use Rattle.std.specs.declared.result.Result.{Result}
use Rattle.gic_files.specs.declared.library.FetchRefusal.{FetchRefusal}
use Rattle.gic_files.specs.declared.library.FetchRefusal.TheVariants.{Failed, TooLong, Memory}

-- the name was fetched; where memory wants, nothing else was, and it may not have been
abbrev pub HasFetched : {T : Type 0} → (before now : List (List ℕ)) → (name : List ℕ) → Result T FetchRefusal → Type 0
HasFetched before now name (Ok _) = now ≡ before ++ name ∷ []
HasFetched before now name (Err Failed) = now ≡ before ++ name ∷ []
HasFetched before now name (Err TooLong) = now ≡ before ++ name ∷ []
HasFetched before now name (Err Memory) = (now ≡ before) ⊎ (now ≡ before ++ name ∷ [])

-- the names whose fetch failed, after a fetch of `name` with this answer
abbrev pub failures_after : {T : Type 0} → List (List ℕ) → List ℕ → Result T FetchRefusal → List (List ℕ)
failures_after before name (Ok _) = before
failures_after before name (Err Failed) = before ++ name ∷ []
failures_after before name (Err TooLong) = before
failures_after before name (Err Memory) = before

-- the failed fetch's name was added, or there was no memory for it
abbrev pub FailsWith : List (List ℕ) → List (List ℕ) → List ℕ → FetchRefusal → Type 0
FailsWith before now name Failed = now ≡ before ++ name ∷ []
FailsWith before now name TooLong = ⊥
FailsWith before now name Memory = now ≡ before

abbrev pub FailsOrLacksMemory : Result (Unit {0}) FetchRefusal → Type 0
FailsOrLacksMemory (Ok done) = ⊥
FailsOrLacksMemory (Err Failed) = ⊤
FailsOrLacksMemory (Err TooLong) = ⊥
FailsOrLacksMemory (Err Memory) = ⊤
