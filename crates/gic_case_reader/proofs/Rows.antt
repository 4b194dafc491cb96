-- Rows read one after another.
use Rattle.std.proofs.Common.{◌≡◌, List, [], ◌∷◌, ◌++◌, ◌+◌, length, Option, Some, None, option_map, Result, Ok, Err, refl, ap, arith, length-append, append_assoc}
use Rattle.std.proofs.lemmas.List.{length-map}
use Rattle.toml.specs.declared.value.Value.{Value}
use Rattle.toml.specs.View.{items_view}
use Rattle.gic_case_reader.specs.Pass.{count_of}
use Rattle.gic_case_reader.specs.Rules.{WrittenRows, written_names}
use Rattle.gic_case_reader.specs.declared.refusal.CaseRefusal.{CaseRefusal}

-- what was read, behind these rows
abbrev pub with_prefix : {A : Type 0} → List A → Result (List A) CaseRefusal → Result (List A) CaseRefusal
with_prefix prefix (Ok xs) = Ok (prefix ++ xs)
with_prefix prefix (Err e) = Err e

-- the values behind these, where there are any
abbrev pub behind : {A : Type 0} → List A → Option (List A) → Option (List A)
behind prefix None = None
behind prefix (Some xs) = Some (prefix ++ xs)

pub behind_more : {A : Type 0} (prefix : List A) (x : A) (o : Option (List A)) → behind (prefix ++ x ∷ []) o ≡ behind prefix (option_map (λ xs. x ∷ xs) o)
behind_more prefix x None = refl
behind_more prefix x (Some xs) = ap (λ ys. Some ys) (append_assoc prefix (x ∷ []) xs)

pub count_length : (vs : List Value) → count_of (items_view vs) ≡ length vs
count_length [] = refl
count_length (v ∷ vs) = omega (arith, count_length vs)

pub names_length : (w : WrittenRows) → length (written_names w) ≡ length w.zones + (length w.substations + (length w.buses + (length w.lines + length w.transformers)))
names_length w = simp (length-append, length-map)
