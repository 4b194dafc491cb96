-- What each name stands for.
use Rattle.std.proofs.Common.{◌≡◌, ℕ, ◌+◌, ◌<◌, List, [], ◌∷◌, ◌++◌, length, map, take, get_or, Bool, true, false, cond, Option, Some, None, option_map, refl, sym, ap, ◌∙◌, arith, inl, inr, zero-add, length-take-le}
use Rattle.std.specs.Prelude.{IsTrue}
use Rattle.std.specs.List.{AllByRecursion}
use Rattle.std.specs.Cmp.Lexicographic.{same_text}
use Rattle.std.proofs.lemmas.Bool.{cases_Bool, false≢true}
use Rattle.std.proofs.lemmas.Cmp.{nat_list_eq_equiv}
use Rattle.std.proofs.lemmas.List.{take_more, map-append, length-map}
use Rattle.std.proofs.lemmas.List.Elements.{recursion_from_All}
use Rattle.std.specs.Option.{option_or}
use Rattle.gic_base.specs.Name.{is_name}
use Rattle.gic_base.proofs.Each.{both_parts}
use Rattle.gic_case.specs.Names.{same, place_from, place_in}
use Rattle.gic_case.specs.Lists.{Lists}
use Rattle.gic_case.specs.Sound.{IsSound}
use Rattle.gic_case.proofs.Places.{place_last}
use Rattle.gic_model.specs.declared.parts.Item.{Item}
use Rattle.gic_switch.specs.Items.{named}

-- what was found before, what is found among the names, and one more name
joined : (item : ℕ → Item) (a : Option Item) (p : Option ℕ) (b : Bool) (i : ℕ)
    → option_or (option_or a (option_map item p)) (cond b (Some (item i)) None) ≡ option_or a (option_map item (option_or p (cond b (Some i) None)))
joined item (Some x) p b i = refl
joined item None (Some n) b i = refl
joined item None None true i = refl
joined item None None false i = refl

-- what is found after the names of one more element, and what was found before
pub entered : {X : Type 0} (name : X → List ℕ) (item : ℕ → Item) (before now after : List ℕ → Option Item) (xs : List X) (i : ℕ) (x : X) → i < length xs → x ≡ get_or xs i x
    → ((q : List ℕ) → now q ≡ option_or (before q) (option_map item (place_in (map name (take i xs)) q)))
    → ((q : List ℕ) → after q ≡ option_or (now q) (cond (same (name x) q) (Some (item i)) None))
    → (q : List ℕ) → after q ≡ option_or (before q) (option_map item (place_in (map name (take (i + 1) xs)) q))
entered name item before now after xs i x within at old new q =
    let count : length (map name (take i xs)) ≡ i = length-map (take i xs) name ∙ length-take-le i xs (omega arith) in
    let turned : same (name x) q ≡ same q (name x) = nat_list_eq_equiv.symm (name x) q in
    let more : map name (take (i + 1) xs) ≡ map name (take i xs) ++ name x ∷ [] =
    ap (map name) (take_more xs i x within ∙ ap (λ y. take i xs ++ y ∷ []) (sym at)) ∙ map-append name (take i xs) (x ∷ []) in
    rw (new q, old q, turned, more, place_last 0 (map name (take i xs)) (name x) q, count, zero-add) (joined item (before q) (place_in (map name (take i xs)) q) (same q (name x)) i)

-- all of these are names
abbrev AreNames : List (List ℕ) → Type 0
AreNames names = AllByRecursion (λ n. IsTrue (is_name n)) names

-- a text that is no name is not among names
not_among : (n : ℕ) (names : List (List ℕ)) (q : List ℕ) → is_name q ≡ false → AreNames names → place_from n names q ≡ None
not_among n [] q bad all = refl
not_among n (x ∷ names) q bad all =
    elim (cases_Bool (same q x)) [
      | inl here ↦ let one : q ≡ x = same_text q x (sym here) in absurd (false≢true (sym bad ∙ ap is_name one ∙ all.0))
      | inr other ↦ rw other (not_among (n + 1) names q bad all.1)
    ]

-- a text from which no name is read is none
pub no_name : (b : Bool) (q : List ℕ) → cond b (Some q) None ≡ None → b ≡ false
no_name true q h = cc
no_name false q h = refl

-- a text that is no name stands for nothing
pub nothing_named : (case : Lists) (q : List ℕ) → IsSound case → is_name q ≡ false → named case q ≡ None
nothing_named case q sound bad =
    let all = recursion_from_All (λ n. IsTrue (is_name n)) _ sound.names_sound in
    let zones = both_parts _ (map (λ z. z.name) case.zones) _ all in
    let substations = both_parts _ (map (λ s. s.name) case.substations) _ zones.1 in
    let buses = both_parts _ (map (λ b. b.name) case.buses) _ substations.1 in
    let lines = both_parts _ (map (λ l. l.name) case.lines) _ buses.1 in
    rw (not_among 0 _ q bad lines.0, not_among 0 _ q bad lines.1, not_among 0 _ q bad substations.0) refl
