-- The names of the nodes of a sound case.
use Rattle.std.proofs.Common.{◌≡◌, ◌≢◌, ℕ, suc, ◌≤◌, true, false, List, [], ◌∷◌, ◌++◌, map, length, arith}
use Rattle.std.specs.Prelude.{AllPairs, if◌then◌else◌, is_some}
use Rattle.std.specs.List.{AllByRecursion}
use Rattle.std.proofs.lemmas.List.Elements.{recursion_from_All}
use Rattle.gic_base.specs.Name.{is_name}
use Rattle.gic_base.proofs.Each.{all_joined, both_parts}
use Rattle.gic_case.specs.declared.item.Transformer.{Transformer}
use Rattle.gic_case.specs.Lists.{Lists, node_names, with_device}
use Rattle.gic_case.specs.Sound.{IsSound, names_of}
use Rattle.gic_cert.specs.declared.limits.TheConstants.{MOST_WRITTEN_NODES}
use Rattle.gic_report.proofs.CaseNames.{of_devices, of_nodes}
use Rattle.gic_winding.proofs.Limits.{nodes_named, within_limits}

-- it is a name
abbrev pub IsName : List ℕ → Type 0
IsName name = is_name name ≡ true

-- each is a name
pub node_names_sound : (case : Lists) → IsSound case → AllByRecursion IsName (node_names case)
node_names_sound case sound = of_nodes IsName case (recursion_from_All IsName (names_of case) sound.names_sound)

-- and they are few enough for a certificate
pub node_names_few : (case : Lists) → IsSound case → length (node_names case) ≤ MOST_WRITTEN_NODES
node_names_few case sound =
    omega (arith, (within_limits case sound).few_nodes, nodes_named case)

-- ---- no two of them are equal

-- each name differs from those behind it
abbrev pub AreApart : List (List ℕ) → Type 0
AreApart [] = Unit {0}
AreApart (name ∷ names) = AllByRecursion (λ other. name ≢ other) names × AreApart names

apart_from_pairs : (names : List (List ℕ)) → AllPairs (λ x y. x ≢ y) names → AreApart names
apart_from_pairs [] h = tt
apart_from_pairs (name ∷ names) h = (
  recursion_from_All (λ other. name ≢ other) names (λ k d within. h 0 (suc k) d (omega arith) (omega (arith, within))),
  apart_from_pairs names (λ i j d less within. h (suc i) (suc j) d (omega (arith, less)) (omega (arith, within))),
)

-- what is behind a prefix
behind : (xs ys : List (List ℕ)) → AreApart (xs ++ ys) → AreApart ys
behind [] ys h = h
behind (x ∷ xs) ys h = behind xs ys h.1

-- some names are among others where what holds of each of these holds of each of them
abbrev AreAmong : List (List ℕ) → List (List ℕ) → Type 1
AreAmong some all = (P : List ℕ → Type 0) → AllByRecursion P all → AllByRecursion P some

-- a prefix before names that are among those before which it stood
before : (xs ys some : List (List ℕ)) → AreAmong some ys → AreApart some → AreApart (xs ++ ys) → AreApart (xs ++ some)
before [] ys some among apart h = apart
before (x ∷ xs) ys some among apart h =
    let parts = both_parts (λ other. x ≢ other) xs ys h.0 in
    (all_joined (λ other. x ≢ other) xs some parts.0 (among (λ other. x ≢ other) parts.1), before xs ys some among apart h.1)

-- those of the neutral nodes
devices_apart : (ts : List Transformer) → AreApart (map (λ t. t.name) ts) → AreApart (map (λ t. t.name) (with_device ts))
devices_apart [] h = tt
devices_apart (t ∷ ts) h =
    elim (is_some t.neutral) as (λ b. AreApart (map (λ t. t.name) (if b then t ∷ with_device ts else with_device ts)))
    [ true ↦ (of_devices (λ other. t.name ≢ other) ts h.0, devices_apart ts h.1) | false ↦ devices_apart ts h.1 ]

-- those of all nodes
pub node_names_apart : (case : Lists) → IsSound case → AreApart (node_names case)
node_names_apart case sound =
    let zones = map (λ z. z.name) case.zones in
    let substations = map (λ s. s.name) case.substations in
    let buses = map (λ b. b.name) case.buses in
    let lines = map (λ l. l.name) case.lines in
    let transformers = map (λ t. t.name) case.transformers in
    let devices = map (λ t. t.name) (with_device case.transformers) in
    let all = behind zones (substations ++ (buses ++ (lines ++ transformers))) (apart_from_pairs (names_of case) sound.names_differ) in
    let from_buses = behind substations (buses ++ (lines ++ transformers)) all in
    let from_lines = behind buses (lines ++ transformers) from_buses in
    let own = devices_apart case.transformers (behind lines transformers from_lines) in
    let among : AreAmong devices (lines ++ transformers) = λ P h. of_devices P case.transformers (both_parts P lines transformers h).1 in
    let later = before buses (lines ++ transformers) devices among own from_buses in
    before substations (buses ++ (lines ++ transformers)) (buses ++ devices)
    (λ P h. let parts = both_parts P buses (lines ++ transformers) h in all_joined P buses devices parts.0 (among P parts.1)) later all
