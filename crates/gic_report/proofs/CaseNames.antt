-- What holds of the names of a case holds of those of each of its lists; and these names are words.
use Rattle.std.proofs.Common.{ℕ, true, false, List, [], ◌∷◌, ◌++◌, map, IsTrue}
use Rattle.std.specs.Prelude.{if◌then◌else◌, is_some}
use Rattle.std.specs.List.{AllByRecursion}
use Rattle.std.proofs.lemmas.List.Elements.{recursion_from_All}
use Rattle.gic_base.specs.Name.{is_name}
use Rattle.gic_base.proofs.Each.{all_joined, both_parts}
use Rattle.gic_text.specs.Words.{IsWord}
use Rattle.gic_text.proofs.Words.{word_name}
use Rattle.gic_case.specs.declared.item.Transformer.{Transformer}
use Rattle.gic_case.specs.Lists.{Lists, node_names, with_device}
use Rattle.gic_case.specs.Sound.{names_of}
use Rattle.gic_report.specs.Fits.{HasNames}

module _ (P : List ℕ → Type 0) (case : Lists) where
  zones : List (List ℕ)
  zones = map (λ z. z.name) case.zones

  substations : List (List ℕ)
  substations = map (λ s. s.name) case.substations

  buses : List (List ℕ)
  buses = map (λ b. b.name) case.buses

  lines : List (List ℕ)
  lines = map (λ l. l.name) case.lines

  transformers : List (List ℕ)
  transformers = map (λ t. t.name) case.transformers

  past_zones : AllByRecursion P (names_of case) → AllByRecursion P (substations ++ (buses ++ (lines ++ transformers)))
  unfolding zones substations buses lines transformers
  past_zones h = (both_parts P zones (substations ++ (buses ++ (lines ++ transformers))) h).1

  past_substations : AllByRecursion P (names_of case) → AllByRecursion P (buses ++ (lines ++ transformers))
  past_substations h = (both_parts P substations (buses ++ (lines ++ transformers)) (past_zones h)).1

  past_buses : AllByRecursion P (names_of case) → AllByRecursion P (lines ++ transformers)
  past_buses h = (both_parts P buses (lines ++ transformers) (past_substations h)).1

  -- of each list
  of_zones : AllByRecursion P (names_of case) → AllByRecursion P (map (λ z. z.name) case.zones)
  unfolding zones substations buses lines transformers
  of_zones h = (both_parts P zones (substations ++ (buses ++ (lines ++ transformers))) h).0

  of_substations : AllByRecursion P (names_of case) → AllByRecursion P (map (λ s. s.name) case.substations)
  unfolding substations
  of_substations h = (both_parts P substations (buses ++ (lines ++ transformers)) (past_zones h)).0

  of_buses : AllByRecursion P (names_of case) → AllByRecursion P (map (λ b. b.name) case.buses)
  unfolding buses
  of_buses h = (both_parts P buses (lines ++ transformers) (past_substations h)).0

  of_lines : AllByRecursion P (names_of case) → AllByRecursion P (map (λ l. l.name) case.lines)
  unfolding lines
  of_lines h = (both_parts P lines transformers (past_buses h)).0

  of_transformers : AllByRecursion P (names_of case) → AllByRecursion P (map (λ t. t.name) case.transformers)
  unfolding transformers
  of_transformers h = (both_parts P lines transformers (past_buses h)).1

-- of the neutral nodes
pub of_devices : (P : List ℕ → Type 0) (ts : List Transformer) → AllByRecursion P (map (λ t. t.name) ts) → AllByRecursion P (map (λ t. t.name) (with_device ts))
of_devices P [] h = tt
of_devices P (t ∷ ts) h =
    elim (is_some t.neutral) as (λ b. AllByRecursion P (map (λ t. t.name) (if b then t ∷ with_device ts else with_device ts)))
    [ true ↦ (h.0, of_devices P ts h.1) | false ↦ of_devices P ts h.1 ]

-- of all nodes
pub of_nodes : (P : List ℕ → Type 0) (case : Lists) → AllByRecursion P (names_of case) → AllByRecursion P (node_names case)
of_nodes P case h =
    all_joined P (map (λ s. s.name) case.substations) (map (λ b. b.name) case.buses ++ map (λ t. t.name) (with_device case.transformers)) (of_substations P case h)
    (all_joined P (map (λ b. b.name) case.buses) (map (λ t. t.name) (with_device case.transformers)) (of_buses P case h)
    (of_devices P case.transformers (of_transformers P case h)))

-- ---- words

are_words : (names : List (List ℕ)) → AllByRecursion (λ name. IsTrue (is_name name)) names → AllByRecursion IsWord names
are_words [] h = tt
are_words (name ∷ names) h = (word_name name h.0, are_words names h.1)

all_words : (case : Lists) → HasNames case → AllByRecursion IsWord (names_of case)
all_words case h = are_words (names_of case) (recursion_from_All (λ name. IsTrue (is_name name)) (names_of case) h)

-- the names of each list are words
pub zone_names : (case : Lists) → HasNames case → AllByRecursion IsWord (map (λ z. z.name) case.zones)
zone_names case h = of_zones IsWord case (all_words case h)

pub substation_names : (case : Lists) → HasNames case → AllByRecursion IsWord (map (λ s. s.name) case.substations)
substation_names case h = of_substations IsWord case (all_words case h)

pub line_names : (case : Lists) → HasNames case → AllByRecursion IsWord (map (λ l. l.name) case.lines)
line_names case h = of_lines IsWord case (all_words case h)

pub transformer_names : (case : Lists) → HasNames case → AllByRecursion IsWord (map (λ t. t.name) case.transformers)
transformer_names case h = of_transformers IsWord case (all_words case h)

-- so are those of the nodes
pub node_words : (case : Lists) → HasNames case → AllByRecursion IsWord (node_names case)
node_words case h = of_nodes IsWord case (all_words case h)
