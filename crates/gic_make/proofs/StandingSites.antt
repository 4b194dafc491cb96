-- The network of a made case while all elements stand: each node is live and earthed.
use Rattle.std.proofs.Common.{◌≡◌, ℕ, ◌+◌, ◌-◌, ◌*◌, ◌<◌, Bool, true, ◌&&◌, ◌||◌, List, [], ◌∷◌, map, count_by, refl, ap, sym, ◌∙◌, subst, arith, inl, inr, eq-eqb}
use Rattle.std.specs.Prelude.{◌==◌}
use Rattle.std.proofs.lemmas.Bool.{cases_lt}
use Rattle.std.proofs.lemmas.List.Sums.{sum_by-append}
use Rattle.std.specs.List.{filter, list_any, range_with_len, enumerate_from}
use Rattle.gic_model.specs.declared.parts.Element.{Element}
use Rattle.gic_model.specs.Network.{ends_at}
use Rattle.gic_model.specs.Sums.{Placed}
use Rattle.gic_model.specs.Earthing.{joins, is_earth, LeadsToEarth, IsEarthed}
use Rattle.gic_winding.specs.ElementList.{elements_of}
use Rattle.gic_make.specs.Generator.{states_after}
use Rattle.gic_make.specs.MadeCase.{first_draw, drawn_case, made_case}
use Rattle.gic_make.specs.Accepted.{all_standing, MadeNodesAreEarthed}
use Rattle.gic_make.proofs.Sites.{any_of_some, some_within}
use Rattle.gic_make.proofs.ElementsOfSites.{earthing_at, line_at, winding_at, drawn_elements, elements_are, nodes_are}

-- the elements with their places
abbrev pub standing_at : (states : List ℕ) → (size : ℕ) → List Placed
standing_at states size = enumerate_from 0 (drawn_elements states size)

all_kept : (i : ℕ) (es : List Element) → filter (λ p. true) (enumerate_from i es) ≡ enumerate_from i es
all_kept i [] = refl
all_kept i (e ∷ es) = ap (λ l. (i, e) ∷ l) (all_kept (i + 1) es)

pub standing_is : (states : List ℕ) (size : ℕ) → all_standing (drawn_case states size) ≡ standing_at states size
unfolding elements_of
standing_is states size = all_kept 0 _ ∙ ap (enumerate_from 0) (elements_are states size)

any_placed : (test : Element → Bool) (i : ℕ) (es : List Element) → list_any (λ p. test p.1) (enumerate_from i es) ≡ list_any test es
any_placed test i [] = refl
any_placed test i (e ∷ es) = ap (λ b. test e || b) (any_placed test (i + 1) es)

-- a test that the earthing or the winding of a site passes
module _ (states : List ℕ) (size : ℕ) (test : Element → Bool) (site : ℕ) (within : site < size) where
  counted : count_by test (drawn_elements states size)
      ≡ count_by test (map (earthing_at states) (range_with_len 0 size)) + (count_by test (map (line_at states size) (range_with_len 0 (size - 1))) + count_by test (map (winding_at states size) (range_with_len 0 size)))
  counted = simp sum_by-append refl

  pub any_by_earthing : test (earthing_at states site) ≡ true → list_any (λ p. test p.1) (standing_at states size) ≡ true
  any_by_earthing passes =
      let some = some_within test (earthing_at states) site 0 size (omega arith) (omega arith) passes in
      any_placed test 0 (drawn_elements states size) ∙ any_of_some test (drawn_elements states size) (omega (arith, counted))

  pub any_by_winding : test (winding_at states size site) ≡ true → list_any (λ p. test p.1) (standing_at states size) ≡ true
  any_by_winding passes =
      let some = some_within test (winding_at states size) site 0 size (omega arith) (omega arith) passes in
      any_placed test 0 (drawn_elements states size) ∙ any_of_some test (drawn_elements states size) (omega (arith, counted))

-- each substation leads to earth by its earthing
leads : (states : List ℕ) (size site : ℕ) → site < size → LeadsToEarth (standing_at states size) site
leads states size site within = any_by_earthing states size (λ e. (e.from.0 == site) && is_earth e.to) site within (let here = eq-eqb site site refl in rw here refl)

pub substation_earthed : (states : List ℕ) (size k : ℕ) → k < size → IsEarthed (standing_at states size) k
substation_earthed states size k within = record {
  live = any_by_earthing states size (λ e. ends_at e k) k within (let here = eq-eqb k k refl in rw here refl);
  over = [];
  chain = leads states size k within;
}

-- and each bus, over its winding
pub bus_earthed : (states : List ℕ) (size site : ℕ) → site < size → IsEarthed (standing_at states size) (size + site)
bus_earthed states size site within =
    let bus = eq-eqb (size + site) (size + site) refl in
    let grid = eq-eqb site site refl in
    record {
      live = any_by_winding states size (λ e. ends_at e (size + site)) site within (rw bus refl);
      over = site ∷ [];
      chain = (any_by_winding states size (joins (size + site) site) site within (rw (bus, grid) refl), leads states size site within);
    }

pub each_earthed : (states : List ℕ) (size k : ℕ) → k < 2 * size → IsEarthed (standing_at states size) k
each_earthed states size k within =
    elim (cases_lt k size) [
      | inl grid ↦ substation_earthed states size k grid
      | inr bus ↦ let at : size + (k - size) ≡ k = omega arith in subst (IsEarthed (standing_at states size)) at (bus_earthed states size (k - size) (omega arith))
    ]

pub made_nodes_earthed : MadeNodesAreEarthed
unfolding made_case elements_of
made_nodes_earthed seed size small least most k within =
    let states = states_after seed (first_draw size) in
    let nodes = nodes_are states size in
    subst (λ s. IsEarthed s k) (sym (standing_is states size)) (each_earthed states size k (omega (arith, nodes, within)))
