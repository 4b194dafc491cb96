-- Nets at corners of the ranges: what stands of them, and that they can be solved.
use Rattle.std.proofs.Common.{◌≡◌, ℕ, ◌+◌, ◌<◌, ◌≤◌, Bool, true, false, cond, List, [], ◌∷◌, map, length, slice_index, refl, ap, sym, subst, ◌∙◌, arith}
use Rattle.std.specs.List.{filter, enumerate_from, AllByRecursion}
use Rattle.std.proofs.lemmas.List.{ext_get_or, length-map}
use Rattle.gic_base.specs.declared.limits.TheConstants.{MOST_WALK}
use Rattle.gic_bound.specs.Entries.{IsBoundWithin}
use Rattle.gic_model.proofs.Members.{kept, placed, filter_same}
use Rattle.gic_model.specs.declared.parts.Element.{Element}
use Rattle.gic_model.specs.declared.parts.Item.{Item}
use Rattle.gic_model.specs.Earthing.{AreEarthed}
use Rattle.gic_model.specs.Network.{Network}
use Rattle.gic_model.specs.Standing.{standing_elements, stands_after}
use Rattle.gic_model.specs.Sums.{Placed}
use Rattle.gic_net.specs.Net.{NetView, standing, stands, element_of, no_element}
use Rattle.gic_net.specs.Switched.{Items, stands_without}
use Rattle.gic_uniform.specs.declared.solve_workspace.SolveWorkspace.{SolveWorkspace}
use Rattle.gic_varied.specs.Corners.{Corner, corner_ohm, with_corner, IsCornerOfRanges}
use Rattle.gic_varied.specs.Grounds.{is_ground, regrounded, with_grounds}
use Rattle.gic_varied.specs.GroundLaws.{BoundVectorsServeLesserGrounds}
use Rattle.gic_varied.specs.Lifts.{with_least, with_most}
use Rattle.gic_varied.specs.Ranges.{Ranges}
use Rattle.gic_winding.specs.ElementList.{elements_of}
use Rattle.gic_grounds.specs.declared.nets.GroundNets.{GroundNets}
use Rattle.gic_grounds.specs.Corner.{element_at_corner, IsCornerNet}
use Rattle.gic_grounds.specs.Lifted.{CanSolve}
use Rattle.gic_grounds.specs.Tolerated.{Tolerated, AreNetsOf, ranges_in, corner_in}
use Rattle.gic_grounds.proofs.Earthings.{earthed_other}
use Rattle.gic_grounds.proofs.Extremes.{element_with}

-- the places of a list that is numbered from i on
numbered_from : (n i : ℕ) → n ≤ i → (list : List Element) → AllByRecursion (λ (p : Placed). n ≤ p.0) (enumerate_from i list)
numbered_from n i first [] = tt
numbered_from n i first (e ∷ list) = (first, numbered_from n (i + 1) (omega (arith, first)) list)

-- no list that is kept of those behind a place begins at it
not_behind : (test : Item → Bool) (place : ℕ) (e : Element) (list : List Element) (others : List Placed) →
    (place, e) ∷ others ≡ filter (λ p. test p.1.item) (enumerate_from (place + 1) list) → ⊥
not_behind test place e list others same =
    let behind : AllByRecursion (λ (p : Placed). place + 1 ≤ p.0) (filter (λ p. test p.1.item) (enumerate_from (place + 1) list)) =
    kept (λ p. test p.1.item) (λ (p : Placed). place + 1 ≤ p.0) (λ (p : Placed). place + 1 ≤ p.0) (λ p is h. h) (enumerate_from (place + 1) list)
    (numbered_from (place + 1) (place + 1) (omega arith) list) in
    let here : AllByRecursion (λ (p : Placed). place + 1 ≤ p.0) ((place, e) ∷ others) =
    subst (λ (ps : List Placed). AllByRecursion (λ (p : Placed). place + 1 ≤ p.0) ps) (sym same) behind in
    let first : place + 1 ≤ place = here.0 in
    absurd (omega (arith, first))

-- where two tests keep the same elements of a list, they agree on each
pub agree : (f g : Item → Bool) (place : ℕ) (list : List Element) →
    filter (λ p. f p.1.item) (enumerate_from place list) ≡ filter (λ p. g p.1.item) (enumerate_from place list) →
    AllByRecursion (λ e. f e.item ≡ g e.item) list
agree f g place [] same = tt
agree f g place (e ∷ list) same = by (agree f g (place + 1) list) (f e.item) (g e.item) refl refl same
  where
    fs : List Placed
    fs = filter (λ p. f p.1.item) (enumerate_from (place + 1) list)

    gs : List Placed
    gs = filter (λ p. g p.1.item) (enumerate_from (place + 1) list)

    by : (fs ≡ gs → AllByRecursion (λ x. f x.item ≡ g x.item) list) → (a b : Bool) → f e.item ≡ a → g e.item ≡ b →
        cond a ((place, e) ∷ fs) fs ≡ cond b ((place, e) ∷ gs) gs → AllByRecursion (λ x. f x.item ≡ g x.item) (e ∷ list)
    by rest true true one other alike = (one ∙ sym other, rest (cc alike))
    by rest false false one other alike = (one ∙ sym other, rest alike)
    by rest true false one other alike = absurd (not_behind g place e list fs alike)
    by rest false true one other alike = absurd (not_behind f place e list gs (sym alike))

-- the resistance of an element at a corner, chosen by the corner or by what kind of element it is first
chosen : (most ground : Bool) (low high own : ℕ) → cond most (cond ground high own) (cond ground low own) ≡ cond ground (cond most high low) own
chosen true true low high own = refl
chosen true false low high own = refl
chosen false true low high own = refl
chosen false false low high own = refl

-- a network whose elements are those of its extremes at a corner
at_corner_of : (network : Network) (ranges : Ranges) (corner : Corner) (least most other : Network) →
    least ≡ with_least ranges network → most ≡ with_most ranges network → other.nodes ≡ least.nodes → length other.list ≡ length least.list →
    ((place : ℕ) → place < length least.list → element_of other place ≡ element_at_corner corner (element_of least place) (element_of most place)) →
    other ≡ with_corner ranges corner network
at_corner_of network ranges corner least most other is_least is_most same_nodes same_count each =
    let low = λ (e : Element). (ranges e).least in
    let high = λ (e : Element). (ranges e).most in
    let ohm = corner_ohm ranges corner in
    let least_count : length least.list ≡ length network.list = ap (λ (n : Network). length n.list) is_least ∙ length-map network.list (regrounded low) in
    let nodes : other.nodes ≡ network.nodes = same_nodes ∙ ap (λ (n : Network). n.nodes) is_least in
    let list : other.list ≡ map (regrounded ohm) network.list =
    ext_get_or no_element other.list (map (regrounded ohm) network.list) (same_count ∙ least_count ∙ sym (length-map network.list (regrounded ohm)))
    (λ place within.
    let inside : place < length network.list = omega (arith, within, same_count, least_count) in
    let e = element_of network place in
    let of_least : element_of least place ≡ regrounded low e = ap (λ (n : Network). element_of n place) is_least ∙ element_with low network place inside in
    let of_most : element_of most place ≡ regrounded high e = ap (λ (n : Network). element_of n place) is_most ∙ element_with high network place inside in
    each place (omega (arith, within, same_count))
    ∙ ap (λ (x : Element). element_at_corner corner x (element_of most place)) of_least
    ∙ ap (λ (x : Element). element_at_corner corner (regrounded low e) x) of_most
    ∙ ap (λ (r : ℕ). record e { micro_ohm = r }) (chosen (corner e.from.0) (is_ground e) (low e) (high e) e.micro_ohm)
    ∙ sym (element_with ohm network place inside)) in
    λ i. record { nodes = nodes i; list = list i }

-- the net's elements are the case's with their grounds at the corner
pub corner_network : (v : Tolerated) (nets : GroundNets) (corner : Corner) (net : NetView) → AreNetsOf v nets → IsCornerNet nets corner net →
    net.network ≡ with_corner (ranges_in v) corner (elements_of v.case)
corner_network v nets corner net of_nets at_corner =
    at_corner_of (elements_of v.case) (ranges_in v) corner nets.least.network nets.most.network net.network
    of_nets.extremes.least_network of_nets.extremes.most_network at_corner.same_nodes at_corner.same_count at_corner.each

-- what holds of each element whatever its resistance holds of it with another one
regrounded_too : (f g : Item → Bool) (one other : Element → ℕ) (list : List Element) →
    AllByRecursion (λ e. f e.item ≡ g e.item) (map (regrounded one) list) → AllByRecursion (λ e. f e.item ≡ g e.item) (map (regrounded other) list)
regrounded_too f g one other [] h = tt
regrounded_too f g one other (e ∷ list) h = (h.0, regrounded_too f g one other list h.1)

-- tests that keep the same elements of a network with some grounds keep the same with others
stands_too : (network : Network) (f g : Item → Bool) (one other : Element → ℕ) →
    standing_elements (with_grounds one network) f ≡ standing_elements (with_grounds one network) g →
    standing_elements (with_grounds other network) f ≡ standing_elements (with_grounds other network) g
stands_too network f g one other same =
    let list = map (regrounded other) network.list in
    filter_same (λ (p : Placed). f p.1.item) (λ (p : Placed). g p.1.item) (enumerate_from 0 list)
    (placed (λ e. f e.item ≡ g e.item) 0 list
    (regrounded_too f g one other network.list (agree f g 0 (map (regrounded one) network.list) same)))

-- and so is what stands
pub corner_standing : (v : Tolerated) (nets : GroundNets) (corner : Corner) (net : NetView) → AreNetsOf v nets → IsCornerNet nets corner net →
    standing net ≡ corner_in v corner
corner_standing v nets corner net of_nets at_corner =
    let elements = elements_of v.case in
    let ranges = ranges_in v in
    let least : standing_elements (with_least ranges elements) (stands nets.least) ≡ standing_elements (with_least ranges elements) (stands_after v.rows) =
    ap (λ (n : Network). standing_elements n (stands nets.least)) (sym of_nets.extremes.least_network) ∙ of_nets.extremes.least_standing in
    ap (λ (n : Network). standing_elements n (stands net)) (corner_network v nets corner net of_nets at_corner)
    ∙ ap (λ (items : Items). standing_elements (with_corner ranges corner elements) (stands_without items)) at_corner.same_items
    ∙ stands_too elements (stands nets.least) (stands_after v.rows) (λ e. (ranges e).least) (corner_ohm ranges corner) least

-- where that with the greatest grounds can be solved, so can it
pub corner_solves : (v : Tolerated) (nets : GroundNets) (corner : Corner) (net : NetView) (nodes count : ℕ) (solving : SolveWorkspace) →
    AreNetsOf v nets → IsCornerNet nets corner net → BoundVectorsServeLesserGrounds →
    IsCornerOfRanges (elements_of v.case) (stands_after v.rows) (ranges_in v) corner →
    CanSolve nodes count nets.most solving → CanSolve nodes count net solving
corner_solves v nets corner net nodes count solving of_nets at_corner serves of_ranges can =
    let elements = elements_of v.case in
    let ranges = ranges_in v in
    let entries = slice_index solving.vector in
    let most = of_nets.extremes.most_network in
    let own = corner_network v nets corner net of_nets at_corner in
    let bound = subst (λ (ps : List Placed). IsBoundWithin ps MOST_WALK entries) of_nets.extremes.most_standing can.bound in
    let vector = serves elements (stands_after v.rows) (corner_ohm ranges corner) (λ e. (ranges e).most) entries of_ranges.lesser bound.bound in
    record {
      node_count = ap (λ (n : Network). n.nodes) own ∙ sym (ap (λ (n : Network). n.nodes) most) ∙ can.node_count;
      element_count = ap (λ (n : Network). length n.list) own ∙ length-map elements.list (regrounded (corner_ohm ranges corner))
          ∙ sym (length-map elements.list (regrounded (λ e. (ranges e).most))) ∙ sym (ap (λ (n : Network). length n.list) most) ∙ can.element_count;
      earthed = subst AreEarthed (sym (corner_standing v nets corner net of_nets at_corner))
          (earthed_other elements (stands_after v.rows) (λ e. (ranges e).most) (corner_ohm ranges corner) (subst AreEarthed of_nets.extremes.most_standing can.earthed));
      has_space = can.has_space;
      bound = subst (λ (ps : List Placed). IsBoundWithin ps MOST_WALK entries) (sym (corner_standing v nets corner net of_nets at_corner))
          (record { bound = vector; none_above = bound.none_above });
    }
