-- A made case is earthed within 448, by the second share theorem.
use Rattle.std.proofs.Common.{ℕ, ◌≤◌, Bool, true, false, cond, nat_lt, List, length, sym, subst, arith}
use Rattle.std.specs.List.{AllByRecursion}
use Rattle.gic_case.specs.Lists.{node_names}
use Rattle.gic_model.specs.Limits.{IsElementWithin, IsWithinLimits}
use Rattle.gic_model.specs.Standing.{is_live}
use Rattle.gic_model.specs.Sums.{Placed}
use Rattle.gic_model.specs.Bound.{IsEarthedWithin}
use Rattle.gic_model.proofs.Ends.{live_within, standing_within}
use Rattle.gic_winding.specs.ElementList.{elements_of}
use Rattle.gic_winding.specs.Degrees.{ElementsAreWithinLimits}
use Rattle.gic_bound.specs.Shares.{entries_where_live}
use Rattle.gic_bound.specs.ShareLaws.{IsEarthedThroughSubstations, ShareEntriesAreBound, share_entry}
use Rattle.gic_make.specs.Generator.{states_after}
use Rattle.gic_make.specs.MadeCase.{first_draw, drawn_case, made_case}
use Rattle.gic_make.specs.Accepted.{all_standing, MadeCasesAreNearEarth}
use Rattle.gic_make.proofs.ElementsOfSites.{nodes_are}
use Rattle.gic_make.proofs.SoundCase.{drawn_sound}
use Rattle.gic_make.proofs.StandingSites.{standing_at, standing_is}
use Rattle.gic_make.proofs.SharesOfSites.{substation_share, bus_share}

-- the entries are 448 at buses and 436 at substations
entry_small : (live prefix : Bool) → cond live (cond prefix 436 448) 0 ≤ 448
entry_small true true = omega arith
entry_small true false = omega arith
entry_small false prefix = omega arith

-- each node's share
shares : (states : List ℕ) (size : ℕ) → IsWithinLimits (elements_of (drawn_case states size)) → IsEarthedThroughSubstations (standing_at states size) size 32 6
unfolding elements_of
shares states size limits =
    let nodes = length (node_names (drawn_case states size)) in
    let count = nodes_are states size in
    let within = subst (AllByRecursion (λ (p : Placed). IsElementWithin nodes p.1)) (standing_is states size) (standing_within (elements_of (drawn_case states size)) (λ item. true) limits) in
    record {
      earthings = λ k prefix live. substation_share states size k prefix;
      ways = λ k back live. bus_share states size k back (omega (arith, live_within nodes (standing_at states size) k within live, count));
    }

drawn_near_earth : ShareEntriesAreBound → ElementsAreWithinLimits → (states : List ℕ) (size : ℕ) → 2 ≤ size → size ≤ 1000 → IsEarthedWithin (all_standing (drawn_case states size)) 448
drawn_near_earth entries within states size least most =
    let case = drawn_case states size in
    let limits = within case (drawn_sound states size least most) in
    let have = subst (λ s. IsEarthedThroughSubstations s size 32 6) (sym (standing_is states size)) (shares states size limits) in
    record {
      entries = entries_where_live (all_standing case) (share_entry size 32 6);
      bound = entries (elements_of case) (λ item. true) size 32 6 (omega arith) (omega arith) limits have;
      none_above = λ k. entry_small (is_live (all_standing case) k) (nat_lt k size);
    }

pub made_near_earth : ShareEntriesAreBound → ElementsAreWithinLimits → MadeCasesAreNearEarth
unfolding made_case
made_near_earth entries within seed size small least most = drawn_near_earth entries within (states_after seed (first_draw size)) size least most
