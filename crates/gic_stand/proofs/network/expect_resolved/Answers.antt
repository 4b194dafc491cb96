use Rattle.std.proofs.Common.{ℕ, zero, suc, ◌≡◌, ◌<◌, List, [], ◌∷◌, length, refl, ap, subst, ◌∙◌, arith}
use Rattle.std.specs.Prelude.{slice_index}
use Rattle.gic_case.specs.Lists.{node_names}
use Rattle.gic_net.specs.Net.{standing}
use Rattle.gic_stand.specs.Standing.{IsFirstUnresolved}
use Rattle.gic_winding.proofs.Limits.{nodes_named}
use Rattle.gic_stand.proofs.network.expect_resolved.Goals as goal

-- a number that is not 0 stands within the list
within_by_index : (xs : List ℕ) (k n : ℕ) → slice_index xs k ≡ suc n → k < length xs
within_by_index [] k n h = absurd (grind (arith, h))
within_by_index (x ∷ xs) zero n h = omega arith
within_by_index (x ∷ xs) (suc k) n h = omega (arith, within_by_index xs k n h)

pub node_name-node-requires : goal.node_name-node-requires
node_name-node-requires c =
    let nodes : length c.find_bound.new.out ≡ length (node_names c.args.case.now) =
    c.find_bound.ensures.workspace.entry_count ∙ c.requires.nodes ∙ nodes_named c.args.case.now in
    subst (λ (n : ℕ). c.in-Err.refusal.node.0 < n) nodes (within_by_index c.find_bound.new.out c.in-Err.refusal.node.0 4096 c.in-Err.ensures.first.full)

pub returns-in-Err-clause-err : goal.returns-in-Err-clause-err
returns-in-Err-clause-err c =
    let node = c.in-Err.refusal.node.0 in
    let first : IsFirstUnresolved (standing c.args.net.now) node = record {
      entries = slice_index c.find_bound.new.out;
      least = c.in-Err.ensures.least;
      full = c.in-Err.ensures.first.full;
      first = λ j below full. omega (arith, c.in-Err.ensures.first.none_before j below, full);
    } in
    (refl, record { earthed = c.requires.earthed; node = node; unresolved = first; named = c.node_name-node.ensures })
