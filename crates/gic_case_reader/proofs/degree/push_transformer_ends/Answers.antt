use Rattle.std.proofs.Common.{◌≡◌, ◌++◌, List, ℕ, length, rules, ap, ◌∙◌, append_assoc}
use Rattle.std.specs.List.{flat_map}
use Rattle.gic_case.specs.Lists.{grid_of, winding_ends, device_ends}
use Rattle.gic_case.specs.Windings.{windings_of}
use Rattle.gic_case.specs.declared.item.Transformer.{Transformer}
use Rattle.gic_case_reader.proofs.Degrees.{transformer_ends_by}
use Rattle.gic_case_reader.proofs.degree.push_transformer_ends.Goals as goal

pub returns : goal.returns
returns c =
    let network = c.args.network.now in
    let first_bus = c.len-first_bus.result in
    let buses = c.as_slice-2.result.now in
    let neutrals = c.in_ok-neutrals.neutrals.items in
    let before = c.args.ends.now.items in
    let windings : List (ℕ × Transformer) → List ℕ = λ ns. flat_map (λ p. winding_ends first_bus p.0 (windings_of p.1)) ns in
    let devices : List (ℕ × Transformer) → List ℕ = λ ns. flat_map (λ p. device_ends p.0 (grid_of buses p.1) p.1.neutral) ns in
    let bus : first_bus ≡ length network.substations = search rules in
    let same_buses : buses ≡ network.buses = search rules in
    let one : c.push_winding_ends.new.ends.items ≡ before ++ windings c.as_slice.result.now = c.in_ok-push_winding_ends.ensures in
    let two : c.push_device_ends.new.ends.items ≡ c.push_winding_ends.new.ends.items ++ devices c.as_slice-3.result.now = c.in_ok-push_device_ends.ensures in
    let all : c.push_device_ends.new.ends.items ≡ before ++ (windings neutrals ++ devices neutrals) =
    two ∙ ap (λ xs. xs ++ devices c.as_slice-3.result.now) (one ∙ ap (λ ns. before ++ windings ns) c.as_slice.ensures.value)
    ∙ ap (λ ns. (before ++ windings neutrals) ++ devices ns) c.as_slice-3.ensures.value ∙ append_assoc before (windings neutrals) (devices neutrals) in
    all ∙ ap (λ es. before ++ es) (transformer_ends_by network first_bus buses neutrals bus same_buses c.in_ok-neutrals.ensures)
