use Rattle.std.proofs.Common.{◌≡◌, ◌<◌, ◌∙◌, ℕ, List, All, length, arith, ap, sym, subst}
use Rattle.gic_review.proofs.Firsts.{firsts_found}
use Rattle.gic_review.proofs.Pointed.{pointers_inside}
use Rattle.gic_review.proofs.WrittenBack.{written_back}
use Rattle.gic_review.proofs.findings.union.firsts.Goals as goal

pub returns-clause-few : goal.returns-clause-few
returns-clause-few c =
    let old = c.in_ok-pointers.pointers.items in
    let found = c.find_firsts.new.pointers in
    let len : length old ≡ c.in_ok-pointers.pointers.len = omega (arith, ap length c.deref_mut.ensures.value, c.deref_mut.ensures.len) in
    let same : length found ≡ length old = omega (arith, ap length c.deref_mut.ensures.value, c.find_firsts.auto.pointers) in
    let limits = c.nodes.ensures.limits in
    omega (arith, ap length (written_back old found c.in_ok-pointers.pointers.len len same ∙ c.find_firsts.ensures.firsts), (firsts_found c.args.elements.now limits).count, limits.few_nodes)

pub returns-clause-inside : goal.returns-clause-inside
returns-clause-inside c =
    let old = c.in_ok-pointers.pointers.items in
    let found = c.find_firsts.new.pointers in
    let len : length old ≡ c.in_ok-pointers.pointers.len = omega (arith, ap length c.deref_mut.ensures.value, c.deref_mut.ensures.len) in
    let same : length found ≡ length old = omega (arith, ap length c.deref_mut.ensures.value, c.find_firsts.auto.pointers) in
    subst (λ (xs : List ℕ). All (λ at. at < length xs) xs) (sym (written_back old found c.in_ok-pointers.pointers.len len same)) (pointers_inside found c.find_firsts.ensures.pointers)
