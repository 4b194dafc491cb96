use Rattle.std.proofs.Common.{◌≡◌, ◌<◌, ◌∙◌, ℕ, List, length, get_or, arith, ap, sym, subst}
use Rattle.std.specs.List.{flat_map}
use Rattle.gic_review.specs.declared.findings.sides.RatedSide.{RatedSide}
use Rattle.gic_review.specs.Sides.{rated_sides_of}
use Rattle.gic_review.proofs.SidesWithin.{sides_within}
use Rattle.gic_review.proofs.findings.sides.push_levels.Goals as goal

pub push_all_volts-requires : goal.push_all_volts-requires
push_all_volts-requires c =
    let case = c.args.case.now in
    let sides : c.deref.result.now ≡ flat_map rated_sides_of case.transformers = c.deref.ensures.value ∙ c.in_ok-sides.ensures ∙ ap (flat_map rated_sides_of) c.transformers.ensures.value in
    let many : length c.deref_mut.result.now ≡ length case.buses = omega (arith, c.deref_mut.ensures.len, c.in_ok-measures.ensures.len, ap length c.buses.ensures.value) in
    λ k d within.
    subst (λ (n : ℕ). (get_or c.deref.result.now k d).bus < n) (sym many)
    (subst (λ (xs : List RatedSide). k < length xs → (get_or xs k d).bus < length case.buses) (sym sides) (λ h. sides_within case c.transformers.ensures.sound k d h) within)
