use Rattle.std.proofs.Common.{rules, ◌≡◌, Some, ◌<ℤ◌, ◌≤ℤ◌, ap, sym, ◌∙◌, arith}
use Rattle.std.proofs.lemmas.Int.{ints, clamps}
use Rattle.std.specs.Int.{int_max}
use Rattle.gic_monitor.specs.LossOutlook.{total_seen}
use Rattle.gic_monitor.proofs.FirstReaching.{greatest_of_two}
use Rattle.gic_monitor.proofs.loss.totals.greatest.Goals as goal
use Rattle.gic_monitor.proofs.loss.totals.greatest.Goals.{then-first-next, else-first-next}

pub new-requires : goal.new-requires
new-requires c =
    omega (arith, ints, clamps, c.max.ensures.value, c.max-in-Some.ensures.value, c.args.next.ends.ordered, c.in-Some.first.ends.ordered)

pub returns-after-first-next : goal.returns-after-first-next
returns-after-first-next c =
    let first = c.in-Some.first in
    let next = c.args.next in
    let low : c.new.result.lo ≡ int_max first.ends.lo next.ends.lo = search rules in
    let high : c.new.result.hi ≡ int_max first.ends.hi next.ends.hi = search rules in
    let later : first.ends.hi <ℤ next.ends.hi → c.if-first-next.result ≡ next.number =
    elim c.if-first-next.branch [ then-first-next w ↦ λ h. w.result-is | else-first-next w ↦ λ h. absurd (omega (arith, ints)) ] in
    let earlier : next.ends.hi ≤ℤ first.ends.hi → c.if-first-next.result ≡ first.number =
    elim c.if-first-next.branch [ then-first-next w ↦ λ h. absurd (omega (arith, ints)) | else-first-next w ↦ λ h. w.result-is ] in
    let both = greatest_of_two (total_seen first) (total_seen next) c.if-first-next.result later earlier in
    rw c.in-Some.is (ap Some (both ∙ (let l = sym low in let h = sym high in cc)))
