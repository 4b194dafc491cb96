use Rattle.std.proofs.Common.{◌≡◌, ◌≤ℤ◌, ◌+ℤ◌, ◌-ℤ◌, rules, arith, sym, subst₂, ℤ}
use Rattle.std.proofs.lemmas.Int.{ints}
use Rattle.gic_model.specs.Guess.{cut}
use Rattle.gic_enclose.proofs.Cuts.{cut_order}
use Rattle.gic_enclose.proofs.enclosing.around.Goals as goal

pub new-requires : goal.new-requires
new-requires c =
    let low : c.cut_guess.result ≡ cut c.below.result = search (rules, c.cut_guess.ensures.value) in
    let high : c.cut_guess-2.result ≡ cut c.above.result = search (rules, c.cut_guess-2.ensures.value) in
    let less : c.below.result ≡ c.args.guess -ℤ c.args.radius = search (rules, c.below.ensures) in
    let more : c.above.result ≡ c.args.guess +ℤ c.args.radius = search (rules, c.above.ensures) in
    let order : c.below.result ≤ℤ c.above.result = omega (arith, ints, less, more, c.requires.some) in
    let cuts = cut_order c.below.result c.above.result order in
    let plain : c.cut_guess.result ≤ℤ c.cut_guess-2.result = subst₂ (λ (a b : ℤ). a ≤ℤ b) (sym low) (sym high) cuts in
    search (rules, plain)
