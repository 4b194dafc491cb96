use Rattle.std.proofs.Common.{pos, arith, ◌∙◌, slice_index_or}
use Rattle.std.specs.Int.{w128}
use Rattle.std.proofs.lemmas.Int.{to_z-of_z, fits_signed_from_abs}
use Rattle.gic_cert.proofs.cert.Cert.guess.Goals as goal

pub returns : goal.returns
returns c =
    let read = slice_index_or c.guesses.result.now c.args.node.0 (pos 0) in
    to_z-of_z w128 read (fits_signed_from_abs w128 read (omega (arith, c.guesses.ensures.cut c.args.node.0))) ∙ (λ i. c.guesses.ensures.value i c.args.node.0)
