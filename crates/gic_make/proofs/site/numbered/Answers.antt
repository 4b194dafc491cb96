use Rattle.std.proofs.Common.{◌≡◌, decimal, ◌∙◌, arith}
use Rattle.gic_make.proofs.Names.{numbered_name, written}
use Rattle.gic_make.proofs.site.numbered.Goals as goal

pub name_of-requires : goal.name_of-requires
name_of-requires c =
    let is : c.as_bytes-digits.result.now ≡ decimal c.args.number = c.as_bytes-digits.ensures.value ∙ c.format.ensures.text in
    let copied : c.copy_from_slice.new.self ≡ decimal c.args.number = c.copy_from_slice.ensures.after ∙ is in
    rw (copied, is, written) (numbered_name c.args.letter c.args.number c.requires (omega arith))

pub returns : goal.returns
returns c =
    let is : c.as_bytes-digits.result.now ≡ decimal c.args.number = c.as_bytes-digits.ensures.value ∙ c.format.ensures.text in
    let copied : c.copy_from_slice.new.self ≡ decimal c.args.number = c.copy_from_slice.ensures.after ∙ is in
    c.name_of.ensures ∙ rw (copied, is, written)
