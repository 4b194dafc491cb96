use Rattle.gic_list.proofs.ElementNames.{item_of}
use Rattle.gic_list.proofs.text.write_element.Goals as goal

pub item_name-requires : goal.item_name-requires
item_name-requires g c = item_of c.args.case.now c.args.element.now c.requires
