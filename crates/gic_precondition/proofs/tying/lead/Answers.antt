use Rattle.std.proofs.Common.{◌<◌}
use Rattle.std.proofs.lemmas.List.Elements.{All-set}
use Rattle.gic_precondition.specs.declared.parts.HalfEdge.{HalfEdge}
use Rattle.gic_precondition.proofs.tying.lead.Goals as goal

pub returns : goal.returns
returns c nodes below inside = All-set (λ (h : HalfEdge). h.far < nodes) c.args.half_edges.now c.args.half_edge _ below inside
