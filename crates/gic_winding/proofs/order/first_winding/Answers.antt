use Rattle.std.proofs.Common.{rules}
use Rattle.std.proofs.lemmas.List.Sorted.{IsPartitionPoint-from_clause}
use Rattle.gic_winding.specs.Order.{comes_before}
use Rattle.gic_winding.specs.ElementList.{earthing}
use Rattle.gic_winding.proofs.Parted.{parted}
use Rattle.gic_winding.proofs.order.first_winding.Goals as goal

pub returns-clause-parted : goal.returns-clause-parted
returns-clause-parted c = λ prefix suffix whole before later.
    parted (λ e. comes_before e.item c.args.transformer) c.args.list.now prefix suffix c.partition_point.result (earthing 0 0) whole before later c.partition_point.ensures.bound
    (λ ordered. IsPartitionPoint-from_clause (λ e. comes_before e.item c.args.transformer) c.args.list.now c.partition_point.result c.partition_point.ensures.partitioned ordered (λ a r f' h. search rules))
