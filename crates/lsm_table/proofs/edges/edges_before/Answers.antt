use Rattle.std.proofs.Common.{rules}
use Rattle.std.proofs.lemmas.List.Sorted.{IsPartitionPoint-from_clause}
use Rattle.lsm_table.specs.Places.{stands_before}
use Rattle.lsm_table.proofs.Searching.{parted}
use Rattle.lsm_table.proofs.edges.edges_before.Goals as goal

pub returns : goal.returns
returns g c =
    IsPartitionPoint-from_clause (stands_before c.args.key.now c.args.at) _ _ c.partition_point.ensures.partitioned (parted c.args.key.now c.args.at c.args.edges.now c.requires) (λ a r q k. search rules)
