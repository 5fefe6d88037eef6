use Rattle.std.proofs.Common.{rules}
use Rattle.std.proofs.lemmas.List.Sorted.{IsPartitionPoint-from_clause}
use Rattle.lsm_table.specs.Places.{ends_before}
use Rattle.lsm_table.proofs.Searching.{ends_parted, ends_counted}
use Rattle.lsm_table.proofs.edges.blocks_before.Goals as goal

pub returns : goal.returns
returns g c =
    ends_counted c.args.key.now c.args.edges.now c.partition_point.result c.partition_point.ensures.bound
    (IsPartitionPoint-from_clause (ends_before c.args.key.now) _ _ c.partition_point.ensures.partitioned (ends_parted c.args.key.now c.args.edges.now c.requires) (λ a r q k. search rules))
