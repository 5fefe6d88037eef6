use Rattle.std.proofs.Common.{rules, ltb}
use Rattle.std.proofs.lemmas.List.Sorted.{IsPartitionPoint-from_clause, IsPartitionedBy-ltb}
use Rattle.lsm_extent.proofs.Searching.{split_from_test}
use Rattle.lsm_extent.proofs.gaps.begun_before.Goals as goal

pub returns-clause-split : goal.returns-clause-split
returns-clause-split c =
    split_from_test c.args.block _ c.args.held.now
    (IsPartitionPoint-from_clause (λ e. ltb e.first c.args.block) _ _ c.partition_point.ensures.partitioned (IsPartitionedBy-ltb (λ e. e.first) c.args.held.now c.args.block c.requires) (λ a r q k. search rules))
