use Rattle.std.proofs.Common.{rules}
use Rattle.std.proofs.lemmas.List.Sorted.{IsPartitionPoint-from_clause}
use Rattle.lsm_levels.specs.Tables.{is_below}
use Rattle.lsm_levels.proofs.KeyOrder.{at_most_turned}
use Rattle.lsm_levels.proofs.Parts.{left, partitioned}
use Rattle.lsm_codec.proofs.Lists.{passed}
use Rattle.lsm_levels.proofs.Searching.{falls_before}
use Rattle.lsm_levels.proofs.slices.count_before.Goals as goal

pub returns-clause-passed : goal.returns-clause-passed
returns-clause-passed g c = passed _ _ _ (IsPartitionPoint-from_clause (λ t. is_below t.last c.args.key.now) _ _ c.partition_point.ensures.partitioned (partitioned _ _ (falls_before c.args.key.now c.args.run.now c.requires)) (λ a r q k. search rules))

pub returns-clause-left : goal.returns-clause-left
returns-clause-left g c = left (λ t. is_below t.last c.args.key.now) _ (λ t. at_most_turned t.last c.args.key.now) _ _ (IsPartitionPoint-from_clause (λ t. is_below t.last c.args.key.now) _ _ c.partition_point.ensures.partitioned (partitioned _ _ (falls_before c.args.key.now c.args.run.now c.requires)) (λ a r q k. search rules))
