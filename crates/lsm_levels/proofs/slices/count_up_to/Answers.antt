use Rattle.std.proofs.Common.{rules}
use Rattle.std.proofs.lemmas.List.Sorted.{IsPartitionPoint-from_clause}
use Rattle.lsm_levels.specs.Tables.{at_most}
use Rattle.lsm_levels.proofs.KeyOrder.{below_is}
use Rattle.lsm_levels.proofs.Parts.{left, partitioned}
use Rattle.lsm_codec.proofs.Lists.{passed}
use Rattle.lsm_levels.proofs.Searching.{falls_up_to}
use Rattle.lsm_levels.proofs.slices.count_up_to.Goals as goal

pub returns-clause-passed : goal.returns-clause-passed
returns-clause-passed g c = passed _ _ _ (IsPartitionPoint-from_clause (λ t. at_most t.first c.args.key.now) _ _ c.partition_point.ensures.partitioned (partitioned _ _ (falls_up_to c.args.key.now c.args.run.now c.requires)) (λ a r q k. search rules))

pub returns-clause-left : goal.returns-clause-left
returns-clause-left g c = left (λ t. at_most t.first c.args.key.now) _ (λ t. below_is c.args.key.now t.first) _ _ (IsPartitionPoint-from_clause (λ t. at_most t.first c.args.key.now) _ _ c.partition_point.ensures.partitioned (partitioned _ _ (falls_up_to c.args.key.now c.args.run.now c.requires)) (λ a r q k. search rules))
