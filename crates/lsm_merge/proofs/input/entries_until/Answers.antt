use Rattle.std.proofs.Common.{sym, rules}
use Rattle.std.proofs.lemmas.List.Sorted.{IsPartitionPoint-from_clause}
use Rattle.lsm_codec.specs.Versions.{Version}
use Rattle.lsm_merge.specs.Ranges.{shown_key, is_until}
use Rattle.lsm_mem.proofs.OrderTests.{tested}
use Rattle.lsm_merge.proofs.RangeLaws.{parted_until, filter_until_point}
use Rattle.lsm_merge.proofs.input.entries_until.Goals as goal

pub returns : goal.returns
returns g c =
    let p = λ (v : Version). is_until (shown_key c.args.to) v.key in
    let i = c.partition_point-end.result in
    let point = IsPartitionPoint-from_clause p _ _ c.partition_point-end.ensures.partitioned (parted_until (shown_key c.args.to) c.args.entries.now (tested c.args.entries.now c.requires)) (λ a r q k. search rules) in
    sym (filter_until_point p c.args.entries.now i point c.partition_point-end.ensures.bound)
