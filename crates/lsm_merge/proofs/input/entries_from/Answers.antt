use Rattle.std.proofs.Common.{◌∙◌, sym, not, length-drop, rules, arith}
use Rattle.std.proofs.lemmas.List.{take_all}
use Rattle.std.proofs.lemmas.List.Sorted.{IsPartitionPoint-from_clause}
use Rattle.lsm_codec.specs.Versions.{Version}
use Rattle.lsm_merge.specs.Ranges.{shown_key, is_from}
use Rattle.lsm_mem.proofs.OrderTests.{tested}
use Rattle.lsm_merge.proofs.RangeLaws.{parted_from, filter_from_point}
use Rattle.lsm_merge.proofs.input.entries_from.Goals as goal

pub returns : goal.returns
returns g c =
    let p = λ (v : Version). is_from (shown_key c.args.from) v.key in
    let i = c.partition_point-start.result in
    let point = IsPartitionPoint-from_clause (λ v. not (p v)) _ _ c.partition_point-start.ensures.partitioned (parted_from (shown_key c.args.from) c.args.entries.now (tested c.args.entries.now c.requires)) (λ a r q k. search rules) in
    take_all _ _ (omega (arith, length-drop i c.args.entries.now)) ∙ sym (filter_from_point p c.args.entries.now i point c.partition_point-start.ensures.bound)
