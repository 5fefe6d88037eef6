use Rattle.std.proofs.Common.{◌≡◌, ◌-◌}
use Rattle.lsm_codec.specs.BatchText.{operation_at}
use Rattle.lsm_codec.specs.Reading.{are_all}
use Rattle.lsm_codec.proofs.batch_text.are_changes.Given as goal

abbrev pub invariant-loop : goal.invariant-loop
invariant-loop l = are_all (l.count - l.counter) operation_at l.rest ≡ are_all l.count operation_at l.text
