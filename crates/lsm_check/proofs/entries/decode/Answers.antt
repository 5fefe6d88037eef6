use Rattle.std.proofs.Common.{inl, inr}
use Rattle.std.proofs.lemmas.Result.{err_from_is_err_and}
use Rattle.lsm_check.proofs.BlockEntries.{all_spelled, none_spelled}
use Rattle.lsm_check.proofs.entries.decode.Goals as goal

pub returns-in_err-decode_data_block-clause-refused : goal.returns-in_err-decode_data_block-clause-refused
returns-in_err-decode_data_block-clause-refused g c =
    let p = err_from_is_err_and c.from_residual.result c.from_residual.ensures.1 in
    rw (p.1, p.2) (elim c.in_err-decode_data_block.ensures.refused [
      | inl memory ↦ inl memory
      | inr bad ↦ inr (bad.0, none_spelled c.args.block.now bad.1)
    ])

pub returns-clause-spelled : goal.returns-clause-spelled
returns-clause-spelled g c = all_spelled c.args.block.now c.in_ok-decode_data_block.field-0.items (record { fit = c.fits-block }) c.told-block c.in_ok-decode_data_block.ensures.spelled
