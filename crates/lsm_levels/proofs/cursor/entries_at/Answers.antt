use Rattle.std.proofs.Common.{drop, arith}
use Rattle.std.proofs.lemmas.List.{length-drop}
use Rattle.lsm_codec.specs.Keys.{IsBytes}
use Rattle.lsm_table.proofs.Reading.{fit_behind}
use Rattle.lsm_levels.proofs.EntriesFew.{entries_few}
use Rattle.lsm_levels.proofs.cursor.entries_at.Goals as goal

pub returns-clause-few : goal.returns-clause-few
returns-clause-few c =
    let p = c.args.place.now in
    let bytes = c.args.block.now in
    let fits : IsBytes bytes = record { fit = c.fits-block } in
    omega (arith, entries_few p.left (drop p.offset bytes) (fit_behind bytes p.offset fits), length-drop p.offset bytes, c.told-block)
