use Rattle.std.proofs.lemmas.Result.{err_from_is_err_and}
use Rattle.lsm_open.proofs.BlockReads.{block_read, block_faulted}
use Rattle.lsm_open.proofs.tables.read_data_block.Goals as goal

pub returns-in_err-read_block-clause-device : goal.returns-in_err-read_block-clause-device
returns-in_err-read_block-clause-device g c =
    let D = g.D.Device in
    let p = err_from_is_err_and c.from_residual.result c.from_residual.ensures.1 in
    let e = c.in_err-read_block.ensures in
    rw (p.1, p.2) (block_faulted (D.medium c.args.device.now) (D.medium c.read_block.new.device) e.faulted (record { same_size = e.same_size; same_lasting = e.same_lasting; unchanged = e.unchanged }))

pub returns-clause-device : goal.returns-clause-device
returns-clause-device g c =
    let D = g.D.Device in
    let e = c.in_ok-read_block.ensures in
    block_read (D.medium c.args.device.now) (D.medium c.read_block.new.device) e.counted (record { same_size = e.same_size; same_lasting = e.same_lasting; unchanged = e.unchanged })
