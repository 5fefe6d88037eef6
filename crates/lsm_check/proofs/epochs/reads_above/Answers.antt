use Rattle.std.proofs.Common.{false}
use Rattle.std.proofs.lemmas.Result.{err_from_is_err_and}
use Rattle.lsm_check.proofs.DeviceReads.{sector_read}
use Rattle.lsm_check.proofs.ReadCounts.{between_sector}
use Rattle.lsm_check.proofs.epochs.reads_above.Goals as goal

pub returns-in_err-read-clause-device : goal.returns-in_err-read-clause-device
returns-in_err-read-clause-device g c =
    let D = g.D.Device in
    let p = err_from_is_err_and c.from_residual.result c.from_residual.ensures.1 in
    let e = c.in_err-read.ensures in
    rw (p.1, p.2) (sector_read false (D.medium c.args.device.now) (D.medium c.read.new.self) e.counted e.unchanged e.same_size e.same_lasting)

pub returns-clause-whole : goal.returns-clause-whole
returns-clause-whole g c = between_sector _ _ c.in_ok-read.ensures.counted
