use Rattle.std.proofs.Common.{length, replicate, true, refl, subst}
use Rattle.std.proofs.lemmas.Result.{err_from_is_err_and}
use Rattle.lsm_device.specs.Disk.{Disk, seen}
use Rattle.lsm_device.specs.Medium.{disk}
use Rattle.lsm_device.specs.Memory.{medium_in}
use Rattle.lsm_device.proofs.Outcomes.{seen_outcome}
use Rattle.lsm_open.specs.Image.{StandFor}
use Rattle.test_lives.proofs.checks.whole.checked.Goals as goal

pub returns-in_err-report : goal.returns-in_err-report
returns-in_err-report c = λ log left leaves.
    let d : Disk = disk (medium_in c.args.device) in
    let stands : StandFor log left (seen d) = subst (StandFor log left) (seen_outcome d) (leaves (replicate (length d.pending) true)) in
    let p = err_from_is_err_and c.from_residual.result c.from_residual.ensures.1 in
    rw (p.1, p.2) (c.in_err-report.ensures.image log left refl stands)
