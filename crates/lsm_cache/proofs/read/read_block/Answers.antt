use Rattle.std.proofs.Common.{◌≡◌, ℕ, subst}
use Rattle.std.specs.List.{concat}
use Rattle.lsm_device.specs.Areas.{area}
use Rattle.lsm_device.specs.Disk.{seen}
use Rattle.lsm_device.specs.Medium.{disk}
use Rattle.lsm_device.proofs.Pieces.{count_of}
use Rattle.lsm_cache.proofs.read.read_block.Goals as goal

pub returns-clause-given : goal.returns-clause-given
returns-clause-given g c = λ t.
    let sectors = seen (disk (g.D.Device.medium c.args.device.now)) in
    subst (λ (n : ℕ). c.read_run.new.out ≡ concat (area c.args.sector n sectors)) (count_of _ 8 c.told-out) (c.in_ok-read_run.ensures.bytes t)
