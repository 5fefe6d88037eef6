use Rattle.std.proofs.Common.{ℕ, ◌+◌, subst}
use Rattle.lsm_device.specs.Areas.{area}
use Rattle.lsm_device.specs.Calls.{AtMost}
use Rattle.lsm_device.specs.Disk.{seen}
use Rattle.lsm_device.specs.Medium.{disk}
use Rattle.lsm_log.proofs.reading.replay.Goals as goal

pub returns-in_err-read_region-clause-reads : goal.returns-in_err-read_region-clause-reads
returns-in_err-read_region-clause-reads g c = λ t.
    let D = g.D.Device in
    let counted = (c.in_ok-gathered.ensures.begins (area c.args.start c.args.sectors (seen (disk (D.medium c.args.device.now))))).1 in
    subst (λ (n : ℕ). AtMost (n + 1) 0 0 (D.medium c.args.device.now).calls (D.medium c.read_region.new.device).calls) counted (c.read_region.ensures.reads t)

pub returns-clause-reads : goal.returns-clause-reads
returns-clause-reads g c = λ t.
    let D = g.D.Device in
    let counted = (c.in_ok-gathered.ensures.begins (area c.args.start c.args.sectors (seen (disk (D.medium c.args.device.now))))).1 in
    subst (λ (n : ℕ). AtMost (n + 1) 0 0 (D.medium c.args.device.now).calls (D.medium c.read_region.new.device).calls) counted (c.read_region.ensures.reads t)
