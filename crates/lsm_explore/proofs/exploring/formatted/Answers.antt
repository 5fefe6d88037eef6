use Rattle.std.proofs.Common.{All, length, refl, ap, sym, subst, arith}
use Rattle.lsm_device.specs.Disk.{IsSector}
use Rattle.lsm_device.specs.Medium.{Medium, disk}
use Rattle.lsm_device.specs.Memory.{medium_in, length-written, written-whole, history_sound}
use Rattle.lsm_explore.proofs.MayLeave.{stands_as_read}
use Rattle.lsm_explore.proofs.exploring.formatted.Goals as goal

pub returns-in-Ok-sectors_of-clause-formatted : goal.returns-in-Ok-sectors_of-clause-formatted
returns-in-Ok-sectors_of-clause-formatted g c = stands_as_read c.args.log_sectors (disk (medium_in c.in-Ok.device)) c.in-Ok-sectors_of.sectors.items c.in-Ok-sectors_of.ensures.sectors (c.in-Ok.ensures.leaves refl)

pub returns-in-Ok-sectors_of-clause-size : goal.returns-in-Ok-sectors_of-clause-size
returns-in-Ok-sectors_of-clause-size g c =
    let device = c.in-Ok.device in
    let now = disk (medium_in device) in
    let long = length-written (medium_in device).size now.stands now.pending (history_sound device).now.size in
    let read = ap length c.in-Ok-sectors_of.ensures.sectors in
    omega (arith, read, long, c.in-Ok.ensures.same_size, ap (λ (m : Medium). m.size) c.in_ok-device.ensures.zeros)

pub returns-in-Ok-sectors_of-clause-whole : goal.returns-in-Ok-sectors_of-clause-whole
returns-in-Ok-sectors_of-clause-whole g c =
    let device = c.in-Ok.device in
    let now = disk (medium_in device) in
    let on = (history_sound device).now in
    subst (All IsSector) (sym c.in-Ok-sectors_of.ensures.sectors) (written-whole (medium_in device).size now.stands now.pending on.sectors on.writes)
