use Rattle.std.proofs.Common.{List, sym, subst}
use Rattle.lsm_device.specs.Disk.{synced}
use Rattle.lsm_device.specs.History.{Becomes, present}
use Rattle.lsm_mapped.specs.Devices.{past_on, records_on}
use Rattle.lsm_mapped.specs.Disks.{after_records}
use Rattle.lsm_mapped.specs.Records.{Record, with_sync}
use Rattle.lsm_mapped.proofs.Answered.{on_ok_by}
use Rattle.lsm_mapped.proofs.Making.{left_within, sync-made, within-sync}
use Rattle.lsm_mapped.proofs.mapped.MappedDeviceDevice.sync.Goals as goal

pub invariant_of-self : goal.invariant_of-self
invariant_of-self c =
    let s = c.args.self.now in
    let rs = records_on s in
    record {
      fits = s.fits;
      had = s.had;
      fills = c.sync-ok.ensures.fills;
      within = left_within s.sectors c.sync-ok.result rs (with_sync rs) _ s.within (within-sync s.sectors rs s.within) c.sync-ok.ensures.synced c.sync-ok.ensures.refused;
    }

pub returns-clause-stands : goal.returns-clause-stands
returns-clause-stands c =
    let s = c.args.self.now in
    let start = past_on s in
    let had = after_records (records_on s) start in
    on_ok_by c.answer.result c.sync-ok.result c.answer.ensures
    (λ t. subst (λ (rs : List Record). Becomes (synced (present had)) had (after_records rs start)) (sym (c.sync-ok.ensures.synced t)) (sync-made (records_on s) start))
