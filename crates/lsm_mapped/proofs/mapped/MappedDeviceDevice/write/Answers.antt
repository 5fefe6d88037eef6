use Rattle.std.proofs.Common.{List, ap, inl, ◌∙◌}
use Rattle.lsm_mapped.specs.Devices.{past_on, records_on}
use Rattle.lsm_mapped.specs.Disks.{after_records}
use Rattle.lsm_mapped.specs.Records.{Record, with_write}
use Rattle.lsm_mapped.proofs.Answered.{on_err_by, on_ok_by}
use Rattle.lsm_mapped.proofs.Making.{left_within, within-write, write-made}
use Rattle.lsm_mapped.proofs.mapped.MappedDeviceDevice.write.Goals as goal

pub invariant_of-self : goal.invariant_of-self
invariant_of-self c =
    let s = c.args.self.now in
    let rs = records_on s in
    record {
      fits = s.fits;
      had = s.had;
      fills = c.write-ok.ensures.fills;
      within = left_within s.sectors c.write-ok.result rs (with_write c.args.at c.args.bytes.now rs) _ s.within (within-write s.sectors c.args.at c.args.bytes.now rs s.within c.requires) c.write-ok.ensures.written c.write-ok.ensures.refused;
    }

pub returns-clause-pends : goal.returns-clause-pends
returns-clause-pends c =
    let s = c.args.self.now in
    let start = past_on s in
    on_ok_by c.answer.result c.write-ok.result c.answer.ensures
    (λ t. inl (ap (λ (rs : List Record). after_records rs start) (c.write-ok.ensures.written t) ∙ write-made c.args.at c.args.bytes.now (records_on s) start))

pub returns-clause-may_pend : goal.returns-clause-may_pend
returns-clause-may_pend c =
    let s = c.args.self.now in
    let start = past_on s in
    on_err_by c.answer.result c.write-ok.result c.answer.ensures (λ t. inl (ap (λ (rs : List Record). after_records rs start) (c.write-ok.ensures.refused t)))
