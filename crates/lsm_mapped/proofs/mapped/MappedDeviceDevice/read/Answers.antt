use Rattle.std.proofs.Common.{ap, not, sym, ◌∙◌}
use Rattle.std.proofs.lemmas.Bool.{false≢true}
use Rattle.lsm_mapped.specs.Devices.{past_on, records_on}
use Rattle.lsm_mapped.proofs.Answered.{on_ok_by}
use Rattle.lsm_mapped.proofs.Making.{read-made}
use Rattle.lsm_mapped.proofs.mapped.MappedDeviceDevice.read.Goals as goal
use Rattle.lsm_mapped.proofs.mapped.MappedDeviceDevice.read.Goals.{then-not-has_write, else-not-has_write}

pub returns-clause-bytes : goal.returns-clause-bytes
returns-clause-bytes c = on_ok_by c.answer.result c.if-not-has_write.ok c.answer.ensures (λ t. elim c.if-not-has_write.branch [
  | then-not-has_write w ↦
      let s = c.args.self.now in
      let ok = sym w.ok-is ∙ t in
      read-made s.sectors c.args.at s.image.now _ (records_on s) (past_on s) (s.fills.laid.unwritten (sym c.has_write.ensures ∙ w.if-not-has_write.true))
      s.had.shown c.requires (w.copy-ok.ensures.there.0 ok) (w.out-is ∙ w.copy-ok.ensures.bytes ok)
  | else-not-has_write w ↦ absurd (false≢true (sym (ap not w.if-not-has_write.false) ∙ sym w.ok-is ∙ t))
])
