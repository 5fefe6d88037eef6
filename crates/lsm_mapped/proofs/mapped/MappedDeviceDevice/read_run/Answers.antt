use Rattle.std.proofs.Common.{◌≡◌, ◌*◌, ◌/◌, length, ap, not, sym, subst, ◌∙◌, arith, ℕ, take, drop, ◌+◌, ◌≤◌}
use Rattle.std.proofs.lemmas.Bool.{false≢true}
use Rattle.lsm_mapped.specs.Devices.{past_on, records_on}
use Rattle.lsm_mapped.proofs.Answered.{on_ok_by}
use Rattle.lsm_mapped.proofs.Copying.{run-made}
use Rattle.lsm_mapped.proofs.mapped.MappedDeviceDevice.read_run.Goals as goal
use Rattle.lsm_mapped.proofs.mapped.MappedDeviceDevice.read_run.Goals.{then-not-has_write, else-not-has_write}

pub returns-clause-bytes : goal.returns-clause-bytes
returns-clause-bytes c = on_ok_by c.answer.result c.if-not-has_write.ok c.answer.ensures (λ t. elim c.if-not-has_write.branch [
  | then-not-has_write w ↦
      let s = c.args.self.now in
      let ok = sym w.ok-is ∙ t in
      let count = length c.args.out.now / 512 in
      let whole : length c.args.out.now ≡ 512 * count = omega (arith, c.requires.whole) in
      let there = w.copy_run-ok.ensures.there.0 ok in
      run-made s.sectors c.args.at count s.image.now _ (records_on s) (past_on s) (s.fills.laid.unwritten (sym c.has_write.ensures ∙ w.if-not-has_write.true))
      s.had.shown c.requires.within (subst (λ (k : ℕ). 512 * c.args.at + k ≤ length s.image.now) whole there)
      (w.out-is ∙ w.copy_run-ok.ensures.bytes ok ∙ ap (λ (k : ℕ). take k (drop (512 * c.args.at) s.image.now)) whole)
  | else-not-has_write w ↦ absurd (false≢true (sym (ap not w.if-not-has_write.false) ∙ sym w.ok-is ∙ t))
])
