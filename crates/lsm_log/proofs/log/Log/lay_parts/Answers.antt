use Rattle.std.proofs.Common.{◌≡◌, ◌+◌, ◌∙◌, arith, refl, length, sym}
use Rattle.lsm_device.proofs.Pieces.{one_more_laid, length-put_mid_within}
use Rattle.lsm_log.specs.Batches.{batch_sectors}
use Rattle.lsm_log.proofs.Replaying.{counted}
use Rattle.lsm_log.proofs.Cutting.{sector_at}
use Rattle.lsm_log.proofs.Laying.{take_next, length_place}
use Rattle.lsm_log.proofs.log.Log.lay_parts.Goals as goal

pub sector_of_part-sector-requires-clause-few : goal.sector_of_part-sector-requires-clause-few
sector_of_part-sector-requires-clause-few g c = omega (arith, c.requires.parts, (counted c.args.batch.now c.text-text.ensures.fits).few)

pub loop-i-preserved : goal.loop-i-preserved
loop-i-preserved g c =
    let inv = c.loop-i.invariant in
    let log = c.args.self.now in
    let got = c.copy_from_slice.ensures.after in
    let size : length c.copy_from_slice.new.self ≡ 512 = c.copy_from_slice.ensures.len ∙ length_place c.loop-i.i _ c.loop-i.run (omega arith) (omega arith) inv.whole in
    let here = sector_at log.epoch log.next c.args.batch.now c.text-text.result.now (c.args.from + c.loop-i.i) c.args.parts _ (omega arith) c.requires.parts c.text-text.ensures.same c.sector_of_part-sector.ensures in
    record {
      whole = length-put_mid_within c.loop-i.i 16 c.loop-i.run c.copy_from_slice.new.self _ (omega arith) (omega arith) inv.whole size;
      laid = one_more_laid c.loop-i.i 16 c.loop-i.run c.copy_from_slice.new.self _ _ (omega arith) inv.whole size inv.laid
          ∙ (rw got refl)
          ∙ sym (take_next (batch_sectors log.epoch log.next c.args.batch.now) c.args.from c.loop-i.i _ here.0 here.1);
    }
