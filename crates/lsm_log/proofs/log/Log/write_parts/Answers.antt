use Rattle.std.proofs.Common.{◌≡◌, ◌+◌, arith}
use Rattle.lsm_device.proofs.Runs.{reached_none, run_more, run_fault, run_whole}
use Rattle.lsm_codec.specs.BatchText.{sectors_of}
use Rattle.lsm_log.specs.Batches.{batch_sectors}
use Rattle.lsm_log.proofs.Replaying.{length-batch}
use Rattle.lsm_log.proofs.Cutting.{sector_at}
use Rattle.lsm_log.proofs.log.Log.write_parts.Goals as goal

pub returns-in_err-write-clause-moments : goal.returns-in_err-write-clause-moments
returns-in_err-write-clause-moments g c = λ t.
    let log = c.args.self.now in
    let one : 1 ≡ sectors_of c.args.batch.now = omega (arith, c.requires.count) in
    let here = sector_at log.epoch log.next c.args.batch.now c.text.result.now 0 1 _ (omega arith) one c.text.ensures.same c.sector_of_part-sector.ensures in
    run_fault _ _ _ (log.start + log.used) (log.start + log.used) (batch_sectors log.epoch log.next c.args.batch.now) 0 _ (omega arith) here.0 here.1 (reached_none _ _) (c.in_err-write.ensures.may_pend t)

pub returns-then-parts-eq1-clause-moments : goal.returns-then-parts-eq1-clause-moments
returns-then-parts-eq1-clause-moments g c = λ t.
    let log = c.args.self.now in
    let one : 1 ≡ sectors_of c.args.batch.now = omega (arith, c.requires.count) in
    let here = sector_at log.epoch log.next c.args.batch.now c.text.result.now 0 1 _ (omega arith) one c.text.ensures.same c.sector_of_part-sector.ensures in
    (run_more _ _ _ (log.start + log.used) (log.start + log.used) (batch_sectors log.epoch log.next c.args.batch.now) 0 _ (omega arith) here.0 here.1 (reached_none _ _) (c.in_ok-write.ensures.pends t)).moments

pub returns-then-parts-eq1-clause-whole : goal.returns-then-parts-eq1-clause-whole
returns-then-parts-eq1-clause-whole g c = λ t.
    let log = c.args.self.now in
    let one : 1 ≡ sectors_of c.args.batch.now = omega (arith, c.requires.count) in
    let here = sector_at log.epoch log.next c.args.batch.now c.text.result.now 0 1 _ (omega arith) one c.text.ensures.same c.sector_of_part-sector.ensures in
    run_whole _ _ (log.start + log.used) (batch_sectors log.epoch log.next c.args.batch.now) (0 + 1) (omega (arith, one, length-batch log.epoch log.next c.args.batch.now))
    (run_more _ _ _ (log.start + log.used) (log.start + log.used) (batch_sectors log.epoch log.next c.args.batch.now) 0 _ (omega arith) here.0 here.1 (reached_none _ _) (c.in_ok-write.ensures.pends t))
