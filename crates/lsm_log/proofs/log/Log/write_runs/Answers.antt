use Rattle.std.proofs.Common.{rules, ◌≡◌, ◌≤◌, ◌<◌, ◌+◌, ◌*◌, ◌∙◌, ℕ, min, ap, arith, refl, sym, subst, length, take}
use Rattle.lsm_device.specs.Calls.{after_writes}
use Rattle.lsm_device.specs.Runs.{run_at}
use Rattle.lsm_device.proofs.RunCounts.{all_writes, writes_joined, faulted_behind}
use Rattle.lsm_device.proofs.Runs.{reached_none, part_more, part_fault, run_whole, Reached}
use Rattle.lsm_device.proofs.WrittenRuns.{counted_of, faulted_of}
use Rattle.lsm_codec.proofs.Lists.{on_err}
use Rattle.lsm_log.specs.Batches.{batch_sectors}
use Rattle.lsm_log.proofs.Replaying.{length-batch}
use Rattle.lsm_log.proofs.Laying.{run_of}
use Rattle.lsm_log.proofs.log.Log.write_runs.Goals as goal

pub loop-turn-init : goal.loop-turn-init
loop-turn-init g c =
    let D = g.D.Device in
    let log = c.args.self.now in
    let old = (D.medium c.args.device.now).history in
    let ws = run_at (log.start + log.used) (batch_sectors log.epoch log.next c.args.batch.now) in
    let none : 0 ≡ min c.args.parts (16 * 0) = omega arith in
    record {
      same_size = refl;
      same_lasting = refl;
      counted = ap (λ (k : ℕ). after_writes k (D.medium c.args.device.now).calls) none;
      reached = λ t. subst (λ (k : ℕ). Reached old old ws k) none (reached_none old ws);
    }

pub returns-in_err-write_run-clause-moments : goal.returns-in_err-write_run-clause-moments
returns-in_err-write_run-clause-moments g c = λ t.
    let D = g.D.Device in
    let inv = c.loop-turn.invariant in
    let log = c.args.self.now in
    let sectors = batch_sectors log.epoch log.next c.args.batch.now in
    let n = c.min-count.result in
    let from = 16 * c.loop-turn.turn in
    let run = c.lay_parts.new.run in
    let below : from < c.args.parts = omega (arith, c.div_ceil-turn-end.ensures, c.loop-turn-test.true) in
    let here : min c.args.parts from ≡ from = omega (arith, below) in
    let fits : 512 * n ≤ length run = omega (arith, c.lay_parts.array_long, c.min-count.ensures) in
    let laid = run_of n (512 * n) run (take (512 * n) run) _ refl fits refl c.lay_parts.ensures in
    part_fault (D.medium c.args.device.now).history (D.medium c.loop-turn.device).history _ (log.start + log.used) (log.start + log.used + from) sectors _ from n refl
    (omega (arith, c.min-count.ensures, below, c.requires.count, length-batch log.epoch log.next c.args.batch.now)) laid.pieces
    (subst (λ (k : ℕ). Reached (D.medium c.args.device.now).history (D.medium c.loop-turn.device).history (run_at (log.start + log.used) sectors) k) here (inv.reached t))
    (c.write_run.ensures.moments (rw inv.same_lasting t))

pub returns-in_err-write_run-clause-faulted : goal.returns-in_err-write_run-clause-faulted
returns-in_err-write_run-clause-faulted g c =
    let D = g.D.Device in
    let inv = c.loop-turn.invariant in
    let n = c.min-count.result in
    let from = 16 * c.loop-turn.turn in
    let run = c.lay_parts.new.run in
    let below : from < c.args.parts = omega (arith, c.div_ceil-turn-end.ensures, c.loop-turn-test.true) in
    let fits : 512 * n ≤ length run = omega (arith, c.lay_parts.array_long, c.min-count.ensures) in
    let laid = run_of n (512 * n) run (take (512 * n) run) _ refl fits refl c.lay_parts.ensures in
    on_err _ (faulted_behind (min c.args.parts from) n c.args.parts _ _ _ (omega (arith, below, c.min-count.ensures)) inv.counted
    (faulted_of n (take (512 * n) run) (sym laid.some) _ _ c.in_err-write_run.ensures.faulted))

pub loop-turn-preserved : goal.loop-turn-preserved
loop-turn-preserved g c =
    let D = g.D.Device in
    let inv = c.loop-turn.invariant in
    let log = c.args.self.now in
    let sectors = batch_sectors log.epoch log.next c.args.batch.now in
    let n = c.min-count.result in
    let from = 16 * c.loop-turn.turn in
    let run = c.lay_parts.new.run in
    let below : from < c.args.parts = omega (arith, c.div_ceil-turn-end.ensures, c.loop-turn-test.true) in
    let here : min c.args.parts from ≡ from = omega (arith, below) in
    let fits : 512 * n ≤ length run = omega (arith, c.lay_parts.array_long, c.min-count.ensures) in
    let laid = run_of n (512 * n) run (take (512 * n) run) _ refl fits refl c.lay_parts.ensures in
    let made = counted_of n (take (512 * n) run) (sym laid.some) _ _ c.in_ok-write_run.ensures.counted in
    let after : from + n ≡ min c.args.parts (16 * (c.loop-turn.turn + 1)) = omega (arith, below, c.min-count.ensures) in
    record {
      same_size = c.write_run.ensures.same_size ∙ inv.same_size;
      same_lasting = c.write_run.ensures.same_lasting ∙ inv.same_lasting;
      counted = writes_joined (min c.args.parts from) n (min c.args.parts (16 * (c.loop-turn.turn + 1))) _ _ _ (omega (arith, here, after)) inv.counted made;
      reached = λ t. subst (λ (k : ℕ). Reached (D.medium c.args.device.now).history (D.medium c.write_run.new.self).history (run_at (log.start + log.used) sectors) k) after
          (part_more (D.medium c.args.device.now).history (D.medium c.loop-turn.device).history _ (log.start + log.used) (log.start + log.used + from) sectors _ from n refl
          (omega (arith, c.min-count.ensures, below, c.requires.count, length-batch log.epoch log.next c.args.batch.now)) laid.pieces
          (subst (λ (k : ℕ). Reached (D.medium c.args.device.now).history (D.medium c.loop-turn.device).history (run_at (log.start + log.used) sectors) k) here (inv.reached t))
          (c.write_run.ensures.moments (rw inv.same_lasting t)) (c.in_ok-write_run.ensures.pends (rw inv.same_lasting t)));
    }

pub returns-clause-whole : goal.returns-clause-whole
returns-clause-whole g c = λ t.
    let inv = c.loop-turn.invariant in
    let log = c.args.self.now in
    run_whole _ _ (log.start + log.used) (batch_sectors log.epoch log.next c.args.batch.now) (min c.args.parts (16 * c.loop-turn.turn))
    (omega (arith, c.div_ceil-turn-end.ensures, c.loop-turn-test.false, c.requires.count, length-batch log.epoch log.next c.args.batch.now)) (inv.reached t)

pub returns-clause-counted : goal.returns-clause-counted
returns-clause-counted g c =
    all_writes (min c.args.parts (16 * c.loop-turn.turn)) c.args.parts _ _ (omega (arith, c.div_ceil-turn-end.ensures, c.loop-turn-test.false)) (omega arith) c.loop-turn.invariant.counted
