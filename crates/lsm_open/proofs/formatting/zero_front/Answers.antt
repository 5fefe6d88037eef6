use Rattle.std.proofs.Common.{◌≡◌, ◌<◌, ◌+◌, ◌*◌, ◌∙◌, ℕ, min, ap, arith, refl, subst, take, replicate}
use Rattle.std.proofs.lemmas.List.{length-replicate}
use Rattle.lsm_codec.specs.Formats.{blank}
use Rattle.lsm_device.specs.Calls.{one_more}
use Rattle.lsm_device.specs.Disk.{synced}
use Rattle.lsm_device.specs.History.{present}
use Rattle.lsm_device.specs.Runs.{run_at}
use Rattle.lsm_device.proofs.Counting.{none_made, sync_made, AtMost-joined}
use Rattle.lsm_device.proofs.Moments.{now_is}
use Rattle.lsm_device.proofs.Runs.{reached_none, part_more, run_whole, Reached}
use Rattle.lsm_device.proofs.WrittenRuns.{written_of, fault_of}
use Rattle.lsm_root.proofs.Counting.{CallsMade-none, CallsMade-sync, CallsMade-joined}
use Rattle.lsm_root.specs.Counted.{CallsMade}
use Rattle.lsm_open.proofs.Zeros.{zeros_of, after_err}
use Rattle.lsm_open.proofs.formatting.zero_front.Goals as goal

pub loop-turn-init : goal.loop-turn-init
loop-turn-init g c =
    let D = g.D.Device in
    let old = D.medium c.args.device.now in
    let none : 0 ≡ min c.args.count (128 * 0) = omega arith in
    record {
      same_size = refl;
      same_lasting = refl;
      no_fault = refl;
      counts = none_made 0 _ 0 old.calls;
      made = subst (λ (k : ℕ). CallsMade k 0 old.calls old.calls) none (CallsMade-none old.calls);
      reached = λ t. subst (λ (k : ℕ). Reached old.history old.history (run_at 0 (replicate c.args.count blank)) k) none (reached_none old.history (run_at 0 (replicate c.args.count blank)));
    }

pub returns-in_err-write_run-clause-counts : goal.returns-in_err-write_run-clause-counts
returns-in_err-write_run-clause-counts g c =
    let D = g.D.Device in
    let inv = c.loop-turn.invariant in
    let n = c.min.result in
    let at = 128 * c.loop-turn.turn in
    let below : at < c.args.count = omega (arith, c.div_ceil-turn-end.ensures, c.loop-turn-test.true) in
    let here : min c.args.count at ≡ at = omega (arith, below) in
    let bytes = take (512 * n) (replicate {A = ℕ} 65536 0) in
    let zeros = zeros_of c.args.count at n (replicate 65536 0) bytes refl (omega (arith, c.min.ensures)) (omega (arith, c.min.ensures, below)) refl in
    AtMost-joined 0 (min c.args.count at) 0 0 n 0 0 c.args.count 1 _ _ _ (omega arith) (omega (arith, here, below, c.min.ensures)) (omega arith) inv.counts
    (fault_of n bytes zeros.some _ _ c.in_err-write_run.ensures.faulted).at_most

pub returns-in_err-write_run-clause-faults : goal.returns-in_err-write_run-clause-faults
returns-in_err-write_run-clause-faults g c =
    let D = g.D.Device in
    let inv = c.loop-turn.invariant in
    let n = c.min.result in
    let at = 128 * c.loop-turn.turn in
    let below : at < c.args.count = omega (arith, c.div_ceil-turn-end.ensures, c.loop-turn-test.true) in
    let here : min c.args.count at ≡ at = omega (arith, below) in
    let bytes = take (512 * n) (replicate {A = ℕ} 65536 0) in
    let zeros = zeros_of c.args.count at n (replicate 65536 0) bytes refl (omega (arith, c.min.ensures)) (omega (arith, c.min.ensures, below)) refl in
    let one : (D.medium c.write_run.new.self).calls.faults ≡ one_more (D.medium c.args.device.now).calls.faults = (fault_of n bytes zeros.some _ _ c.in_err-write_run.ensures.faulted).one_fault ∙ ap one_more inv.no_fault in
    after_err c.from_residual.result _ _ c.from_residual.ensures.0 one

pub loop-turn-preserved : goal.loop-turn-preserved
loop-turn-preserved g c =
    let D = g.D.Device in
    let inv = c.loop-turn.invariant in
    let n = c.min.result in
    let at = 128 * c.loop-turn.turn in
    let below : at < c.args.count = omega (arith, c.div_ceil-turn-end.ensures, c.loop-turn-test.true) in
    let here : min c.args.count at ≡ at = omega (arith, below) in
    let bytes = take (512 * n) (replicate {A = ℕ} 65536 0) in
    let zeros = zeros_of c.args.count at n (replicate 65536 0) bytes refl (omega (arith, c.min.ensures)) (omega (arith, c.min.ensures, below)) refl in
    let made = written_of n bytes zeros.some _ _ c.in_ok-write_run.ensures.counted in
    let after : at + n ≡ min c.args.count (128 * (c.loop-turn.turn + 1)) = omega (arith, below, c.min.ensures) in
    record {
      same_size = c.write_run.ensures.same_size ∙ inv.same_size;
      same_lasting = c.write_run.ensures.same_lasting ∙ inv.same_lasting;
      no_fault = made.no_fault ∙ inv.no_fault;
      counts = AtMost-joined 0 (min c.args.count at) 0 0 n 0 0 _ 0 _ _ _ (omega arith) (omega (arith, here, after)) (omega arith) inv.counts made.at_most;
      made = CallsMade-joined (min c.args.count at) 0 n 0 _ 0 _ _ _ (omega (arith, here, after)) (omega arith) inv.made (record { no_read = made.no_read; written = made.written; synced = made.no_sync });
      reached = λ t. subst (λ (k : ℕ). Reached (D.medium c.args.device.now).history (D.medium c.write_run.new.self).history (run_at 0 (replicate c.args.count blank)) k) after
          (part_more (D.medium c.args.device.now).history (D.medium c.loop-turn.device).history _ 0 at (replicate c.args.count blank) _ at n (omega arith)
          (omega (arith, c.min.ensures, below, length-replicate c.args.count blank)) zeros.is
          (subst (λ (k : ℕ). Reached (D.medium c.args.device.now).history (D.medium c.loop-turn.device).history (run_at 0 (replicate c.args.count blank)) k) here (inv.reached t))
          (c.write_run.ensures.moments (rw inv.same_lasting t)) (c.in_ok-write_run.ensures.pends (rw inv.same_lasting t)));
    }

pub returns-in_err-sync-clause-counts : goal.returns-in_err-sync-clause-counts
returns-in_err-sync-clause-counts g c =
    let inv = c.loop-turn.invariant in
    let k = min c.args.count (128 * c.loop-turn.turn) in
    AtMost-joined 0 k 0 0 0 1 0 c.args.count 1 _ _ _ (omega arith) (omega arith) (omega arith) inv.counts (sync_made _ _ _ c.sync.ensures.counted)

pub returns-clause-counts : goal.returns-clause-counts
returns-clause-counts g c =
    let inv = c.loop-turn.invariant in
    let k = min c.args.count (128 * c.loop-turn.turn) in
    AtMost-joined 0 k 0 0 0 1 0 c.args.count 1 _ _ _ (omega arith) (omega arith) (omega arith) inv.counts (sync_made _ _ _ c.sync.ensures.counted)

pub returns-clause-made : goal.returns-clause-made
returns-clause-made g c =
    let inv = c.loop-turn.invariant in
    let k = min c.args.count (128 * c.loop-turn.turn) in
    CallsMade-joined k 0 0 1 c.args.count 1 _ _ _ (omega (arith, c.div_ceil-turn-end.ensures, c.loop-turn-test.false)) (omega arith) inv.made (CallsMade-sync _ _ c.in_ok-sync.ensures.counted)

pub returns-clause-zeroed : goal.returns-clause-zeroed
returns-clause-zeroed g c = λ t.
    let inv = c.loop-turn.invariant in
    let k = min c.args.count (128 * c.loop-turn.turn) in
    let mid = (g.D.Device.medium c.loop-turn.device).history in
    now_is (synced (present mid)) mid _ (c.in_ok-sync.ensures.stands (rw inv.same_lasting t))
    ∙ ap synced (run_whole (g.D.Device.medium c.args.device.now).history mid 0 (replicate c.args.count blank) k (omega (arith, c.div_ceil-turn-end.ensures, c.loop-turn-test.false, length-replicate c.args.count blank)) (inv.reached t))
