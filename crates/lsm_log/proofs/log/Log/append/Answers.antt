use Rattle.std.proofs.Common.{◌≡◌, ◌+◌, ◌≤◌, ap, arith, refl, rules, subst, ℕ}
use Rattle.lsm_device.specs.Calls.{AtMost, one_more}
use Rattle.lsm_device.proofs.RunCounts.{writes_are, write_fault_is}
use Rattle.lsm_codec.specs.BatchText.{sectors_of}
use Rattle.lsm_log.proofs.Logs.{append_nothing, written_nothing, append_moments, append_written, append_open, append_reads}
use Rattle.lsm_log.proofs.log.Log.append.Goals as goal

pub returns-then-room-parts-clause-any_moment : goal.returns-then-room-parts-clause-any_moment
returns-then-room-parts-clause-any_moment g c = λ t o. append_nothing c.args.self.now (g.D.Device.medium c.args.device.now).history o c.args.batch.now _ refl

pub returns-then-room-parts-clause-written : goal.returns-then-room-parts-clause-written
returns-then-room-parts-clause-written g c = λ t o. written_nothing c.args.self.now (g.D.Device.medium c.args.device.now).history o c.args.batch.now _ refl

pub returns-in_err-write_parts-clause-any_moment : goal.returns-in_err-write_parts-clause-any_moment
returns-in_err-write_parts-clause-any_moment g c = λ t o.
    append_moments c.args.self.now (g.D.Device.medium c.args.device.now).history o c.args.batch.now c.sectors_of-parts.ensures.whole c.requires.number (omega arith) (g.D.Device.medium c.write_parts.new.device).history (c.write_parts.ensures.moments t)

pub returns-in_err-write_parts-clause-written : goal.returns-in_err-write_parts-clause-written
returns-in_err-write_parts-clause-written g c = λ t o.
    append_written c.args.self.now (g.D.Device.medium c.args.device.now).history o c.args.batch.now c.sectors_of-parts.ensures.whole c.requires.number (omega arith) (g.D.Device.medium c.write_parts.new.device).history (c.write_parts.ensures.moments t)

pub returns-clause-any_moment : goal.returns-clause-any_moment
returns-clause-any_moment g c = λ t o.
    append_moments c.args.self.now (g.D.Device.medium c.args.device.now).history o c.args.batch.now c.sectors_of-parts.ensures.whole c.requires.number (omega arith) (g.D.Device.medium c.write_parts.new.device).history (c.write_parts.ensures.moments t)

pub returns-clause-written : goal.returns-clause-written
returns-clause-written g c = λ t o.
    append_written c.args.self.now (g.D.Device.medium c.args.device.now).history o c.args.batch.now c.sectors_of-parts.ensures.whole c.requires.number (omega arith) (g.D.Device.medium c.write_parts.new.device).history (c.write_parts.ensures.moments t)

pub returns-clause-open : goal.returns-clause-open
returns-clause-open g c = λ t o.
    let log = c.args.self.now in
    let room : log.used + sectors_of c.args.batch.now ≤ log.sectors = omega arith in
    let used : log.used + c.sectors_of-parts.result ≡ log.used + sectors_of c.args.batch.now = ap (λ (n : ℕ). log.used + n) c.sectors_of-parts.ensures.value in
    append_open log (g.D.Device.medium c.args.device.now).history o c.args.batch.now c.sectors_of-parts.ensures.whole c.requires.number room (g.D.Device.medium c.write_parts.new.device).history (c.in_ok-write_parts.ensures.whole t) _ (record { start = refl; sectors = refl; epoch = refl; first = refl; next = refl; used = used })

pub returns-clause-appended : goal.returns-clause-appended
returns-clause-appended g c = λ t o.
    let log = c.args.self.now in
    let room : log.used + sectors_of c.args.batch.now ≤ log.sectors = omega arith in
    append_reads log (g.D.Device.medium c.args.device.now).history o c.args.batch.now c.sectors_of-parts.ensures.whole c.requires.number room (g.D.Device.medium c.write_parts.new.device).history (c.in_ok-write_parts.ensures.whole t)

pub returns-then-room-parts-clause-full : goal.returns-then-room-parts-clause-full
returns-then-room-parts-clause-full g c = (λ e. omega arith, λ lt. refl)

pub returns-then-room-parts-clause-refused : goal.returns-then-room-parts-clause-refused
returns-then-room-parts-clause-refused g c = search rules

pub returns-then-room-parts-clause-faults : goal.returns-then-room-parts-clause-faults
returns-then-room-parts-clause-faults g c = search rules

pub returns-clause-takes : goal.returns-clause-takes
returns-clause-takes g c = record { start = refl; sectors = refl; epoch = refl; first = refl; next = refl; used = ap (λ (n : ℕ). c.args.self.now.used + n) c.sectors_of-parts.ensures.value }

pub returns-in_err-write_parts-clause-calls : goal.returns-in_err-write_parts-clause-calls
returns-in_err-write_parts-clause-calls g c =
    subst (λ (n : ℕ). AtMost 0 n 0 (g.D.Device.medium c.args.device.now).calls (g.D.Device.medium c.write_parts.new.device).calls) c.sectors_of-parts.ensures.value
    (write_fault_is c.sectors_of-parts.result _ _ c.in_err-write_parts.ensures.faulted).at_most

pub returns-in_err-write_parts-clause-faults : goal.returns-in_err-write_parts-clause-faults
returns-in_err-write_parts-clause-faults g c =
    let one : (g.D.Device.medium c.write_parts.new.device).calls.faults ≡ one_more (g.D.Device.medium c.args.device.now).calls.faults = (write_fault_is c.sectors_of-parts.result _ _ c.in_err-write_parts.ensures.faulted).one_fault in
    search rules

pub returns-clause-calls : goal.returns-clause-calls
returns-clause-calls g c =
    subst (λ (n : ℕ). AtMost 0 n 0 (g.D.Device.medium c.args.device.now).calls (g.D.Device.medium c.write_parts.new.device).calls) c.sectors_of-parts.ensures.value
    (writes_are c.sectors_of-parts.result _ _ c.in_ok-write_parts.ensures.counted).at_most

pub returns-clause-faults : goal.returns-clause-faults
returns-clause-faults g c = (writes_are c.sectors_of-parts.result _ _ c.in_ok-write_parts.ensures.counted).no_fault
