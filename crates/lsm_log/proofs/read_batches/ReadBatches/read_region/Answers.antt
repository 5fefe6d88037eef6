use Rattle.std.proofs.Common.{rules, ◌≡◌, ◌≤◌, ◌+◌, ◌*◌, ◌/◌, ◌++◌, false, List, ℕ, Bool, length, length-take-le, take, drop, refl, ap, ◌∙◌, arith, subst}
use Rattle.std.proofs.lemmas.List.{length-append, length-drop, take-append-le}
use Rattle.std.specs.Prelude.{slice_get, Some}
use Rattle.lsm_device.specs.declared.calls.Calls.{Calls}
use Rattle.lsm_device.specs.Areas.{area}
use Rattle.lsm_device.specs.Calls.{after_reads}
use Rattle.lsm_device.specs.Disk.{Disk, seen}
use Rattle.lsm_device.specs.History.{present}
use Rattle.lsm_device.specs.Medium.{disk}
use Rattle.lsm_device.specs.Memory.{length-written}
use Rattle.lsm_device.specs.Runs.{pieces}
use Rattle.lsm_device.proofs.Counting.{read_made, AtMost-joined}
use Rattle.lsm_device.proofs.RunCounts.{reads_are, faults_made}
use Rattle.lsm_log.specs.ReadSoFar.{HaveTaken}
use Rattle.lsm_log.proofs.RegionRuns.{read_more, read_ends, one_read, one_long}
use Rattle.lsm_log.proofs.read_batches.ReadBatches.read_region.Goals as goal

pub returns-in_err-read-clause-calls : goal.returns-in_err-read-clause-calls
returns-in_err-read-clause-calls g c =
    let D = g.D.Device in
    let inv = c.loop-done.invariant in
    AtMost-joined c.loop-done.done 0 0 1 0 0 c.args.sectors 0 0 _ _ _ (omega (arith, c.loop-done-test.true)) (omega arith) (omega arith) inv.calls (read_made false _ _ c.in_err-read.ensures.faulted)

pub returns-in_err-read-clause-reads : goal.returns-in_err-read-clause-reads
returns-in_err-read-clause-reads g c = λ t.
    let D = g.D.Device in
    let inv = c.loop-done.invariant in
    AtMost-joined c.loop-done.done 0 0 1 0 0 _ 0 0 _ _ _ (omega (arith, (inv.so_far t).awaited)) (omega arith) (omega arith) inv.calls (read_made false _ _ c.in_err-read.ensures.faulted)

pub returns-in_err-take_run-clause-faults : goal.returns-in_err-take_run-clause-faults
returns-in_err-take_run-clause-faults g c =
    let D = g.D.Device in
    let inv = c.loop-done.invariant in
    let size : length (take (512 * c.min.result) c.loop-done.run) ≡ 512 * c.min.result = length-take-le (512 * c.min.result) c.loop-done.run (omega (arith, inv.whole, c.min.ensures)) in
    let n = c.in_ok-read.read in
    let made : (D.medium c.read_some.new.self).calls ≡ after_reads n (D.medium c.loop-done.device).calls = c.in_ok-read.ensures.counted in
    let most : c.loop-done.done + n ≤ c.args.sectors = omega (arith, c.in_ok-read.ensures.some.1, size, c.min.ensures, c.loop-done-test.true) in
    let none : (D.medium c.read_some.new.self).calls.faults ≡ (D.medium c.args.device.now).calls.faults = ap (λ (k : Calls). k.faults) made ∙ faults_made n (D.medium c.loop-done.device).calls ∙ inv.no_fault in
    search rules

pub returns-in_err-take_run-clause-calls : goal.returns-in_err-take_run-clause-calls
returns-in_err-take_run-clause-calls g c =
    let D = g.D.Device in
    let inv = c.loop-done.invariant in
    let size : length (take (512 * c.min.result) c.loop-done.run) ≡ 512 * c.min.result = length-take-le (512 * c.min.result) c.loop-done.run (omega (arith, inv.whole, c.min.ensures)) in
    let n = c.in_ok-read.read in
    let made : (D.medium c.read_some.new.self).calls ≡ after_reads n (D.medium c.loop-done.device).calls = c.in_ok-read.ensures.counted in
    let most : c.loop-done.done + n ≤ c.args.sectors = omega (arith, c.in_ok-read.ensures.some.1, size, c.min.ensures, c.loop-done-test.true) in
    AtMost-joined c.loop-done.done 0 0 n 0 0 c.args.sectors 0 0 _ _ _ most (omega arith) (omega arith) inv.calls (reads_are n _ _ made)

pub returns-in_err-take_run-clause-reads : goal.returns-in_err-take_run-clause-reads
returns-in_err-take_run-clause-reads g c = λ t.
    let D = g.D.Device in
    let inv = c.loop-done.invariant in
    let size : length (take (512 * c.min.result) c.loop-done.run) ≡ 512 * c.min.result = length-take-le (512 * c.min.result) c.loop-done.run (omega (arith, inv.whole, c.min.ensures)) in
    let n = c.in_ok-read.read in
    let made : (D.medium c.read_some.new.self).calls ≡ after_reads n (D.medium c.loop-done.device).calls = c.in_ok-read.ensures.counted in
    let most : c.loop-done.done + n ≤ c.args.sectors = omega (arith, c.in_ok-read.ensures.some.1, size, c.min.ensures, c.loop-done-test.true) in
    let one : n ≡ 1 = c.in_ok-read.ensures.one (rw inv.same_lasting t) in
    AtMost-joined c.loop-done.done 0 0 n 0 0 _ 0 0 _ _ _ (omega (arith, (inv.so_far t).awaited, one)) (omega arith) (omega arith) inv.calls (reads_are n _ _ made)

pub returns-then-not-branch-clause-faults : goal.returns-then-not-branch-clause-faults
returns-then-not-branch-clause-faults g c =
    let D = g.D.Device in
    let inv = c.loop-done.invariant in
    let size : length (take (512 * c.min.result) c.loop-done.run) ≡ 512 * c.min.result = length-take-le (512 * c.min.result) c.loop-done.run (omega (arith, inv.whole, c.min.ensures)) in
    let n = c.in_ok-read.read in
    let made : (D.medium c.read_some.new.self).calls ≡ after_reads n (D.medium c.loop-done.device).calls = c.in_ok-read.ensures.counted in
    let most : c.loop-done.done + n ≤ c.args.sectors = omega (arith, c.in_ok-read.ensures.some.1, size, c.min.ensures, c.loop-done-test.true) in
    let none : (D.medium c.read_some.new.self).calls.faults ≡ (D.medium c.args.device.now).calls.faults = ap (λ (k : Calls). k.faults) made ∙ faults_made n (D.medium c.loop-done.device).calls ∙ inv.no_fault in
    search rules

pub returns-then-not-branch-clause-calls : goal.returns-then-not-branch-clause-calls
returns-then-not-branch-clause-calls g c =
    let D = g.D.Device in
    let inv = c.loop-done.invariant in
    let size : length (take (512 * c.min.result) c.loop-done.run) ≡ 512 * c.min.result = length-take-le (512 * c.min.result) c.loop-done.run (omega (arith, inv.whole, c.min.ensures)) in
    let n = c.in_ok-read.read in
    let made : (D.medium c.read_some.new.self).calls ≡ after_reads n (D.medium c.loop-done.device).calls = c.in_ok-read.ensures.counted in
    let most : c.loop-done.done + n ≤ c.args.sectors = omega (arith, c.in_ok-read.ensures.some.1, size, c.min.ensures, c.loop-done-test.true) in
    AtMost-joined c.loop-done.done 0 0 n 0 0 c.args.sectors 0 0 _ _ _ most (omega arith) (omega arith) inv.calls (reads_are n _ _ made)

pub returns-then-not-branch-clause-reads : goal.returns-then-not-branch-clause-reads
returns-then-not-branch-clause-reads g c = λ t.
    let D = g.D.Device in
    let inv = c.loop-done.invariant in
    let size : length (take (512 * c.min.result) c.loop-done.run) ≡ 512 * c.min.result = length-take-le (512 * c.min.result) c.loop-done.run (omega (arith, inv.whole, c.min.ensures)) in
    let n = c.in_ok-read.read in
    let made : (D.medium c.read_some.new.self).calls ≡ after_reads n (D.medium c.loop-done.device).calls = c.in_ok-read.ensures.counted in
    let most : c.loop-done.done + n ≤ c.args.sectors = omega (arith, c.in_ok-read.ensures.some.1, size, c.min.ensures, c.loop-done-test.true) in
    let one : n ≡ 1 = c.in_ok-read.ensures.one (rw inv.same_lasting t) in
    AtMost-joined c.loop-done.done 0 0 n 0 0 _ 0 0 _ _ _ (omega (arith, (inv.so_far t).awaited, one)) (omega arith) (omega arith) inv.calls (reads_are n _ _ made)

pub returns-then-not-branch-clause-read : goal.returns-then-not-branch-clause-read
returns-then-not-branch-clause-read g c = λ t.
    let D = g.D.Device in
    let inv = c.loop-done.invariant in
    let size : length (take (512 * c.min.result) c.loop-done.run) ≡ 512 * c.min.result = length-take-le (512 * c.min.result) c.loop-done.run (omega (arith, inv.whole, c.min.ensures)) in
    let n = c.in_ok-read.read in
    let made : (D.medium c.read_some.new.self).calls ≡ after_reads n (D.medium c.loop-done.device).calls = c.in_ok-read.ensures.counted in
    let most : c.loop-done.done + n ≤ c.args.sectors = omega (arith, c.in_ok-read.ensures.some.1, size, c.min.ensures, c.loop-done-test.true) in
    let out = c.read_some.new.out in
    let whole_run = out ++ drop (512 * c.min.result) c.loop-done.run in
    let long : length out ≡ 512 * c.min.result = c.read_some.auto.out ∙ size in
    let shown = take (512 * n) whole_run in
    let one : n ≡ 1 = c.in_ok-read.ensures.one (rw inv.same_lasting t) in
    let d : Disk = disk (D.medium c.args.device.now) in
    let on = (g.met.D.Device.sound c.args.device.now t).now in
    let room : 512 ≤ length out = omega (arith, long, c.min.ensures, c.loop-done-test.true) in
    let front : shown ≡ take 512 out = ap (λ (k : ℕ). take (512 * k) whole_run) one ∙ take-append-le 512 out (drop (512 * c.min.result) c.loop-done.run) room in
    let within : c.args.start + c.args.sectors ≤ length (seen d) = omega (arith, length-written _ d.stands d.pending on.size, c.requires) in
    let read : slice_get (seen d) (c.args.start + c.loop-done.done) ≡ Some (take 512 out) = subst (λ (h : List Disk). slice_get (seen (present h)) (c.args.start + c.loop-done.done) ≡ Some (take 512 out)) (inv.unchanged t) (c.in_ok-read.ensures.bytes (rw inv.same_lasting t)) in
    let part = pieces (length shown / 512) shown in
    let is = one_read c.args.start c.args.sectors c.loop-done.done (seen d) out shown c.loop-done-test.true within room front read in
    read_ends (area c.args.start c.args.sectors (seen d)) part c.loop-done.done c.loop-done.done 1 refl is c.args.self.now c.loop-done.self c.take_run.new.self (inv.so_far t)
    (subst (λ (b : Bool). HaveTaken b part c.loop-done.self c.take_run.new.self) c.if-not-branch.true c.in_ok-take_run.ensures.taken)

pub loop-done-preserved : goal.loop-done-preserved
loop-done-preserved g c =
    let D = g.D.Device in
    let inv = c.loop-done.invariant in
    let size : length (take (512 * c.min.result) c.loop-done.run) ≡ 512 * c.min.result = length-take-le (512 * c.min.result) c.loop-done.run (omega (arith, inv.whole, c.min.ensures)) in
    let n = c.in_ok-read.read in
    let made : (D.medium c.read_some.new.self).calls ≡ after_reads n (D.medium c.loop-done.device).calls = c.in_ok-read.ensures.counted in
    let most : c.loop-done.done + n ≤ c.args.sectors = omega (arith, c.in_ok-read.ensures.some.1, size, c.min.ensures, c.loop-done-test.true) in
    let none : (D.medium c.read_some.new.self).calls.faults ≡ (D.medium c.args.device.now).calls.faults = ap (λ (k : Calls). k.faults) made ∙ faults_made n (D.medium c.loop-done.device).calls ∙ inv.no_fault in
    let out = c.read_some.new.out in
    let whole_run = out ++ drop (512 * c.min.result) c.loop-done.run in
    let long : length out ≡ 512 * c.min.result = c.read_some.auto.out ∙ size in
    let shown = take (512 * n) whole_run in
    record {
      same_size = c.read_some.ensures.same_size ∙ inv.same_size;
      same_lasting = c.read_some.ensures.same_lasting ∙ inv.same_lasting;
      no_fault = none;
      within = most;
      calls = AtMost-joined c.loop-done.done 0 0 n 0 0 _ 0 0 _ _ _ (omega arith) (omega arith) (omega arith) inv.calls (reads_are n _ _ made);
      same_first = c.take_run.ensures.same_first ∙ inv.same_first;
      whole = omega (arith, length-append out (drop (512 * c.min.result) c.loop-done.run), long, length-drop (512 * c.min.result) c.loop-done.run, inv.whole, c.min.ensures);
      unchanged = λ t. c.read_some.ensures.unchanged (rw inv.same_lasting t) ∙ inv.unchanged t;
      so_far = λ t.
          let one : n ≡ 1 = c.in_ok-read.ensures.one (rw inv.same_lasting t) in
          let d : Disk = disk (D.medium c.args.device.now) in
          let on = (g.met.D.Device.sound c.args.device.now t).now in
          let room : 512 ≤ length out = omega (arith, long, c.min.ensures, c.loop-done-test.true) in
          let front : shown ≡ take 512 out = ap (λ (k : ℕ). take (512 * k) whole_run) one ∙ take-append-le 512 out (drop (512 * c.min.result) c.loop-done.run) room in
          let within : c.args.start + c.args.sectors ≤ length (seen d) = omega (arith, length-written _ d.stands d.pending on.size, c.requires) in
          let read : slice_get (seen d) (c.args.start + c.loop-done.done) ≡ Some (take 512 out) = subst (λ (h : List Disk). slice_get (seen (present h)) (c.args.start + c.loop-done.done) ≡ Some (take 512 out)) (inv.unchanged t) (c.in_ok-read.ensures.bytes (rw inv.same_lasting t)) in
          let part = pieces (length shown / 512) shown in
          let is = one_read c.args.start c.args.sectors c.loop-done.done (seen d) out shown c.loop-done-test.true within room front read in
          read_more (area c.args.start c.args.sectors (seen d)) part c.loop-done.done c.loop-done.done 1 refl is c.args.self.now c.loop-done.self c.take_run.new.self (inv.so_far t)
          _ (omega (arith, one)) (one_long out shown room front)
          (subst (λ (b : Bool). HaveTaken b part c.loop-done.self c.take_run.new.self) c.if-not-branch.false c.in_ok-take_run.ensures.taken);
    }
