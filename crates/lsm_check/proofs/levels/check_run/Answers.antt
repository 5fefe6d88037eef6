use Rattle.std.proofs.Common.{◌+◌, ◌*◌, ◌++◌, ℕ, List, true, length, take, drop, sym, subst, arith, take_all}
use Rattle.std.proofs.lemmas.Result.{err_from_is_err_and}
use Rattle.lsm_codec.proofs.Lists.{all_at}
use Rattle.lsm_device.specs.Disk.{seen}
use Rattle.lsm_device.specs.Medium.{disk}
use Rattle.lsm_levels.specs.Tables.{Table, versions_of}
use Rattle.lsm_open.proofs.OpeningAnswers.{reads_joined}
use Rattle.lsm_check.specs.Images.{finds_no_fault}
use Rattle.lsm_check.specs.Sound.{IsTold, IsSound, AreSound, AreSeen}
use Rattle.lsm_check.proofs.DeviceReads.{still_tells, still_seen}
use Rattle.lsm_check.proofs.FoundTables.{of_table}
use Rattle.lsm_check.proofs.SoundRuns.{seen_later, sound_at, older_at, told_if_sound, parted}
use Rattle.lsm_check.proofs.ReadCounts.{between_joined, blocks_up_to}
use Rattle.lsm_check.specs.Counted.{data_blocks_in, ReadsBetween}
use Rattle.lsm_check.proofs.levels.check_run.Goals as goal

pub returns-in_err-check_table-clause-fair : goal.returns-in_err-check_table-clause-fair
returns-in_err-check_table-clause-fair g c done rest tells first sound =
    let D = g.D.Device in
    let old = D.medium c.args.device.now in
    let mid = D.medium c.loop-table.device in
    let S = seen (disk old) in
    let i = c.loop-table.table-index in
    let run = c.args.run.now in
    let t = c.table-item.result in
    let inv = c.loop-table.invariant in
    let same = still_seen (512 * i) true old mid inv.device tells in
    let so_far = inv.sound done tells (told_if_sound S c.args.area c.args.base done run rest sound) first in
    let all = subst (λ (ts : List Table). AreSound S c.args.area c.args.base ts) (parted done run rest i t c.loop-table-test.true c.table-item.is) sound in
    let one = sound_at S c.args.area c.args.base (done ++ take i run) t (drop (i + 1) run ++ rest) all in
    let older = older_at S c.args.area c.args.base (done ++ take i run) t (drop (i + 1) run ++ rest) all in
    let short = c.in_err-check_table.ensures.fair (versions_of (done ++ take i run)) so_far.seen (still_tells (512 * i) true old mid inv.device tells) (subst (λ (s : List (List ℕ)). IsSound s c.args.area c.args.base t) (sym same) one) older in
    let p = err_from_is_err_and c.from_residual.result c.from_residual.ensures.1 in
    rw (p.1, p.2) short

pub returns-in_err-check_table-clause-device : goal.returns-in_err-check_table-clause-device
returns-in_err-check_table-clause-device g c =
    let D = g.D.Device in
    let i = c.loop-table.table-index in
    let p = err_from_is_err_and c.from_residual.result c.from_residual.ensures.1 in
    rw (p.1, p.2) (reads_joined (512 * i) 512 (512 * length c.args.run.now) (finds_no_fault c.in_err-check_table.field-0.0) (D.medium c.args.device.now) (D.medium c.loop-table.device) (D.medium c.check_table.new.device)
    (omega (arith, c.loop-table-test.true)) c.loop-table.invariant.device c.in_err-check_table.ensures.device)

pub loop-table-preserved : goal.loop-table-preserved
loop-table-preserved g c =
    let D = g.D.Device in
    let old = D.medium c.args.device.now in
    let mid = D.medium c.loop-table.device in
    let S = seen (disk old) in
    let i = c.loop-table.table-index in
    let run = c.args.run.now in
    let t = c.table-item.result in
    let inv = c.loop-table.invariant in
    record {
      device = reads_joined (512 * i) 512 (512 * (i + 1)) true old mid (D.medium c.check_table.new.device) (omega arith) inv.device c.in_ok-check_table.ensures.device;
      whole = between_joined (8 * data_blocks_in (take i run)) (512 * i) (8 * length t.outline.edges) 512 (8 * data_blocks_in (take (i + 1) run)) (512 * (i + 1)) old.calls mid.calls (D.medium c.check_table.new.device).calls
          (omega (arith, blocks_up_to run i t c.loop-table-test.true c.table-item.is)) (omega arith) inv.whole c.in_ok-check_table.ensures.whole;
      few = omega (arith, c.in_ok-check_table.ensures.few, inv.few);
      sound = λ done tells told first.
          let same = still_seen (512 * i) true old mid inv.device tells in
          let so_far = inv.sound done tells told first in
          let here : IsTold S c.args.area t = subst (IsTold S c.args.area) (sym c.table-item.is) (all_at (IsTold S c.args.area) run i t told c.loop-table-test.true) in
          seen_later S c.args.area c.args.base (seen (disk mid)) done run i t c.loop-table.so_far c.check_table.new.so_far same c.loop-table-test.true c.table-item.is so_far
          (c.in_ok-check_table.ensures.sound (versions_of (done ++ take i run)) so_far.seen (still_tells (512 * i) true old mid inv.device tells) (subst (λ (s : List (List ℕ)). IsTold s c.args.area t) (sym same) here));
    }

pub returns-clause-sound : goal.returns-clause-sound
returns-clause-sound g c done tells told first =
    let D = g.D.Device in
    let S = seen (disk (D.medium c.args.device.now)) in
    subst (λ (l : List Table). AreSeen S c.args.area c.args.base (done ++ l) c.loop-table.so_far) (take_all c.loop-table.table-index c.args.run.now (omega (arith, c.loop-table-test.false))) (c.loop-table.invariant.sound done tells told first)

pub returns-clause-whole : goal.returns-clause-whole
returns-clause-whole g c =
    let D = g.D.Device in
    let i = c.loop-table.table-index in
    let run = c.args.run.now in
    let all = take_all i run (omega (arith, c.loop-table-test.false)) in
    let count = subst (λ (l : List Table). ReadsBetween (8 * data_blocks_in l) (512 * i) (D.medium c.args.device.now).calls (D.medium c.loop-table.device).calls) all c.loop-table.invariant.whole in
    record { count = count.count; low = count.low; high = omega (arith, count.high, c.loop-table.auto.table-index-end); made = count.made }

pub returns-in_err-check_table-clause-refused : goal.returns-in_err-check_table-clause-refused
returns-in_err-check_table-clause-refused g c =
    let p = err_from_is_err_and c.from_residual.result c.from_residual.ensures.1 in
    rw (p.1, p.2) (of_table c.args.run.now c.loop-table.table-index c.table-item.result c.loop-table-test.true c.table-item.is c.in_err-check_table.field-0.0 c.in_err-check_table.ensures.refused)
