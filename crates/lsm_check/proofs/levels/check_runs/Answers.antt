use Rattle.std.proofs.Common.{◌≡◌, ◌+◌, ◌*◌, ◌++◌, ℕ, List, [], true, length, take, drop, get_or, sym, subst, ◌∙◌, arith, take_all}
use Rattle.std.specs.List.{AllByRecursion}
use Rattle.std.proofs.lemmas.List.{get_or_default}
use Rattle.std.proofs.lemmas.Result.{err_from_is_err_and}
use Rattle.lsm_codec.proofs.Lists.{all_at}
use Rattle.lsm_device.specs.Disk.{seen}
use Rattle.lsm_device.specs.Medium.{disk}
use Rattle.lsm_levels.specs.Levels.{all_tables}
use Rattle.lsm_levels.specs.Stored.{LiesWithin}
use Rattle.lsm_levels.specs.Tables.{Table}
use Rattle.lsm_open.proofs.OpeningAnswers.{reads_joined}
use Rattle.lsm_check.specs.Images.{finds_no_fault}
use Rattle.lsm_check.specs.Sound.{IsTold, AreSound, AreSeen}
use Rattle.lsm_check.proofs.DeviceReads.{still_tells, still_seen}
use Rattle.lsm_check.proofs.FoundTables.{of_run}
use Rattle.lsm_check.proofs.SoundRuns.{told_if_sound, runs_parted, runs_up_to, count_up_to, count_all, all_in_runs}
use Rattle.lsm_check.proofs.ReadCounts.{between_joined, blocks_parted}
use Rattle.lsm_check.specs.Counted.{data_blocks_in, ReadsBetween}
use Rattle.lsm_check.proofs.levels.check_runs.Goals as goal

pub check_run-requires-clause-within : goal.check_run-requires-clause-within
check_run-requires-clause-within g c =
    let D = g.D.Device in
    let size = (D.medium c.args.device.now).size in
    let runs = c.args.runs.now in
    let i = c.loop-run.run-index in
    let run : List Table = c.tables.result.now in
    let is : run ≡ get_or runs i run = c.tables.ensures.same ∙ c.run-item.is ∙ get_or_default runs i c.run-item.result run c.loop-run-test.true in
    subst (λ (n : ℕ). AllByRecursion (LiesWithin n c.args.area) run) (sym c.loop-run.invariant.device.same_size)
    (subst (λ (ts : List Table). AllByRecursion (LiesWithin size c.args.area) ts) (sym is) (all_at (λ ts. AllByRecursion (LiesWithin size c.args.area) ts) runs i run c.requires.within c.loop-run-test.true))

pub check_run-requires-clause-few : goal.check_run-requires-clause-few
check_run-requires-clause-few g c =
    let runs = c.args.runs.now in
    let i = c.loop-run.run-index in
    let run : List Table = c.tables.result.now in
    let is : run ≡ get_or runs i run = c.tables.ensures.same ∙ c.run-item.is ∙ get_or_default runs i c.run-item.result run c.loop-run-test.true in
    omega (arith, c.loop-run.invariant.few, count_all runs i run c.loop-run-test.true is, c.requires.few)

pub returns-in_err-check_run-clause-fair : goal.returns-in_err-check_run-clause-fair
returns-in_err-check_run-clause-fair g c done rest tells first sound =
    let D = g.D.Device in
    let old = D.medium c.args.device.now in
    let mid = D.medium c.loop-run.device in
    let S = seen (disk old) in
    let runs = c.args.runs.now in
    let i = c.loop-run.run-index in
    let run : List Table = c.tables.result.now in
    let is : run ≡ get_or runs i run = c.tables.ensures.same ∙ c.run-item.is ∙ get_or_default runs i c.run-item.result run c.loop-run-test.true in
    let inv = c.loop-run.invariant in
    let before = done ++ all_tables (take i runs) in
    let behind = all_tables (drop (i + 1) runs) ++ rest in
    let reads = 512 * length (all_tables (take i runs)) in
    let same = still_seen reads true old mid inv.device tells in
    let so_far = inv.sound done tells (told_if_sound S c.args.area c.args.base done (all_tables runs) rest sound) first in
    let all = subst (λ (ts : List Table). AreSound S c.args.area c.args.base ts) (runs_parted done runs rest i run c.loop-run-test.true is) sound in
    let short = c.in_err-check_run.ensures.fair before behind (still_tells reads true old mid inv.device tells) (subst (λ (s : List (List ℕ)). AreSeen s c.args.area c.args.base before c.loop-run.so_far) (sym same) so_far)
    (subst (λ (s : List (List ℕ)). AreSound s c.args.area c.args.base ((before ++ run) ++ behind)) (sym same) all) in
    let p = err_from_is_err_and c.from_residual.result c.from_residual.ensures.1 in
    rw (p.1, p.2) short

pub returns-in_err-check_run-clause-device : goal.returns-in_err-check_run-clause-device
returns-in_err-check_run-clause-device g c =
    let D = g.D.Device in
    let runs = c.args.runs.now in
    let i = c.loop-run.run-index in
    let run : List Table = c.tables.result.now in
    let is : run ≡ get_or runs i run = c.tables.ensures.same ∙ c.run-item.is ∙ get_or_default runs i c.run-item.result run c.loop-run-test.true in
    let p = err_from_is_err_and c.from_residual.result c.from_residual.ensures.1 in
    rw (p.1, p.2) (reads_joined (512 * length (all_tables (take i runs))) (512 * length run) (512 * length (all_tables runs)) (finds_no_fault c.in_err-check_run.field-0.0) (D.medium c.args.device.now) (D.medium c.loop-run.device) (D.medium c.check_run.new.device)
    (omega (arith, count_all runs i run c.loop-run-test.true is)) c.loop-run.invariant.device c.in_err-check_run.ensures.device)

pub loop-run-preserved : goal.loop-run-preserved
loop-run-preserved g c =
    let D = g.D.Device in
    let old = D.medium c.args.device.now in
    let mid = D.medium c.loop-run.device in
    let S = seen (disk old) in
    let runs = c.args.runs.now in
    let i = c.loop-run.run-index in
    let run : List Table = c.tables.result.now in
    let is : run ≡ get_or runs i run = c.tables.ensures.same ∙ c.run-item.is ∙ get_or_default runs i c.run-item.result run c.loop-run-test.true in
    let inv = c.loop-run.invariant in
    let count = count_up_to runs i run c.loop-run-test.true is in
    let reads = 512 * length (all_tables (take i runs)) in
    record {
      device = reads_joined reads (512 * length run) (512 * length (all_tables (take (i + 1) runs))) true old mid (D.medium c.check_run.new.device) (omega (arith, count)) inv.device c.in_ok-check_run.ensures.device;
      whole = between_joined (8 * data_blocks_in (all_tables (take i runs))) reads (8 * data_blocks_in run) (512 * length run) (8 * data_blocks_in (all_tables (take (i + 1) runs))) (512 * length (all_tables (take (i + 1) runs))) old.calls mid.calls (D.medium c.check_run.new.device).calls
          (omega (arith, blocks_parted (all_tables (take (i + 1) runs)) (all_tables (take i runs)) run (sym (runs_up_to [] runs i run c.loop-run-test.true is)))) (omega (arith, count)) inv.whole c.in_ok-check_run.ensures.whole;
      few = omega (arith, c.in_ok-check_run.ensures.few, inv.few, count);
      sound = λ done tells told first.
          let before = done ++ all_tables (take i runs) in
          let same = still_seen reads true old mid inv.device tells in
          let so_far = inv.sound done tells told first in
          let here : AllByRecursion (IsTold S c.args.area) run = all_in_runs (IsTold S c.args.area) runs i run c.loop-run-test.true is told in
          let more = c.in_ok-check_run.ensures.sound before (still_tells reads true old mid inv.device tells) (subst (λ (s : List (List ℕ)). AllByRecursion (IsTold s c.args.area) run) (sym same) here) (subst (λ (s : List (List ℕ)). AreSeen s c.args.area c.args.base before c.loop-run.so_far) (sym same) so_far) in
          subst (λ (ts : List Table). AreSeen S c.args.area c.args.base ts c.check_run.new.so_far) (runs_up_to done runs i run c.loop-run-test.true is)
          (subst (λ (s : List (List ℕ)). AreSeen s c.args.area c.args.base (before ++ run) c.check_run.new.so_far) same more);
    }

pub returns-clause-sound : goal.returns-clause-sound
returns-clause-sound g c done tells told first =
    let D = g.D.Device in
    let S = seen (disk (D.medium c.args.device.now)) in
    subst (λ (rs : List (List Table)). AreSeen S c.args.area c.args.base (done ++ all_tables rs) c.loop-run.so_far) (take_all c.loop-run.run-index c.args.runs.now (omega (arith, c.loop-run-test.false))) (c.loop-run.invariant.sound done tells told first)

pub returns-clause-whole : goal.returns-clause-whole
returns-clause-whole g c =
    let D = g.D.Device in
    subst (λ (rs : List (List Table)). ReadsBetween (8 * data_blocks_in (all_tables rs)) (512 * length (all_tables rs)) (D.medium c.args.device.now).calls (D.medium c.loop-run.device).calls)
    (take_all c.loop-run.run-index c.args.runs.now (omega (arith, c.loop-run-test.false))) c.loop-run.invariant.whole

pub returns-in_err-check_run-clause-refused : goal.returns-in_err-check_run-clause-refused
returns-in_err-check_run-clause-refused g c =
    let runs = c.args.runs.now in
    let i = c.loop-run.run-index in
    let run : List Table = c.tables.result.now in
    let is : run ≡ get_or runs i run = c.tables.ensures.same ∙ c.run-item.is ∙ get_or_default runs i c.run-item.result run c.loop-run-test.true in
    let p = err_from_is_err_and c.from_residual.result c.from_residual.ensures.1 in
    rw (p.1, p.2) (of_run runs i run c.loop-run-test.true is c.in_err-check_run.field-0.0 c.in_err-check_run.ensures.refused)
