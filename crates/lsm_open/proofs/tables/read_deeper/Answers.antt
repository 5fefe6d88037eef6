use Rattle.std.proofs.Common.{◌≡◌, ◌+◌, ◌-◌, ℕ, Bool, true, List, length, drop, refl, ap, sym, subst, ◌∙◌, arith}
use Rattle.std.specs.Prelude.{slice_set}
use Rattle.std.proofs.lemmas.List.{length-set}
use Rattle.std.proofs.lemmas.Result.{err_from_is_err_and}
use Rattle.lsm_device.specs.Disk.{seen}
use Rattle.lsm_device.specs.Medium.{disk}
use Rattle.lsm_device.specs.Refusals.{faultless}
use Rattle.lsm_device.specs.declared.refusal.Refusal.{Refusal}
use Rattle.lsm_levels.specs.Levels.{Levels}
use Rattle.lsm_levels.specs.Tables.{Table}
use Rattle.lsm_open.specs.ToldTables.{blocks_beside_data, beside_data_from, run_records, IsRunRead, AreRunsRead, ReadsBlocks}
use Rattle.lsm_open.proofs.BlockReads.{nothing_read, reads_then}
use Rattle.lsm_open.proofs.RunCounts.{run_before, run_put, run_counted, fewer_from, refused_before}
use Rattle.lsm_open.proofs.ToldRuns.{level_refused}
use Rattle.lsm_open.proofs.tables.read_deeper.Goals as goal

pub returns-in_err-run-clause-device : goal.returns-in_err-run-clause-device
returns-in_err-run-clause-device g c =
    let D = g.D.Device in
    let p = err_from_is_err_and c.from_residual-in_err-run.result c.from_residual-in_err-run.ensures.1 in
    let m = c.args.manifest.now in
    let i = c.loop-done.done in
    let k = m.runs + (3 - i) in
    let next = m.runs + (4 - i) in
    let here : c.runs-runs.result + (3 - i) ≡ k = omega (arith, c.loop-done.invariant.runs_are) in
    let old = D.medium c.args.device.now in
    let mid = D.medium c.loop-done.device in
    let new = D.medium c.read_run.new.device in
    let count : beside_data_from m k ≡ blocks_beside_data (run_records m k) + beside_data_from m next = run_counted m k next (omega (arith, c.loop-done-test.true)) in
    let few = fewer_from m m.runs (3 - i) in
    let step : ReadsBlocks (blocks_beside_data (run_records m k)) (faultless c.read_run.result) mid new = subst (λ (j : ℕ). ReadsBlocks (blocks_beside_data (run_records m j)) (faultless c.read_run.result) mid new) here c.read_run.ensures.device in
    rw (p.1, p.2) (subst (λ (ok : Bool). ReadsBlocks (beside_data_from m m.runs) ok old new) (ap faultless c.in_err-run.was)
    (reads_then (beside_data_from m next) (blocks_beside_data (run_records m k)) (beside_data_from m m.runs) (faultless c.read_run.result) old mid new (omega (arith, count, few)) c.loop-done.invariant.device step))

pub loop-done-preserved : goal.loop-done-preserved
loop-done-preserved g c =
    let D = g.D.Device in
    let inv = c.loop-done.invariant in
    let m = c.args.manifest.now in
    let n = c.args.log_sectors in
    let i = c.loop-done.done in
    let k = m.runs + (3 - i) in
    let next = m.runs + (4 - i) in
    let here : c.runs-runs.result + (3 - i) ≡ k = omega (arith, inv.runs_are) in
    let there : k ≡ m.runs + (4 - (i + 1)) = omega arith in
    let place : 3 - i ≡ 4 - (i + 1) = omega arith in
    let level : (3 - i + 1) - 1 ≡ 3 - i = omega arith in
    let old = D.medium c.args.device.now in
    let mid = D.medium c.loop-done.device in
    let new = D.medium c.read_run.new.device in
    let S = seen (disk old) in
    let tells = old.lasting.tells in
    let e = c.in_ok-run.ensures in
    let run : List Table = c.in_ok-run.run' in
    let deeper : List (List Table) = c.loop-done.levels.deeper in
    let count : beside_data_from m k ≡ blocks_beside_data (run_records m k) + beside_data_from m next = run_counted m k next (omega (arith, c.loop-done-test.true)) in
    let step : ReadsBlocks (blocks_beside_data (run_records m k)) true mid new = subst (λ (j : ℕ). ReadsBlocks (blocks_beside_data (run_records m j)) true mid new) here e.device in
    let put : c.set_level.new.self.deeper ≡ slice_set deeper (3 - i) run = ap (λ (l : Levels). l.deeper) c.set_level.ensures ∙ ap (λ (j : ℕ). slice_set deeper j run) level in
    let read : AreRunsRead n tells S m k (drop (3 - i) (slice_set deeper (3 - i) run)) =
    run_put n tells S m k next (3 - i) (4 - i) deeper run (omega (arith, c.loop-done-test.true)) (omega (arith, c.loop-done-test.true)) (omega (arith, inv.four, c.loop-done-test.true))
    (run_before n old mid m k run inv.device.only_reads (subst (λ (j : ℕ). IsRunRead n mid.lasting.tells (seen (disk mid)) m j run) here e.read)) inv.read in
    record {
      same_size = e.device.only_reads.same_size ∙ inv.same_size;
      device = subst (λ (j : ℕ). ReadsBlocks (beside_data_from m j) true old new) there
          (reads_then (beside_data_from m next) (blocks_beside_data (run_records m k)) (beside_data_from m k) true old mid new (omega (arith, count)) inv.device step);
      runs_are = inv.runs_are;
      none = ap (λ (l : Levels). l.runs) c.set_level.ensures ∙ inv.none;
      four = ap length put ∙ length-set deeper (3 - i) run ∙ inv.four;
      read = subst (λ (j : ℕ). AreRunsRead n tells S m j (drop (4 - (i + 1)) c.set_level.new.self.deeper)) there
          (subst (λ (j : ℕ). AreRunsRead n tells S m k (drop j c.set_level.new.self.deeper)) place (rw put read));
    }

pub loop-done-init : goal.loop-done-init
loop-done-init g c =
    let m = g.D.Device.medium c.args.device.now in
    let S = seen (disk m) in
    let from = c.args.manifest.now.runs + 4 in
    record {
      same_size = refl;
      device = reads_then 0 0 (beside_data_from c.args.manifest.now from) true m m m (omega arith) (nothing_read m) (nothing_read m);
      runs_are = c.runs-runs.ensures;
      none = ap (λ (l : Levels). l.runs) c.in_ok-levels.ensures;
      four = ap (λ (l : Levels). length l.deeper) c.in_ok-levels.ensures;
      read = subst (λ (l : Levels). AreRunsRead c.args.log_sectors m.lasting.tells S c.args.manifest.now from (drop 4 l.deeper)) (sym c.in_ok-levels.ensures) tt;
    }

pub returns-in_err-run-clause-none : goal.returns-in_err-run-clause-none
returns-in_err-run-clause-none g c = λ t.
    let D = g.D.Device in
    let p = err_from_is_err_and c.from_residual-in_err-run.result c.from_residual-in_err-run.ensures.1 in
    let inv = c.loop-done.invariant in
    let m = c.args.manifest.now in
    let n = c.args.log_sectors in
    let k = c.runs-runs.result + (3 - c.loop-done.done) in
    let old = D.medium c.args.device.now in
    let mid = D.medium c.loop-done.device in
    let e : Refusal = c.in_err-run.field-0.0 in
    rw (p.1, p.2) (level_refused n (seen (disk old)) m k e (omega (arith, inv.runs_are)) (refused_before n old mid m k e inv.device.only_reads c.in_err-run.ensures.none t))
