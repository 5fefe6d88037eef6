use Rattle.std.proofs.Common.{◌≡◌, ◌≤◌, ◌+◌, ◌-◌, ◌++◌, ℕ, suc, Bool, true, List, length, sym, ap, subst, ◌∙◌, arith}
use Rattle.std.proofs.lemmas.Result.{err_from_is_err_and}
use Rattle.lsm_device.specs.declared.refusal.Refusal.{Refusal}
use Rattle.lsm_device.specs.Disk.{seen}
use Rattle.lsm_device.specs.Medium.{disk}
use Rattle.lsm_device.specs.Refusals.{faultless}
use Rattle.lsm_levels.specs.Levels.{Levels}
use Rattle.lsm_levels.specs.Tables.{Table}
use Rattle.lsm_open.specs.ToldTables.{blocks_beside_data, beside_data_from, run_records, IsRunRead, AreRunsRead, ReadsBlocks}
use Rattle.lsm_open.proofs.BlockReads.{reads_then}
use Rattle.lsm_open.proofs.RunCounts.{run_before, run_counted, fewer_from, few_blocks, some_read, refused_before}
use Rattle.lsm_open.proofs.ToldRuns.{level_refused}
use Rattle.lsm_open.proofs.tables.read_newer.Goals as goal

pub add_run-requires : goal.add_run-requires
add_run-requires g c =
    let D = g.D.Device in
    let m = c.args.manifest.now in
    record { some = some_read m (c.runs-runs.result - 1 - c.loop-done.done) c.in_ok-run.run' c.requires.has (omega (arith, c.loop-done-test.true, c.loop-done.invariant.runs_are)) c.in_ok-run.ensures.read.named }

pub loop-done-preserved : goal.loop-done-preserved
loop-done-preserved g c =
    let D = g.D.Device in
    let inv = c.loop-done.invariant in
    let m = c.args.manifest.now in
    let n = c.args.log_sectors in
    let i = c.loop-done.done in
    let k = m.runs - (i + 1) in
    let next = m.runs - i in
    let lt = c.loop-done-test.true in
    let here : c.runs-runs.result - 1 - i ≡ k = omega (arith, inv.runs_are) in
    let follows : next ≡ suc k = omega (arith, lt, inv.runs_are) in
    let last : k + (i + 1) ≡ m.runs = omega (arith, lt, inv.runs_are) in
    let old = D.medium c.args.device.now in
    let mid = D.medium c.loop-done.device in
    let new = D.medium c.read_run.new.device in
    let S = seen (disk old) in
    let tells = old.lasting.tells in
    let e = c.in_ok-run.ensures in
    let run : List Table = c.in_ok-run.run' in
    let runs : List (List Table) = c.loop-done.levels.runs in
    let deeper : List (List Table) = c.loop-done.levels.deeper in
    let count : beside_data_from m k ≡ blocks_beside_data (run_records m k) + beside_data_from m next = run_counted m k next follows in
    let low : beside_data_from m m.runs ≤ beside_data_from m next = omega (arith, fewer_from m next i, ap (beside_data_from m) (let up : next + i ≡ m.runs = omega (arith, lt, inv.runs_are) in up)) in
    let step : ReadsBlocks (blocks_beside_data (run_records m k)) true mid new = subst (λ (j : ℕ). ReadsBlocks (blocks_beside_data (run_records m j)) true mid new) here e.device in
    let put = c.in_ok-add_run.ensures.added in
    let read : IsRunRead n tells S m k run = run_before n old mid m k run inv.device.only_reads (subst (λ (j : ℕ). IsRunRead n mid.lasting.tells (seen (disk mid)) m j run) here e.read) in
    record {
      same_size = e.device.only_reads.same_size ∙ inv.same_size;
      device = reads_then (beside_data_from m next - beside_data_from m m.runs) (blocks_beside_data (run_records m k)) (beside_data_from m k - beside_data_from m m.runs) true old mid new (omega (arith, count, low)) inv.device step;
      runs_are = inv.runs_are;
      count = ap (λ (l : Levels). length l.runs) put ∙ omega (arith, inv.count);
      same = ap (λ (l : Levels). l.deeper) put ∙ inv.same;
      read = subst (λ (l : Levels). AreRunsRead n tells S m k (l.runs ++ l.deeper)) (sym put) (read, subst (λ (j : ℕ). AreRunsRead n tells S m j (runs ++ deeper)) follows inv.read);
    }

pub returns-in_err-run-clause-device : goal.returns-in_err-run-clause-device
returns-in_err-run-clause-device g c =
    let D = g.D.Device in
    let p = err_from_is_err_and c.from_residual.result c.from_residual.ensures.1 in
    let inv = c.loop-done.invariant in
    let m = c.args.manifest.now in
    let i = c.loop-done.done in
    let k = m.runs - (i + 1) in
    let next = m.runs - i in
    let lt = c.loop-done-test.true in
    let here : c.runs-runs.result - 1 - i ≡ k = omega (arith, inv.runs_are) in
    let follows : next ≡ suc k = omega (arith, lt, inv.runs_are) in
    let old = D.medium c.args.device.now in
    let mid = D.medium c.loop-done.device in
    let new = D.medium c.read_run.new.device in
    let count : beside_data_from m k ≡ blocks_beside_data (run_records m k) + beside_data_from m next = run_counted m k next follows in
    let low : beside_data_from m m.runs ≤ beside_data_from m next = omega (arith, fewer_from m next i, ap (beside_data_from m) (let up : next + i ≡ m.runs = omega (arith, lt, inv.runs_are) in up)) in
    let reads = beside_data_from m k - beside_data_from m m.runs in
    let few = few_blocks m k in
    let step : ReadsBlocks (blocks_beside_data (run_records m k)) (faultless c.read_run.result) mid new = subst (λ (j : ℕ). ReadsBlocks (blocks_beside_data (run_records m j)) (faultless c.read_run.result) mid new) here c.read_run.ensures.device in
    rw (p.1, p.2) (
      reads,
      omega (arith, count, low, few),
      subst (λ (ok : Bool). ReadsBlocks reads ok old new) (ap faultless c.in_err-run.was)
          (reads_then (beside_data_from m next - beside_data_from m m.runs) (blocks_beside_data (run_records m k)) reads (faultless c.read_run.result) old mid new (omega (arith, count, low)) inv.device step),
    )

pub returns-clause-device : goal.returns-clause-device
returns-clause-device g c =
    let m = c.args.manifest.now in
    let i = c.loop-done.done in
    let low : beside_data_from m m.runs ≤ beside_data_from m (m.runs - i) = omega (arith, fewer_from m (m.runs - i) i, ap (beside_data_from m) (let up : (m.runs - i) + i ≡ m.runs = omega (arith, c.loop-done.auto.done-end, c.loop-done.invariant.runs_are) in up)) in
    (beside_data_from m (m.runs - i) - beside_data_from m m.runs, omega (arith, low, few_blocks m (m.runs - i)), c.loop-done.invariant.device)

pub returns-in_err-run-clause-none : goal.returns-in_err-run-clause-none
returns-in_err-run-clause-none g c = λ t.
    let D = g.D.Device in
    let p = err_from_is_err_and c.from_residual.result c.from_residual.ensures.1 in
    let inv = c.loop-done.invariant in
    let m = c.args.manifest.now in
    let n = c.args.log_sectors in
    let k = c.runs-runs.result - 1 - c.loop-done.done in
    let old = D.medium c.args.device.now in
    let mid = D.medium c.loop-done.device in
    let e : Refusal = c.in_err-run.field-0.0 in
    rw (p.1, p.2) (level_refused n (seen (disk old)) m k e (omega (arith, c.loop-done-test.true, inv.runs_are)) (refused_before n old mid m k e inv.device.only_reads c.in_err-run.ensures.none t))

pub returns-in_err-add_run-clause-device : goal.returns-in_err-add_run-clause-device
returns-in_err-add_run-clause-device g c =
    let D = g.D.Device in
    let p = err_from_is_err_and c.from_residual-in_err-add_run.result c.from_residual-in_err-add_run.ensures.1 in
    let inv = c.loop-done.invariant in
    let m = c.args.manifest.now in
    let i = c.loop-done.done in
    let k = m.runs - (i + 1) in
    let next = m.runs - i in
    let lt = c.loop-done-test.true in
    let here : c.runs-runs.result - 1 - i ≡ k = omega (arith, inv.runs_are) in
    let follows : next ≡ suc k = omega (arith, lt, inv.runs_are) in
    let old = D.medium c.args.device.now in
    let mid = D.medium c.loop-done.device in
    let new = D.medium c.read_run.new.device in
    let count : beside_data_from m k ≡ blocks_beside_data (run_records m k) + beside_data_from m next = run_counted m k next follows in
    let low : beside_data_from m m.runs ≤ beside_data_from m next = omega (arith, fewer_from m next i, ap (beside_data_from m) (let up : next + i ≡ m.runs = omega (arith, lt, inv.runs_are) in up)) in
    let reads = beside_data_from m k - beside_data_from m m.runs in
    let few = few_blocks m k in
    let step : ReadsBlocks (blocks_beside_data (run_records m k)) true mid new = subst (λ (j : ℕ). ReadsBlocks (blocks_beside_data (run_records m j)) true mid new) here c.in_ok-run.ensures.device in
    rw (p.1, p.2) (reads, omega (arith, count, low, few), reads_then (beside_data_from m next - beside_data_from m m.runs) (blocks_beside_data (run_records m k)) reads true old mid new (omega (arith, count, low)) inv.device step)
