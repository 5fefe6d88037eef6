use Rattle.std.proofs.Common.{◌≡◌, List, Some, All, refl, sym, ap, subst, ◌∙◌, inl}
use Rattle.std.proofs.lemmas.Bool.{false≢true}
use Rattle.std.proofs.lemmas.Result.{err_from_is_err_and}
use Rattle.std.proofs.lemmas.List.Elements.{All-filter}
use Rattle.lsm_codec.specs.Reading.{◌>>=◌}
use Rattle.lsm_codec.specs.declared.table_record.TableRecord.{TableRecord}
use Rattle.lsm_device.specs.declared.refusal.Refusal.{Refusal}
use Rattle.lsm_device.specs.Disk.{seen}
use Rattle.lsm_device.specs.Medium.{disk}
use Rattle.lsm_levels.specs.Tables.{Table, IsRun}
use Rattle.lsm_open.specs.ToldTables.{is_in_run, run_records, run_if, told_tables, IsReadable, IsRefusedFor, AreNamedBy}
use Rattle.lsm_open.proofs.ToldRuns.{not_run, some_run, run_refused}
use Rattle.lsm_open.proofs.tables.read_run.Goals as goal

pub read_listed-requires-clause-readable : goal.read_listed-requires-clause-readable
read_listed-requires-clause-readable g c =
    let P : TableRecord → Type 0 = IsReadable c.args.log_sectors (g.D.Device.medium c.args.device.now).size in
    let m = c.args.manifest.now in
    subst (λ (l : List TableRecord). All P l) (sym (c.deref.ensures.value ∙ c.in_ok-listed.ensures)) (All-filter (is_in_run m.runs c.args.place) P m.tables c.requires.readable)

pub returns-in_err-tables-clause-none : goal.returns-in_err-tables-clause-none
returns-in_err-tables-clause-none g c = λ t.
    let p = err_from_is_err_and c.from_residual-in_err-tables.result c.from_residual-in_err-tables.ensures.1 in
    let S = seen (disk (g.D.Device.medium c.args.device.now)) in
    let n = c.args.log_sectors in
    let e : Refusal = c.in_err-tables.field-0.0 in
    rw (p.1, p.2) (run_refused (told_tables n S (run_records c.args.manifest.now c.args.place)) e
    (subst (λ (l : List TableRecord). IsRefusedFor (told_tables n S l) e) (c.deref.ensures.value ∙ c.in_ok-listed.ensures) (c.in_err-tables.ensures.told t)))

pub returns-then-not-is_run-clause-none : goal.returns-then-not-is_run-clause-none
returns-then-not-is_run-clause-none g c = λ t.
    let S = seen (disk (g.D.Device.medium c.args.device.now)) in
    let n = c.args.log_sectors in
    let m = c.args.manifest.now in
    let tables : List Table = c.in_ok-tables.tables.items in
    let told : told_tables n S (run_records m c.args.place) ≡ Some tables = ap (told_tables n S) (sym (c.deref.ensures.value ∙ c.in_ok-listed.ensures)) ∙ c.in_ok-tables.ensures.told t in
    inl (refl, ap (λ o. o >>= run_if) told ∙ not_run tables (λ r. false≢true (sym c.if-not-is_run.true ∙ c.is_run.ensures.1 (subst IsRun (sym c.deref-2.ensures.value) r))))

pub returns-clause-read : goal.returns-clause-read
returns-clause-read g c =
    let S = seen (disk (g.D.Device.medium c.args.device.now)) in
    let n = c.args.log_sectors in
    let m = c.args.manifest.now in
    let tables : List Table = c.in_ok-tables.tables.items in
    let listed = c.deref.ensures.value ∙ c.in_ok-listed.ensures in
    record {
      named = rw c.from_tables.ensures (subst (λ (l : List TableRecord). AreNamedBy l tables) listed c.in_ok-tables.ensures.named);
      told = λ t. ap (λ o. o >>= run_if) (ap (told_tables n S) (sym listed) ∙ c.in_ok-tables.ensures.told t) ∙ some_run tables (subst IsRun c.deref-2.ensures.value (c.is_run.ensures.0 c.if-not-is_run.false)) ∙ ap (λ (l : List Table). Some l) (sym c.from_tables.ensures);
    }
