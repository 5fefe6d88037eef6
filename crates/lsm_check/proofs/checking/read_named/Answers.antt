use Rattle.std.proofs.Common.{◌≡◌, ◌+◌, ◌*◌, ℕ, true, IsTrue, List, Some, length, subst, sym, ◌∙◌, arith}
use Rattle.std.proofs.lemmas.Result.{err_from_is_err_and}
use Rattle.lsm_codec.specs.Geometry.{data_blocks_of}
use Rattle.lsm_device.specs.Disk.{Disk, seen}
use Rattle.lsm_device.specs.History.{present}
use Rattle.lsm_device.specs.Medium.{disk}
use Rattle.lsm_device.specs.Refusals.{is_no_fault}
use Rattle.lsm_device.proofs.Counting.{AtMost-joined, AtMost-wider}
use Rattle.lsm_levels.specs.Levels.{places}
use Rattle.lsm_levels.specs.Stored.{AreWithin}
use Rattle.lsm_open.specs.Counting.{uncounted_by}
use Rattle.lsm_open.specs.Image.{count_in}
use Rattle.lsm_open.specs.Tables.{first_data, AreTables}
use Rattle.lsm_open.specs.ToldTables.{told_levels, Held, IsRefusedFor}
use Rattle.lsm_open.proofs.OpenedStores.{named_here}
use Rattle.lsm_open.proofs.OpeningAnswers.{reads_ok, reads_err, reads_joined, reads_wider}
use Rattle.lsm_root.specs.Roots.{root_of}
use Rattle.lsm_check.specs.Named.{HasBatches, IsRegionsRefusal}
use Rattle.lsm_check.proofs.Readings.{short_memory, batches_named}
use Rattle.lsm_check.proofs.FirstFound.{as_read, tables_read, regions_read}
use Rattle.lsm_check.proofs.ReadCounts.{between_zero, between_joined}
use Rattle.lsm_check.proofs.Refusing.{loaded_refused, tables_refused}
use Rattle.lsm_check.proofs.checking.read_named.Goals as goal

-- ---- what was read

pub returns-clause-named : goal.returns-clause-named
returns-clause-named g c =
    let l = c.in_ok-loaded.loaded in
    let x = c.in_ok-tables.tables in
    let size = c.load_counted.ensures.device.same_size in
    record {
      geometry = c.in_ok-loaded.ensures.fits.0;
      fits = c.in_ok-loaded.ensures.fits.1;
      named = c.in_ok-tables.ensures.named;
      runs = c.in_ok-tables.ensures.runs;
      within = subst (λ (z : ℕ). AreWithin z (first_data l.log_sectors) (places x.levels)) size c.in_ok-tables.ensures.within;
      held = subst (λ (z : ℕ). Held (data_blocks_of z l.log_sectors) l.manifest.tables x.extents) size c.in_ok-tables.ensures.extents;
    }

pub returns-clause-told : goal.returns-clause-told
returns-clause-told g c = λ t.
    let D = g.D.Device in
    let read = c.load_counted.ensures.device in
    let l = c.in_ok-loaded.loaded in
    let m = l.manifest in
    let n = l.log_sectors in
    let x = c.in_ok-tables.tables in
    let t1 : IsTrue (D.medium c.load_counted.new.device).lasting.tells = rw read.same_lasting t in
    let t2 : IsTrue (D.medium c.read_tables.new.device).lasting.tells = rw (c.read_tables.ensures.same_lasting ∙ read.same_lasting) t in
    record {
      root = c.in_ok-loaded.ensures.loaded t;
      told = subst (λ (h : List Disk). told_levels n (seen (present h)) m ≡ Some x.levels) (read.unchanged t) (c.in_ok-tables.ensures.told t1);
      has = subst (λ (h : List Disk). HasBatches n (seen (present h)) m c.in_ok-batches.batches) (c.read_tables.ensures.unchanged t1 ∙ read.unchanged t) (c.in_ok-batches.ensures.counted t2);
    }

-- ---- fair refusals

pub returns-in_err-loaded-clause-fair : goal.returns-in_err-loaded-clause-fair
returns-in_err-loaded-clause-fair g c = λ k left t is.
    let p = err_from_is_err_and c.from_residual.result c.from_residual.ensures.1 in
    rw (p.1, p.2) (short_memory c.in_err-loaded.field-0.0 (c.in_err-loaded.ensures.fair k left t is))

pub returns-in_err-tables-clause-fair : goal.returns-in_err-tables-clause-fair
returns-in_err-tables-clause-fair g c = λ k left t is.
    let D = g.D.Device in
    let read = c.load_counted.ensures.device in
    let m = c.in_ok-loaded.loaded.manifest in
    let n = c.in_ok-loaded.loaded.log_sectors in
    let p = err_from_is_err_and c.from_residual-in_err-tables.result c.from_residual-in_err-tables.ensures.1 in
    let named = named_here k n left m _ is (c.in_ok-loaded.ensures.loaded t) in
    let there : AreTables n m.base m.tables (seen (disk (D.medium c.load_counted.new.device))) = subst (λ (h : List Disk). AreTables n m.base m.tables (seen (present h))) (sym (read.unchanged t)) named.1.tables in
    rw (p.1, p.2) (short_memory c.in_err-tables.field-0.0 (c.in_err-tables.ensures.stored (rw read.same_lasting t) there))

pub returns-in_err-batches-clause-fair : goal.returns-in_err-batches-clause-fair
returns-in_err-batches-clause-fair g c = λ k left t is.
    let D = g.D.Device in
    let old = (D.medium c.args.device.now).history in
    let read = c.load_counted.ensures.device in
    let m = c.in_ok-loaded.loaded.manifest in
    let n = c.in_ok-loaded.loaded.log_sectors in
    let p = err_from_is_err_and c.from_residual-in_err-batches.result c.from_residual-in_err-batches.ensures.1 in
    let t1 : IsTrue (D.medium c.load_counted.new.device).lasting.tells = rw read.same_lasting t in
    let t2 : IsTrue (D.medium c.read_tables.new.device).lasting.tells = rw (c.read_tables.ensures.same_lasting ∙ read.same_lasting) t in
    let has : HasBatches n (seen (present old)) m (count_in n (seen (present old)) m) = batches_named k n left m _ is (c.in_ok-loaded.ensures.loaded t) in
    let there : HasBatches n (seen (disk (D.medium c.read_tables.new.device))) m (count_in n (seen (present old)) m) = subst (λ (h : List Disk). HasBatches n (seen (present h)) m (count_in n (seen (present old)) m)) (sym (c.read_tables.ensures.unchanged t1 ∙ read.unchanged t)) has in
    rw (p.1, p.2) (c.in_err-batches.ensures.fair _ t2 there)

-- ---- the device

pub returns-in_err-loaded-clause-device : goal.returns-in_err-loaded-clause-device
returns-in_err-loaded-clause-device g c =
    let D = g.D.Device in
    let p = err_from_is_err_and c.from_residual.result c.from_residual.ensures.1 in
    let e = c.in_err-loaded.field-0.0 in
    rw (p.1, p.2) (reads_wider 524354 593986 (is_no_fault e) _ _ (omega arith) c.in_err-loaded.ensures.device)

pub returns-in_err-tables-clause-device : goal.returns-in_err-tables-clause-device
returns-in_err-tables-clause-device g c =
    let D = g.D.Device in
    let p = err_from_is_err_and c.from_residual-in_err-tables.result c.from_residual-in_err-tables.ensures.1 in
    let e = c.in_err-tables.field-0.0 in
    let m = c.in_ok-loaded.loaded.manifest in
    let second = reads_err (56 * length m.tables) e (D.medium c.load_counted.new.device) (D.medium c.read_tables.new.device) c.read_tables.ensures.calls c.in_err-tables.ensures.faults c.in_err-tables.ensures.stops c.read_tables.ensures.unchanged c.read_tables.ensures.same_size c.read_tables.ensures.same_lasting in
    rw (p.1, p.2) (reads_joined 524354 (56 * length m.tables) 593986 (is_no_fault e) _ _ _ (omega (arith, c.in_ok-loaded.ensures.fits.1.fits.numbers.tables)) c.in_ok-loaded.ensures.device second)

pub returns-in_err-batches-clause-device : goal.returns-in_err-batches-clause-device
returns-in_err-batches-clause-device g c =
    let D = g.D.Device in
    let p = err_from_is_err_and c.from_residual-in_err-batches.result c.from_residual-in_err-batches.ensures.1 in
    let e = c.in_err-batches.field-0.0 in
    let m = c.in_ok-loaded.loaded.manifest in
    let n = c.in_ok-loaded.loaded.log_sectors in
    let second = reads_ok (56 * length m.tables) (D.medium c.load_counted.new.device) (D.medium c.read_tables.new.device) c.read_tables.ensures.calls c.in_ok-tables.ensures.faults c.read_tables.ensures.unchanged c.read_tables.ensures.same_size c.read_tables.ensures.same_lasting in
    rw (p.1, p.2) (reads_joined 581698 (6 * n) 593986 (is_no_fault e) _ _ _ (omega (arith, c.in_ok-loaded.ensures.fits.0.log_high))
    (reads_joined 524354 (56 * length m.tables) 581698 true _ _ _ (omega (arith, c.in_ok-loaded.ensures.fits.1.fits.numbers.tables)) c.in_ok-loaded.ensures.device second) c.in_err-batches.ensures.device)

pub returns-clause-device : goal.returns-clause-device
returns-clause-device g c =
    let D = g.D.Device in
    let m = c.in_ok-loaded.loaded.manifest in
    let n = c.in_ok-loaded.loaded.log_sectors in
    let second = reads_ok (56 * length m.tables) (D.medium c.load_counted.new.device) (D.medium c.read_tables.new.device) c.read_tables.ensures.calls c.in_ok-tables.ensures.faults c.read_tables.ensures.unchanged c.read_tables.ensures.same_size c.read_tables.ensures.same_lasting in
    reads_joined 581698 (6 * n) 593986 true _ _ _ (omega (arith, c.in_ok-loaded.ensures.fits.0.log_high))
    (reads_joined 524354 (56 * length m.tables) 581698 true _ _ _ (omega (arith, c.in_ok-loaded.ensures.fits.1.fits.numbers.tables)) c.in_ok-loaded.ensures.device second) c.in_ok-batches.ensures.device

-- ---- how often it reads, by the root

pub returns-in_err-loaded-clause-reads : goal.returns-in_err-loaded-clause-reads
returns-in_err-loaded-clause-reads g c = λ t.
    let D = g.D.Device in
    let uncounted = uncounted_by (root_of (seen (disk (D.medium c.args.device.now)))) in
    AtMost-wider (66 + 8 * uncounted) 0 0 (69698 + 8 * uncounted) 0 0 _ _ (omega arith) (omega arith) (omega arith) (c.load_counted.ensures.reads t)

pub returns-in_err-tables-clause-reads : goal.returns-in_err-tables-clause-reads
returns-in_err-tables-clause-reads g c = λ t.
    let D = g.D.Device in
    let uncounted = uncounted_by (root_of (seen (disk (D.medium c.args.device.now)))) in
    let reads = 56 * length c.in_ok-loaded.loaded.manifest.tables in
    AtMost-joined (66 + 8 * uncounted) 0 0 reads 0 0 (69698 + 8 * uncounted) 0 0 _ _ _ (omega (arith, c.in_ok-loaded.ensures.fits.1.fits.numbers.tables)) (omega arith) (omega arith) (c.load_counted.ensures.reads t) c.read_tables.ensures.calls

pub returns-in_err-batches-clause-reads : goal.returns-in_err-batches-clause-reads
returns-in_err-batches-clause-reads g c = λ t.
    let D = g.D.Device in
    let uncounted = uncounted_by (root_of (seen (disk (D.medium c.args.device.now)))) in
    let reads = 56 * length c.in_ok-loaded.loaded.manifest.tables in
    let n = c.in_ok-loaded.loaded.log_sectors in
    AtMost-joined (57410 + 8 * uncounted) 0 0 (6 * n) 0 0 (69698 + 8 * uncounted) 0 0 _ _ _ (omega (arith, c.in_ok-loaded.ensures.fits.0.log_high)) (omega arith) (omega arith)
    (AtMost-joined (66 + 8 * uncounted) 0 0 reads 0 0 (57410 + 8 * uncounted) 0 0 _ _ _ (omega (arith, c.in_ok-loaded.ensures.fits.1.fits.numbers.tables)) (omega arith) (omega arith) (c.load_counted.ensures.reads t) c.read_tables.ensures.calls)
    c.in_err-batches.ensures.device.calls

pub returns-clause-reads : goal.returns-clause-reads
returns-clause-reads g c = λ t.
    let D = g.D.Device in
    let uncounted = uncounted_by (root_of (seen (disk (D.medium c.args.device.now)))) in
    let reads = 56 * length c.in_ok-loaded.loaded.manifest.tables in
    let n = c.in_ok-loaded.loaded.log_sectors in
    AtMost-joined (57410 + 8 * uncounted) 0 0 (6 * n) 0 0 (69698 + 8 * uncounted) 0 0 _ _ _ (omega (arith, c.in_ok-loaded.ensures.fits.0.log_high)) (omega arith) (omega arith)
    (AtMost-joined (66 + 8 * uncounted) 0 0 reads 0 0 (57410 + 8 * uncounted) 0 0 _ _ _ (omega (arith, c.in_ok-loaded.ensures.fits.1.fits.numbers.tables)) (omega arith) (omega arith) (c.load_counted.ensures.reads t) c.read_tables.ensures.calls)
    c.in_ok-batches.ensures.device.calls

-- ---- how much of the regions

pub returns-clause-whole : goal.returns-clause-whole
returns-clause-whole g c =
    let D = g.D.Device in
    let m = c.in_ok-loaded.loaded.manifest in
    let n = c.in_ok-loaded.loaded.log_sectors in
    let reads = 56 * length m.tables in
    let old = (D.medium c.args.device.now).calls in
    let loaded = (D.medium c.load_counted.new.device).calls in
    let mid = (D.medium c.read_tables.new.device).calls in
    let before = between_joined 0 524354 0 reads 0 581698 old loaded mid (omega arith) (omega (arith, c.in_ok-loaded.ensures.fits.1.fits.numbers.tables)) (between_zero 524354 old loaded c.load_counted.ensures.device.calls) (between_zero reads loaded mid c.read_tables.ensures.calls) in
    between_joined 0 581698 (3 * n) (6 * n) (3 * n) 593986 old mid (D.medium c.count_batches.new.device).calls (omega arith) (omega (arith, c.in_ok-loaded.ensures.fits.0.log_high)) before c.in_ok-batches.ensures.whole

-- ---- refusals

pub returns-in_err-loaded-clause-refused : goal.returns-in_err-loaded-clause-refused
returns-in_err-loaded-clause-refused g c =
    let p = err_from_is_err_and c.from_residual.result c.from_residual.ensures.1 in
    rw (p.1, p.2) (loaded_refused c.in_err-loaded.field-0.0 c.in_err-loaded.ensures.refused)

pub returns-in_err-tables-clause-refused : goal.returns-in_err-tables-clause-refused
returns-in_err-tables-clause-refused g c =
    let p = err_from_is_err_and c.from_residual-in_err-tables.result c.from_residual-in_err-tables.ensures.1 in
    rw (p.1, p.2) (tables_refused c.in_err-tables.field-0.0 c.in_err-tables.ensures.refused)

pub returns-in_err-batches-clause-refused : goal.returns-in_err-batches-clause-refused
returns-in_err-batches-clause-refused g c =
    let p = err_from_is_err_and c.from_residual-in_err-batches.result c.from_residual-in_err-batches.ensures.1 in
    rw (p.1, p.2) c.in_err-batches.ensures.refused

-- ---- why it is refused

pub returns-in_err-loaded-clause-refusal : goal.returns-in_err-loaded-clause-refusal
returns-in_err-loaded-clause-refusal g c = λ t.
    let D = g.D.Device in
    let p = err_from_is_err_and c.from_residual.result c.from_residual.ensures.1 in
    rw (p.1, p.2) (as_read (seen (disk (D.medium c.args.device.now))) c.in_err-loaded.field-0.0 (c.in_err-loaded.ensures.refusal t))

pub returns-in_err-tables-clause-refusal : goal.returns-in_err-tables-clause-refusal
returns-in_err-tables-clause-refusal g c = λ t.
    let D = g.D.Device in
    let S = seen (disk (D.medium c.args.device.now)) in
    let read = c.load_counted.ensures.device in
    let m = c.in_ok-loaded.loaded.manifest in
    let n = c.in_ok-loaded.loaded.log_sectors in
    let e = c.in_err-tables.field-0.0 in
    let p = err_from_is_err_and c.from_residual-in_err-tables.result c.from_residual-in_err-tables.ensures.1 in
    let refused : IsRefusedFor (told_levels n S m) e = subst (λ (h : List Disk). IsRefusedFor (told_levels n (seen (present h)) m) e) (read.unchanged t) (c.in_err-tables.ensures.told (rw read.same_lasting t)) in
    rw (p.1, p.2) (tables_read n S m (c.in_ok-loaded.ensures.loaded t) e refused)

pub returns-in_err-batches-clause-refusal : goal.returns-in_err-batches-clause-refusal
returns-in_err-batches-clause-refusal g c = λ t.
    let D = g.D.Device in
    let S = seen (disk (D.medium c.args.device.now)) in
    let read = c.load_counted.ensures.device in
    let m = c.in_ok-loaded.loaded.manifest in
    let n = c.in_ok-loaded.loaded.log_sectors in
    let x = c.in_ok-tables.tables in
    let e = c.in_err-batches.field-0.0 in
    let p = err_from_is_err_and c.from_residual-in_err-batches.result c.from_residual-in_err-batches.ensures.1 in
    let t1 : IsTrue (D.medium c.load_counted.new.device).lasting.tells = rw read.same_lasting t in
    let t2 : IsTrue (D.medium c.read_tables.new.device).lasting.tells = rw (c.read_tables.ensures.same_lasting ∙ read.same_lasting) t in
    let told : told_levels n S m ≡ Some x.levels = subst (λ (h : List Disk). told_levels n (seen (present h)) m ≡ Some x.levels) (read.unchanged t) (c.in_ok-tables.ensures.told t1) in
    let refused : IsRegionsRefusal n S m e = subst (λ (h : List Disk). IsRegionsRefusal n (seen (present h)) m e) (c.read_tables.ensures.unchanged t1 ∙ read.unchanged t) (c.in_err-batches.ensures.refusal t2) in
    rw (p.1, p.2) (regions_read n S m (c.in_ok-loaded.ensures.loaded t) x.levels told e refused)
