use Rattle.std.proofs.Common.{inl, inr, refl, ◌≡◌, ◌∙◌, ◌+◌, ◌*◌, ℕ, true, IsTrue, List, length, subst, sym, arith}
use Rattle.std.specs.List.{AllByRecursion}
use Rattle.std.proofs.lemmas.Result.{err_from_is_err_and}
use Rattle.lsm_device.specs.Disk.{Disk, seen}
use Rattle.lsm_device.specs.History.{present}
use Rattle.lsm_device.specs.Medium.{disk}
use Rattle.lsm_device.specs.Refusals.{is_no_fault}
use Rattle.lsm_device.proofs.Counting.{AtMost-joined, AtMost-wider}
use Rattle.lsm_levels.specs.Levels.{all_tables, places}
use Rattle.lsm_levels.specs.Stored.{AreWithin}
use Rattle.lsm_levels.specs.Tables.{versions_of}
use Rattle.lsm_open.specs.Counting.{all_data, uncounted_by}
use Rattle.lsm_open.specs.Tables.{first_data}
use Rattle.lsm_open.proofs.OpeningAnswers.{reads_joined, reads_wider}
use Rattle.lsm_root.specs.Roots.{root_of}
use Rattle.lsm_check.specs.Images.{finds_no_fault}
use Rattle.lsm_check.specs.Sound.{IsTold, AreSound}
use Rattle.lsm_check.proofs.Checked.{few_tables, levels_told, sound_image, image_sound}
use Rattle.lsm_check.proofs.FirstFound.{read_not_refused, read_none_later, one_or_other, first_refused, later_refused}
use Rattle.lsm_check.proofs.FoundTables.{check_finding, table_finding}
use Rattle.lsm_check.specs.Found.{numbers_in}
use Rattle.lsm_check.specs.Counted.{data_blocks_in}
use Rattle.lsm_check.proofs.ReadCounts.{between_zero, between_joined, all_named, read_for_finding}
use Rattle.lsm_check.proofs.checking.check_all.Goals as goal

-- ---- what is asked of the tables

pub check_levels-requires-clause-within : goal.check_levels-requires-clause-within
check_levels-requires-clause-within g c =
    let n = c.in_ok-named.named.loaded.log_sectors in
    subst (λ (z : ℕ). AreWithin z (first_data n) (places c.in_ok-named.named.tables.levels)) (sym c.in_ok-named.ensures.device.same_size) c.in_ok-named.ensures.named.within

pub check_levels-requires-clause-few : goal.check_levels-requires-clause-few
check_levels-requires-clause-few g c =
    let named = c.in_ok-named.ensures.named in
    few_tables c.in_ok-named.named.loaded.manifest c.in_ok-named.named.tables.levels named.fits.fits named.named

-- ---- a yes

pub returns-clause-yes : goal.returns-clause-yes
returns-clause-yes g c = λ t.
    let D = g.D.Device in
    let old = D.medium c.args.device.now in
    let S = seen (disk old) in
    let n = c.in_ok-named.named.loaded.log_sectors in
    let m = c.in_ok-named.named.loaded.manifest in
    let x = c.in_ok-named.named.tables in
    let tables = all_tables (places x.levels) in
    let named = c.in_ok-named.ensures.named in
    let told = c.in_ok-named.ensures.told t in
    let read = c.in_ok-named.ensures.device in
    let r = c.report_of.ensures in
    let t1 : IsTrue (D.medium c.read_named.new.device).lasting.tells = rw read.same_lasting t in
    let each : AllByRecursion (IsTold S (first_data n)) tables = levels_told old.size n S m x.levels x.extents c.in_ok-named.named.batches named told in
    let found = subst (λ (h : List Disk). AllByRecursion (IsTold (seen (present h)) (first_data n)) tables → AreSound (seen (present h)) (first_data n) c.base-base.result tables × (c.in_ok-entries.entries ≡ length (versions_of tables))) (read.unchanged t) (c.in_ok-entries.ensures.sound t1) each in
    let sound : AreSound S (first_data n) m.base tables = subst (λ (b : ℕ). AreSound S (first_data n) b tables) c.base-base.ensures found.0 in
    sound_image old.size n S m x.levels x.extents c.in_ok-named.named.batches named told c.report_of.result sound r.generation r.batches r.tables (r.entries ∙ found.1) (r.free_blocks old.size named.held)

-- ---- of the image of a store

pub returns-in_err-named-clause-image : goal.returns-in_err-named-clause-image
returns-in_err-named-clause-image g c = λ k left t is.
    let p = err_from_is_err_and c.from_residual.result c.from_residual.ensures.1 in
    rw (p.1, p.2) (c.in_err-named.ensures.fair k left t is)

pub returns-in_err-entries-clause-image : goal.returns-in_err-entries-clause-image
returns-in_err-entries-clause-image g c = λ k left t is.
    let D = g.D.Device in
    let old = D.medium c.args.device.now in
    let S = seen (disk old) in
    let n = c.in_ok-named.named.loaded.log_sectors in
    let m = c.in_ok-named.named.loaded.manifest in
    let x = c.in_ok-named.named.tables in
    let tables = all_tables (places x.levels) in
    let named = c.in_ok-named.ensures.named in
    let told = c.in_ok-named.ensures.told t in
    let read = c.in_ok-named.ensures.device in
    let t1 : IsTrue (D.medium c.read_named.new.device).lasting.tells = rw read.same_lasting t in
    let sound : AreSound S (first_data n) m.base tables = image_sound old.size n S m x.levels x.extents c.in_ok-named.named.batches named told k left is in
    let there : AreSound S (first_data n) c.base-base.result tables = subst (λ (b : ℕ). AreSound S (first_data n) b tables) (sym c.base-base.ensures) sound in
    let p = err_from_is_err_and c.from_residual-in_err-entries.result c.from_residual-in_err-entries.ensures.1 in
    rw (p.1, p.2) (c.in_err-entries.ensures.fair t1 (subst (λ (h : List Disk). AreSound (seen (present h)) (first_data n) c.base-base.result tables) (sym (read.unchanged t)) there))

-- ---- the device

pub returns-in_err-named-clause-device : goal.returns-in_err-named-clause-device
returns-in_err-named-clause-device g c =
    let p = err_from_is_err_and c.from_residual.result c.from_residual.ensures.1 in
    rw (p.1, p.2) (reads_wider 593986 1118274 (is_no_fault c.in_err-named.field-0.0) _ _ (omega arith) c.in_err-named.ensures.device)

pub returns-in_err-entries-clause-device : goal.returns-in_err-entries-clause-device
returns-in_err-entries-clause-device g c =
    let p = err_from_is_err_and c.from_residual-in_err-entries.result c.from_residual-in_err-entries.ensures.1 in
    rw (p.1, p.2) (reads_joined 593986 524288 1118274 (finds_no_fault c.in_err-entries.field-0.0) _ _ _ (omega arith) c.in_ok-named.ensures.device c.in_err-entries.ensures.device)

pub returns-clause-device : goal.returns-clause-device
returns-clause-device g c = reads_joined 593986 524288 1118274 true _ _ _ (omega arith) c.in_ok-named.ensures.device c.in_ok-entries.ensures.device

-- ---- what was read at most, by the root

pub returns-in_err-named-clause-reads : goal.returns-in_err-named-clause-reads
returns-in_err-named-clause-reads g c = λ t.
    let D = g.D.Device in
    let uncounted = uncounted_by (root_of (seen (disk (D.medium c.args.device.now)))) in
    AtMost-wider (69698 + 8 * uncounted) 0 0 (593986 + 8 * uncounted) 0 0 _ _ (omega arith) (omega arith) (omega arith) (c.read_named.ensures.reads t)

pub returns-in_err-entries-clause-reads : goal.returns-in_err-entries-clause-reads
returns-in_err-entries-clause-reads g c = λ t.
    let D = g.D.Device in
    let uncounted = uncounted_by (root_of (seen (disk (D.medium c.args.device.now)))) in
    AtMost-joined (69698 + 8 * uncounted) 0 0 524288 0 0 (593986 + 8 * uncounted) 0 0 _ _ _ (omega arith) (omega arith) (omega arith) (c.read_named.ensures.reads t) c.in_err-entries.ensures.device.calls

pub returns-clause-reads : goal.returns-clause-reads
returns-clause-reads g c = λ t.
    let D = g.D.Device in
    let uncounted = uncounted_by (root_of (seen (disk (D.medium c.args.device.now)))) in
    AtMost-joined (69698 + 8 * uncounted) 0 0 524288 0 0 (593986 + 8 * uncounted) 0 0 _ _ _ (omega arith) (omega arith) (omega arith) (c.read_named.ensures.reads t) c.in_ok-entries.ensures.device.calls

-- ---- what was read at least

pub returns-in_err-named-clause-whole : goal.returns-in_err-named-clause-whole
returns-in_err-named-clause-whole g c =
    let p = err_from_is_err_and c.from_residual.result c.from_residual.ensures.1 in
    rw (p.1, p.2) tt

pub returns-in_err-entries-clause-whole : goal.returns-in_err-entries-clause-whole
returns-in_err-entries-clause-whole g c =
    let D = g.D.Device in
    let old = D.medium c.args.device.now in
    let mid = (D.medium c.read_named.new.device).calls in
    let new = (D.medium c.check_levels.new.device).calls in
    let n = c.in_ok-named.named.loaded.log_sectors in
    let p = err_from_is_err_and c.from_residual-in_err-entries.result c.from_residual-in_err-entries.ensures.1 in
    rw (p.1, p.2) (read_for_finding old.size old.calls new c.in_err-entries.field-0.0 (record {
      log_sectors = n;
      geometry = c.in_ok-named.ensures.named.geometry;
      reads = between_joined (3 * n) 593986 0 524288 (3 * n) 1118274 old.calls mid new (omega arith) (omega arith) c.in_ok-named.ensures.whole (between_zero 524288 mid new c.in_err-entries.ensures.device.calls);
    }))

pub returns-clause-whole : goal.returns-clause-whole
returns-clause-whole g c =
    let D = g.D.Device in
    let old = D.medium c.args.device.now in
    let n = c.in_ok-named.named.loaded.log_sectors in
    let m = c.in_ok-named.named.loaded.manifest in
    let x = c.in_ok-named.named.tables in
    let blocks = data_blocks_in (all_tables (places x.levels)) in
    let named = c.in_ok-named.ensures.named in
    let r = c.report_of.ensures in
    record {
      log_sectors = n;
      manifest = m;
      geometry = named.geometry;
      fits = named.fits.fits;
      generation = r.generation;
      tables = r.tables;
      free_blocks = r.free_blocks old.size named.held;
      reads = between_joined (3 * n) 593986 (8 * blocks) 524288 (3 * n + 8 * all_data m.tables) 1118274 old.calls (D.medium c.read_named.new.device).calls (D.medium c.check_levels.new.device).calls
          (omega (arith, all_named m x.levels named.named)) (omega arith) c.in_ok-named.ensures.whole c.in_ok-entries.ensures.whole;
    }

-- ---- what is found first

pub returns-in_err-named-clause-first : goal.returns-in_err-named-clause-first
returns-in_err-named-clause-first g c = λ t refusal says not_last.
    let D = g.D.Device in
    let p = err_from_is_err_and c.from_residual.result c.from_residual.ensures.1 in
    rw (p.1, p.2) (first_refused (seen (disk (D.medium c.args.device.now))) c.in_err-named.field-0.0 refusal (c.in_err-named.ensures.refusal t) says not_last)

pub returns-in_err-entries-clause-first : goal.returns-in_err-entries-clause-first
returns-in_err-entries-clause-first g c = λ t refusal says not_last.
    let D = g.D.Device in
    let S = seen (disk (D.medium c.args.device.now)) in
    let named = c.in_ok-named.named in
    let opens = read_not_refused named.loaded.log_sectors S named.loaded.manifest named.tables.levels named.batches (c.in_ok-named.ensures.told t) in
    absurd (one_or_other S refusal opens says not_last)

pub returns-clause-first : goal.returns-clause-first
returns-clause-first g c = λ t refusal says not_last.
    let D = g.D.Device in
    let S = seen (disk (D.medium c.args.device.now)) in
    let named = c.in_ok-named.named in
    let opens = read_not_refused named.loaded.log_sectors S named.loaded.manifest named.tables.levels named.batches (c.in_ok-named.ensures.told t) in
    absurd (one_or_other S refusal opens says not_last)

pub returns-in_err-named-clause-later : goal.returns-in_err-named-clause-later
returns-in_err-named-clause-later g c = λ t opens has.
    let D = g.D.Device in
    let p = err_from_is_err_and c.from_residual.result c.from_residual.ensures.1 in
    rw (p.1, p.2) (later_refused (seen (disk (D.medium c.args.device.now))) c.in_err-named.field-0.0 opens c.in_err-named.ensures.refused (c.in_err-named.ensures.refusal t))

pub returns-in_err-entries-clause-later : goal.returns-in_err-entries-clause-later
returns-in_err-entries-clause-later g c = λ t opens has.
    let D = g.D.Device in
    let named = c.in_ok-named.named in
    absurd (read_none_later named.loaded.log_sectors (seen (disk (D.medium c.args.device.now))) named.loaded.manifest named.tables.levels named.batches (c.in_ok-named.ensures.told t) has)

pub returns-clause-later : goal.returns-clause-later
returns-clause-later g c = λ t opens has.
    let D = g.D.Device in
    let named = c.in_ok-named.named in
    absurd (read_none_later named.loaded.log_sectors (seen (disk (D.medium c.args.device.now))) named.loaded.manifest named.tables.levels named.batches (c.in_ok-named.ensures.told t) has)

-- ---- what is found at all

pub returns-in_err-named-clause-found : goal.returns-in_err-named-clause-found
returns-in_err-named-clause-found g c = λ t.
    let p = err_from_is_err_and c.from_residual.result c.from_residual.ensures.1 in
    rw (p.1, p.2) (inl (c.in_err-named.field-0.0, refl, c.in_err-named.ensures.refusal t))

pub returns-in_err-entries-clause-found : goal.returns-in_err-entries-clause-found
returns-in_err-entries-clause-found g c = λ t.
    let D = g.D.Device in
    let named = c.in_ok-named.named in
    let p = err_from_is_err_and c.from_residual-in_err-entries.result c.from_residual-in_err-entries.ensures.1 in
    rw (p.1, p.2) (inr (table_finding named.loaded.log_sectors (seen (disk (D.medium c.args.device.now))) named.loaded.manifest named.tables.levels named.batches c.in_ok-named.ensures.named.named (c.in_ok-named.ensures.told t) c.in_err-entries.field-0.0 c.in_err-entries.ensures.refused))

pub returns-in_err-entries-clause-refused : goal.returns-in_err-entries-clause-refused
returns-in_err-entries-clause-refused g c =
    let p = err_from_is_err_and c.from_residual-in_err-entries.result c.from_residual-in_err-entries.ensures.1 in
    rw (p.1, p.2) (check_finding (numbers_in (all_tables (places c.in_ok-named.named.tables.levels))) c.in_err-entries.field-0.0 c.in_err-entries.ensures.refused)
