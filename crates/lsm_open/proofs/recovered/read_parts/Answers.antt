use Rattle.std.proofs.Common.{IsTrue, ◌≡◌, ◌∙◌, ◌⊎◌, ◌+◌, ◌*◌, ℕ, Bool, true, false, List, [], Some, length, refl, sym, subst, arith, inr}
use Rattle.std.specs.Prelude.{option_map}
use Rattle.std.specs.Arc.{arc_value}
use Rattle.lsm_codec.specs.Geometry.{data_blocks_of}
use Rattle.lsm_device.specs.Refusals.{is_no_fault}
use Rattle.lsm_device.specs.declared.refusal.Refusal.TheVariants.{NoMemory, Io, BadManifest}
use Rattle.lsm_open.specs.Tables.{first_data, AreTables}
use Rattle.std.proofs.lemmas.Result.{err_from_is_err_and}
use Rattle.lsm_device.specs.Disk.{Disk, seen}
use Rattle.lsm_device.specs.History.{present}
use Rattle.lsm_levels.specs.Levels.{places}
use Rattle.lsm_levels.specs.Stored.{AreWithin}
use Rattle.lsm_open.specs.LogRegions.{follow_on}
use Rattle.lsm_open.specs.ReadParts.{ReadsAtMost}
use Rattle.lsm_open.specs.Reopening.{GoesOn}
use Rattle.lsm_open.specs.ToldTables.{told_levels, IsRefusedFor, Held, AreThose}
use Rattle.lsm_open.proofs.OpeningRefusals.{from_counted, from_replay}
use Rattle.lsm_device.specs.Medium.{disk}
use Rattle.lsm_open.proofs.OpenedStores.{named_here, memory_fair, replay_fair, keep_fair}
use Rattle.lsm_open.proofs.OpeningReads.{root_read, tables_read, regions_read, by_root}
use Rattle.lsm_open.proofs.OpeningAnswers.{tables_say, replay_says, keep_says, none_says, tables_passed, keep_passed, keep_no_fault, with_told, all_read, all_told, reads_ok, reads_err, reads_wider, reads_joined}
use Rattle.lsm_open.proofs.recovered.read_parts.Goals as goal

-- ---- the refusal

pub returns-in_err-loaded-clause-refusal : goal.returns-in_err-loaded-clause-refusal
returns-in_err-loaded-clause-refusal g c = λ t.
    let p = err_from_is_err_and c.from_residual.result c.from_residual.ensures.1 in
    rw (p.1, p.2) (c.in_err-loaded.ensures.refusal t)

pub returns-in_err-tables-clause-refusal : goal.returns-in_err-tables-clause-refusal
returns-in_err-tables-clause-refusal g c = λ t.
    let D = g.D.Device in
    let m = c.in_ok-loaded.loaded.manifest in
    let k = c.in_ok-loaded.loaded.log_sectors in
    let e = c.in_err-tables.field-0.0 in
    let p = err_from_is_err_and c.from_residual-in_err-tables.result c.from_residual-in_err-tables.ensures.1 in
    let says = subst (λ (h : List Disk). IsRefusedFor (told_levels k (seen (present h)) m) e) (c.load_counted.ensures.device.unchanged t) (c.in_err-tables.ensures.told (rw c.load_counted.ensures.device.same_lasting t)) in
    rw (p.1, p.2) (tables_say _ k m (c.in_ok-loaded.ensures.loaded t) e says)

pub returns-in_err-replayed-clause-refusal : goal.returns-in_err-replayed-clause-refusal
returns-in_err-replayed-clause-refusal g c = λ t.
    let D = g.D.Device in
    let old = (D.medium c.args.device.now).history in
    let m = c.in_ok-loaded.loaded.manifest in
    let k = c.in_ok-loaded.loaded.log_sectors in
    let levels = c.in_ok-tables.tables.levels in
    let e = c.in_err-replayed.field-0.0 in
    let p = err_from_is_err_and c.from_residual-in_err-replayed.result c.from_residual-in_err-replayed.ensures.1 in
    let t1 : IsTrue (D.medium c.load_counted.new.device).lasting.tells = rw c.load_counted.ensures.device.same_lasting t in
    let t2 : IsTrue (D.medium c.read_tables.new.device).lasting.tells = rw (c.read_tables.ensures.same_lasting ∙ c.load_counted.ensures.device.same_lasting) t in
    let told : told_levels k (seen (present old)) m ≡ Some levels = subst (λ (h : List Disk). told_levels k (seen (present h)) m ≡ Some levels) (c.load_counted.ensures.device.unchanged t) (c.in_ok-tables.ensures.told t1) in
    let says = subst (λ (h : List Disk). ((e ≡ BadManifest) × (follow_on k (seen (present h)) (m.base + 1) m.logs ≡ false)) ⊎ ((e ≡ NoMemory) ⊎ (e ≡ Io))) (c.read_tables.ensures.unchanged t1 ∙ c.load_counted.ensures.device.unchanged t)
    (with_told _ _ _ _ t2 c.in_err-replayed.ensures.refused) in
    rw (p.1, p.2) (replay_says _ k m (c.in_ok-loaded.ensures.loaded t) levels told e says)

pub returns-in_err-kept-clause-refusal : goal.returns-in_err-kept-clause-refusal
returns-in_err-kept-clause-refusal g c = λ t.
    let D = g.D.Device in
    let old = (D.medium c.args.device.now).history in
    let m = c.in_ok-loaded.loaded.manifest in
    let k = c.in_ok-loaded.loaded.log_sectors in
    let levels = c.in_ok-tables.tables.levels in
    let r = c.in_ok-replayed.replayed in
    let e = c.in_err-kept.field-0.0 in
    let p = err_from_is_err_and c.from_residual-in_err-kept.result c.from_residual-in_err-kept.ensures.1 in
    let t1 : IsTrue (D.medium c.load_counted.new.device).lasting.tells = rw c.load_counted.ensures.device.same_lasting t in
    let t2 : IsTrue (D.medium c.read_tables.new.device).lasting.tells = rw (c.read_tables.ensures.same_lasting ∙ c.load_counted.ensures.device.same_lasting) t in
    let told : told_levels k (seen (present old)) m ≡ Some levels = subst (λ (h : List Disk). told_levels k (seen (present h)) m ≡ Some levels) (c.load_counted.ensures.device.unchanged t) (c.in_ok-tables.ensures.told t1) in
    let goes : GoesOn k (seen (present old)) m r [] = subst (λ (h : List Disk). GoesOn k (seen (present h)) m r []) (c.read_tables.ensures.unchanged t1 ∙ c.load_counted.ensures.device.unchanged t) (c.in_ok-replayed.ensures.replayed t2) in
    rw (p.1, p.2) (keep_says _ k m (c.in_ok-loaded.ensures.loaded t) levels told goes.follows e c.in_err-kept.ensures.refused)

pub returns-clause-refusal : goal.returns-clause-refusal
returns-clause-refusal g c = λ t.
    let D = g.D.Device in
    let old = (D.medium c.args.device.now).history in
    let m = c.in_ok-loaded.loaded.manifest in
    let k = c.in_ok-loaded.loaded.log_sectors in
    let levels = c.in_ok-tables.tables.levels in
    let r = c.in_ok-replayed.replayed in
    let t1 : IsTrue (D.medium c.load_counted.new.device).lasting.tells = rw c.load_counted.ensures.device.same_lasting t in
    let t2 : IsTrue (D.medium c.read_tables.new.device).lasting.tells = rw (c.read_tables.ensures.same_lasting ∙ c.load_counted.ensures.device.same_lasting) t in
    let told : told_levels k (seen (present old)) m ≡ Some levels = subst (λ (h : List Disk). told_levels k (seen (present h)) m ≡ Some levels) (c.load_counted.ensures.device.unchanged t) (c.in_ok-tables.ensures.told t1) in
    let goes : GoesOn k (seen (present old)) m r [] = subst (λ (h : List Disk). GoesOn k (seen (present h)) m r []) (c.read_tables.ensures.unchanged t1 ∙ c.load_counted.ensures.device.unchanged t) (c.in_ok-replayed.ensures.replayed t2) in
    none_says _ k m (c.in_ok-loaded.ensures.loaded t) levels told goes.follows c.in_ok-kept.ensures.has_next

-- ---- which refusals

pub returns-in_err-loaded-clause-refused : goal.returns-in_err-loaded-clause-refused
returns-in_err-loaded-clause-refused g c =
    let p = err_from_is_err_and c.from_residual.result c.from_residual.ensures.1 in
    rw (p.1, p.2) (from_counted c.in_err-loaded.field-0.0 c.in_err-loaded.ensures.refused)

pub returns-in_err-tables-clause-refused : goal.returns-in_err-tables-clause-refused
returns-in_err-tables-clause-refused g c =
    let p = err_from_is_err_and c.from_residual-in_err-tables.result c.from_residual-in_err-tables.ensures.1 in
    rw (p.1, p.2) (tables_passed c.in_err-tables.field-0.0 c.in_err-tables.ensures.refused)

pub returns-in_err-replayed-clause-refused : goal.returns-in_err-replayed-clause-refused
returns-in_err-replayed-clause-refused g c =
    let p = err_from_is_err_and c.from_residual-in_err-replayed.result c.from_residual-in_err-replayed.ensures.1 in
    rw (p.1, p.2) (inr (from_replay _ c.in_err-replayed.field-0.0 c.in_err-replayed.ensures.refused))

pub returns-in_err-kept-clause-refused : goal.returns-in_err-kept-clause-refused
returns-in_err-kept-clause-refused g c =
    let p = err_from_is_err_and c.from_residual-in_err-kept.result c.from_residual-in_err-kept.ensures.1 in
    rw (p.1, p.2) (keep_passed _ c.in_err-kept.field-0.0 c.in_err-kept.ensures.refused)

-- ---- what was read

pub returns-clause-read : goal.returns-clause-read
returns-clause-read g c =
    let D = g.D.Device in
    let l = c.in_ok-loaded.loaded in
    let k = c.in_ok-kept.kept in
    let r = c.in_ok-replayed.replayed in
    let x = c.in_ok-tables.tables in
    let size = c.load_counted.ensures.device.same_size in
    all_read (D.medium c.args.device.now).size l.log_sectors r.count k.count l.manifest r.closed.items k.closed.items r.mem (option_map arc_value k.sealed) x.levels c.in_ok-kept.ensures.closed c.in_ok-kept.ensures.count c.in_ok-kept.ensures.sealed
    x.extents c.in_ok-loaded.ensures.fits.0 c.in_ok-loaded.ensures.fits.1.fits c.in_ok-loaded.ensures.inside c.in_ok-kept.ensures.has_next c.in_ok-replayed.ensures.come c.in_ok-replayed.ensures.numbered c.in_ok-replayed.ensures.entries c.in_ok-kept.ensures.ordered c.in_ok-tables.ensures.named c.in_ok-tables.ensures.runs
    (subst (λ (z : ℕ). AreWithin z (first_data l.log_sectors) (places x.levels)) size c.in_ok-tables.ensures.within) c.in_ok-tables.ensures.outlined c.in_ok-tables.ensures.numbered
    (subst (λ (z : ℕ). Held (data_blocks_of z l.log_sectors) l.manifest.tables x.extents) size c.in_ok-tables.ensures.extents)

pub returns-clause-told : goal.returns-clause-told
returns-clause-told g c = λ t.
    let D = g.D.Device in
    let old = (D.medium c.args.device.now).history in
    let l = c.in_ok-loaded.loaded in
    let m = l.manifest in
    let n = l.log_sectors in
    let k = c.in_ok-kept.kept in
    let r = c.in_ok-replayed.replayed in
    let x = c.in_ok-tables.tables in
    let t1 : IsTrue (D.medium c.load_counted.new.device).lasting.tells = rw c.load_counted.ensures.device.same_lasting t in
    let t2 : IsTrue (D.medium c.read_tables.new.device).lasting.tells = rw (c.read_tables.ensures.same_lasting ∙ c.load_counted.ensures.device.same_lasting) t in
    let told : told_levels n (seen (present old)) m ≡ Some x.levels = subst (λ (h : List Disk). told_levels n (seen (present h)) m ≡ Some x.levels) (c.load_counted.ensures.device.unchanged t) (c.in_ok-tables.ensures.told t1) in
    let goes : GoesOn n (seen (present old)) m r [] = subst (λ (h : List Disk). GoesOn n (seen (present h)) m r []) (c.read_tables.ensures.unchanged t1 ∙ c.load_counted.ensures.device.unchanged t) (c.in_ok-replayed.ensures.replayed t2) in
    let stored : AreTables n m.base m.tables (seen (present old)) → AreThose n m.base (seen (present old)) m.tables x.levels =
    subst (λ (h : List Disk). AreTables n m.base m.tables (seen (present h)) → AreThose n m.base (seen (present h)) m.tables x.levels) (c.load_counted.ensures.device.unchanged t) (c.in_ok-tables.ensures.stored t1) in
    all_told (D.medium c.args.device.now).size n r.count k.count m r.closed.items k.closed.items r.mem (option_map arc_value k.sealed) x.levels c.in_ok-kept.ensures.closed c.in_ok-kept.ensures.count c.in_ok-kept.ensures.sealed
    (seen (present old)) r refl refl refl (c.in_ok-loaded.ensures.loaded t) (c.in_ok-loaded.ensures.next t) goes told stored

-- ---- the device

pub returns-in_err-loaded-clause-device : goal.returns-in_err-loaded-clause-device
returns-in_err-loaded-clause-device g c =
    let D = g.D.Device in
    let p = err_from_is_err_and c.from_residual.result c.from_residual.ensures.1 in
    let e = c.in_err-loaded.field-0.0 in
    rw (p.1, p.2) (reads_wider 524354 587842 (is_no_fault e) _ _ (omega arith) c.in_err-loaded.ensures.device)

pub returns-in_err-tables-clause-device : goal.returns-in_err-tables-clause-device
returns-in_err-tables-clause-device g c =
    let D = g.D.Device in
    let p = err_from_is_err_and c.from_residual-in_err-tables.result c.from_residual-in_err-tables.ensures.1 in
    let e = c.in_err-tables.field-0.0 in
    let m = c.in_ok-loaded.loaded.manifest in
    let first = c.in_ok-loaded.ensures.device in
    let second = reads_err (56 * length m.tables) e (D.medium c.load_counted.new.device) (D.medium c.read_tables.new.device) c.read_tables.ensures.calls c.in_err-tables.ensures.faults c.in_err-tables.ensures.stops c.read_tables.ensures.unchanged c.read_tables.ensures.same_size c.read_tables.ensures.same_lasting in
    rw (p.1, p.2) (reads_joined 524354 (56 * length m.tables) 587842 (is_no_fault e) _ _ _ (omega (arith, c.in_ok-loaded.ensures.fits.1.fits.numbers.tables)) first second)

pub returns-in_err-replayed-clause-device : goal.returns-in_err-replayed-clause-device
returns-in_err-replayed-clause-device g c =
    let D = g.D.Device in
    let p = err_from_is_err_and c.from_residual-in_err-replayed.result c.from_residual-in_err-replayed.ensures.1 in
    let e = c.in_err-replayed.field-0.0 in
    let m = c.in_ok-loaded.loaded.manifest in
    let n = c.in_ok-loaded.loaded.log_sectors in
    let first = c.in_ok-loaded.ensures.device in
    let second = reads_ok (56 * length m.tables) (D.medium c.load_counted.new.device) (D.medium c.read_tables.new.device) c.read_tables.ensures.calls c.in_ok-tables.ensures.faults c.read_tables.ensures.unchanged c.read_tables.ensures.same_size c.read_tables.ensures.same_lasting in
    let third = reads_err (3 * n) e (D.medium c.read_tables.new.device) (D.medium c.replay_regions.new.device) c.replay_regions.ensures.calls c.in_err-replayed.ensures.faults c.in_err-replayed.ensures.stops c.replay_regions.ensures.unchanged c.replay_regions.ensures.same_size c.replay_regions.ensures.same_lasting in
    rw (p.1, p.2) (reads_joined 581698 (3 * n) 587842 (is_no_fault e) _ _ _ (omega (arith, c.in_ok-loaded.ensures.fits.0.log_high))
    (reads_joined 524354 (56 * length m.tables) 581698 true _ _ _ (omega (arith, c.in_ok-loaded.ensures.fits.1.fits.numbers.tables)) first second) third)

pub returns-in_err-kept-clause-device : goal.returns-in_err-kept-clause-device
returns-in_err-kept-clause-device g c =
    let D = g.D.Device in
    let p = err_from_is_err_and c.from_residual-in_err-kept.result c.from_residual-in_err-kept.ensures.1 in
    let e = c.in_err-kept.field-0.0 in
    let m = c.in_ok-loaded.loaded.manifest in
    let n = c.in_ok-loaded.loaded.log_sectors in
    let first = c.in_ok-loaded.ensures.device in
    let second = reads_ok (56 * length m.tables) (D.medium c.load_counted.new.device) (D.medium c.read_tables.new.device) c.read_tables.ensures.calls c.in_ok-tables.ensures.faults c.read_tables.ensures.unchanged c.read_tables.ensures.same_size c.read_tables.ensures.same_lasting in
    let third = reads_ok (3 * n) (D.medium c.read_tables.new.device) (D.medium c.replay_regions.new.device) c.replay_regions.ensures.calls c.in_ok-replayed.ensures.faults c.replay_regions.ensures.unchanged c.replay_regions.ensures.same_size c.replay_regions.ensures.same_lasting in
    rw (p.1, p.2) (subst (λ (ok : Bool). ReadsAtMost 587842 ok (D.medium c.args.device.now) (D.medium c.replay_regions.new.device)) (sym (keep_no_fault _ e c.in_err-kept.ensures.refused))
    (reads_joined 581698 (3 * n) 587842 true _ _ _ (omega (arith, c.in_ok-loaded.ensures.fits.0.log_high))
    (reads_joined 524354 (56 * length m.tables) 581698 true _ _ _ (omega (arith, c.in_ok-loaded.ensures.fits.1.fits.numbers.tables)) first second) third))

pub returns-clause-device : goal.returns-clause-device
returns-clause-device g c =
    let D = g.D.Device in
    let m = c.in_ok-loaded.loaded.manifest in
    let n = c.in_ok-loaded.loaded.log_sectors in
    let first = c.in_ok-loaded.ensures.device in
    let second = reads_ok (56 * length m.tables) (D.medium c.load_counted.new.device) (D.medium c.read_tables.new.device) c.read_tables.ensures.calls c.in_ok-tables.ensures.faults c.read_tables.ensures.unchanged c.read_tables.ensures.same_size c.read_tables.ensures.same_lasting in
    let third = reads_ok (3 * n) (D.medium c.read_tables.new.device) (D.medium c.replay_regions.new.device) c.replay_regions.ensures.calls c.in_ok-replayed.ensures.faults c.replay_regions.ensures.unchanged c.replay_regions.ensures.same_size c.replay_regions.ensures.same_lasting in
    reads_joined 581698 (3 * n) 587842 true _ _ _ (omega (arith, c.in_ok-loaded.ensures.fits.0.log_high))
    (reads_joined 524354 (56 * length m.tables) 581698 true _ _ _ (omega (arith, c.in_ok-loaded.ensures.fits.1.fits.numbers.tables)) first second) third

-- ---- how often it reads

pub returns-in_err-loaded-clause-reads : goal.returns-in_err-loaded-clause-reads
returns-in_err-loaded-clause-reads g c = λ t. root_read _ _ _ (c.load_counted.ensures.reads t)

pub returns-in_err-tables-clause-reads : goal.returns-in_err-tables-clause-reads
returns-in_err-tables-clause-reads g c = λ t.
    let l = c.in_ok-loaded.loaded in
    by_root _ l.log_sectors l.manifest (c.in_ok-loaded.ensures.loaded t) _ _ (tables_read _ l.log_sectors l.manifest.tables _ _ (c.load_counted.ensures.reads t) _ c.read_tables.ensures.reads)

pub returns-in_err-replayed-clause-reads : goal.returns-in_err-replayed-clause-reads
returns-in_err-replayed-clause-reads g c = λ t.
    let l = c.in_ok-loaded.loaded in
    by_root _ l.log_sectors l.manifest (c.in_ok-loaded.ensures.loaded t) _ _ (regions_read _ l.log_sectors l.manifest.tables _ _ (c.load_counted.ensures.reads t) _ _ c.read_tables.ensures.reads c.replay_regions.ensures.calls)

pub returns-in_err-kept-clause-reads : goal.returns-in_err-kept-clause-reads
returns-in_err-kept-clause-reads g c = λ t.
    let l = c.in_ok-loaded.loaded in
    by_root _ l.log_sectors l.manifest (c.in_ok-loaded.ensures.loaded t) _ _ (regions_read _ l.log_sectors l.manifest.tables _ _ (c.load_counted.ensures.reads t) _ _ c.read_tables.ensures.reads c.replay_regions.ensures.calls)

pub returns-clause-reads : goal.returns-clause-reads
returns-clause-reads g c = λ t.
    let l = c.in_ok-loaded.loaded in
    by_root _ l.log_sectors l.manifest (c.in_ok-loaded.ensures.loaded t) _ _ (regions_read _ l.log_sectors l.manifest.tables _ _ (c.load_counted.ensures.reads t) _ _ c.read_tables.ensures.reads c.replay_regions.ensures.calls)

pub returns-clause-most : goal.returns-clause-most
returns-clause-most g c =
    let l = c.in_ok-loaded.loaded in
    regions_read _ l.log_sectors l.manifest.tables _ _ c.in_ok-loaded.ensures.most _ _ c.read_tables.ensures.reads c.replay_regions.ensures.calls

-- ---- fair refusals

pub returns-in_err-loaded-clause-fair : goal.returns-in_err-loaded-clause-fair
returns-in_err-loaded-clause-fair g c = λ k left t is.
    let p = err_from_is_err_and c.from_residual.result c.from_residual.ensures.1 in
    rw (p.1, p.2) (memory_fair left c.in_err-loaded.field-0.0 (c.in_err-loaded.ensures.fair k left t is))

pub returns-in_err-tables-clause-fair : goal.returns-in_err-tables-clause-fair
returns-in_err-tables-clause-fair g c = λ k left t is.
    let D = g.D.Device in
    let m = c.in_ok-loaded.loaded.manifest in
    let n = c.in_ok-loaded.loaded.log_sectors in
    let p = err_from_is_err_and c.from_residual-in_err-tables.result c.from_residual-in_err-tables.ensures.1 in
    let named = named_here k n left m _ is (c.in_ok-loaded.ensures.loaded t) in
    let there : AreTables n m.base m.tables (seen (disk (D.medium c.load_counted.new.device))) = subst (λ (h : List Disk). AreTables n m.base m.tables (seen (present h))) (sym (c.load_counted.ensures.device.unchanged t)) named.1.tables in
    rw (p.1, p.2) (memory_fair left c.in_err-tables.field-0.0 (c.in_err-tables.ensures.stored (rw c.load_counted.ensures.device.same_lasting t) there))

pub returns-in_err-replayed-clause-fair : goal.returns-in_err-replayed-clause-fair
returns-in_err-replayed-clause-fair g c = λ k left t is.
    let D = g.D.Device in
    let m = c.in_ok-loaded.loaded.manifest in
    let n = c.in_ok-loaded.loaded.log_sectors in
    let e = c.in_err-replayed.field-0.0 in
    let p = err_from_is_err_and c.from_residual-in_err-replayed.result c.from_residual-in_err-replayed.ensures.1 in
    let t1 : IsTrue (D.medium c.load_counted.new.device).lasting.tells = rw c.load_counted.ensures.device.same_lasting t in
    let t2 : IsTrue (D.medium c.read_tables.new.device).lasting.tells = rw (c.read_tables.ensures.same_lasting ∙ c.load_counted.ensures.device.same_lasting) t in
    let named = named_here k n left m _ is (c.in_ok-loaded.ensures.loaded t) in
    let says = subst (λ (h : List Disk). ((e ≡ BadManifest) × (follow_on n (seen (present h)) (m.base + 1) m.logs ≡ false)) ⊎ ((e ≡ NoMemory) ⊎ (e ≡ Io))) (c.read_tables.ensures.unchanged t1 ∙ c.load_counted.ensures.device.unchanged t)
    (with_told _ _ _ _ t2 c.in_err-replayed.ensures.refused) in
    rw (p.1, p.2) (replay_fair n left m _ e named.1.follows says)

pub returns-in_err-kept-clause-fair : goal.returns-in_err-kept-clause-fair
returns-in_err-kept-clause-fair g c = λ k left t is.
    let m = c.in_ok-loaded.loaded.manifest in
    let n = c.in_ok-loaded.loaded.log_sectors in
    let p = err_from_is_err_and c.from_residual-in_err-kept.result c.from_residual-in_err-kept.ensures.1 in
    let named = named_here k n left m _ is (c.in_ok-loaded.ensures.loaded t) in
    rw (p.1, p.2) (keep_fair n left m _ c.in_err-kept.field-0.0 named.2 c.in_err-kept.ensures.refused)
