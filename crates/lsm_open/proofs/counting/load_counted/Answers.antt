use Rattle.std.proofs.Common.{◌≡◌, ◌+◌, ℕ, List, Some, true, refl, sym, subst, arith, inl, inr}
use Rattle.std.proofs.lemmas.Result.{err_from_is_err_and}
use Rattle.lsm_codec.specs.Manifests.{Contents}
use Rattle.lsm_device.specs.Disk.{Disk, seen}
use Rattle.lsm_device.specs.History.{present}
use Rattle.lsm_device.specs.Medium.{disk}
use Rattle.lsm_device.specs.Refusals.{is_no_fault}
use Rattle.lsm_open.specs.Counting.{counted, all_uncounted}
use Rattle.lsm_open.specs.ToldTables.{IsRefusedFor}
use Rattle.lsm_open.proofs.CountedReads.{manifest_few}
use Rattle.lsm_open.proofs.OpeningRefusals.{load_refused}
use Rattle.lsm_device.proofs.Counting.{none_made}
use Rattle.lsm_open.proofs.OpeningReads.{root_counted, counted_by, counted_most}
use Rattle.lsm_open.proofs.OpenedStores.{load_fair, count_fair}
use Rattle.lsm_open.proofs.OpeningAnswers.{load_says, count_says, blocks_read, reads_none, reads_ok, reads_err, reads_wider, reads_joined}
use Rattle.lsm_root.specs.Installed.{IsNext}
use Rattle.lsm_root.specs.Layout.{IsGeometry, LieInside}
use Rattle.lsm_root.specs.Roots.{superblock_in}
use Rattle.lsm_open.proofs.counting.load_counted.Goals as goal

-- ---- what a count asks for

pub count_tables-requires-clause-geometry : goal.count_tables-requires-clause-geometry
count_tables-requires-clause-geometry g c = subst (λ (z : ℕ). IsGeometry z c.in_ok-loaded.loaded.log_sectors) (sym c.load.ensures.same_size) c.in_ok-loaded.ensures.fits.0

pub count_tables-requires-clause-inside : goal.count_tables-requires-clause-inside
count_tables-requires-clause-inside g c =
    subst (λ (z : ℕ). LieInside z c.in_ok-loaded.loaded.log_sectors c.in_ok-loaded.loaded.manifest.tables) (sym c.load.ensures.same_size) c.in_ok-loaded.ensures.inside

-- ---- the refusal

pub returns-in_err-loaded-clause-refusal : goal.returns-in_err-loaded-clause-refusal
returns-in_err-loaded-clause-refusal g c = λ t.
    let p = err_from_is_err_and c.from_residual-in_err-loaded.result c.from_residual-in_err-loaded.ensures.1 in
    rw (p.1, p.2) (load_says _ c.in_err-loaded.field-0.0 (c.in_err-loaded.ensures.loaded t))

pub returns-in_err-manifest-clause-refusal : goal.returns-in_err-manifest-clause-refusal
returns-in_err-manifest-clause-refusal g c = λ t.
    let m = c.in_ok-loaded.loaded.manifest in
    let n = c.in_ok-loaded.loaded.log_sectors in
    let e = c.in_err-manifest.field-0.0 in
    let p = err_from_is_err_and c.from_residual-in_err-manifest.result c.from_residual-in_err-manifest.ensures.1 in
    let says = subst (λ (h : List Disk). IsRefusedFor (counted n (seen (present h)) m) e) (c.load.ensures.unchanged t) (c.in_err-manifest.ensures.told (rw c.load.ensures.same_lasting t)) in
    rw (p.1, p.2) (count_says _ n m e (c.in_ok-loaded.ensures.loaded t) says)

pub returns-in_err-clone-clause-refused : goal.returns-in_err-clone-clause-refused
returns-in_err-clone-clause-refused g c =
    let p = err_from_is_err_and c.from_residual.result c.from_residual.ensures.1 in
    rw (p.1, p.2) (inr (inr (inl refl)))

pub returns-in_err-loaded-clause-refused : goal.returns-in_err-loaded-clause-refused
returns-in_err-loaded-clause-refused g c =
    let p = err_from_is_err_and c.from_residual-in_err-loaded.result c.from_residual-in_err-loaded.ensures.1 in
    rw (p.1, p.2) (load_refused c.in_err-loaded.field-0.0 c.in_err-loaded.ensures.refused)

pub returns-in_err-manifest-clause-refused : goal.returns-in_err-manifest-clause-refused
returns-in_err-manifest-clause-refused g c =
    let p = err_from_is_err_and c.from_residual-in_err-manifest.result c.from_residual-in_err-manifest.ensures.1 in
    rw (p.1, p.2) (inr c.in_err-manifest.ensures.refused)

-- ---- fair refusals

pub returns-in_err-clone-clause-fair : goal.returns-in_err-clone-clause-fair
returns-in_err-clone-clause-fair g c = λ k left t is.
    let p = err_from_is_err_and c.from_residual.result c.from_residual.ensures.1 in
    rw (p.1, p.2) (inl refl)

pub returns-in_err-loaded-clause-fair : goal.returns-in_err-loaded-clause-fair
returns-in_err-loaded-clause-fair g c = λ k left t is.
    let p = err_from_is_err_and c.from_residual-in_err-loaded.result c.from_residual-in_err-loaded.ensures.1 in
    rw (p.1, p.2) (load_fair k left _ c.in_err-loaded.field-0.0 is (c.in_err-loaded.ensures.loaded t))

pub returns-in_err-manifest-clause-fair : goal.returns-in_err-manifest-clause-fair
returns-in_err-manifest-clause-fair g c = λ k left t is.
    let m = c.in_ok-loaded.loaded.manifest in
    let n = c.in_ok-loaded.loaded.log_sectors in
    let e = c.in_err-manifest.field-0.0 in
    let p = err_from_is_err_and c.from_residual-in_err-manifest.result c.from_residual-in_err-manifest.ensures.1 in
    let says = subst (λ (h : List Disk). IsRefusedFor (counted n (seen (present h)) m) e) (c.load.ensures.unchanged t) (c.in_err-manifest.ensures.told (rw c.load.ensures.same_lasting t)) in
    rw (p.1, p.2) (count_fair k n left m _ e is (c.in_ok-loaded.ensures.loaded t) says)

-- ---- what was loaded

pub returns-clause-loaded : goal.returns-clause-loaded
returns-clause-loaded g c = λ t.
    let m = c.in_ok-loaded.loaded.manifest in
    let n = c.in_ok-loaded.loaded.log_sectors in
    let found = c.in_ok-manifest.manifest in
    record {
      stood = m;
      root = c.in_ok-loaded.ensures.loaded t;
      counted_is = subst (λ (h : List Disk). counted n (seen (present h)) m ≡ Some found) (c.load.ensures.unchanged t) (c.in_ok-manifest.ensures.told (rw c.load.ensures.same_lasting t));
    }

pub returns-clause-inside : goal.returns-clause-inside
returns-clause-inside g c = subst (λ (z : ℕ). LieInside z c.in_ok-loaded.loaded.log_sectors c.in_ok-manifest.manifest.tables) c.load.ensures.same_size c.in_ok-manifest.ensures.inside

pub returns-clause-next : goal.returns-clause-next
returns-clause-next g c = λ t.
    let D = g.D.Device in
    let old = D.medium c.args.device.now in
    subst (λ (x : Contents). IsNext old.size c.in_ok-loaded.loaded.log_sectors (x.generation + 1) (superblock_in (seen (disk old)))) (sym c.in_ok-manifest.ensures.same) (c.in_ok-loaded.ensures.next t)

-- ---- the device

pub returns-in_err-clone-clause-device : goal.returns-in_err-clone-clause-device
returns-in_err-clone-clause-device g c =
    let p = err_from_is_err_and c.from_residual.result c.from_residual.ensures.1 in
    rw (p.1, p.2) (reads_none 524354 _)

pub returns-in_err-loaded-clause-device : goal.returns-in_err-loaded-clause-device
returns-in_err-loaded-clause-device g c =
    let D = g.D.Device in
    let p = err_from_is_err_and c.from_residual-in_err-loaded.result c.from_residual-in_err-loaded.ensures.1 in
    let e = c.in_err-loaded.field-0.0 in
    rw (p.1, p.2) (reads_wider 66 524354 (is_no_fault e) _ _ (omega arith)
    (reads_err 66 e (D.medium c.args.device.now) (D.medium c.load.new.device) c.load.ensures.counts c.in_err-loaded.ensures.faults c.in_err-loaded.ensures.stops c.load.ensures.unchanged c.load.ensures.same_size c.load.ensures.same_lasting))

pub returns-in_err-manifest-clause-device : goal.returns-in_err-manifest-clause-device
returns-in_err-manifest-clause-device g c =
    let D = g.D.Device in
    let p = err_from_is_err_and c.from_residual-in_err-manifest.result c.from_residual-in_err-manifest.ensures.1 in
    let e = c.in_err-manifest.field-0.0 in
    let m = c.in_ok-loaded.loaded.manifest in
    let first = reads_ok 66 (D.medium c.args.device.now) (D.medium c.load.new.device) c.load.ensures.counts c.in_ok-loaded.ensures.faults c.load.ensures.unchanged c.load.ensures.same_size c.load.ensures.same_lasting in
    let second = blocks_read (all_uncounted m.tables) 524288 (is_no_fault e) (D.medium c.load.new.device) (D.medium c.count_tables.new.device) (omega (arith, manifest_few m c.in_ok-loaded.ensures.fits.1)) c.in_err-manifest.ensures.device in
    rw (p.1, p.2) (reads_joined 66 524288 524354 (is_no_fault e) _ _ _ (omega arith) first second)

pub returns-clause-device : goal.returns-clause-device
returns-clause-device g c =
    let D = g.D.Device in
    let m = c.in_ok-loaded.loaded.manifest in
    let first = reads_ok 66 (D.medium c.args.device.now) (D.medium c.load.new.device) c.load.ensures.counts c.in_ok-loaded.ensures.faults c.load.ensures.unchanged c.load.ensures.same_size c.load.ensures.same_lasting in
    let second = blocks_read (all_uncounted m.tables) 524288 true (D.medium c.load.new.device) (D.medium c.count_tables.new.device) (omega (arith, manifest_few m c.in_ok-loaded.ensures.fits.1)) c.in_ok-manifest.ensures.device in
    reads_joined 66 524288 524354 true _ _ _ (omega arith) first second

-- ---- how often it reads

pub returns-in_err-clone-clause-reads : goal.returns-in_err-clone-clause-reads
returns-in_err-clone-clause-reads g c = λ t. none_made _ 0 0 _

pub returns-in_err-loaded-clause-reads : goal.returns-in_err-loaded-clause-reads
returns-in_err-loaded-clause-reads g c = λ t. root_counted _ _ _ c.load.ensures.counts

pub returns-in_err-manifest-clause-reads : goal.returns-in_err-manifest-clause-reads
returns-in_err-manifest-clause-reads g c = λ t.
    let l = c.in_ok-loaded.loaded in
    counted_by _ l.log_sectors l.manifest _ _ _ (c.in_ok-loaded.ensures.loaded t) c.load.ensures.counts c.in_err-manifest.ensures.device.calls

pub returns-clause-reads : goal.returns-clause-reads
returns-clause-reads g c = λ t.
    let l = c.in_ok-loaded.loaded in
    counted_by _ l.log_sectors l.manifest _ _ _ (c.in_ok-loaded.ensures.loaded t) c.load.ensures.counts c.in_ok-manifest.ensures.device.calls

pub returns-clause-most : goal.returns-clause-most
returns-clause-most g c = counted_most c.in_ok-loaded.loaded.manifest.tables c.in_ok-manifest.manifest.tables _ _ _ c.in_ok-manifest.ensures.tables c.load.ensures.counts c.in_ok-manifest.ensures.device.calls
