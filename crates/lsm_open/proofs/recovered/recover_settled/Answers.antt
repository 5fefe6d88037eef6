use Rattle.std.proofs.Common.{◌≡◌, ◌∙◌, ◌+◌, ℕ, List, All, ap, inr, sym, subst, arith}
use Rattle.std.specs.Prelude.{option_map}
use Rattle.std.specs.Arc.{arc_value}
use Rattle.std.proofs.lemmas.Result.{err_from_is_err_and}
use Rattle.lsm_codec.specs.Manifests.{Contents, sector_count}
use Rattle.lsm_codec.specs.TableRecords.{IsOfVersion}
use Rattle.lsm_codec.specs.declared.superblock.FormatVersion.TheVariants.{Two}
use Rattle.lsm_codec.specs.declared.table_record.TableRecord.{TableRecord}
use Rattle.lsm_device.specs.Calls.{faults_after, AtMost}
use Rattle.lsm_device.specs.Disk.{Disk, seen}
use Rattle.lsm_device.specs.History.{present, EachSince}
use Rattle.lsm_device.specs.Medium.{disk}
use Rattle.lsm_device.specs.Outcomes.{Leaves}
use Rattle.lsm_device.specs.Refusals.{is_no_fault}
use Rattle.lsm_device.proofs.Counting.{AtMost-joined, AtMost-wider}
use Rattle.lsm_open.specs.Layout.{layout_of}
use Rattle.lsm_open.specs.Placements.{Placement, contents_for}
use Rattle.lsm_open.specs.ReadParts.{sectors_read_most}
use Rattle.lsm_open.specs.Recovering.{placed_in, IsReopened, IsRecovered, AreWithinLimits}
use Rattle.lsm_open.specs.Reopening.{next_contents}
use Rattle.lsm_open.proofs.NamedRecords.{records_told}
use Rattle.lsm_open.proofs.NextLayouts.{least_kept}
use Rattle.lsm_open.proofs.OpeningRefusals.{from_memory}
use Rattle.lsm_open.proofs.OpeningReads.{read_alone, then_installed}
use Rattle.lsm_open.proofs.OpenedStores.{placed_kept, contents_kept, within_kept, reopened_kept, rests_stay_standing, installing_kept, recovered_kept, ready_kept, memory_fair}
use Rattle.lsm_open.proofs.OpeningAnswers.{written_once}
use Rattle.lsm_root.specs.Counted.{CallsMade}
use Rattle.lsm_root.specs.Installed.{IsOldOrNew, IsInstalled}
use Rattle.lsm_root.specs.Layout.{IsGeometry, LieInside}
use Rattle.lsm_root.specs.Roots.{Stands}
use Rattle.lsm_open.proofs.recovered.recover_settled.Goals as goal

-- ---- what the installation asks for

pub reopen-requires-clause-geometry : goal.reopen-requires-clause-geometry
reopen-requires-clause-geometry g c = subst (λ (z : ℕ). IsGeometry z c.in_ok-read.read.loaded.log_sectors) (sym c.read_parts.ensures.device.same_size) c.in_ok-read.ensures.read.geometry

pub reopen-requires-clause-fits : goal.reopen-requires-clause-fits
reopen-requires-clause-fits g c =
    let read = c.in_ok-read.ensures.read in
    record { fits = read.fits; records = subst (All (IsOfVersion Two)) read.named.records (records_told c.in_ok-read.read.levels) }

pub reopen-requires-clause-inside : goal.reopen-requires-clause-inside
reopen-requires-clause-inside g c =
    subst (λ (z : ℕ). LieInside z c.in_ok-read.read.loaded.log_sectors c.in_ok-read.read.loaded.manifest.tables) (sym c.read_parts.ensures.device.same_size) c.in_ok-read.ensures.read.inside

pub reopen-requires-clause-has_next : goal.reopen-requires-clause-has_next
reopen-requires-clause-has_next g c = c.in_ok-read.ensures.read.has_next

pub reopen-requires-clause-come : goal.reopen-requires-clause-come
reopen-requires-clause-come g c = c.in_ok-read.ensures.read.come

pub reopen-requires-clause-ready : goal.reopen-requires-clause-ready
reopen-requires-clause-ready g c =
    let D = g.D.Device in
    let r = c.in_ok-read.read in
    ready_kept r.loaded.log_sectors r.kept.count r.loaded.manifest r.kept.closed.items (option_map arc_value r.kept.sealed) r.levels (D.medium c.args.device.now) (D.medium c.read_parts.new.device) c.in_ok-read.ensures.device c.requires.rests c.in_ok-read.ensures.told

-- ---- refusals

pub returns-in_err-read-clause-refusal : goal.returns-in_err-read-clause-refusal
returns-in_err-read-clause-refusal g c = λ t.
    let p = err_from_is_err_and c.from_residual.result c.from_residual.ensures.1 in
    rw (p.1, p.2) (c.in_err-read.ensures.refusal t)

pub returns-in_err-regions-clause-refusal : goal.returns-in_err-regions-clause-refusal
returns-in_err-regions-clause-refusal g c = λ t.
    let p = err_from_is_err_and c.from_residual-in_err-regions.result c.from_residual-in_err-regions.ensures.1 in
    rw (p.1, p.2) (inr c.in_err-regions.ensures.refused)

pub returns-clause-refusal : goal.returns-clause-refusal
returns-clause-refusal g c = λ t. c.in_ok-read.ensures.refusal t

pub returns-in_err-read-clause-refused : goal.returns-in_err-read-clause-refused
returns-in_err-read-clause-refused g c =
    let p = err_from_is_err_and c.from_residual.result c.from_residual.ensures.1 in
    rw (p.1, p.2) c.in_err-read.ensures.refused

pub returns-in_err-regions-clause-refused : goal.returns-in_err-regions-clause-refused
returns-in_err-regions-clause-refused g c =
    let p = err_from_is_err_and c.from_residual-in_err-regions.result c.from_residual-in_err-regions.ensures.1 in
    rw (p.1, p.2) (inr (from_memory c.in_err-regions.field-0.0 c.in_err-regions.ensures.refused))

pub returns-in_err-read-clause-fair : goal.returns-in_err-read-clause-fair
returns-in_err-read-clause-fair g c = λ n left t is.
    let p = err_from_is_err_and c.from_residual.result c.from_residual.ensures.1 in
    rw (p.1, p.2) (c.in_err-read.ensures.fair n left t is)

pub returns-in_err-regions-clause-fair : goal.returns-in_err-regions-clause-fair
returns-in_err-regions-clause-fair g c = λ n left t is.
    let p = err_from_is_err_and c.from_residual-in_err-regions.result c.from_residual-in_err-regions.ensures.1 in
    rw (p.1, p.2) (memory_fair left c.in_err-regions.field-0.0 c.in_err-regions.ensures.refused)

-- ---- the parts

pub returns-clause-within : goal.returns-clause-within
returns-clause-within g c =
    let D = g.D.Device in
    let r = c.in_ok-read.read in
    let m = r.loaded.manifest in
    let n = r.loaded.log_sectors in
    let l = layout_of c.in_ok-regions.regions in
    let sealed = option_map arc_value r.kept.sealed in
    let next = c.in_ok-regions.ensures.layout in
    let same = c.in_ok-regions.ensures.kept in
    let placed = placed_kept n r.kept.count m r.kept.closed.items l r.levels r.kept.records.items next same c.in_ok-read.ensures.read.named.runs c.in_ok-read.ensures.records in
    subst (λ (x : Placement). AreWithinLimits (D.medium c.args.device.now).size x r.kept.count sealed r.levels r.extents) (sym placed)
    (within_kept n r.kept.count m r.kept.closed.items l.open_region (least_kept n r.kept.count m r.kept.closed.items l next same) (D.medium c.args.device.now).size sealed r.levels r.extents c.in_ok-read.ensures.read)

pub returns-clause-reopened : goal.returns-clause-reopened
returns-clause-reopened g c = λ t.
    let D = g.D.Device in
    let old = (D.medium c.args.device.now).history in
    let r = c.in_ok-read.read in
    let m = r.loaded.manifest in
    let n = r.loaded.log_sectors in
    let l = layout_of c.in_ok-regions.regions in
    let sealed = option_map arc_value r.kept.sealed in
    let next = c.in_ok-regions.ensures.layout in
    let same = c.in_ok-regions.ensures.kept in
    let placed = placed_kept n r.kept.count m r.kept.closed.items l r.levels r.kept.records.items next same c.in_ok-read.ensures.read.named.runs c.in_ok-read.ensures.records in
    let installed : IsInstalled (present old) (Stands n (next_contents m r.kept.closed.items r.kept.count)) (disk (D.medium c.reopen.new.device)) =
    subst (λ (h : List Disk). IsInstalled (present h) (Stands n (next_contents m r.kept.closed.items r.kept.count)) (disk (D.medium c.reopen.new.device))) (c.read_parts.ensures.device.unchanged t)
    (c.in_ok-regions.ensures.installed (rw c.read_parts.ensures.device.same_lasting t)) in
    subst (λ (x : Placement). IsReopened (seen (present old)) x r.kept.count sealed r.levels (disk (D.medium c.reopen.new.device))) (sym placed)
    (reopened_kept n r.kept.count m r.kept.closed.items l.open_region (least_kept n r.kept.count m r.kept.closed.items l next same) (D.medium c.args.device.now).size (present old) (disk (D.medium c.reopen.new.device)) sealed r.levels
    (c.in_ok-read.ensures.told t) installed)

pub returns-clause-recovered : goal.returns-clause-recovered
returns-clause-recovered g c = λ k left t is.
    let D = g.D.Device in
    let old = (D.medium c.args.device.now).history in
    let r = c.in_ok-read.read in
    let m = r.loaded.manifest in
    let n = r.loaded.log_sectors in
    let l = layout_of c.in_ok-regions.regions in
    let sealed = option_map arc_value r.kept.sealed in
    let next = c.in_ok-regions.ensures.layout in
    let same = c.in_ok-regions.ensures.kept in
    let told = c.in_ok-read.ensures.told t in
    let placed = placed_kept n r.kept.count m r.kept.closed.items l r.levels r.kept.records.items next same c.in_ok-read.ensures.read.named.runs c.in_ok-read.ensures.records in
    let installed : IsInstalled (present old) (Stands n (next_contents m r.kept.closed.items r.kept.count)) (disk (D.medium c.reopen.new.device)) =
    subst (λ (h : List Disk). IsInstalled (present h) (Stands n (next_contents m r.kept.closed.items r.kept.count)) (disk (D.medium c.reopen.new.device))) (c.read_parts.ensures.device.unchanged t)
    (c.in_ok-regions.ensures.installed (rw c.read_parts.ensures.device.same_lasting t)) in
    subst (λ (x : Placement). IsRecovered k left x r.kept.count sealed r.levels (disk (D.medium c.reopen.new.device))) (sym placed)
    (recovered_kept (D.medium c.args.device.now).size k n r.kept.count left m r.kept.closed.items l.open_region sealed r.levels r.extents old is (c.root_laws.ensures.fits (seen (present old)) n told.root.stood told.root.root).0 (c.requires.rests t)
    c.in_ok-read.ensures.read told (least_kept n r.kept.count m r.kept.closed.items l next same) (disk (D.medium c.reopen.new.device)) installed)

-- ---- at each moment

pub returns-in_err-read-clause-any_moment : goal.returns-in_err-read-clause-any_moment
returns-in_err-read-clause-any_moment g c = λ k left t is. rests_stay_standing k left _ _ (c.read_parts.ensures.device.unchanged t) (c.requires.rests t) is

pub returns-in_err-regions-clause-any_moment : goal.returns-in_err-regions-clause-any_moment
returns-in_err-regions-clause-any_moment g c = λ k left t is.
    let D = g.D.Device in
    let old = (D.medium c.args.device.now).history in
    let r = c.in_ok-read.read in
    let m = r.loaded.manifest in
    let n = r.loaded.log_sectors in
    let told = c.in_ok-read.ensures.told t in
    let log = c.reopen.ensures.may_open in
    let each : EachSince (Leaves (IsOldOrNew (present old) (Stands n (next_contents m r.kept.closed.items r.kept.count)))) old (D.medium c.reopen.new.device).history =
    subst (λ (h : List Disk). EachSince (Leaves (IsOldOrNew (present h) (Stands n (next_contents m r.kept.closed.items r.kept.count)))) h (D.medium c.reopen.new.device).history) (c.read_parts.ensures.device.unchanged t)
    (c.reopen.ensures.any_moment (rw c.read_parts.ensures.device.same_lasting t)) in
    installing_kept (D.medium c.args.device.now).size k n r.kept.count left m r.kept.closed.items log.0 (option_map arc_value r.kept.sealed) r.levels r.extents old is (c.root_laws.ensures.fits (seen (present old)) n told.root.stood told.root.root).0 (c.requires.rests t)
    c.in_ok-read.ensures.read told log.1 (D.medium c.reopen.new.device).history each

pub returns-clause-any_moment : goal.returns-clause-any_moment
returns-clause-any_moment g c = λ k left t is.
    let D = g.D.Device in
    let old = (D.medium c.args.device.now).history in
    let r = c.in_ok-read.read in
    let m = r.loaded.manifest in
    let n = r.loaded.log_sectors in
    let told = c.in_ok-read.ensures.told t in
    let log = c.reopen.ensures.may_open in
    let each : EachSince (Leaves (IsOldOrNew (present old) (Stands n (next_contents m r.kept.closed.items r.kept.count)))) old (D.medium c.reopen.new.device).history =
    subst (λ (h : List Disk). EachSince (Leaves (IsOldOrNew (present h) (Stands n (next_contents m r.kept.closed.items r.kept.count)))) h (D.medium c.reopen.new.device).history) (c.read_parts.ensures.device.unchanged t)
    (c.reopen.ensures.any_moment (rw c.read_parts.ensures.device.same_lasting t)) in
    installing_kept (D.medium c.args.device.now).size k n r.kept.count left m r.kept.closed.items log.0 (option_map arc_value r.kept.sealed) r.levels r.extents old is (c.root_laws.ensures.fits (seen (present old)) n told.root.stood told.root.root).0 (c.requires.rests t)
    c.in_ok-read.ensures.read told log.1 (D.medium c.reopen.new.device).history each

-- ---- the calls

pub returns-in_err-read-clause-unwritten : goal.returns-in_err-read-clause-unwritten
returns-in_err-read-clause-unwritten g c =
    let p = err_from_is_err_and c.from_residual.result c.from_residual.ensures.1 in
    rw (p.1, p.2) (λ none. c.read_parts.ensures.device.calls)

pub returns-in_err-regions-clause-unwritten : goal.returns-in_err-regions-clause-unwritten
returns-in_err-regions-clause-unwritten g c =
    let p = err_from_is_err_and c.from_residual-in_err-regions.result c.from_residual-in_err-regions.ensures.1 in
    rw (p.1, p.2) (λ none. rw (c.in_err-regions.ensures.untouched none) c.read_parts.ensures.device.calls)

pub returns-in_err-read-clause-unchanged : goal.returns-in_err-read-clause-unchanged
returns-in_err-read-clause-unchanged g c = λ t.
    let p = err_from_is_err_and c.from_residual.result c.from_residual.ensures.1 in
    rw (p.1, p.2) (λ none. c.read_parts.ensures.device.unchanged t)

pub returns-in_err-regions-clause-unchanged : goal.returns-in_err-regions-clause-unchanged
returns-in_err-regions-clause-unchanged g c = λ t.
    let p = err_from_is_err_and c.from_residual-in_err-regions.result c.from_residual-in_err-regions.ensures.1 in
    rw (p.1, p.2) (λ none. rw (c.in_err-regions.ensures.untouched none) (c.read_parts.ensures.device.unchanged t))

pub returns-clause-made : goal.returns-clause-made
returns-clause-made g c =
    let D = g.D.Device in
    let r = c.in_ok-read.read in
    let m = r.loaded.manifest in
    let n = r.loaded.log_sectors in
    let l = layout_of c.in_ok-regions.regions in
    let next = c.in_ok-regions.ensures.layout in
    let same = c.in_ok-regions.ensures.kept in
    let says : contents_for (placed_in l r.levels r.kept.records.items) ≡ next_contents m r.kept.closed.items r.kept.count =
    ap contents_for (placed_kept n r.kept.count m r.kept.closed.items l r.levels r.kept.records.items next same c.in_ok-read.ensures.read.named.runs c.in_ok-read.ensures.records)
    ∙ contents_kept n r.kept.count m r.kept.closed.items l.open_region (least_kept n r.kept.count m r.kept.closed.items l next same) in
    written_once 587842 (contents_for (placed_in l r.levels r.kept.records.items)) (D.medium c.args.device.now).calls (D.medium c.read_parts.new.device).calls (D.medium c.reopen.new.device).calls c.read_parts.ensures.device.calls
    (subst (λ (x : Contents). CallsMade (sector_count x + 1) 2 (D.medium c.read_parts.new.device).calls (D.medium c.reopen.new.device).calls) (sym says) c.in_ok-regions.ensures.made)

pub returns-in_err-read-clause-calls : goal.returns-in_err-read-clause-calls
returns-in_err-read-clause-calls g c = AtMost-wider 587842 0 0 587842 42 2 _ _ (omega arith) (omega arith) (omega arith) c.read_parts.ensures.device.calls

pub returns-in_err-regions-clause-calls : goal.returns-in_err-regions-clause-calls
returns-in_err-regions-clause-calls g c = AtMost-joined 587842 0 0 0 42 2 587842 42 2 _ _ _ (omega arith) (omega arith) (omega arith) c.read_parts.ensures.device.calls c.reopen.ensures.calls

pub returns-clause-calls : goal.returns-clause-calls
returns-clause-calls g c = AtMost-joined 587842 0 0 0 42 2 587842 42 2 _ _ _ (omega arith) (omega arith) (omega arith) c.read_parts.ensures.device.calls c.reopen.ensures.calls

pub returns-in_err-read-clause-reads : goal.returns-in_err-read-clause-reads
returns-in_err-read-clause-reads g c = λ t.
    let D = g.D.Device in
    read_alone _ _ (D.medium c.read_parts.new.device).calls _ (c.read_parts.ensures.reads t)

pub returns-in_err-regions-clause-reads : goal.returns-in_err-regions-clause-reads
returns-in_err-regions-clause-reads g c = λ t. then_installed _ _ _ _ (c.read_parts.ensures.reads t) c.reopen.ensures.calls

pub returns-clause-reads : goal.returns-clause-reads
returns-clause-reads g c = λ t. then_installed _ _ _ _ (c.read_parts.ensures.reads t) c.reopen.ensures.calls

pub returns-clause-most : goal.returns-clause-most
returns-clause-most g c =
    let D = g.D.Device in
    let r = c.in_ok-read.read in
    let old = (D.medium c.args.device.now).calls in
    let new = (D.medium c.reopen.new.device).calls in
    subst (λ (ts : List TableRecord). AtMost (sectors_read_most c.in_ok-regions.regions.log_sectors ts) 42 2 old new) (sym c.in_ok-read.ensures.records)
    (subst (λ (n : ℕ). AtMost (sectors_read_most n r.loaded.manifest.tables) 42 2 old new) (sym c.in_ok-regions.ensures.layout.log_size)
    (then_installed (sectors_read_most r.loaded.log_sectors r.loaded.manifest.tables) _ _ _ c.in_ok-read.ensures.most c.reopen.ensures.calls))

pub returns-in_err-read-clause-faults : goal.returns-in_err-read-clause-faults
returns-in_err-read-clause-faults g c =
    let p = err_from_is_err_and c.from_residual.result c.from_residual.ensures.1 in
    rw (p.1, p.2) c.in_err-read.ensures.device.faults

pub returns-in_err-regions-clause-faults : goal.returns-in_err-regions-clause-faults
returns-in_err-regions-clause-faults g c =
    let p = err_from_is_err_and c.from_residual-in_err-regions.result c.from_residual-in_err-regions.ensures.1 in
    rw (p.1, p.2) (c.in_err-regions.ensures.faults ∙ ap (faults_after (is_no_fault c.in_err-regions.field-0.0)) c.in_ok-read.ensures.device.faults)

pub returns-clause-faults : goal.returns-clause-faults
returns-clause-faults g c = c.in_ok-regions.ensures.faults ∙ c.in_ok-read.ensures.device.faults

pub returns-in_err-read-clause-stops : goal.returns-in_err-read-clause-stops
returns-in_err-read-clause-stops g c =
    let p = err_from_is_err_and c.from_residual.result c.from_residual.ensures.1 in
    rw (p.1, p.2) (λ io. c.in_err-read.ensures.device.stops (ap is_no_fault io))

pub returns-in_err-read-clause-same_size : goal.returns-in_err-read-clause-same_size
returns-in_err-read-clause-same_size g c = c.read_parts.ensures.device.same_size

pub returns-in_err-regions-clause-same_size : goal.returns-in_err-regions-clause-same_size
returns-in_err-regions-clause-same_size g c = c.reopen.ensures.same_size ∙ c.read_parts.ensures.device.same_size

pub returns-clause-same_size : goal.returns-clause-same_size
returns-clause-same_size g c = c.reopen.ensures.same_size ∙ c.read_parts.ensures.device.same_size

pub returns-in_err-read-clause-same_lasting : goal.returns-in_err-read-clause-same_lasting
returns-in_err-read-clause-same_lasting g c = c.read_parts.ensures.device.same_lasting

pub returns-in_err-regions-clause-same_lasting : goal.returns-in_err-regions-clause-same_lasting
returns-in_err-regions-clause-same_lasting g c = c.reopen.ensures.same_lasting ∙ c.read_parts.ensures.device.same_lasting

pub returns-clause-same_lasting : goal.returns-clause-same_lasting
returns-clause-same_lasting g c = c.reopen.ensures.same_lasting ∙ c.read_parts.ensures.device.same_lasting
