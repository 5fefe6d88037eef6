use Rattle.std.proofs.Common.{◌≡◌, ◌∙◌, List, Some, true, sym, ap, subst}
use Rattle.std.specs.Prelude.{option_map, All, map}
use Rattle.std.proofs.lemmas.Result.{err_from_is_err_and}
use Rattle.lsm_codec.specs.Manifests.{Contents, IsManifestOf}
use Rattle.lsm_codec.specs.declared.superblock.FormatVersion.TheVariants.{Two}
use Rattle.lsm_codec.specs.declared.table_record.TableRecord.{TableRecord}
use Rattle.lsm_device.specs.Disk.{seen}
use Rattle.lsm_device.specs.Medium.{disk}
use Rattle.lsm_device.specs.Refusals.{faultless}
use Rattle.lsm_open.specs.Counting.{counted_records, with_tables, without_deletes, all_uncounted}
use Rattle.lsm_open.specs.ToldTables.{IsRefusedFor, IsReadable, ReadsBlocks}
use Rattle.lsm_open.proofs.CountedManifests.{records_fit, records_inside}
use Rattle.lsm_open.proofs.CountedReads.{manifest_refused}
use Rattle.lsm_open.proofs.ReadLevels.{all_readable}
use Rattle.lsm_root.specs.Layout.{LieInside}
use Rattle.lsm_open.proofs.counting.count_tables.Goals as goal

pub count_records-requires-clause-readable : goal.count_records-requires-clause-readable
count_records-requires-clause-readable g c =
    let m = c.args.manifest in
    let n = c.args.log_sectors in
    let size = (g.D.Device.medium c.args.device.now).size in
    subst (λ (ts : List TableRecord). All (IsReadable n size) ts) (sym c.tables.ensures) (all_readable size n c.requires.geometry m.next_table m.runs m.tables c.requires.fits.tables.each c.requires.inside)

-- ---- refused

pub returns-in_err-tables-clause-told : goal.returns-in_err-tables-clause-told
returns-in_err-tables-clause-told g c = λ h.
    let m = c.args.manifest in
    let n = c.args.log_sectors in
    let S = seen (disk (g.D.Device.medium c.args.device.now)) in
    let e = c.in_err-tables.field-0.0 in
    let p = err_from_is_err_and c.from_residual-in_err-tables.result c.from_residual-in_err-tables.ensures.1 in
    let told : IsRefusedFor (counted_records n S m.tables) e = subst (λ (ts : List TableRecord). IsRefusedFor (counted_records n S ts) e) c.tables.ensures (c.in_err-tables.ensures.told h) in
    rw (p.1, p.2) (manifest_refused n S m e told)

pub returns-in_err-tables-clause-device : goal.returns-in_err-tables-clause-device
returns-in_err-tables-clause-device g c =
    let D = g.D.Device in
    let p = err_from_is_err_and c.from_residual-in_err-tables.result c.from_residual-in_err-tables.ensures.1 in
    let old = D.medium c.args.device.now in
    let new = D.medium c.count_records.new.device in
    rw (p.1, p.2) (subst (λ ok. ReadsBlocks (all_uncounted c.args.manifest.tables) ok old new) (ap faultless c.in_err-tables.was)
    (subst (λ (ts : List TableRecord). ReadsBlocks (all_uncounted ts) (faultless c.count_records.result) old new) c.tables.ensures c.count_records.ensures.device))

-- ---- counted

pub returns-clause-told : goal.returns-clause-told
returns-clause-told g c = λ h.
    let m = c.args.manifest in
    let n = c.args.log_sectors in
    let S = seen (disk (g.D.Device.medium c.args.device.now)) in
    let us = c.in_ok-tables.tables.items in
    let told : counted_records n S m.tables ≡ Some us = subst (λ (ts : List TableRecord). counted_records n S ts ≡ Some us) c.tables.ensures (c.in_ok-tables.ensures.told h) in
    ap (option_map (with_tables m)) told ∙ ap (λ (x : Contents). Some x) (sym c.with_tables.ensures)

pub returns-clause-fits : goal.returns-clause-fits
returns-clause-fits g c =
    let m = c.args.manifest in
    let us = c.in_ok-tables.tables.items in
    let e = c.in_ok-tables.ensures in
    let same : map without_deletes us ≡ map without_deletes m.tables = subst (λ (ts : List TableRecord). map without_deletes us ≡ map without_deletes ts) c.tables.ensures e.same in
    subst (λ (x : Contents). IsManifestOf Two x) (sym c.with_tables.ensures) (records_fit m us c.requires.fits same e.sized e.version)

pub returns-clause-inside : goal.returns-clause-inside
returns-clause-inside g c =
    let m = c.args.manifest in
    let n = c.args.log_sectors in
    let size = (g.D.Device.medium c.args.device.now).size in
    let us = c.in_ok-tables.tables.items in
    let same : map without_deletes us ≡ map without_deletes m.tables = subst (λ (ts : List TableRecord). map without_deletes us ≡ map without_deletes ts) c.tables.ensures c.in_ok-tables.ensures.same in
    subst (λ (x : Contents). LieInside size n x.tables) (sym c.with_tables.ensures) (records_inside size n m.tables us same c.requires.inside)

pub returns-clause-same : goal.returns-clause-same
returns-clause-same g c = c.with_tables.ensures ∙ ap (λ (x : Contents). with_tables c.args.manifest x.tables) (sym c.with_tables.ensures)

pub returns-clause-tables : goal.returns-clause-tables
returns-clause-tables g c =
    let m = c.args.manifest in
    let us = c.in_ok-tables.tables.items in
    let same : map without_deletes us ≡ map without_deletes m.tables = subst (λ (ts : List TableRecord). map without_deletes us ≡ map without_deletes ts) c.tables.ensures c.in_ok-tables.ensures.same in
    ap (λ (x : Contents). map without_deletes x.tables) c.with_tables.ensures ∙ same

pub returns-clause-device : goal.returns-clause-device
returns-clause-device g c =
    let D = g.D.Device in
    subst (λ (ts : List TableRecord). ReadsBlocks (all_uncounted ts) true (D.medium c.args.device.now) (D.medium c.count_records.new.device)) c.tables.ensures c.in_ok-tables.ensures.device
