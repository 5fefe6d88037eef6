use Rattle.std.proofs.Common.{◌*◌, ℕ, true, List, length, All, sym, ap, subst, ◌∙◌, arith}
use Rattle.std.proofs.lemmas.Result.{err_from_is_err_and}
use Rattle.lsm_codec.specs.Pairs.{Pairwise}
use Rattle.lsm_codec.specs.TableRecords.{AreApart}
use Rattle.lsm_codec.specs.declared.table_record.TableRecord.{TableRecord}
use Rattle.lsm_device.specs.Disk.{seen}
use Rattle.lsm_device.specs.Medium.{disk}
use Rattle.lsm_device.specs.Refusals.{faultless}
use Rattle.lsm_device.specs.declared.refusal.Refusal.{Refusal}
use Rattle.lsm_levels.specs.Levels.{places}
use Rattle.lsm_device.proofs.Counting.{AtMost-joined, AtMost-wider}
use Rattle.lsm_open.specs.ToldTables.{blocks_beside_data, beside_data_from, IsReadable}
use Rattle.lsm_open.proofs.BlockReads.{nothing_read, reads_then}
use Rattle.lsm_open.proofs.LevelsTold.{levels_told}
use Rattle.lsm_open.proofs.NamedRecords.{read_have_named}
use Rattle.lsm_open.proofs.ReadLevels.{levels_refused_before, runs_behind, runs_before, all_within, all_outlined, all_numbered, all_readable, tables_apart}
use Rattle.lsm_open.proofs.RunCounts.{few_blocks, few_for_each}
use Rattle.lsm_open.proofs.StandingLevels.{levels_those}
use Rattle.lsm_open.proofs.StandingRuns.{other_refusal}
use Rattle.lsm_open.proofs.tables.read_tables.Goals as goal

pub claim_extents-requires-clause-apart : goal.claim_extents-requires-clause-apart
claim_extents-requires-clause-apart g c = subst (λ (ts : List TableRecord). Pairwise AreApart ts) (sym c.tables.ensures) (tables_apart c.args.manifest.now.tables c.requires.fits.fits.tables.agree)

pub read_newer-requires-clause-readable : goal.read_newer-requires-clause-readable
read_newer-requires-clause-readable g c =
    let m = c.args.manifest.now in
    let n = c.args.log_sectors in
    let old = g.D.Device.medium c.args.device.now in
    subst (λ (k : ℕ). All (IsReadable n k) m.tables) (sym c.in_ok-levels.ensures.device.only_reads.same_size)
    (all_readable old.size n c.requires.geometry m.next_table m.runs m.tables c.requires.fits.fits.tables.each c.requires.inside)

pub read_newer-requires-clause-deeper : goal.read_newer-requires-clause-deeper
read_newer-requires-clause-deeper g c =
    let D = g.D.Device in
    let m = c.args.manifest.now in
    let old = D.medium c.args.device.now in
    let mid = D.medium c.read_deeper.new.device in
    runs_behind c.args.log_sectors old mid m m.runs c.in_ok-levels.levels.deeper c.in_ok-levels.ensures.device.only_reads c.in_ok-levels.ensures.read

pub returns-clause-told : goal.returns-clause-told
returns-clause-told g c = λ t.
    let D = g.D.Device in
    let m = c.args.manifest.now in
    let n = c.args.log_sectors in
    let old = D.medium c.args.device.now in
    let mid = D.medium c.read_deeper.new.device in
    let levels = c.read_newer.new.levels in
    let read = runs_before n old mid m 0 (places levels) c.in_ok-levels.ensures.device.only_reads c.in_ok-read_newer.ensures.read in
    levels_told n old.lasting.tells (seen (disk old)) m t levels read c.in_ok-read_newer.ensures.runs (ap length c.in_ok-read_newer.ensures.same ∙ c.in_ok-levels.ensures.four)

pub returns-clause-within : goal.returns-clause-within
returns-clause-within g c =
    let D = g.D.Device in
    let m = c.args.manifest.now in
    let n = c.args.log_sectors in
    let old = D.medium c.args.device.now in
    let mid = D.medium c.read_deeper.new.device in
    all_within n old.size mid.lasting.tells (seen (disk mid)) m 0 (places c.read_newer.new.levels)
    (all_readable old.size n c.requires.geometry m.next_table m.runs m.tables c.requires.fits.fits.tables.each c.requires.inside) c.in_ok-read_newer.ensures.read

pub returns-clause-outlined : goal.returns-clause-outlined
returns-clause-outlined g c =
    let D = g.D.Device in
    let m = c.args.manifest.now in
    let n = c.args.log_sectors in
    let old = D.medium c.args.device.now in
    let mid = D.medium c.read_deeper.new.device in
    all_outlined n old.size mid.lasting.tells (seen (disk mid)) m 0 (places c.read_newer.new.levels)
    (all_readable old.size n c.requires.geometry m.next_table m.runs m.tables c.requires.fits.fits.tables.each c.requires.inside) c.in_ok-read_newer.ensures.read

pub returns-clause-numbered : goal.returns-clause-numbered
returns-clause-numbered g c =
    let D = g.D.Device in
    let mid = D.medium c.read_deeper.new.device in
    all_numbered c.args.log_sectors mid.lasting.tells (seen (disk mid)) c.args.manifest.now 0 (places c.read_newer.new.levels) c.requires.fits.fits.tables.each c.in_ok-read_newer.ensures.read

-- ---- how often it reads

pub returns-in_err-levels-clause-reads : goal.returns-in_err-levels-clause-reads
returns-in_err-levels-clause-reads g c =
    let D = g.D.Device in
    let m = c.args.manifest.now in
    let old = D.medium c.args.device.now in
    let new = D.medium c.read_deeper.new.device in
    let ok = faultless c.read_deeper.result in
    (reads_then 0 (beside_data_from m m.runs) (blocks_beside_data m.tables) ok old old new (omega (arith, few_blocks m m.runs)) (nothing_read old) c.read_deeper.ensures.device).calls

pub returns-in_err-read_newer-clause-reads : goal.returns-in_err-read_newer-clause-reads
returns-in_err-read_newer-clause-reads g c =
    let D = g.D.Device in
    let m = c.args.manifest.now in
    let old = D.medium c.args.device.now in
    let mid = D.medium c.read_deeper.new.device in
    let new = D.medium c.read_newer.new.device in
    let ok = faultless c.read_newer.result in
    let newer = c.read_newer.ensures.device in
    (reads_then (beside_data_from m m.runs) newer.0 (blocks_beside_data m.tables) ok old mid new (omega (arith, newer.1)) c.in_ok-levels.ensures.device newer.2).calls

pub returns-clause-reads : goal.returns-clause-reads
returns-clause-reads g c =
    let D = g.D.Device in
    let m = c.args.manifest.now in
    let old = D.medium c.args.device.now in
    let mid = D.medium c.read_deeper.new.device in
    let new = D.medium c.read_newer.new.device in
    let newer = c.in_ok-read_newer.ensures.device in
    (reads_then (beside_data_from m m.runs) newer.0 (blocks_beside_data m.tables) true old mid new (omega (arith, newer.1)) c.in_ok-levels.ensures.device newer.2).calls

pub returns-in_err-levels-clause-calls : goal.returns-in_err-levels-clause-calls
returns-in_err-levels-clause-calls g c =
    let D = g.D.Device in
    let m = c.args.manifest.now in
    let old = D.medium c.args.device.now in
    let new = D.medium c.read_deeper.new.device in
    AtMost-wider (8 * beside_data_from m m.runs) 0 0 (56 * length m.tables) 0 0 old.calls new.calls
    (omega (arith, few_blocks m m.runs, few_for_each m.next_table m.runs m.tables c.requires.fits.fits.tables.each)) (omega arith) (omega arith) c.read_deeper.ensures.device.calls

pub returns-in_err-read_newer-clause-calls : goal.returns-in_err-read_newer-clause-calls
returns-in_err-read_newer-clause-calls g c =
    let D = g.D.Device in
    let m = c.args.manifest.now in
    let old = D.medium c.args.device.now in
    let mid = D.medium c.read_deeper.new.device in
    let new = D.medium c.read_newer.new.device in
    let newer = c.read_newer.ensures.device in
    AtMost-joined (8 * beside_data_from m m.runs) 0 0 (8 * newer.0) 0 0 (56 * length m.tables) 0 0 old.calls mid.calls new.calls
    (omega (arith, newer.1, few_for_each m.next_table m.runs m.tables c.requires.fits.fits.tables.each)) (omega arith) (omega arith) c.in_ok-levels.ensures.device.calls newer.2.calls

pub returns-clause-calls : goal.returns-clause-calls
returns-clause-calls g c =
    let D = g.D.Device in
    let m = c.args.manifest.now in
    let old = D.medium c.args.device.now in
    let mid = D.medium c.read_deeper.new.device in
    let new = D.medium c.read_newer.new.device in
    let newer = c.in_ok-read_newer.ensures.device in
    AtMost-joined (8 * beside_data_from m m.runs) 0 0 (8 * newer.0) 0 0 (56 * length m.tables) 0 0 old.calls mid.calls new.calls
    (omega (arith, newer.1, few_for_each m.next_table m.runs m.tables c.requires.fits.fits.tables.each)) (omega arith) (omega arith) c.in_ok-levels.ensures.device.calls newer.2.calls

-- ---- tables that stand

pub returns-in_err-levels-clause-stored : goal.returns-in_err-levels-clause-stored
returns-in_err-levels-clause-stored g c = λ t stand.
    let D = g.D.Device in
    let p = err_from_is_err_and c.from_residual-in_err-levels.result c.from_residual-in_err-levels.ensures.1 in
    let old = D.medium c.args.device.now in
    let e : Refusal = c.in_err-levels.field-0.0 in
    rw (p.1, p.2) (other_refusal c.args.log_sectors (seen (disk old)) c.args.manifest.now c.requires.fits.fits.tables.each c.requires.fits.records stand e (c.in_err-levels.ensures.none t))

pub returns-in_err-read_newer-clause-stored : goal.returns-in_err-read_newer-clause-stored
returns-in_err-read_newer-clause-stored g c = λ t stand.
    let D = g.D.Device in
    let p = err_from_is_err_and c.from_residual-in_err-read_newer.result c.from_residual-in_err-read_newer.ensures.1 in
    let m = c.args.manifest.now in
    let n = c.args.log_sectors in
    let old = D.medium c.args.device.now in
    let mid = D.medium c.read_deeper.new.device in
    let e : Refusal = c.in_err-read_newer.field-0.0 in
    rw (p.1, p.2) (other_refusal n (seen (disk old)) m c.requires.fits.fits.tables.each c.requires.fits.records stand e (levels_refused_before n old mid m e c.in_ok-levels.ensures.device.only_reads c.in_err-read_newer.ensures.none t))

pub returns-clause-named : goal.returns-clause-named
returns-clause-named g c =
    let D = g.D.Device in
    let mid = D.medium c.read_deeper.new.device in
    read_have_named c.args.manifest.now c.requires.fits.fits c.args.log_sectors mid.lasting.tells (seen (disk mid)) c.read_newer.new.levels c.in_ok-read_newer.ensures.runs (ap length c.in_ok-read_newer.ensures.same ∙ c.in_ok-levels.ensures.four) c.in_ok-read_newer.ensures.read

pub returns-clause-stored : goal.returns-clause-stored
returns-clause-stored g c = λ t stand.
    let D = g.D.Device in
    let m = c.args.manifest.now in
    let n = c.args.log_sectors in
    let old = D.medium c.args.device.now in
    let mid = D.medium c.read_deeper.new.device in
    let levels = c.read_newer.new.levels in
    let read = runs_before n old mid m 0 (places levels) c.in_ok-levels.ensures.device.only_reads c.in_ok-read_newer.ensures.read in
    levels_those n (seen (disk old)) m c.requires.fits.fits c.requires.fits.records stand old.lasting.tells t levels c.in_ok-read_newer.ensures.runs (ap length c.in_ok-read_newer.ensures.same ∙ c.in_ok-levels.ensures.four) read
