use Rattle.std.proofs.Common.{◌≡◌, ◌≤◌, ◌+◌, ◌++◌, List, true, IsTrue, Some, None, take, drop, get_or, sym, ap, subst, ◌∙◌, arith}
use Rattle.std.proofs.lemmas.Result.{err_from_is_err_and}
use Rattle.std.proofs.lemmas.List.{drop_more, take_more, take_all}
use Rattle.lsm_codec.specs.Reading.{◌>>=◌}
use Rattle.lsm_codec.specs.declared.table_record.TableRecord.{TableRecord}
use Rattle.lsm_device.specs.Disk.{Disk, seen}
use Rattle.lsm_device.specs.History.{present}
use Rattle.lsm_device.specs.Medium.{Lasting, disk}
use Rattle.lsm_device.specs.Refusals.{faultless}
use Rattle.lsm_levels.specs.Tables.{Table}
use Rattle.lsm_open.specs.ToldTables.{told_table, told_tables, blocks_beside_data, IsRefusedFor, ReadsBlocks}
use Rattle.lsm_open.proofs.BlockReads.{reads_then}
use Rattle.lsm_open.proofs.RunCounts.{one_more_beside, fewer_taken}
use Rattle.lsm_open.proofs.ToldRuns.{one_told, one_named, one_refused, all_told, drop_all}
use Rattle.lsm_open.proofs.tables.read_listed.Goals as goal

pub loop-table-preserved : goal.loop-table-preserved
loop-table-preserved g c =
    let D = g.D.Device in
    let k = c.loop-table.invariant in
    let e = c.in_ok-read_table.ensures in
    let i = c.loop-table.table-index in
    let n = c.args.log_sectors in
    let all = c.args.listed.now in
    let d : TableRecord = record { number = 0; level = 0; run = 0; first_block = 0; data_blocks = 0; index_blocks = 0; entries = 0; deletes = None } in
    let t : TableRecord = get_or all i d in
    let x = c.in_ok-read_table.field-0 in
    let old = D.medium c.args.device.now in
    let mid = D.medium c.loop-table.device in
    let new = D.medium c.read_table.new.device in
    let S = seen (disk old) in
    let items = c.loop-table.tables.items in
    record {
      same_size = e.device.only_reads.same_size ∙ k.same_size;
      device = reads_then (blocks_beside_data (take i all)) (t.index_blocks + 2) (blocks_beside_data (take (i + 1) all)) true old mid new (omega (arith, one_more_beside all i d c.loop-table-test.true)) k.device e.device;
      named = rw (take_more all i d c.loop-table-test.true, c.in_ok-push.ensures.items) (one_named (take i all) items t x k.named e.named);
      told = λ h.
          let tells : IsTrue mid.lasting.tells = subst (λ (l : Lasting). IsTrue l.tells) (sym k.device.only_reads.same_lasting) h in
          let told : told_table n S t ≡ Some x = subst (λ (h : List Disk). told_table n (seen (present h)) t ≡ Some x) (k.device.only_reads.unchanged h) (e.told tells) in
          let split = drop_more all i d c.loop-table-test.true in
          k.told h ∙ ap (λ (l : List TableRecord). told_tables n S l >>= λ (more : List Table). Some (items ++ more)) split ∙ one_told n S items t x (drop (i + 1) all) told
          ∙ ap (λ (its : List Table). told_tables n S (drop (i + 1) all) >>= λ (more : List Table). Some (its ++ more)) (sym c.in_ok-push.ensures.items);
    }

pub returns-in_err-read_table-clause-told : goal.returns-in_err-read_table-clause-told
returns-in_err-read_table-clause-told g c = λ h.
    let D = g.D.Device in
    let k = c.loop-table.invariant in
    let p = err_from_is_err_and c.from_residual-in_err-read_table.result c.from_residual-in_err-read_table.ensures.1 in
    let i = c.loop-table.table-index in
    let n = c.args.log_sectors in
    let all = c.args.listed.now in
    let d : TableRecord = record { number = 0; level = 0; run = 0; first_block = 0; data_blocks = 0; index_blocks = 0; entries = 0; deletes = None } in
    let t : TableRecord = get_or all i d in
    let mid = D.medium c.loop-table.device in
    let S = seen (disk (D.medium c.args.device.now)) in
    let items = c.loop-table.tables.items in
    let e = c.in_err-read_table.field-0.0 in
    let tells : IsTrue mid.lasting.tells = subst (λ (l : Lasting). IsTrue l.tells) (sym k.device.only_reads.same_lasting) h in
    let told : IsRefusedFor (told_table n S t) e = subst (λ (h : List Disk). IsRefusedFor (told_table n (seen (present h)) t) e) (k.device.only_reads.unchanged h) (c.in_err-read_table.ensures.told tells) in
    rw (p.1, p.2) (one_refused n S all items t (drop (i + 1) all) e (k.told h ∙ ap (λ (l : List TableRecord). told_tables n S l >>= λ (more : List Table). Some (items ++ more)) (drop_more all i d c.loop-table-test.true)) told)

pub returns-in_err-read_table-clause-device : goal.returns-in_err-read_table-clause-device
returns-in_err-read_table-clause-device g c =
    let D = g.D.Device in
    let p = err_from_is_err_and c.from_residual-in_err-read_table.result c.from_residual-in_err-read_table.ensures.1 in
    let i = c.loop-table.table-index in
    let all = c.args.listed.now in
    let m = blocks_beside_data all in
    let d : TableRecord = record { number = 0; level = 0; run = 0; first_block = 0; data_blocks = 0; index_blocks = 0; entries = 0; deletes = None } in
    let room : blocks_beside_data (take i all) + ((get_or all i d).index_blocks + 2) ≤ m = omega (arith, one_more_beside all i d c.loop-table-test.true, fewer_taken all (i + 1)) in
    let old = D.medium c.args.device.now in
    let mid = D.medium c.loop-table.device in
    let new = D.medium c.read_table.new.device in
    rw (p.1, p.2) (subst (λ ok. ReadsBlocks m ok old new) (ap faultless c.in_err-read_table.was)
    (reads_then (blocks_beside_data (take i all)) ((get_or all i d).index_blocks + 2) m (faultless c.read_table.result) old mid new room c.loop-table.invariant.device c.read_table.ensures.device))

pub returns-in_err-push-clause-device : goal.returns-in_err-push-clause-device
returns-in_err-push-clause-device g c =
    let D = g.D.Device in
    let p = err_from_is_err_and c.from_residual-in_err-push.result c.from_residual-in_err-push.ensures.1 in
    let i = c.loop-table.table-index in
    let all = c.args.listed.now in
    let m = blocks_beside_data all in
    let d : TableRecord = record { number = 0; level = 0; run = 0; first_block = 0; data_blocks = 0; index_blocks = 0; entries = 0; deletes = None } in
    let room : blocks_beside_data (take i all) + ((get_or all i d).index_blocks + 2) ≤ m = omega (arith, one_more_beside all i d c.loop-table-test.true, fewer_taken all (i + 1)) in
    let old = D.medium c.args.device.now in
    let mid = D.medium c.loop-table.device in
    let new = D.medium c.read_table.new.device in
    rw (p.1, p.2) (reads_then (blocks_beside_data (take i all)) ((get_or all i d).index_blocks + 2) m true old mid new room c.loop-table.invariant.device c.in_ok-read_table.ensures.device)

pub returns-clause-told : goal.returns-clause-told
returns-clause-told g c = λ h.
    let S = seen (disk (g.D.Device.medium c.args.device.now)) in
    let all = c.args.listed.now in
    let i = c.loop-table.table-index in
    all_told c.args.log_sectors S all (drop i all) c.loop-table.tables.items (c.loop-table.invariant.told h) (drop_all i all (omega (arith, c.loop-table-test.false)))

pub returns-clause-device : goal.returns-clause-device
returns-clause-device g c =
    let D = g.D.Device in
    let all = c.args.listed.now in
    subst (λ (ts : List TableRecord). ReadsBlocks (blocks_beside_data ts) true (D.medium c.args.device.now) (D.medium c.loop-table.device)) (take_all c.loop-table.table-index all (omega (arith, c.loop-table-test.false))) c.loop-table.invariant.device
