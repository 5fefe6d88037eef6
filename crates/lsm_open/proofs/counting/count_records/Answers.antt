use Rattle.std.proofs.Common.{◌≡◌, ◌+◌, ◌++◌, List, [], ◌∷◌, true, IsTrue, Some, None, take, drop, get_or, refl, sym, ap, subst, ◌∙◌, arith}
use Rattle.std.proofs.lemmas.Result.{err_from_is_err_and}
use Rattle.std.proofs.lemmas.List.{drop_more, take_more, map_push}
use Rattle.std.proofs.lemmas.List.Elements.{All-push}
use Rattle.lsm_codec.specs.Reading.{◌>>=◌}
use Rattle.lsm_codec.specs.TableRecords.{HasSizes, IsOfVersion}
use Rattle.lsm_codec.specs.declared.superblock.FormatVersion.TheVariants.{Two}
use Rattle.lsm_codec.specs.declared.table_record.TableRecord.{TableRecord}
use Rattle.lsm_device.specs.Disk.{Disk, seen}
use Rattle.lsm_device.specs.History.{present}
use Rattle.lsm_device.specs.Medium.{Lasting, disk}
use Rattle.lsm_device.specs.Refusals.{faultless}
use Rattle.lsm_open.specs.Counting.{deletes_of, counted_records, all_uncounted, uncounted_blocks, without_deletes, with_deletes}
use Rattle.lsm_open.specs.ToldTables.{IsRefusedFor, ReadsBlocks}
use Rattle.lsm_open.proofs.BlockReads.{reads_then}
use Rattle.lsm_open.proofs.CountedReads.{one_counted, count_refused, all_are_counted, reads_more, reads_few, sized_more}
use Rattle.lsm_open.proofs.ToldRuns.{drop_all}
use Rattle.lsm_open.proofs.counting.count_records.Goals as goal

pub loop-table-preserved : goal.loop-table-preserved
loop-table-preserved g c =
    let D = g.D.Device in
    let k = c.loop-table.invariant in
    let e = c.in_ok-deletes.ensures in
    let i = c.loop-table.table-index in
    let n = c.args.log_sectors in
    let all = c.args.listed.now in
    let lt = c.loop-table-test.true in
    let d : TableRecord = record { number = 0; level = 0; run = 0; first_block = 0; data_blocks = 0; index_blocks = 0; entries = 0; deletes = None } in
    let t : TableRecord = get_or all i d in
    let deletes = c.in_ok-deletes.deletes in
    let u : TableRecord = with_deletes t deletes in
    let old = D.medium c.args.device.now in
    let mid = D.medium c.loop-table.device in
    let new = D.medium c.deletes_of.new.device in
    let S = seen (disk old) in
    let items = c.loop-table.records.items in
    let sizes : HasSizes t = (c.requires.readable i d lt).sizes in
    record {
      same_size = e.device.only_reads.same_size ∙ k.same_size;
      device = reads_then (all_uncounted (take i all)) (uncounted_blocks t) (all_uncounted (take (i + 1) all)) true old mid new (omega (arith, reads_more all i d lt)) k.device e.device;
      same = rw (take_more all i d lt, c.in_ok-push.ensures.items)
          (map_push without_deletes items u ∙ ap (λ (l : List TableRecord). l ++ without_deletes t ∷ []) k.same ∙ sym (map_push without_deletes (take i all) t));
      sized = rw c.in_ok-push.ensures.items (All-push HasSizes items u k.sized (sized_more t deletes sizes e.among));
      version = rw c.in_ok-push.ensures.items (All-push (IsOfVersion Two) items u k.version refl);
      told = λ h.
          let tells : IsTrue mid.lasting.tells = subst (λ (l : Lasting). IsTrue l.tells) (sym k.device.only_reads.same_lasting) h in
          let told : deletes_of n S t ≡ Some deletes = subst (λ (h : List Disk). deletes_of n (seen (present h)) t ≡ Some deletes) (k.device.only_reads.unchanged h) (e.told tells) in
          let split = drop_more all i d lt in
          k.told h ∙ ap (λ (l : List TableRecord). counted_records n S l >>= λ (more : List TableRecord). Some (items ++ more)) split ∙ one_counted n S items t deletes (drop (i + 1) all) told
          ∙ ap (λ (its : List TableRecord). counted_records n S (drop (i + 1) all) >>= λ (more : List TableRecord). Some (its ++ more)) (sym c.in_ok-push.ensures.items);
    }

pub returns-in_err-deletes-clause-told : goal.returns-in_err-deletes-clause-told
returns-in_err-deletes-clause-told g c = λ h.
    let D = g.D.Device in
    let k = c.loop-table.invariant in
    let p = err_from_is_err_and c.from_residual-in_err-deletes.result c.from_residual-in_err-deletes.ensures.1 in
    let i = c.loop-table.table-index in
    let n = c.args.log_sectors in
    let all = c.args.listed.now in
    let d : TableRecord = record { number = 0; level = 0; run = 0; first_block = 0; data_blocks = 0; index_blocks = 0; entries = 0; deletes = None } in
    let t : TableRecord = get_or all i d in
    let mid = D.medium c.loop-table.device in
    let S = seen (disk (D.medium c.args.device.now)) in
    let items = c.loop-table.records.items in
    let e = c.in_err-deletes.field-0.0 in
    let tells : IsTrue mid.lasting.tells = subst (λ (l : Lasting). IsTrue l.tells) (sym k.device.only_reads.same_lasting) h in
    let told : IsRefusedFor (deletes_of n S t) e = subst (λ (h : List Disk). IsRefusedFor (deletes_of n (seen (present h)) t) e) (k.device.only_reads.unchanged h) (c.in_err-deletes.ensures.told tells) in
    rw (p.1, p.2) (count_refused n S all items t (drop (i + 1) all) e (k.told h ∙ ap (λ (l : List TableRecord). counted_records n S l >>= λ (more : List TableRecord). Some (items ++ more)) (drop_more all i d c.loop-table-test.true)) told)

pub returns-in_err-deletes-clause-device : goal.returns-in_err-deletes-clause-device
returns-in_err-deletes-clause-device g c =
    let D = g.D.Device in
    let p = err_from_is_err_and c.from_residual-in_err-deletes.result c.from_residual-in_err-deletes.ensures.1 in
    let i = c.loop-table.table-index in
    let all = c.args.listed.now in
    let d : TableRecord = record { number = 0; level = 0; run = 0; first_block = 0; data_blocks = 0; index_blocks = 0; entries = 0; deletes = None } in
    let t : TableRecord = get_or all i d in
    let old = D.medium c.args.device.now in
    let mid = D.medium c.loop-table.device in
    let new = D.medium c.deletes_of.new.device in
    rw (p.1, p.2) (subst (λ ok. ReadsBlocks (all_uncounted all) ok old new) (ap faultless c.in_err-deletes.was)
    (reads_then (all_uncounted (take i all)) (uncounted_blocks t) (all_uncounted all) (faultless c.deletes_of.result) old mid new (reads_few all i d c.loop-table-test.true) c.loop-table.invariant.device c.deletes_of.ensures.device))

pub returns-in_err-push-clause-device : goal.returns-in_err-push-clause-device
returns-in_err-push-clause-device g c =
    let D = g.D.Device in
    let p = err_from_is_err_and c.from_residual-in_err-push.result c.from_residual-in_err-push.ensures.1 in
    let i = c.loop-table.table-index in
    let all = c.args.listed.now in
    let d : TableRecord = record { number = 0; level = 0; run = 0; first_block = 0; data_blocks = 0; index_blocks = 0; entries = 0; deletes = None } in
    let t : TableRecord = get_or all i d in
    let old = D.medium c.args.device.now in
    let mid = D.medium c.loop-table.device in
    let new = D.medium c.deletes_of.new.device in
    rw (p.1, p.2) (reads_then (all_uncounted (take i all)) (uncounted_blocks t) (all_uncounted all) true old mid new (reads_few all i d c.loop-table-test.true) c.loop-table.invariant.device c.in_ok-deletes.ensures.device)

pub returns-clause-told : goal.returns-clause-told
returns-clause-told g c = λ h.
    let S = seen (disk (g.D.Device.medium c.args.device.now)) in
    let all = c.args.listed.now in
    let i = c.loop-table.table-index in
    all_are_counted c.args.log_sectors S all (drop i all) c.loop-table.records.items (c.loop-table.invariant.told h) (drop_all i all (omega (arith, c.loop-table-test.false)))
