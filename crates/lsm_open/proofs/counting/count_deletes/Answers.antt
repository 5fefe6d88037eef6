use Rattle.std.proofs.Common.{◌≡◌, ◌+◌, ◌*◌, ℕ, List, IsTrue, None, true, inl, refl, sym, ap, subst, ◌∙◌, arith}
use Rattle.std.specs.Prelude.{option_map}
use Rattle.std.proofs.lemmas.Result.{err_from_is_err_and}
use Rattle.lsm_cache.specs.Reads.{block_at}
use Rattle.lsm_codec.specs.Entries.{block_of}
use Rattle.lsm_device.specs.Disk.{Disk, seen}
use Rattle.lsm_device.specs.History.{present}
use Rattle.lsm_device.specs.Medium.{Lasting, disk}
use Rattle.lsm_device.specs.Refusals.{faultless}
use Rattle.lsm_open.specs.Counting.{counted_more, deletes_counted}
use Rattle.lsm_open.specs.ToldTables.{ReadsBlocks}
use Rattle.lsm_open.proofs.BlockReads.{nothing_read, reads_then}
use Rattle.lsm_open.proofs.CountedReads.{blocks_left, data_blocks_are, left_counted, left_uncounted, none_left, counted_as, counted_otherwise}
use Rattle.lsm_table.specs.Stored.{table_of}
use Rattle.lsm_open.proofs.counting.count_deletes.Goals as goal

pub loop-i-init : goal.loop-i-init
loop-i-init g c = record {
  same_size = refl;
  device = nothing_read (g.D.Device.medium c.args.device.now);
  few = omega arith;
  among = omega arith;
  told = λ h. refl;
}

pub loop-i-preserved : goal.loop-i-preserved
loop-i-preserved g c =
    let D = g.D.Device in
    let k = c.loop-i.invariant in
    let e = c.in_ok-read_data_block.ensures in
    let i = c.loop-i.i in
    let lt = c.loop-i-test.true in
    let t = c.args.listed in
    let area = c.data_area-area.result in
    let at = area + 8 * t.first_block in
    let old = D.medium c.args.device.now in
    let mid = D.medium c.loop-i.device in
    let new = D.medium c.read_data_block.new.device in
    let S = seen (disk old) in
    let more = c.in-Some.more in
    let bytes : List ℕ = c.read_data_block.new.out in
    record {
      same_size = e.device.only_reads.same_size ∙ k.same_size;
      device = reads_then i 1 (i + 1) true old mid new (omega arith) k.device e.device;
      few = omega (arith, k.few, c.in-Some.ensures.few);
      among = c.in-Some.ensures.still_among;
      told = λ h.
          let tells : IsTrue mid.lasting.tells = subst (λ (l : Lasting). IsTrue l.tells) (sym k.device.only_reads.same_lasting) h in
          let next : area + 8 * (t.first_block + i) ≡ at + 8 * i = omega arith in
          let there : bytes ≡ block_at S (at + 8 * i) = e.given tells ∙ ap (λ (h : List Disk). block_at (seen (present h)) (area + 8 * (t.first_block + i))) (k.device.only_reads.unchanged h) ∙ ap (block_at S) next in
          k.told h ∙ left_counted S at t.data_blocks i c.loop-i.count more lt (c.in-Some.ensures.counted ∙ ap (λ (b : List ℕ). option_map (counted_more c.loop-i.count) (block_of b)) there);
    }

pub returns-in_err-read_data_block-clause-device : goal.returns-in_err-read_data_block-clause-device
returns-in_err-read_data_block-clause-device g c =
    let D = g.D.Device in
    let p = err_from_is_err_and c.from_residual.result c.from_residual.ensures.1 in
    let old = D.medium c.args.device.now in
    let mid = D.medium c.loop-i.device in
    let new = D.medium c.read_data_block.new.device in
    rw (p.1, p.2) (subst (λ ok. ReadsBlocks c.args.listed.data_blocks ok old new) (ap faultless c.in_err-read_data_block.was)
    (reads_then c.loop-i.i 1 c.args.listed.data_blocks (faultless c.read_data_block.result) old mid new (omega (arith, c.loop-i-test.true)) c.loop-i.invariant.device c.read_data_block.ensures.device))

pub returns-in_default-clause-told : goal.returns-in_default-clause-told
returns-in_default-clause-told g c = λ h.
    let D = g.D.Device in
    let k = c.loop-i.invariant in
    let e = c.in_ok-read_data_block.ensures in
    let i = c.loop-i.i in
    let t = c.args.listed in
    let area = c.data_area-area.result in
    let at = area + 8 * t.first_block in
    let old = D.medium c.args.device.now in
    let mid = D.medium c.loop-i.device in
    let S = seen (disk old) in
    let bytes : List ℕ = c.read_data_block.new.out in
    let tells : IsTrue mid.lasting.tells = subst (λ (l : Lasting). IsTrue l.tells) (sym k.device.only_reads.same_lasting) h in
    let next : area + 8 * (t.first_block + i) ≡ at + 8 * i = omega arith in
    let there : bytes ≡ block_at S (at + 8 * i) = e.given tells ∙ ap (λ (h : List Disk). block_at (seen (present h)) (area + 8 * (t.first_block + i))) (k.device.only_reads.unchanged h) ∙ ap (block_at S) next in
    let spelled : None ≡ option_map (counted_more c.loop-i.count) (block_of (block_at S (at + 8 * i))) =
    sym c.in_default.is ∙ c.with_block.ensures.counted ∙ ap (λ (b : List ℕ). option_map (counted_more c.loop-i.count) (block_of b)) there in
    let none = left_uncounted S at t.data_blocks i c.loop-i.count (table_of (blocks_left S at t.data_blocks 0)) c.loop-i-test.true (k.told h) spelled in
    inl (refl, ap (deletes_counted t.entries) (data_blocks_are S c.args.log_sectors t at (omega (arith, c.data_area-area.ensures)) ∙ none))

pub returns-in_default-clause-device : goal.returns-in_default-clause-device
returns-in_default-clause-device g c =
    let D = g.D.Device in
    let old = D.medium c.args.device.now in
    let mid = D.medium c.loop-i.device in
    let new = D.medium c.read_data_block.new.device in
    reads_then c.loop-i.i 1 c.args.listed.data_blocks true old mid new (omega (arith, c.loop-i-test.true)) c.loop-i.invariant.device c.in_ok-read_data_block.ensures.device

pub returns-then-count-listed-clause-told : goal.returns-then-count-listed-clause-told
returns-then-count-listed-clause-told g c = λ h.
    let k = c.loop-i.invariant in
    let t = c.args.listed in
    let at = c.data_area-area.result + 8 * t.first_block in
    let S = seen (disk (g.D.Device.medium c.args.device.now)) in
    let all = table_of (blocks_left S at t.data_blocks 0) in
    let found = none_left S at t.data_blocks c.loop-i.i c.loop-i.count all (omega (arith, c.loop-i-test.false)) (k.told h) in
    inl (refl, ap (deletes_counted t.entries) (data_blocks_are S c.args.log_sectors t at (omega (arith, c.data_area-area.ensures))) ∙ counted_otherwise all c.loop-i.count t.entries found c.if-count-listed.true)

pub returns-clause-told : goal.returns-clause-told
returns-clause-told g c = λ h.
    let k = c.loop-i.invariant in
    let t = c.args.listed in
    let at = c.data_area-area.result + 8 * t.first_block in
    let S = seen (disk (g.D.Device.medium c.args.device.now)) in
    let all = table_of (blocks_left S at t.data_blocks 0) in
    let found = none_left S at t.data_blocks c.loop-i.i c.loop-i.count all (omega (arith, c.loop-i-test.false)) (k.told h) in
    ap (deletes_counted t.entries) (data_blocks_are S c.args.log_sectors t at (omega (arith, c.data_area-area.ensures))) ∙ counted_as all c.loop-i.count t.entries found c.if-count-listed.false
