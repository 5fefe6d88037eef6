use Rattle.std.proofs.Common.{◌≡◌, ◌+◌, ◌*◌, ◌++◌, ℕ, List, true, IsTrue, sym, ap, subst, ◌∙◌, arith}
use Rattle.std.specs.List.{flat_map}
use Rattle.std.proofs.lemmas.Result.{err_from_is_err_and}
use Rattle.lsm_cache.specs.Reads.{block_at}
use Rattle.lsm_device.specs.Disk.{Disk, seen}
use Rattle.lsm_device.specs.History.{present}
use Rattle.lsm_device.specs.Medium.{Lasting, disk}
use Rattle.lsm_device.specs.Refusals.{faultless}
use Rattle.lsm_levels.specs.Stored.{blocks_from}
use Rattle.lsm_open.specs.ToldTables.{ReadsBlocks}
use Rattle.lsm_open.proofs.BlockReads.{reads_then, one_more_joined}
use Rattle.lsm_open.proofs.tables.read_data_blocks.Goals as goal

pub returns-in_err-read_data_block-clause-device : goal.returns-in_err-read_data_block-clause-device
returns-in_err-read_data_block-clause-device g c =
    let D = g.D.Device in
    let p = err_from_is_err_and c.from_residual-in_err-read_data_block.result c.from_residual-in_err-read_data_block.ensures.1 in
    let old = D.medium c.args.device.now in
    let mid = D.medium c.loop-i.device in
    let new = D.medium c.read_data_block.new.device in
    rw (p.1, p.2) (subst (λ ok. ReadsBlocks c.args.blocks ok old new) (ap faultless c.in_err-read_data_block.was)
    (reads_then c.loop-i.i 1 c.args.blocks (faultless c.read_data_block.result) old mid new (omega (arith, c.loop-i-test.true)) c.loop-i.invariant.device c.read_data_block.ensures.device))

pub returns-in_err-extend_from_slice-clause-device : goal.returns-in_err-extend_from_slice-clause-device
returns-in_err-extend_from_slice-clause-device g c =
    let D = g.D.Device in
    let p = err_from_is_err_and c.from_residual-in_err-extend_from_slice.result c.from_residual-in_err-extend_from_slice.ensures.1 in
    let old = D.medium c.args.device.now in
    let mid = D.medium c.loop-i.device in
    let new = D.medium c.read_data_block.new.device in
    rw (p.1, p.2) (reads_then c.loop-i.i 1 c.args.blocks true old mid new (omega (arith, c.loop-i-test.true)) c.loop-i.invariant.device c.in_ok-read_data_block.ensures.device)

pub loop-i-preserved : goal.loop-i-preserved
loop-i-preserved g c =
    let D = g.D.Device in
    let k = c.loop-i.invariant in
    let e = c.in_ok-read_data_block.ensures in
    let i = c.loop-i.i in
    let at = c.args.area + 8 * c.args.first in
    let old = D.medium c.args.device.now in
    let mid = D.medium c.loop-i.device in
    let new = D.medium c.read_data_block.new.device in
    let S = seen (disk old) in
    let id : List ℕ → List ℕ = λ b. b in
    record {
      same_size = e.device.only_reads.same_size ∙ k.same_size;
      device = reads_then i 1 (i + 1) true old mid new (omega arith) k.device e.device;
      given = λ t.
          let tells : IsTrue mid.lasting.tells = subst (λ (l : Lasting). IsTrue l.tells) (sym k.device.only_reads.same_lasting) t in
          let next : c.args.area + 8 * (c.args.first + i) ≡ at + 8 * i = omega arith in
          let bytes : c.read_data_block.new.out ≡ block_at S (at + 8 * i) = e.given tells ∙ ap (λ (h : List Disk). block_at (seen (present h)) (c.args.area + 8 * (c.args.first + i))) (k.device.only_reads.unchanged t) ∙ ap (block_at S) next in
          c.in_ok-extend_from_slice.ensures.items ∙ ap (λ (l : List ℕ). l ++ c.read_data_block.new.out) (k.given t) ∙ ap (λ (l : List ℕ). flat_map id (blocks_from S at i) ++ l) bytes ∙ sym (one_more_joined S at i);
    }
