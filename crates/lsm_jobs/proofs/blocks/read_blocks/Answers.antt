use Rattle.std.proofs.Common.{◌≡◌, ◌+◌, ◌*◌, ℕ, Bool, true, false, IsTrue, List, Err, sym, ap, subst, ◌∙◌, arith}
use Rattle.std.proofs.lemmas.Result.{err_from_is_err_and}
use Rattle.lsm_device.specs.declared.refusal.Refusal.{Refusal}
use Rattle.lsm_device.specs.declared.refusal.Refusal.TheVariants.{BadTable}
use Rattle.lsm_device.specs.Disk.{Disk, seen}
use Rattle.lsm_device.specs.History.{present}
use Rattle.lsm_device.specs.Medium.{Lasting, disk}
use Rattle.lsm_device.specs.Refusals.{is_no_fault}
use Rattle.lsm_codec.specs.Versions.{Version}
use Rattle.lsm_codec.specs.Entries.{entries_in}
use Rattle.lsm_cache.specs.Reads.{block_at}
use Rattle.lsm_levels.specs.Stored.{blocks_from}
use Rattle.lsm_jobs.specs.Gathering.{items_in, GoesOn, ReadsBlocks}
use Rattle.lsm_jobs.proofs.GoingOn.{longer_by}
use Rattle.lsm_jobs.proofs.BlockReads.{block_read, block_faulted, reads_then, no_fault, block_added, block_refused, all_added}
use Rattle.lsm_jobs.proofs.blocks.read_blocks.Goals as goal

pub returns-in_err-read_block-clause-device : goal.returns-in_err-read_block-clause-device
returns-in_err-read_block-clause-device g c =
    let D = g.D.Device in
    let p = err_from_is_err_and c.from_residual.result c.from_residual.ensures.1 in
    let e = c.in_err-read_block.ensures in
    rw (p.1, p.2) (reads_then c.loop-i.i 1 c.args.blocks false (D.medium c.args.device.now) (D.medium c.loop-i.device) (D.medium c.read_block.new.device) (omega (arith, c.loop-i-test.true)) c.loop-i.invariant.device
    (block_faulted (D.medium c.loop-i.device) (D.medium c.read_block.new.device) e.faulted (record { same_size = e.same_size; same_lasting = e.same_lasting; unchanged = e.unchanged })))

pub returns-in_err-add_block-clause-bad : goal.returns-in_err-add_block-clause-bad
returns-in_err-add_block-clause-bad g c = λ t is new h.
    let D = g.D.Device in
    let k = c.loop-i.invariant in
    let at = c.args.sector + 8 * c.loop-i.i in
    let S = seen (disk (D.medium c.args.device.now)) in
    let run = c.loop-i.run.items in
    let p = err_from_is_err_and c.from_residual-in_err-add_block.result c.from_residual-in_err-add_block.ensures.1 in
    let tells : IsTrue ((D.medium c.loop-i.device).lasting.tells) = subst (λ (l : Lasting). IsTrue l.tells) (sym k.device.only_reads.same_lasting) t in
    let bytes : c.read_block.new.out ≡ block_at S at = c.in_ok-read_block.ensures.given tells ∙ ap (λ (h : List Disk). block_at (seen (present h)) at) (k.device.only_reads.unchanged t) in
    let same : c.add_block.result ≡ Err BadTable = c.in_err-add_block.was ∙ ap (λ (e : Refusal). Err e) (sym p.2) ∙ sym p.1 ∙ is in
    block_refused S c.args.sector c.args.blocks c.loop-i.i run c.args.run.now.items (items_in (blocks_from S c.args.sector c.args.blocks)) (omega (arith, c.loop-i-test.true)) (k.same t)
    (subst (λ (b : List ℕ). (v : List Version) → GoesOn run (entries_in b) v → ⊥) bytes (c.add_block.ensures.bad same)) new h

pub returns-in_err-add_block-clause-device : goal.returns-in_err-add_block-clause-device
returns-in_err-add_block-clause-device g c =
    let D = g.D.Device in
    let p = err_from_is_err_and c.from_residual-in_err-add_block.result c.from_residual-in_err-add_block.ensures.1 in
    let e = c.in_ok-read_block.ensures in
    let old = D.medium c.args.device.now in
    let mid = D.medium c.loop-i.device in
    let new = D.medium c.read_block.new.device in
    rw p.1 (subst (λ (ok : Bool). ReadsBlocks c.args.blocks ok old new) (sym (ap is_no_fault p.2 ∙ no_fault c.in_err-add_block.field-0.0 c.in_err-add_block.ensures.refused))
    (reads_then c.loop-i.i 1 c.args.blocks true old mid new (omega (arith, c.loop-i-test.true)) c.loop-i.invariant.device
    (block_read mid new e.counted (record { same_size = e.same_size; same_lasting = e.same_lasting; unchanged = e.unchanged }))))

pub loop-i-preserved : goal.loop-i-preserved
loop-i-preserved g c =
    let D = g.D.Device in
    let k = c.loop-i.invariant in
    let e = c.in_ok-read_block.ensures in
    let at = c.args.sector + 8 * c.loop-i.i in
    let old = D.medium c.args.device.now in
    let mid = D.medium c.loop-i.device in
    let new = D.medium c.read_block.new.device in
    let S = seen (disk old) in
    let run = c.loop-i.run.items in
    let after = c.add_block.new.run.items in
    record {
      same_size = e.same_size ∙ k.same_size;
      device = reads_then c.loop-i.i 1 (c.loop-i.i + 1) true old mid new (omega arith) k.device (block_read mid new e.counted (record { same_size = e.same_size; same_lasting = e.same_lasting; unchanged = e.unchanged }));
      same = λ t.
          let tells : IsTrue mid.lasting.tells = subst (λ (l : Lasting). IsTrue l.tells) (sym k.device.only_reads.same_lasting) t in
          let bytes : c.read_block.new.out ≡ block_at S at = e.given tells ∙ ap (λ (h : List Disk). block_at (seen (present h)) at) (k.device.only_reads.unchanged t) in
          block_added S c.args.sector c.args.blocks c.loop-i.i run after c.args.run.now.items (items_in (blocks_from S c.args.sector c.args.blocks)) (omega (arith, c.loop-i-test.true)) (k.same t)
          (subst (λ (b : List ℕ). GoesOn run (entries_in b) after) bytes c.in_ok-add_block.ensures.goes_on);
      longer = longer_by c.args.run.now.items run after k.longer c.in_ok-add_block.ensures.longer;
      ordered = c.in_ok-add_block.ensures.ordered;
    }

pub returns-clause-goes_on : goal.returns-clause-goes_on
returns-clause-goes_on g c = λ t.
    let D = g.D.Device in
    let S = seen (disk (D.medium c.args.device.now)) in
    all_added S c.args.sector c.args.blocks c.loop-i.i c.loop-i.run.items c.args.run.now.items (items_in (blocks_from S c.args.sector c.args.blocks)) (omega (arith, c.loop-i-test.false, c.loop-i.auto.i-end)) c.loop-i.invariant.ordered (c.loop-i.invariant.same t)
