use Rattle.std.proofs.Common.{◌≡◌, ◌+◌, ◌*◌, ℕ, List, true, IsTrue, sym, ap, subst, ◌∙◌, arith}
use Rattle.std.specs.List.{flat_map}
use Rattle.std.proofs.lemmas.Result.{err_from_is_err_and}
use Rattle.lsm_cache.specs.Reads.{block_at}
use Rattle.lsm_device.specs.Disk.{Disk, seen}
use Rattle.lsm_device.specs.History.{present}
use Rattle.lsm_device.specs.Medium.{Lasting, disk}
use Rattle.lsm_device.specs.Refusals.{faultless}
use Rattle.lsm_levels.specs.Stored.{blocks_from}
use Rattle.lsm_open.specs.ToldTables.{ReadsBlocks}
use Rattle.lsm_open.proofs.BlockReads.{reads_then, outline_is}
use Rattle.lsm_table.specs.Outlines.{outline_of}
use Rattle.lsm_open.proofs.tables.read_described.Goals as goal

pub returns-in_err-index-clause-device : goal.returns-in_err-index-clause-device
returns-in_err-index-clause-device g c =
    let D = g.D.Device in
    let p = err_from_is_err_and c.from_residual-in_err-index.result c.from_residual-in_err-index.ensures.1 in
    let x = c.args.listed.index_blocks in
    let old = D.medium c.args.device.now in
    let mid = D.medium c.read_data_block.new.device in
    let new = D.medium c.read_data_blocks.new.device in
    rw (p.1, p.2) (subst (λ ok. ReadsBlocks (x + 2) ok old new) (ap faultless c.in_err-index.was)
    (reads_then 1 x (x + 2) (faultless c.read_data_blocks.result) old mid new (omega arith) c.in_ok-read_data_block.ensures.device c.read_data_blocks.ensures.device))

pub returns-in_err-read_data_block-2-clause-device : goal.returns-in_err-read_data_block-2-clause-device
returns-in_err-read_data_block-2-clause-device g c =
    let D = g.D.Device in
    let p = err_from_is_err_and c.from_residual-in_err-read_data_block-2.result c.from_residual-in_err-read_data_block-2.ensures.1 in
    let x = c.args.listed.index_blocks in
    let old = D.medium c.args.device.now in
    let mid = D.medium c.read_data_block.new.device in
    let more = D.medium c.read_data_blocks.new.device in
    let new = D.medium c.read_data_block-2.new.device in
    rw (p.1, p.2) (subst (λ ok. ReadsBlocks (x + 2) ok old new) (ap faultless c.in_err-read_data_block-2.was)
    (reads_then (1 + x) 1 (x + 2) (faultless c.read_data_block-2.result) old more new (omega arith)
    (reads_then 1 x (1 + x) true old mid more (omega arith) c.in_ok-read_data_block.ensures.device c.in_ok-index.ensures.device) c.read_data_block-2.ensures.device))

pub returns-clause-given : goal.returns-clause-given
returns-clause-given g c = λ t.
    let D = g.D.Device in
    let u = c.args.listed in
    let n = c.args.log_sectors in
    let x = u.index_blocks in
    let area = c.data_area-area.result in
    let at = u.first_block + u.data_blocks in
    let old = D.medium c.args.device.now in
    let mid = D.medium c.read_data_block.new.device in
    let more = D.medium c.read_data_blocks.new.device in
    let one = c.in_ok-read_data_block.ensures in
    let two = c.in_ok-index.ensures in
    let three = c.in_ok-read_data_block-2.ensures in
    let S = seen (disk old) in
    let id : List ℕ → List ℕ = λ b. b in
    let tells_mid : IsTrue mid.lasting.tells = subst (λ (l : Lasting). IsTrue l.tells) (sym one.device.only_reads.same_lasting) t in
    let tells_more : IsTrue more.lasting.tells = subst (λ (l : Lasting). IsTrue l.tells) (sym two.device.only_reads.same_lasting) tells_mid in
    let past_mid : mid.history ≡ old.history = one.device.only_reads.unchanged t in
    let past_more : more.history ≡ old.history = two.device.only_reads.unchanged tells_mid ∙ past_mid in
    let filter : c.read_data_block.new.out ≡ block_at S (area + 8 * at) = one.given t in
    let index : c.in_ok-index.index.items ≡ flat_map id (blocks_from S (area + 8 * (at + 1)) x) = two.given tells_mid ∙ ap (λ (h : List Disk). flat_map id (blocks_from (seen (present h)) (area + 8 * (at + 1)) x)) past_mid in
    let footer : c.read_data_block-2.new.out ≡ block_at S (area + 8 * (at + 1 + x)) = three.given tells_more ∙ ap (λ (h : List Disk). block_at (seen (present h)) (area + 8 * (at + 1 + x))) past_more in
    ap (λ (b : List ℕ). outline_of u b c.in_ok-index.index.items c.read_data_block.new.out) footer
    ∙ ap (λ (b : List ℕ). outline_of u (block_at S (area + 8 * (at + 1 + x))) b c.read_data_block.new.out) index
    ∙ ap (λ (b : List ℕ). outline_of u (block_at S (area + 8 * (at + 1 + x))) (flat_map id (blocks_from S (area + 8 * (at + 1)) x)) b) filter
    ∙ sym (outline_is n S u (area + 8 * (at + 1 + x)) (area + 8 * (at + 1)) (area + 8 * at) (omega (arith, c.data_area-area.ensures)) (omega (arith, c.data_area-area.ensures)) (omega (arith, c.data_area-area.ensures)))

pub returns-clause-device : goal.returns-clause-device
returns-clause-device g c =
    let D = g.D.Device in
    let x = c.args.listed.index_blocks in
    let old = D.medium c.args.device.now in
    let mid = D.medium c.read_data_block.new.device in
    let more = D.medium c.read_data_blocks.new.device in
    let new = D.medium c.read_data_block-2.new.device in
    reads_then (1 + x) 1 (x + 2) true old more new (omega arith)
    (reads_then 1 x (1 + x) true old mid more (omega arith) c.in_ok-read_data_block.ensures.device c.in_ok-index.ensures.device) c.in_ok-read_data_block-2.ensures.device
