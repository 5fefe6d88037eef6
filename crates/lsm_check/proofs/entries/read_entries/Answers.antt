use Rattle.std.proofs.Common.{◌≡◌, Bool, true, None, IsTrue, sym, ap, subst, ◌∙◌}
use Rattle.std.proofs.lemmas.Result.{err_from_is_err_and}
use Rattle.lsm_cache.specs.Reads.{block_at}
use Rattle.lsm_codec.specs.Entries.{block_of}
use Rattle.lsm_device.specs.Disk.{seen}
use Rattle.lsm_device.specs.Medium.{disk}
use Rattle.lsm_device.specs.Refusals.{is_no_fault}
use Rattle.lsm_open.specs.ReadParts.{ReadsAtMost}
use Rattle.lsm_check.proofs.DeviceReads.{block_read, block_faulted}
use Rattle.lsm_check.proofs.Refusing.{no_fault, passed_on}
use Rattle.lsm_check.proofs.ReadCounts.{between_block}
use Rattle.lsm_check.proofs.entries.read_entries.Goals as goal

pub returns-in_err-read_block-clause-device : goal.returns-in_err-read_block-clause-device
returns-in_err-read_block-clause-device g c =
    let D = g.D.Device in
    let p = err_from_is_err_and c.from_residual.result c.from_residual.ensures.1 in
    let e = c.in_err-read_block.ensures in
    rw (p.1, p.2) (block_faulted (D.medium c.args.device.now) (D.medium c.read_block.new.device) e.faulted e.unchanged e.same_size e.same_lasting)

pub returns-in_err-decode-clause-refused : goal.returns-in_err-decode-clause-refused
returns-in_err-decode-clause-refused g c =
    let D = g.D.Device in
    let p = err_from_is_err_and c.from_residual-in_err-decode.result c.from_residual-in_err-decode.ensures.1 in
    let old = D.medium c.args.device.now in
    let bytes = c.read_block.new.out in
    rw (p.1, p.2) (passed_on c.in_err-decode.field-0.0 (block_of bytes ≡ None) (IsTrue old.lasting.tells → block_of (block_at (seen (disk old)) c.args.sector) ≡ None)
    (λ none t. ap block_of (sym (c.in_ok-read_block.ensures.given t)) ∙ none) c.in_err-decode.ensures.refused)

pub returns-in_err-decode-clause-device : goal.returns-in_err-decode-clause-device
returns-in_err-decode-clause-device g c =
    let D = g.D.Device in
    let p = err_from_is_err_and c.from_residual-in_err-decode.result c.from_residual-in_err-decode.ensures.1 in
    let e = c.in_ok-read_block.ensures in
    let old = D.medium c.args.device.now in
    let new = D.medium c.read_block.new.device in
    let ok : is_no_fault c.in_err-decode.field-0.0 ≡ true = no_fault c.in_err-decode.field-0.0 (block_of c.read_block.new.out ≡ None) c.in_err-decode.ensures.refused in
    rw (p.1, p.2) (subst (λ (b : Bool). ReadsAtMost 8 b old new) (sym ok) (block_read old new e.counted e.unchanged e.same_size e.same_lasting))

pub returns-clause-device : goal.returns-clause-device
returns-clause-device g c =
    let D = g.D.Device in
    let e = c.in_ok-read_block.ensures in
    block_read (D.medium c.args.device.now) (D.medium c.read_block.new.device) e.counted e.unchanged e.same_size e.same_lasting

pub returns-clause-whole : goal.returns-clause-whole
returns-clause-whole g c = between_block _ _ c.in_ok-read_block.ensures.counted
