use Rattle.std.proofs.Common.{◌≡◌, ◌∙◌, sym, arith}
use Rattle.lsm_codec.specs.Keys.{IsBytes}
use Rattle.lsm_codec.specs.Spelling.{field}
use Rattle.lsm_codec.proofs.Fields.{field-mid_of}
use Rattle.lsm_codec.proofs.TableRecordLaws.{no_table, no_deletes, table_at}
use Rattle.lsm_codec.proofs.table_record.TableRecordRecord.read.Goals as goal

pub returns-then-bytes-lt-NUMBERS_BYTES : goal.returns-then-bytes-lt-NUMBERS_BYTES
returns-then-bytes-lt-NUMBERS_BYTES g c =
    let bytes : IsBytes c.args.bytes.now = record { fit = λ i. omega (arith, c.type_inv.bytes i) } in
    sym (no_table c.args.version c.args.bytes.now bytes c.if-bytes-lt-NUMBERS_BYTES.true)

pub returns-in_default : goal.returns-in_default
returns-in_default g c =
    let none = rw c.in_default.is at c.deletes_at.ensures in
    sym (no_deletes c.args.version c.args.bytes.now c.if-bytes-lt-NUMBERS_BYTES.false (sym none))

pub returns : goal.returns
returns g c =
    let bytes = c.args.bytes.now in
    let le = c.if-bytes-lt-NUMBERS_BYTES.false in
    let number : c.read_u64.result ≡ field 0 8 bytes = c.read_u64.ensures in
    let behind = rw c.in-Some.is at c.deletes_at.ensures in
    rw (number, c.read_u32.ensures ∙ field-mid_of 10 4 _ bytes (omega (arith, le)), c.read_u16.ensures ∙ field-mid_of 16 2 _ bytes (omega (arith, le))) (sym (table_at c.args.version bytes c.in-Some.deletes c.in-Some.rest.now le (sym behind)))
