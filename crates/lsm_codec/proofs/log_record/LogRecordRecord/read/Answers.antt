use Rattle.std.proofs.Common.{◌∙◌, sym, arith}
use Rattle.lsm_codec.specs.Keys.{IsBytes}
use Rattle.lsm_codec.proofs.Fields.{field-mid_of}
use Rattle.lsm_codec.proofs.ManifestLaws.{no_log, log_at}
use Rattle.lsm_codec.proofs.log_record.LogRecordRecord.read.Goals as goal

pub returns-then-bytes-lt-LOG_RECORD_BYTES : goal.returns-then-bytes-lt-LOG_RECORD_BYTES
returns-then-bytes-lt-LOG_RECORD_BYTES g c =
    let bytes : IsBytes c.args.bytes.now = record { fit = λ i. omega (arith, c.type_inv.bytes i) } in
    sym (no_log c.args.bytes.now bytes c.if-bytes-lt-LOG_RECORD_BYTES.true)

pub returns : goal.returns
returns g c =
    let bytes = c.args.bytes.now in
    let le = c.if-bytes-lt-LOG_RECORD_BYTES.false in
    rw (c.read_u64.ensures ∙ field-mid_of 1 8 _ bytes (omega (arith, le)), c.read_u64-2.ensures ∙ field-mid_of 9 8 _ bytes (omega (arith, le))) (sym (log_at bytes le))
