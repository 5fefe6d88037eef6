use Rattle.std.proofs.Common.{◌∙◌, sym, arith}
use Rattle.lsm_codec.specs.Keys.{IsBytes}
use Rattle.lsm_codec.proofs.Fields.{field-mid_of}
use Rattle.lsm_codec.proofs.ManifestLaws.{no_header, header_other, header_there}
use Rattle.lsm_codec.proofs.manifest_text.header_at.Goals as goal

pub returns-then-bytes-lt-HEADER_BYTES : goal.returns-then-bytes-lt-HEADER_BYTES
returns-then-bytes-lt-HEADER_BYTES c =
    let bytes : IsBytes c.args.bytes.now = record { fit = λ i. omega (arith, c.type_inv.bytes i) } in
    sym (no_header c.args.bytes.now bytes c.if-bytes-lt-HEADER_BYTES.true)

pub returns-then-read_u32-ne-MAGIC : goal.returns-then-read_u32-ne-MAGIC
returns-then-read_u32-ne-MAGIC c = sym (header_other c.args.bytes.now c.if-bytes-lt-HEADER_BYTES.false (λ e. c.if-read_u32-ne-MAGIC.true (c.read_u32.ensures ∙ e)))

pub returns : goal.returns
returns c =
    let bytes = c.args.bytes.now in
    let le = c.if-bytes-lt-HEADER_BYTES.false in
    rw (c.read_u64.ensures ∙ field-mid_of 4 8 _ bytes (omega (arith, le)), c.read_u64-2.ensures ∙ field-mid_of 12 8 _ bytes (omega (arith, le)), c.read_u64-3.ensures ∙ field-mid_of 20 8 _ bytes (omega (arith, le)), c.read_u16.ensures ∙ field-mid_of 30 2 _ bytes (omega (arith, le)))
    (sym (header_there bytes le (sym c.read_u32.ensures ∙ c.if-read_u32-ne-MAGIC.false)))
