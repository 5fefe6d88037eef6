use Rattle.std.proofs.Common.{◌∙◌, sym, lit≤}
use Rattle.lsm_codec.proofs.Fields.{field-mid_of}
use Rattle.lsm_codec.proofs.FooterLaws.{footer_some, footer_none, footer_other}
use Rattle.lsm_codec.proofs.footer.footer_at.Goals as goal

pub returns-then-read_u32-ne-MAGIC : goal.returns-then-read_u32-ne-MAGIC
returns-then-read_u32-ne-MAGIC c = sym (footer_other c.args.block.now c.told-block (λ e. c.if-read_u32-ne-MAGIC.true (c.read_u32.ensures ∙ e)))

pub returns-in_err-first : goal.returns-in_err-first
returns-in_err-first c = rw c.from_residual.ensures (sym (footer_none c.args.block.now c.told-block (sym c.read_u32.ensures ∙ c.if-read_u32-ne-MAGIC.false) (sym c.in_err-first.ensures.read)))

pub returns : goal.returns
returns c =
    let block = c.args.block.now in
    rw (c.read_u64.ensures ∙ field-mid_of 4 8 4092 block (lit≤ tt), c.read_u16.ensures ∙ field-mid_of 12 2 4084 block (lit≤ tt), c.read_u32-2.ensures ∙ field-mid_of 14 4 4082 block (lit≤ tt), c.read_u32-3.ensures ∙ field-mid_of 18 4 4078 block (lit≤ tt))
    (sym (footer_some block c.told-block c.in_ok-first.first.now c.in_ok-first.rest.now (sym c.read_u32.ensures ∙ c.if-read_u32-ne-MAGIC.false) (sym c.in_ok-first.ensures.read)))
