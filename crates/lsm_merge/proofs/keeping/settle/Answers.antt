use Rattle.std.proofs.Common.{◌∙◌, ap, not, ◌&&◌}
use Rattle.std.specs.Prelude.{reverse, is_none}
use Rattle.lsm_merge.specs.Loops.{shown, starts_with_key}
use Rattle.lsm_merge.proofs.Steps.{settle_more, settle_less}
use Rattle.lsm_merge.proofs.keeping.settle.Goals as goal

pub returns-then-deletes_nothing : goal.returns-then-deletes_nothing
returns-then-deletes_nothing g c =
    settle_less c.args.kept.now.items c.args.entry c.deletes_nothing.result (c.deletes_nothing.ensures ∙ ap (λ later. is_none c.args.entry.now.value && not (starts_with_key c.args.entry.now.key (reverse (shown later)))) c.deref.ensures.value) c.if-deletes_nothing.true

pub returns : goal.returns
returns g c =
    ap (λ items. reverse (shown items)) c.in_ok-push.ensures.items
    ∙ settle_more c.args.kept.now.items c.args.entry c.deletes_nothing.result (c.deletes_nothing.ensures ∙ ap (λ later. is_none c.args.entry.now.value && not (starts_with_key c.args.entry.now.key (reverse (shown later)))) c.deref.ensures.value) c.if-deletes_nothing.false
