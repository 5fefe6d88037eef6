use Rattle.std.proofs.Common.{◌∙◌, ◌+◌, ◌-◌, ◌++◌, ap, arith, take}
use Rattle.lsm_language.proofs.ReadingLaws.{kept_more}
use Rattle.lsm_language.proofs.reading.keep.Goals as goal

pub returns : goal.returns
returns c =
    kept_more (c.args.most + 1) (c.args.most + 1 - c.len.result) c.args.line.now.items c.args.bytes.now _ (omega (arith, c.requires.few))
    (omega (arith, c.requires.few, c.len.ensures, c.args.line.now.ok.0))
    (c.in_ok-extend_from_slice.ensures.items ∙ ap (λ n. c.args.line.now.items ++ take n c.args.bytes.now) c.min.ensures)
