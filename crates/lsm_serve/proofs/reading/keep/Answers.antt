use Rattle.std.proofs.Common.{◌∙◌, ◌-◌, ◌++◌, ap, arith, take}
use Rattle.lsm_serve.proofs.ReadingLaws.{kept_more}
use Rattle.lsm_serve.proofs.reading.keep.Goals as goal

pub returns : goal.returns
returns c =
    kept_more 300001 (300001 - c.len-room.result) c.args.line.now.items c.args.bytes.now _ c.requires (omega (arith, c.requires, c.len-room.ensures, c.args.line.now.ok.0))
    (c.in_ok-extend_from_slice.ensures.items ∙ ap (λ n. c.args.line.now.items ++ take n c.args.bytes.now) c.min.ensures)
