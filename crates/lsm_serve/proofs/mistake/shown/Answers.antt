use Rattle.std.proofs.Common.{◌∙◌, ap, map}
use Rattle.lsm_serve.specs.Mistakes.{printable}
use Rattle.lsm_serve.proofs.MistakeLaws.{shown_whole}
use Rattle.lsm_serve.proofs.mistake.shown.Goals as goal

pub returns : goal.returns
returns c = c.loop-byte.invariant ∙ ap (map printable) (shown_whole c.args.part.now c.min.result c.loop-byte.byte-index c.min.ensures c.loop-byte-test.false)
