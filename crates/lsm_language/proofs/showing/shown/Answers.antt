use Rattle.std.proofs.Common.{◌∙◌, ap, map, take_all}
use Rattle.lsm_language.specs.Showing.{printable}
use Rattle.lsm_language.proofs.showing.shown.Goals as goal

pub returns : goal.returns
returns c = c.loop-byte.invariant ∙ ap (map printable) (take_all c.loop-byte.byte-index c.beginning-byte-items.result.now c.loop-byte-test.false ∙ c.beginning-byte-items.ensures)
