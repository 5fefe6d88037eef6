use Rattle.lsm_image.proofs.Begun.{bare_image}
use Rattle.lsm_image.proofs.image.Image.of.Goals as goal

pub invariant_of-result : goal.invariant_of-result
invariant_of-result g c = bare_image c.args.sectors.now c.new.result.items c.new.ensures.items c.requires.size c.requires.whole
