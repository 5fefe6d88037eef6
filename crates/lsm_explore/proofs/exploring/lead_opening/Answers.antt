use Rattle.std.proofs.Common.{List, Some, map, ap, subst, ◌∙◌}
use Rattle.lsm_image.specs.Media.{begun, medium_in}
use Rattle.lsm_lives.specs.Asked.{Asked}
use Rattle.lsm_lives.specs.Calls.{asked_of, told_of}
use Rattle.lsm_lives.specs.Leading.{IsLed}
use Rattle.lsm_explore.proofs.exploring.lead_opening.Goals as goal

pub returns-clause-led : goal.returns-clause-led
returns-clause-led g c =
    subst (λ (l : List Asked). IsLed (begun c.args.image.now (Some c.args.fuse)) l (map told_of c.in_ok-led.led.replies.items) (medium_in c.in_ok-led.led.device))
    (ap (map asked_of) (c.deref.ensures.value ∙ c.new-steps.ensures.items)) c.in_ok-led.ensures.led
