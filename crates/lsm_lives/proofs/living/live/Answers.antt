use Rattle.std.proofs.Common.{Bool, List, map, ap, subst, ◌∙◌}
use Rattle.lsm_device.specs.Medium.{Medium, crashed}
use Rattle.lsm_device.specs.Memory.{medium_in, fuses_kept}
use Rattle.lsm_lives.specs.declared.calls.Step.{Step as GivenStep}
use Rattle.lsm_lives.specs.Calls.{asked_of, told_of}
use Rattle.lsm_lives.specs.Leading.{IsLed}
use Rattle.lsm_lives.proofs.Opened.{fuse_kept}
use Rattle.lsm_lives.proofs.living.live.Goals as goal

pub returns-clause-led : goal.returns-clause-led
returns-clause-led g c =
    let told = map told_of c.open_and_make-device.new.replies.items in
    let ended = medium_in c.open_and_make-device.result in
    let asked = map asked_of c.args.life.now.steps.items in
    let led = subst (λ (m : Medium). IsLed m asked told ended) c.set_fuse.ensures.medium
    (subst (λ (all : List (GivenStep g.row.A.Denot)). IsLed (medium_in c.set_fuse.new.device) (map asked_of all) told ended) c.deref.ensures.value c.open_and_make-device.ensures.led) in
    record {
      end = ended;
      led = led;
      fuse = fuse_kept c.args.life.now.fuse (medium_in c.args.device) asked told ended led (fuses_kept c.open_and_make-device.result).now;
      crash = c.crash.ensures.left ∙ ap (λ (mask : List Bool). crashed mask ended) c.deref-2.ensures.value;
    }
