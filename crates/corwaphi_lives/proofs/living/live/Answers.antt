use Rattle.std.proofs.Common.{Bool, List, map, ap, subst, ◌∙◌}
use Rattle.lsm_device.specs.Medium.{Medium, crashed}
use Rattle.lsm_device.specs.Memory.{medium_in, fuses_kept}
use Rattle.lsm_lives.specs.Calls.{reply_of}
use Rattle.corwaphi_lives.specs.Calls.{call_of, calls_of}
use Rattle.corwaphi_lives.specs.Leading.{IsLed}
use Rattle.corwaphi_lives.specs.declared.calls.DbCall.{DbCall}
use Rattle.corwaphi_lives.proofs.Led.{fuse_kept}
use Rattle.corwaphi_lives.proofs.Lives.{plain_values}
use Rattle.corwaphi_lives.proofs.living.live.Goals as goal

pub returns : goal.returns
returns g c =
    let replies = c.open_and_serve-device.new.replies.items in
    let told = map reply_of replies in
    let ended = medium_in c.open_and_serve-device.result in
    let calls = calls_of c.args.life.now in
    let led = subst (λ (m : Medium). IsLed m calls told ended) c.set_fuse.ensures
    (subst (λ (all : List DbCall). IsLed (medium_in c.set_fuse.new.device) (map call_of all) told ended) c.deref.ensures.value c.open_and_serve-device.ensures) in
    record {
      end = ended;
      led = led;
      fuse = fuse_kept c.args.life.now.fuse (medium_in c.args.device) calls told ended (plain_values replies) led (fuses_kept c.open_and_serve-device.result).now;
      crash = c.crash.ensures ∙ ap (λ (mask : List Bool). crashed mask ended) c.deref-2.ensures.value;
    }
