use Rattle.lsm_device.specs.Memory.{medium_in}
use Rattle.lsm_lives.specs.Living.{told_by}
use Rattle.lsm_lives.proofs.Lifetimes.{led_keep_promise}
use Rattle.lsm_lives.proofs.living.lives.Goals as goal

pub returns-clause-led : goal.returns-clause-led
returns-clause-led g c = c.live_each-device.ensures.led

pub returns-clause-disarmed : goal.returns-clause-disarmed
returns-clause-disarmed g c = λ some. c.live_each-device.ensures.disarmed some

pub returns-clause-promise : goal.returns-clause-promise
returns-clause-promise g c = λ log_sectors before opened was leaves.
    led_keep_promise c.args.lives.now (medium_in c.args.device) (told_by c.live_each-device.new.places.items) (medium_in c.live_each-device.result) c.live_each-device.ensures.led
    log_sectors before opened was leaves
