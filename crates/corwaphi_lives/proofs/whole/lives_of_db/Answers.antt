use Rattle.std.proofs.Common.{map, refl}
use Rattle.lsm_device.specs.Memory.{medium_in}
use Rattle.corwaphi_lives.specs.Leading.{life_of}
use Rattle.corwaphi_lives.proofs.Lives.{all_keep_batches, all_keep_on, all_led_on}
use Rattle.corwaphi_lives.proofs.whole.lives_of_db.Goals as goal

pub returns-clause-batches : goal.returns-clause-batches
returns-clause-batches g c =
    all_keep_batches c.args.log_sectors c.args.given.now c.lives.result (medium_in c.in-Ok.device) (c.in-Ok.ensures.leaves refl) c.lives.ensures

pub returns-clause-device : goal.returns-clause-device
returns-clause-device g c =
    all_keep_on c.args.log_sectors c.args.given.now c.lives.result (medium_in c.in-Ok.device) (c.in-Ok.ensures.leaves refl) c.lives.ensures

pub returns-clause-led : goal.returns-clause-led
returns-clause-led g c =
    all_led_on c.args.sectors c.args.log_sectors (map life_of c.args.given.now) c.lives.result (medium_in c.in_ok-device.device) (medium_in c.in-Ok.device)
    c.in_ok-device.ensures.zeros c.in-Ok.ensures.same_size c.in-Ok.ensures.same_lasting (c.in-Ok.ensures.leaves refl) c.lives.ensures
