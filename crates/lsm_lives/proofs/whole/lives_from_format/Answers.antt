use Rattle.std.proofs.Common.{[], map, refl}
use Rattle.lsm_device.specs.Medium.{disk}
use Rattle.lsm_device.specs.Memory.{medium_in}
use Rattle.lsm_root.specs.CrashState.{formatted}
use Rattle.lsm_lives.specs.Leading.{life_of}
use Rattle.lsm_lives.specs.Living.{told_by}
use Rattle.lsm_lives.proofs.Beginnings.{lives_keep_batches, lives_keep_on}
use Rattle.lsm_lives.proofs.Formatted.{led_on}
use Rattle.lsm_lives.proofs.whole.lives_from_format.Goals as goal

pub returns-in-Ok-lives-clause-batches : goal.returns-in-Ok-lives-clause-batches
returns-in-Ok-lives-clause-batches g c =
    lives_keep_batches c.args.log_sectors [] formatted c.args.given.now c.in-Ok-lives.answer.0.items (disk (medium_in c.in-Ok-lives.answer.1))
    (c.in-Ok-lives.ensures.promise c.args.log_sectors [] formatted (record { count = refl; same_map = refl }) (c.in-Ok.ensures.leaves refl))

pub returns-in-Ok-lives-clause-device : goal.returns-in-Ok-lives-clause-device
returns-in-Ok-lives-clause-device g c =
    lives_keep_on c.args.log_sectors [] formatted c.args.given.now c.in-Ok-lives.answer.0.items (disk (medium_in c.in-Ok-lives.answer.1))
    (c.in-Ok-lives.ensures.promise c.args.log_sectors [] formatted (record { count = refl; same_map = refl }) (c.in-Ok.ensures.leaves refl))

pub returns-in-Ok-lives-clause-led : goal.returns-in-Ok-lives-clause-led
returns-in-Ok-lives-clause-led g c =
    led_on c.args.sectors c.args.log_sectors formatted (map life_of c.args.given.now) (told_by c.in-Ok-lives.answer.0.items) _ _ (medium_in c.in-Ok-lives.answer.1)
    c.in_ok-device.ensures.zeros c.in-Ok.ensures.same_size c.in-Ok.ensures.same_lasting (c.in-Ok.ensures.leaves refl) c.in-Ok-lives.ensures.led
