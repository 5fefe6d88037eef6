use Rattle.std.proofs.Common.{[], rules}
use Rattle.lsm_device.specs.Memory.{medium_in}
use Rattle.lsm_root.specs.CrashState.{formatted as empty_store}
use Rattle.lsm_lives.specs.Living.{told_by}
use Rattle.lsmctl.proofs.LifeLaws.{IsAfter-nothing, led_of-lines, promise_of-lines}
use Rattle.lsmctl.proofs.runs.lives.Goals as goal

pub returns-clause-tells : goal.returns-clause-tells
returns-clause-tells g c = record {
  device = medium_in c.in_ok-device.device;
  left = medium_in c.in-Ok.field-0-1;
  replies = told_by c.in-Ok.replies.items;
  size = c.in_ok-device.ensures.size;
  begins = c.in_ok-device.ensures.leaves;
  led = led_of-lines _ c.in_ok-lives.field-0.lives.items c.args.script.items _ _ _ (search rules) c.in_ok-lives.ensures.lives c.in-Ok.ensures.led;
  promise = promise_of-lines _ c.in_ok-lives.field-0.lives.items c.args.script.items _ _ _ (search rules) c.in_ok-lives.ensures.lives
      (c.in-Ok.ensures.promise c.args.geometry.log_sectors [] empty_store IsAfter-nothing c.in_ok-device.ensures.leaves);
  told = search rules;
}
