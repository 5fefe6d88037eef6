use Rattle.std.proofs.Common.{◌+◌, map, ap, sym, ◌∙◌, arith}
use Rattle.lsm_device.specs.declared.calls.Calls.{Calls}
use Rattle.lsm_image.specs.Media.{medium_in}
use Rattle.lsm_lives.specs.Calls.{asked_of, told_of}
use Rattle.lsm_explore.specs.Exploring.{is_wanting}
use Rattle.lsm_explore.proofs.Explorations.{whole_life}
use Rattle.lsm_explore.proofs.exploring.fuses.Goals as goal

pub returns-clause-whole : goal.returns-clause-whole
returns-clause-whole g c =
    whole_life c.args.image.now (map asked_of c.args.steps.now) (map told_of c.in_ok-led.led.replies.items) (medium_in c.in_ok-led.led.device) c.in_ok-count.count c.in_ok-led.ensures.led
    (ap (λ l. is_wanting (map told_of l)) (sym c.deref.ensures.value) ∙ sym c.is_wanting.ensures ∙ c.if-is_wanting.false)
    (omega (arith, c.if-counts-ne0.false, ap (λ (k : Calls). k.faults) c.calls-counts.ensures))
    (c.in_ok-count.ensures.more ∙ ap (λ (k : Calls). k.passed + 1) c.calls-counts.ensures)
