use Rattle.std.proofs.Common.{List, map, ◌++◌, ap, ◌∙◌}
use Rattle.lsm_lives.specs.Asked.{Told, told_stopped}
use Rattle.lsm_lives.specs.declared.calls.Reply.TheVariants as reply
use Rattle.lsm_lives.specs.Calls.{asked_of, told_of}
use Rattle.lsm_lives.proofs.Opened.{led_opened, led_refused}
use Rattle.lsm_lives.proofs.Steps.{reply_first}
use Rattle.lsm_lives.proofs.living.open_and_make.Goals as goal

pub returns-in-Ok-clause-led : goal.returns-in-Ok-clause-led
returns-in-Ok-clause-led g c =
    let n = c.batch_count.result in
    let adds = c.make_each.ensures.adds in
    led_opened (g.D.Device.medium c.args.device) (map asked_of c.args.steps.now) (map told_of c.make_each.new.replies.items) (g.D.Device.medium c.into_device.result) c.in-Ok.store c.make_each.new.store adds.more n
    c.in-Ok.ensures adds.makes c.into_device.ensures c.batch_count.ensures
    (adds.added ∙ ap (λ (l : List Told). l ++ adds.more) (reply_first c.args.replies.now.items c.push_reserved.new.self.items (reply.Number n) c.requires.none_yet c.push_reserved.ensures.items))

pub returns-in-Err-clause-led : goal.returns-in-Err-clause-led
returns-in-Err-clause-led g c =
    let steps = map asked_of c.args.steps.now in
    let refusal = c.in-Err.refusal in
    led_refused (g.D.Device.medium c.args.device) steps (map told_of c.refuse_each.new.replies.items) (g.D.Device.medium c.in-Err.device) refusal c.in-Err.ensures
    (c.refuse_each.ensures ∙ ap (λ (l : List Told). l ++ told_stopped steps)
    (reply_first c.args.replies.now.items c.push_reserved-in-Err.new.self.items (reply.Refused refusal) c.requires.none_yet c.push_reserved-in-Err.ensures.items))
