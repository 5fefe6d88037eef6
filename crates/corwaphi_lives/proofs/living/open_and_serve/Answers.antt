use Rattle.std.proofs.Common.{List, map, ◌++◌, ap, ◌∙◌}
use Rattle.lsm_device.specs.declared.refusal.Refusal.TheVariants.{Stopped}
use Rattle.lsm_machine.specs.Calls.{Reply, Refused}
use Rattle.lsm_lives.specs.declared.calls.Reply.TheVariants as reply
use Rattle.lsm_lives.specs.Calls.{reply_of}
use Rattle.corwaphi_lives.specs.Calls.{call_of}
use Rattle.corwaphi_lives.proofs.Places.{led_opened, led_refused, reply_first}
use Rattle.corwaphi_lives.proofs.living.open_and_serve.Goals as goal

pub returns-in-Ok : goal.returns-in-Ok
returns-in-Ok g c =
    let n = c.batch_count.result in
    let adds = c.serve_each.ensures in
    led_opened (g.D.Device.medium c.args.device) (map call_of c.args.calls.now) (map reply_of c.serve_each.new.replies.items) (g.D.Device.medium c.into_device.result) c.in-Ok.db c.serve_each.new.db adds.more n
    c.in-Ok.ensures adds.does c.into_device.ensures c.batch_count.ensures
    (adds.added ∙ ap (λ (l : List Reply). l ++ adds.more) (reply_first c.args.replies.now.items c.push_reserved.new.self.items (reply.Number n) c.requires.none_yet c.push_reserved.ensures.items))

pub returns-in-Err : goal.returns-in-Err
returns-in-Err g c =
    let calls = map call_of c.args.calls.now in
    let refusal = c.in-Err.refused.refusal in
    led_refused (g.D.Device.medium c.args.device) calls (map reply_of c.refuse_each.new.replies.items) (g.D.Device.medium c.in-Err.refused.device) refusal c.in-Err.ensures
    (c.refuse_each.ensures ∙ ap (λ (l : List Reply). l ++ map (λ _. Refused Stopped) calls)
    (reply_first c.args.replies.now.items c.push_reserved-in-Err.new.self.items (reply.Refused refusal) c.requires.none_yet c.push_reserved-in-Err.ensures.items))
