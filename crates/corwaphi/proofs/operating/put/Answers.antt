use Rattle.std.proofs.Common.{Some, None, subst}
use Rattle.lsm_codec.specs.Answers.{key_refusal, or_then, value_refusal}
use Rattle.lsm_codec.specs.Map.{Operation}
use Rattle.lsm_machine.specs.Calls.{Number, reply_of}
use Rattle.corwaphi.specs.Writing.{WritesOne}
use Rattle.corwaphi.proofs.WritingLaws.{one-refused, one-written}
use Rattle.corwaphi.proofs.operating.put.Goals as goal

pub returns-in-Ok : goal.returns-in-Ok
returns-in-Ok g c =
    one-written (or_then (key_refusal c.args.key.now) (value_refusal c.args.value.now)) (record { key = c.args.key.now; value = Some c.args.value.now }) c.args.store.now (reply_of (λ n. Number n) c.write_one.result) c.write_one.new.store c.in-Ok.ensures.0
    (subst (λ (o : Operation). WritesOne None o c.args.store.now (reply_of (λ n. Number n) c.write_one.result) c.write_one.new.store) c.in-Ok.ensures.1 c.write_one.ensures)

pub returns-in-Err : goal.returns-in-Err
returns-in-Err g c = one-refused (or_then (key_refusal c.args.key.now) (value_refusal c.args.value.now)) (record { key = c.args.key.now; value = Some c.args.value.now }) c.args.store.now c.in-Err.refusal c.in-Err.ensures
