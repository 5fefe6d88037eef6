use Rattle.std.specs.Prelude.{option_map}
use Rattle.lsm_machine.specs.Calls.{Number, reply_of}
use Rattle.lsm_upkeep.proofs.WritingLaws.{writes-refused, writes-served}
use Rattle.lsm_upkeep.proofs.writing.write.Goals as goal

pub returns-in-Ok : goal.returns-in-Ok
returns-in-Ok g c =
    writes-served (option_map (λ g. g.now) c.args.guards) c.args.batch.now c.args.store.now c.admit.new.store c.admit.ensures.upkept c.admit.ensures.ready (reply_of (λ n. Number n) c.commit.result)
    (reply_of (λ n. Number n) c.without_log_full.result) c.commit.new.store c.commit.ensures c.without_log_full.ensures c.in-Ok.ensures.room

pub returns-in-Err : goal.returns-in-Err
returns-in-Err g c =
    writes-refused (option_map (λ g. g.now) c.args.guards) c.args.batch.now c.args.store.now c.admit.new.store c.admit.ensures.upkept c.admit.ensures.ready c.in-Err.refusal c.in-Err.ensures.refused.0 c.in-Err.ensures.refused.1
