use Rattle.lsm_machine.specs.Calls.{Done, reply_of}
use Rattle.lsm_upkeep.proofs.FlushingLaws.{begins, begins-not, begins-upkept}
use Rattle.lsm_upkeep.proofs.admitting.next_log.Goals as goal

pub returns-then-flush-clause-upkept : goal.returns-then-flush-clause-upkept
returns-then-flush-clause-upkept g c =
    begins-upkept c.args.store.now c.flush.new.store c.rotate.new.self c.flush-then-flush.new.store (reply_of (λ _. Done) c.rotate.result) c.flush.ensures.upkept c.rotate.ensures.serves c.flush-then-flush.ensures.upkept

pub returns-then-flush-clause-begins : goal.returns-then-flush-clause-begins
returns-then-flush-clause-begins g c =
    begins c.args.store.now c.flush.new.store c.rotate.new.self c.flush-then-flush.new.store (reply_of (λ _. Done) c.rotate.result) c.flush.ensures.upkept (c.flush.ensures.finished c.if-flush.true)
    c.rotate.ensures.serves c.flush-then-flush.ensures.upkept

pub returns-else-flush-clause-begins : goal.returns-else-flush-clause-begins
returns-else-flush-clause-begins g c = begins-not c.args.store.now c.flush.new.store c.flush.ensures.upkept (c.flush.ensures.tried c.if-flush.false)
