use Rattle.std.proofs.Common.{ap, rules}
use Rattle.lsm_lives.specs.Calls.{call_of, asked_of, reply_of}
use Rattle.lsm_lives.proofs.Made.{makes_called}
use Rattle.lsm_lives.proofs.making.make.Goals as goal

pub returns-in-Call-clause-makes : goal.returns-in-Call-clause-makes
returns-in-Call-clause-makes g c =
    makes_called c.args.results.now.items c.args.store.now c.serve.new.store (asked_of c.args.step.now) c.serve.result (reply_of c.serve.result) c.serve.ensures.told
    (call_of c.in-Call.call) (ap asked_of c.in-Call.is) c.serve.ensures.serves

pub returns-in-Work-clause-makes : goal.returns-in-Work-clause-makes
returns-in-Work-clause-makes g c = search rules
