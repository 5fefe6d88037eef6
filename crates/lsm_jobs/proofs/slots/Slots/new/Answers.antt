use Rattle.std.proofs.Common.{ap, ◌∙◌, arith}
use Rattle.lsm_jobs.proofs.Holding.{four_free}
use Rattle.lsm_jobs.proofs.Walked.{one_free}
use Rattle.lsm_jobs.proofs.slots.Slots.new.Goals as goal

pub returns : goal.returns
returns g c = ap (λ slots. record { next = 1; slots = slots }) (c.loop-slot.invariant ∙ four_free c.loop-slot._slot (omega (arith, c.loop-slot-test.false, c.loop-slot.auto._slot-end)))

pub loop-slot-preserved : goal.loop-slot-preserved
loop-slot-preserved g c = one_free c.loop-slot.slots.items c.push.new.self.items c.loop-slot._slot c.loop-slot.invariant (c.in_ok-push.ensures.items)
