use Rattle.std.proofs.Common.{Some, None, ap, ◌∙◌}
use Rattle.lsm_machine.specs.Calls.{Number, Done, reply_of as reply_by, taken_reply}
use Rattle.lsm_machine.specs.Machine.{Worked}
use Rattle.lsm_machine.specs.Work.{Take, Read, Write, Install, Drop}
use Rattle.lsm_lives.specs.Asked.{Replied}
use Rattle.lsm_lives.specs.Calls.{asked_of_work}
use Rattle.lsm_lives.proofs.Made.{makes_own, makes_accept}
use Rattle.lsm_lives.proofs.making.make_work.Goals as goal

pub returns-in-Take-clause-makes : goal.returns-in-Take-clause-makes
returns-in-Take-clause-makes g c =
    makes_own c.args.results.now.items c.args.store.now c.job_take.new.self (asked_of_work c.args.work.now) c.taken.result (reply_by taken_reply c.job_take.result) c.taken.ensures
    (Worked (Take None)) (ap asked_of_work c.in-Take.is) c.job_take.ensures.works

pub returns-in-TakeOf-clause-makes : goal.returns-in-TakeOf-clause-makes
returns-in-TakeOf-clause-makes g c =
    makes_own c.args.results.now.items c.args.store.now c.job_take_of.new.self (asked_of_work c.args.work.now) c.taken-in-TakeOf.result (reply_by taken_reply c.job_take_of.result) c.taken-in-TakeOf.ensures
    (Worked (Take (Some c.in-TakeOf.choice))) (ap asked_of_work c.in-TakeOf.is) c.job_take_of.ensures.works

pub returns-in-Read-clause-makes : goal.returns-in-Read-clause-makes
returns-in-Read-clause-makes g c =
    makes_own c.args.results.now.items c.args.store.now c.job_read.new.self (asked_of_work c.args.work.now) c.read.result (reply_by Number c.job_read.result) c.read.ensures
    (Worked (Read c.in-Read.job)) (ap asked_of_work c.in-Read.is) c.job_read.ensures.works

pub returns-in-Accept-clause-makes : goal.returns-in-Accept-clause-makes
returns-in-Accept-clause-makes g c =
    makes_accept c.args.results.now.items c.args.store.now c.accept.new.store (asked_of_work c.args.work.now) c.done.result (reply_by (λ _. Done) c.accept.result) (c.done.ensures.told ∙ ap Replied c.done.ensures.reply)
    c.in-Accept.job c.in-Accept.result (ap asked_of_work c.in-Accept.is) c.deref.result.now c.deref.ensures.value c.accept.ensures

pub returns-in-Write-clause-makes : goal.returns-in-Write-clause-makes
returns-in-Write-clause-makes g c =
    makes_own c.args.results.now.items c.args.store.now c.job_write.new.self (asked_of_work c.args.work.now) c.written.result (reply_by Number c.job_write.result) c.written.ensures
    (Worked (Write c.in-Write.job)) (ap asked_of_work c.in-Write.is) c.job_write.ensures.works

pub returns-in-Install-clause-makes : goal.returns-in-Install-clause-makes
returns-in-Install-clause-makes g c =
    makes_own c.args.results.now.items c.args.store.now c.job_install.new.self (asked_of_work c.args.work.now) c.done-in-Install.result (reply_by (λ _. Done) c.job_install.result) (c.done-in-Install.ensures.told ∙ ap Replied c.done-in-Install.ensures.reply)
    (Worked (Install c.in-Install.job)) (ap asked_of_work c.in-Install.is) c.job_install.ensures.works

pub returns-in-Drop-clause-makes : goal.returns-in-Drop-clause-makes
returns-in-Drop-clause-makes g c =
    makes_own c.args.results.now.items c.args.store.now c.job_drop.new.self (asked_of_work c.args.work.now) c.done-in-Drop.result (reply_by (λ _. Done) c.job_drop.result) (c.done-in-Drop.ensures.told ∙ ap Replied c.done-in-Drop.ensures.reply)
    (Worked (Drop c.in-Drop.job)) (ap asked_of_work c.in-Drop.is) c.job_drop.ensures.works
