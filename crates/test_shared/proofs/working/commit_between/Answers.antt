use Rattle.lsm_lives.specs.Calls.{call_of, told_of}
use Rattle.lsm_shared.proofs.Lending.{lent_after_call}
use Rattle.test_shared.proofs.working.commit_between.Goals as goal

pub returns : goal.returns
returns g c = lent_after_call c.call-reply.result told_of _ _ _ _ _ _ c.call-reply.ensures.made c.call-reply.ensures.refused c.requires
