use Rattle.std.proofs.Common.{sym, subst}
use Rattle.lsm_lives.specs.Asked.{Told, Own}
use Rattle.lsm_lives.specs.Calls.{call_of}
use Rattle.lsm_machine.specs.Machine.{Called}
use Rattle.lsm_trail.specs.Entries.{MayBeEntered}
use Rattle.lsm_trail.proofs.entry.TrailEntry.of_call.Goals as goal

pub invariant_of-result : goal.invariant_of-result
invariant_of-result g c = subst (λ (t : Told). MayBeEntered (Own (Called (call_of c.args.call))) t) (sym c.requires) tt
