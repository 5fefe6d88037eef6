use Rattle.std.proofs.Common.{sym, subst}
use Rattle.lsm_lives.specs.Asked.{Told, AcceptBuilt}
use Rattle.lsm_trail.specs.Entries.{MayBeEntered}
use Rattle.lsm_trail.proofs.entry.TrailEntry.of_accept.Goals as goal

pub invariant_of-result : goal.invariant_of-result
invariant_of-result g c = subst (λ (t : Told). MayBeEntered (AcceptBuilt c.args.job c.args.number) t) (sym c.requires) tt
