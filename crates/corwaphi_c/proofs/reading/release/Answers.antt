use Rattle.std.proofs.Common.{refl, subst, sym}
use Rattle.lsm_store.specs.Backing.{StoreView}
use Rattle.lsm_machine.specs.Calls.{Release, Done, reply_of}
use Rattle.lsm_store.specs.Serving.{Serves}
use Rattle.corwaphi_c.proofs.Moving.{same}
use Rattle.corwaphi_c.proofs.reading.release.Goals as goal

pub returns-in-Some : goal.returns-in-Some
returns-in-Some c = λ s is.
    (c.release.new.self, ((reply_of (λ _. Done) c.release.result), subst (λ (t : StoreView). Serves t (Release c.args.snapshot) (reply_of (λ _. Done) c.release.result) c.release.new.self) (same c.args.kept.now.store c.in-Some.store s (sym c.in-Some.is) is) c.release.ensures.serves, c.done.ensures), refl)
