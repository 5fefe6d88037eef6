use Rattle.std.proofs.Common.{refl, subst, sym}
use Rattle.lsm_store.specs.Backing.{StoreView}
use Rattle.lsm_machine.specs.Calls.{Snapshot, Number, reply_of}
use Rattle.lsm_store.specs.Serving.{Serves}
use Rattle.corwaphi_c.proofs.Moving.{same}
use Rattle.corwaphi_c.proofs.reading.take_snapshot.Goals as goal

pub returns-in-Some : goal.returns-in-Some
returns-in-Some c = λ s is.
    (c.snapshot.new.self, ((reply_of (λ n. Number n) c.snapshot.result), subst (λ (t : StoreView). Serves t Snapshot (reply_of (λ n. Number n) c.snapshot.result) c.snapshot.new.self) (same c.args.kept.now.store c.in-Some.store s (sym c.in-Some.is) is) c.snapshot.ensures.serves, c.number.ensures), refl)
