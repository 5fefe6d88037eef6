-- A piece of work of a client's own, in a hold of the lock.
use Rattle.std.proofs.Common.{◌≡◌, ℕ, [], ◌∷◌, None, refl, sym, ap, subst}
use Rattle.lsm_device.specs.declared.refusal.Refusal.{Refusal}
use Rattle.lsm_store.specs.Backing.{StoreView, machine_of}
use Rattle.lsm_machine.specs.Machine.{Worked}
use Rattle.lsm_machine.specs.Work.{Work}
use Rattle.lsm_store.specs.Working.{ServesStep}
use Rattle.lsm_lives.specs.Asked.{Told}
use Rattle.lsm_trail.specs.History.{event, worked}
use Rattle.lsm_trail.specs.Knowledge.{SessionId, Known, known}
use Rattle.lsm_shared.specs.Holds.{IsPutBack, IsLeftOut, IsTakenNext}
use Rattle.lsm_shared.specs.Sessions.{SessionView, Finds, Enters, EntersStep}
use Rattle.lsm_shared.proofs.Holds.{shown_before, entered_none}

-- where nothing is taken, the client has only seen the history
pub only_seen : (id : SessionId) (was old : SessionView) (c me : Known) → was ≡ old → Finds id old c → me ≡ known id.begin c.number old.log c.mine → IsTakenNext id old c None was me
only_seen id was old c me same finds shown =
    subst (λ (v : SessionView). IsTakenNext id old c None v me) (sym same) (entered_none id old old.store c me finds shown refl (λ b. b), refl)

-- where the session was shown first
module _ (id : SessionId) (was old new : SessionView) (c me d : Known) (same : was ≡ old) (finds : Finds id old c) (shown : me ≡ known id.begin c.number old.log c.mine) (work : Work) where
  pub piece_put_back : (e : Refusal) → IsPutBack id was me work e new d → IsPutBack id old c work e new d
  piece_put_back e back = record {
    enters = shown_before id old new c me d [] finds shown (subst (λ (v : SessionView). Enters id v me [] new d) same back.enters);
    out = subst (λ (v : SessionView). IsLeftOut v.store work new.store) same back.out;
    denied = back.denied;
  }

  pub piece_made : (answer : Told) → EntersStep id was me (Worked work) 0 answer new d → EntersStep id old c (Worked work) 0 answer new d
  piece_made answer made = record {
    reply = made.reply;
    told = made.told;
    one = record {
      enters = subst (λ (n : ℕ). Enters id old c (worked n work made.reply (machine_of new.store) ∷ []) new d) (ap (λ (k : Known). k.number) shown)
          (shown_before id old new c me d (worked me.number work made.reply (machine_of new.store) ∷ []) finds shown (subst (λ (v : SessionView). Enters id v me (worked me.number work made.reply (machine_of new.store) ∷ []) new d) same made.one.enters));
      serves = subst (λ (v : SessionView). ServesStep v.store (Worked work) made.reply new.store) same made.one.serves;
      machine = made.one.machine;
    };
  }
