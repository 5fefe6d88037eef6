-- A result that a client brings, in a hold of the lock.
use Rattle.std.proofs.Common.{◌≡◌, ℕ, Bool, true, false, Some, List, [], ◌∷◌, refl, ap, sym, ◌∙◌, subst}
use Rattle.lsm_device.specs.declared.refusal.Refusal.{Refusal}
use Rattle.lsm_device.specs.declared.refusal.Refusal.TheVariants.{NoSpace}
use Rattle.lsm_merge.specs.Results.{MergeResult}
use Rattle.lsm_store.specs.Backing.{machine_of}
use Rattle.lsm_machine.specs.Calls.{Reply}
use Rattle.lsm_machine.specs.Calls.{Number, Done, Value, Rows, Given, Handed, Refused, Unread}
use Rattle.lsm_machine.specs.Machine.{Machine, Worked}
use Rattle.lsm_machine.specs.Work.{Accept, Drop}
use Rattle.lsm_lives.specs.Asked.{Told, Replied}
use Rattle.lsm_trail.specs.History.{Event, worked, accepted}
use Rattle.lsm_trail.specs.Knowledge.{SessionId, Known, known}
use Rattle.lsm_shared.specs.Holds.{IsPutBack, IsBroughtBy, StopsBringing}
use Rattle.lsm_shared.specs.Sessions.{SessionView, Finds, EntersOne, EntersStep}
use Rattle.lsm_shared.specs.Turns.{tells_no_space, IsBrought}
use Rattle.lsm_shared.proofs.Holds.{enters_join, shown_before}

no_space : (reply : Reply) → tells_no_space (Replied reply) ≡ true → reply ≡ Refused NoSpace
no_space (Refused NoSpace) is = refl
no_space (Refused e) is = absurd (cc is)
no_space (Number n) is = absurd (cc is)
no_space Done is = absurd (cc is)
no_space (Value v) is = absurd (cc is)
no_space (Rows page) is = absurd (cc is)
no_space (Given job) is = absurd (cc is)
no_space (Handed input) is = absurd (cc is)
no_space Unread is = absurd (cc is)

one_entry : (number job result : ℕ) (made : MergeResult) (reply : Reply) (m : Machine) → tells_no_space (Replied reply) ≡ false → IsBrought number job result made reply (accepted number job result made reply m ∷ [])
one_entry number job result made (Refused NoSpace) m is = absurd (cc is)
one_entry number job result made (Refused e) m is = (m, refl)
one_entry number job result made (Number n) m is = (m, refl)
one_entry number job result made Done m is = (m, refl)
one_entry number job result made (Value v) m is = (m, refl)
one_entry number job result made (Rows page) m is = (m, refl)
one_entry number job result made (Given taken) m is = (m, refl)
one_entry number job result made (Handed input) m is = (m, refl)
one_entry number job result made Unread m is = (m, refl)

module _ (id : SessionId) (old mid new : SessionView) (c me d f : Known) (finds : Finds id old c) (shown : me ≡ known id.begin c.number old.log c.mine) (job result : ℕ) (made : MergeResult) (reply : Reply) (m : Machine) (answer : Told) (told : answer ≡ Replied reply) where
  number_is : me.number ≡ c.number
  number_is = ap (λ (k : Known). k.number) shown

  module _ (one : EntersOne id old me (accepted me.number job result made reply m) mid d) where
    abbrev entry : Event
    entry = accepted me.number job result made reply m

    -- there is room, or it was refused otherwise
    pub brought_once : tells_no_space (Replied reply) ≡ false → IsBroughtBy id old c job result made answer mid d
    brought_once is = record {
      reply = reply;
      told = told;
      entries = entry ∷ [];
      enters = shown_before id old mid c me d (entry ∷ []) finds shown one.enters;
      serves = (mid.store, one.serves, refl);
      brought = subst (λ (l : List Event). IsBrought c.number job result made reply l) (λ i. accepted (sym number_is i) job result made reply m ∷ []) (one_entry c.number job result made reply m is);
    }

    d_number : d.number ≡ me.number
    d_number = ap (λ (k : Known). k.number) one.enters.client

    -- there is none, and the job is given up
    pub brought_then_dropped : (last : Reply) (n : Machine) → tells_no_space (Replied reply) ≡ true → EntersOne id mid d (worked d.number (Drop job) last n) new f → IsBroughtBy id old c job result made answer new f
    brought_then_dropped last n is two =
        let both = enters_join id old mid new me d f (entry ∷ []) (worked d.number (Drop job) last n ∷ []) one.enters two.enters in
        record {
          reply = reply;
          told = told;
          entries = entry ∷ worked d.number (Drop job) last n ∷ [];
          enters = shown_before id old new c me f (entry ∷ worked d.number (Drop job) last n ∷ []) finds shown both;
          serves = (mid.store, one.serves, (new.store, two.serves, refl));
          brought = dropped last n (no_space reply is);
        }
      where
        dropped : (last : Reply) (n : Machine) → reply ≡ Refused NoSpace → IsBrought c.number job result made reply (entry ∷ worked d.number (Drop job) last n ∷ [])
        dropped last n so = subst (λ (r : Reply). IsBrought c.number job result made r (accepted me.number job result made r m ∷ worked d.number (Drop job) last n ∷ [])) (sym so)
            (m, last, n, λ i. accepted (number_is i) job result made (Refused NoSpace) m ∷ worked ((d_number ∙ number_is) i) (Drop job) last n ∷ [])

    -- and that was no entry
    pub stops_then : (e : Refusal) → tells_no_space (Replied reply) ≡ true → IsPutBack id mid d (Drop job) e new f → StopsBringing id old c job result made e new f
    stops_then e is back =
        let both = enters_join id old mid new me d f (entry ∷ []) [] one.enters back.enters in
        record {
          entries = entry ∷ [];
          enters = shown_before id old new c me f (entry ∷ []) finds shown both;
          left = Drop job;
          mid = mid.store;
          serves = (mid.store, one.serves, refl);
          out = back.out;
          behind = (refl, (m, λ i. accepted (number_is i) job result made (no_space reply is i) m));
          denied = back.denied;
        }

  -- the accept was no entry
  pub stops_at_once : (e : Refusal) → IsPutBack id old me (Accept job (Some made)) e mid d → StopsBringing id old c job result made e mid d
  stops_at_once e back = record {
    entries = [];
    enters = shown_before id old mid c me d [] finds shown back.enters;
    left = Accept job (Some made);
    mid = old.store;
    serves = refl;
    out = back.out;
    behind = refl;
    denied = back.denied;
  }

-- the same where the session was shown first
module _ (id : SessionId) (was old mid new : SessionView) (c me d f : Known) (same : was ≡ old) (finds : Finds id old c) (shown : me ≡ known id.begin c.number old.log c.mine) (job result : ℕ) (made : MergeResult) where
  pub stopped_at_once : (e : Refusal) → IsPutBack id was me (Accept job (Some made)) e mid d → StopsBringing id old c job result made e mid d
  stopped_at_once e back = stops_at_once id old mid mid c me d d finds shown job result made Done (machine_of mid.store) (Replied Done) refl e (subst (λ (v : SessionView). IsPutBack id v me (Accept job (Some made)) e mid d) same back)

  module _ (answer : Told) (first : EntersStep id was me (Worked (Accept job (Some made))) result answer mid d) where
    abbrev m : Machine
    m = machine_of mid.store

    one : EntersOne id old me (accepted me.number job result made first.reply m) mid d
    one = subst (λ (v : SessionView). EntersOne id v me (accepted me.number job result made first.reply m) mid d) same first.one

    tells : (b : Bool) → tells_no_space answer ≡ b → tells_no_space (Replied first.reply) ≡ b
    tells b is = sym (ap tells_no_space first.told) ∙ is

    pub was_brought : tells_no_space answer ≡ false → IsBroughtBy id old c job result made answer mid d
    was_brought is = brought_once id old mid mid c me d d finds shown job result made first.reply m answer first.told one (tells false is)

    pub was_dropped : (last : Told) → tells_no_space answer ≡ true → EntersStep id mid d (Worked (Drop job)) 0 last new f → IsBroughtBy id old c job result made answer new f
    was_dropped last is two = brought_then_dropped id old mid new c me d f finds shown job result made first.reply m answer first.told one two.reply (machine_of new.store) (tells true is) two.one

    pub stopped_then : (e : Refusal) → tells_no_space answer ≡ true → IsPutBack id mid d (Drop job) e new f → StopsBringing id old c job result made e new f
    stopped_then e is back = stops_then id old mid new c me d f finds shown job result made first.reply m answer first.told one e (tells true is) back
