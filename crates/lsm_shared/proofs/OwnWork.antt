-- Pieces of work in a hold of the lock.
use Rattle.std.proofs.Common.{◌≡◌, ◌≢◌, ℕ, ◌<◌, Option, Some, None, List, length, refl, ap, sym, ◌∙◌, subst, inl, inr}
use Rattle.lsm_device.specs.declared.refusal.Refusal.{Refusal}
use Rattle.lsm_device.specs.declared.refusal.Refusal.TheVariants.{NoMemory, TrailFull}
use Rattle.lsm_jobs.specs.Slots.{Slot}
use Rattle.lsm_mem.specs.Paging.{Page}
use Rattle.lsm_merge.specs.Inputs.{MergeInput}
use Rattle.lsm_store.specs.Backing.{StoreView, machine_of}
use Rattle.lsm_machine.specs.Calls.{Reply}
use Rattle.lsm_machine.specs.Calls.{Number, Done, Value, Rows, Given, Handed, Refused, Unread}
use Rattle.lsm_machine.specs.Machine.{Machine, Worked}
use Rattle.lsm_machine.specs.Work.{Work, Take, Read, Ask, Accept, Write, Install, Drop}
use Rattle.lsm_machine.specs.WorkEffects.{work_answer}
use Rattle.lsm_machine.specs.WorkRefusals.{held, of_slot, work_refusal}
use Rattle.lsm_machine.specs.WorkReplies.{work_reply_by, WorkAdmits}
use Rattle.lsm_store.specs.Working.{Works}
use Rattle.lsm_machine.proofs.WorkReplies.{refused_work}
use Rattle.lsm_lives.specs.Calls.{reply_of}
use Rattle.lsm_lives.specs.declared.calls.Reply.{Reply as GivenReply}
use Rattle.lsm_lives.specs.declared.calls.Reply.TheVariants as reply
use Rattle.lsm_trail.specs.History.{Event, replies_of, IsNextNumber, TakesResult}
use Rattle.lsm_trail.specs.Knowledge.{SessionId, Known, known}
use Rattle.lsm_shared.specs.Holds.{IsPutBack}
use Rattle.lsm_shared.specs.Pieces.{work_of}
use Rattle.lsm_shared.specs.Sessions.{SessionView, IsSession, HasSeen, IsLost}
use Rattle.lsm_shared.specs.declared.pieces.OwnPiece.{OwnPiece}
use Rattle.lsm_shared.specs.declared.pieces.OwnPiece.TheVariants as own
use Rattle.lsm_shared.proofs.Faults.{device_kept}
use Rattle.lsm_shared.proofs.Holds.{entered_none}

-- ---- numbers of results

-- no reply as a value lends an input
pub no_number : {A : Type 0} (inputs : List MergeInput) (told : GivenReply A) (n : ℕ) → IsNextNumber inputs (reply_of told) n
no_number inputs (reply.Number k) n = tt
no_number inputs reply.Done n = tt
no_number inputs (reply.Value v) n = tt
no_number inputs (reply.Page page) n = tt
no_number inputs (reply.Taken job) n = tt
no_number inputs (reply.Built result tables) n = tt
no_number inputs (reply.Refused e) n = tt

-- what a store does by itself takes no result
pub no_result_taken : (inputs : List MergeInput) (piece : OwnPiece) (n : ℕ) → TakesResult inputs (Worked (work_of piece)) n
no_result_taken inputs own.Take n = tt
no_result_taken inputs (own.TakeOf choice) n = tt
no_result_taken inputs (own.Read job) n = tt
no_result_taken inputs (own.Write job) n = tt
no_result_taken inputs (own.Install job) n = tt
no_result_taken inputs (own.Drop job) n = tt

-- ---- want of memory

asked_no_value : (o : Option Slot) (v : Option (List ℕ)) → Value v ≡ of_slot Done (λ slot. Handed slot.input) o → ⊥
asked_no_value None v is = cc
asked_no_value (Some slot) v is = cc

answer_no_value : (m : Machine) (piece : Work) (v : Option (List ℕ)) → Value v ≡ work_answer m piece → ⊥
answer_no_value m (Take asked) v is = cc
answer_no_value m (Read job) v is = cc
answer_no_value m (Ask job) v is = asked_no_value (held m job) v is
answer_no_value m (Accept job result) v is = cc
answer_no_value m (Write job) v is = cc
answer_no_value m (Install job) v is = cc
answer_no_value m (Drop job) v is = cc

no_value : (m : Machine) (piece : Work) (v : Option (List ℕ)) (o : Option Refusal) → Value v ≡ work_reply_by m piece o → ⊥
no_value m piece v None is = answer_no_value m piece v is
no_value m piece v (Some e) is = cc

asked_no_page : (o : Option Slot) (page : Page) → Rows page ≡ of_slot Done (λ slot. Handed slot.input) o → ⊥
asked_no_page None page is = cc
asked_no_page (Some slot) page is = cc

answer_no_page : (m : Machine) (piece : Work) (page : Page) → Rows page ≡ work_answer m piece → ⊥
answer_no_page m (Take asked) page is = cc
answer_no_page m (Read job) page is = cc
answer_no_page m (Ask job) page is = asked_no_page (held m job) page is
answer_no_page m (Accept job result) page is = cc
answer_no_page m (Write job) page is = cc
answer_no_page m (Install job) page is = cc
answer_no_page m (Drop job) page is = cc

no_page : (m : Machine) (piece : Work) (page : Page) (o : Option Refusal) → Rows page ≡ work_reply_by m piece o → ⊥
no_page m piece page None is = answer_no_page m piece page is
no_page m piece page (Some e) is = cc

-- a piece of work for which memory was short was told so
pub work_lost : (m : Machine) (piece : Work) (told : Reply) → WorkAdmits m piece told → IsLost told → told ≡ Refused NoMemory
work_lost m piece (Refused NoMemory) admitted short = refl
work_lost m piece (Refused e) admitted short = absurd short
work_lost m piece (Number n) admitted short = absurd short
work_lost m piece Done admitted short = absurd short
work_lost m piece (Value None) admitted short = absurd short
work_lost m piece (Value (Some v)) admitted short = absurd (no_value m piece (Some v) (work_refusal m piece) admitted)
work_lost m piece (Rows page) admitted short = absurd (no_page m piece page (work_refusal m piece) admitted)
work_lost m piece (Given job) admitted short = absurd short
work_lost m piece (Handed input) admitted short = absurd short
work_lost m piece Unread admitted short = absurd short

module _ (old new : StoreView) (piece : Work) (told : Reply) (works : Works old piece told new) (short : IsLost told) where
  short_works : Works old piece (Refused NoMemory) new
  short_works = subst (λ (r : Reply). Works old piece r new) (work_lost (machine_of old) piece told works.admitted short) works

  short_machine : machine_of new ≡ machine_of old
  short_machine =
      let next = refused_work (machine_of old) piece NoMemory (λ e. cc) in
      λ i. record { state = (short_works.state ∙ ap (λ (m : Machine). m.state) next) i; work = (short_works.worked ∙ ap (λ (m : Machine). m.work) next) i }

  -- the session is as it was
  pub work_kept : (id : SessionId) (base : ℕ) (log : List Event) → IsSession id base old log → IsSession id base new log
  work_kept id base log session = record {
    number = session.number;
    legal = session.legal;
    machine = short_machine ∙ session.machine;
    backed = λ began. works.backed (session.backed began);
    device = device_kept id.begin.store.device (replies_of log) old (Worked piece) told new session.device works short;
    room = session.room;
  }

  -- and the piece is no entry
  pub short_of_memory : (id : SessionId) (was : SessionView) (log : List Event) → record { store = old; log = log } ≡ was → (c : Known) → HasSeen id was c → length log < id.begin.limit → IsPutBack id was c piece NoMemory (record { store = new; log = log }) c
  short_of_memory id was log is c seen room =
      subst (λ (v : SessionView). HasSeen id v c → IsPutBack id v c piece NoMemory (record { store = new; log = log }) c) is
      (λ s. record {
        enters = entered_none id (record { store = old; log = log }) new c c s.finds (λ i. known (s.finds.knows.begin i) c.number (s.all i) c.mine) short_machine works.backed;
        out = inr (told, short, works);
        denied = (room, subst (λ (m : Machine). WorkAdmits m piece (Refused NoMemory)) s.finds.machine short_works.admitted);
      }) seen

-- a trail without a place
pub put_back_full : (id : SessionId) (old : SessionView) (c : Known) (piece : Work) → HasSeen id old c → length old.log ≡ id.begin.limit → IsPutBack id old c piece TrailFull old c
put_back_full id old c piece s full = record {
  enters = entered_none id old old.store c c s.finds (λ i. known (s.finds.knows.begin i) c.number (s.all i) c.mine) refl (λ b. b);
  out = inl refl;
  denied = full;
}

-- the same where the parts of the session are known
pub put_back_full_was : (id : SessionId) (store : StoreView) (log : List Event) (old : SessionView) → record { store = store; log = log } ≡ old → (c : Known) (piece : Work) → HasSeen id old c → length log ≡ id.begin.limit → IsPutBack id old c piece TrailFull old c
put_back_full_was id store log old was c piece seen full =
    subst (λ (v : SessionView). HasSeen id v c → IsPutBack id v c piece TrailFull v c) was (λ s. put_back_full id (record { store = store; log = log }) c piece s full) seen

-- a build to which nothing was lent for want of memory
pub put_back_short : (id : SessionId) (store : StoreView) (log : List Event) (old : SessionView) → record { store = store; log = log } ≡ old → (c : Known) (piece : Work) (e : Refusal) → HasSeen id old c → length log < id.begin.limit → e ≡ NoMemory
    → WorkAdmits (machine_of old.store) piece (Refused e) → IsPutBack id old c piece NoMemory old c
put_back_short id store log old was c piece e seen room is admitted = record {
  enters = entered_none id old old.store c c seen.finds (λ i. known (seen.finds.knows.begin i) c.number (seen.all i) c.mine) refl (λ b. b);
  out = inl refl;
  denied = (
    subst (λ (v : SessionView). length v.log < id.begin.limit) was room,
    subst (λ (m : Machine). WorkAdmits m piece (Refused NoMemory)) seen.finds.machine (subst (λ (r : Refusal). WorkAdmits (machine_of old.store) piece (Refused r)) is admitted),
  );
}

-- what a step did that is known of the whole session, known of its store
pub works_inside : (store : StoreView) (log : List Event) (old : SessionView) (piece : Work) (told : Reply) → record { store = store; log = log } ≡ old → Works old.store piece told old.store → Works store piece told store
works_inside store log old piece told was works = subst (λ (v : SessionView). Works v.store piece told v.store) (sym was) works

abbrev refusal_in : Reply → Refusal
refusal_in (Refused r) = r
refusal_in r = NoMemory

-- a refusal that is not for want of memory
pub other_refusal : (e : Refusal) → e ≢ NoMemory → Refused e ≢ Refused NoMemory
other_refusal e other same = other (ap refusal_in same)
