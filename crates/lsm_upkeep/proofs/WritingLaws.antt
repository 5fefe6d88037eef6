-- What a commit comes to that finds room.
use Rattle.std.proofs.Common.{◌≡◌, ◌∙◌, ◌||◌, Bool, true, false, nat_lt, length, true≢false, inl, inr, refl, sym, ap, List, Option, Result, Err, ℕ}
use Rattle.lsm_codec.specs.Guards.{Condition}
use Rattle.lsm_codec.specs.Map.{Operation}
use Rattle.lsm_device.specs.declared.refusal.Refusal.{Refusal}
use Rattle.lsm_device.specs.declared.refusal.Refusal.TheVariants.{LogFull, NoSpace}
use Rattle.lsm_store.specs.Backing.{StoreView}
use Rattle.lsm_machine.specs.Calls.{Reply, Refused, Number, Done, Value, Rows, Given, Handed, Unread, reply_of}
use Rattle.lsm_machine.specs.State.{LiveSnapshot}
use Rattle.lsm_upkeep.specs.Flushing.{IsMadeReady}
use Rattle.lsm_upkeep.specs.Steps.{IsUpkept}
use Rattle.lsm_upkeep.specs.Writing.{FindsNoRoom, HasRoomFor, IsServed, Writes, commit_of, has_puts, wants_room, without_log_full}

-- upkeep changes no snapshot, so that a batch wants room as before
pub wants-upkept : (batch : List Operation) (old new : StoreView) → IsUpkept old new → wants_room batch old.state ≡ true → wants_room batch new.state ≡ true
wants-upkept batch old new u e = ap (λ (n : List LiveSnapshot). has_puts batch || nat_lt 0 (length n)) u.keeps.snapshots ∙ e

-- whether it is told that the log is full
abbrev is_full : Reply → Bool
is_full (Refused LogFull) = true
is_full other = false

never_full : (reply : Reply) → is_full (without_log_full reply) ≡ false
never_full (Refused LogFull) = refl
never_full (Refused other) = refl
never_full (Number n) = refl
never_full Done = refl
never_full (Value v) = refl
never_full (Rows page) = refl
never_full (Given job) = refl
never_full (Handed input) = refl
never_full Unread = refl

-- whether it is told that a batch has a number
abbrev is_number : Reply → Bool
is_number (Number n) = true
is_number other = false

pub told : (reply : Result ℕ Refusal) (refusal : Refusal) → reply ≡ Err refusal → reply_of (λ n. Number n) reply ≡ Refused refusal
told reply refusal e = ap (reply_of (λ n. Number n)) e

module _ (guards : Option (List Condition)) (batch : List Operation) (old kept : StoreView) (upkeep : IsUpkept old kept) (ready : IsMadeReady old kept) where
  pub writes-served : (reply said : Reply) (new : StoreView) → IsServed (commit_of guards batch) kept reply new → said ≡ without_log_full reply → HasRoomFor batch kept → Writes guards batch old said new
  writes-served reply said new serves is fits = record {
    kept = kept;
    upkeep = upkeep;
    ready = ready;
    ends = inl (reply, serves, is);
    room = λ full. true≢false (sym (ap is_full full) ∙ ap is_full is ∙ never_full reply);
    fits = λ n told_so. fits;
  }

  pub writes-refused : (refusal : Refusal) → refusal ≡ NoSpace → FindsNoRoom batch old kept → Writes guards batch old (Refused refusal) kept
  writes-refused refusal is none = record {
    kept = kept;
    upkeep = upkeep;
    ready = ready;
    ends = inr (ap (λ (r : Refusal). Refused r) is, none, refl);
    room = λ full. true≢false (sym (ap is_full full) ∙ ap (λ (r : Refusal). is_full (Refused r)) is);
    fits = λ n told_so. absurd (true≢false (sym (ap is_number told_so)));
  }
