-- A commit under no guards is a commit.
use Rattle.std.proofs.Common.{◌≡◌, Bool, true, false, cond, is_some, List, [], refl, sym, ◌∙◌, subst}
use Rattle.std.specs.Prelude.{◌↔◌}
use Rattle.lsm_codec.specs.Map.{Operation}
use Rattle.lsm_device.proofs.Counting.{none_made}
use Rattle.lsm_device.specs.Medium.{Medium}
use Rattle.lsm_device.specs.declared.refusal.Refusal.TheVariants.{NoMemory, Io, BadTable, GuardFailed}
use Rattle.lsm_store.specs.Backing.{StoreView, machine_of}
use Rattle.lsm_machine.specs.Calls.{Reply}
use Rattle.lsm_machine.specs.Calls.{Commit, CommitIf, Number, Done, Value, Rows, Given, Handed, Refused, Unread}
use Rattle.lsm_machine.specs.Effects.{Use}
use Rattle.lsm_machine.specs.Effects.{Untouched, Reads, Changes}
use Rattle.lsm_machine.specs.Machine.{Machine, Called}
use Rattle.lsm_machine.specs.Refusals.{refusal}
use Rattle.lsm_machine.proofs.GuardReads.{undecided}
use Rattle.lsm_machine.specs.Run.{Allows, Admits, AllowsStep, next, next_machine}
use Rattle.lsm_store.specs.Serving.{HasWrittenBatch, IsUsed, Serves, use_before, use_by}
use Rattle.lsm_machine.specs.State.{State}
use Rattle.lsm_machine.specs.WorkEffects.{work_by}

module _ (s : State) (batch : List Operation) where
  allows_commit : (reply : Reply) → Allows s (CommitIf [] batch) reply → Allows s (Commit batch) reply
  allows_commit (Refused NoMemory) h = h
  allows_commit (Refused Io) h = h
  allows_commit (Refused BadTable) h = h
  allows_commit (Refused (GuardFailed place)) h = h
  allows_commit (Refused e) h = h
  allows_commit (Number n) h = h
  allows_commit Done h = h
  allows_commit (Value v) h = h
  allows_commit (Rows page) h = h
  allows_commit (Given taken) h = h
  allows_commit (Handed input) h = h
  allows_commit Unread h = absurd (undecided s (CommitIf [] batch) h)

  commit_allows : (reply : Reply) → Allows s (Commit batch) reply → Allows s (CommitIf [] batch) reply
  commit_allows (Refused NoMemory) h = h
  commit_allows (Refused Io) h = h
  commit_allows (Refused BadTable) h = h
  commit_allows (Refused (GuardFailed place)) h = h
  commit_allows (Refused e) h = h
  commit_allows (Number n) h = h
  commit_allows Done h = h
  commit_allows (Value v) h = h
  commit_allows (Rows page) h = h
  commit_allows (Given taken) h = h
  commit_allows (Handed input) h = h
  commit_allows Unread h = absurd (undecided s (Commit batch) h)

  admits_commit : (reply : Reply) → Admits s (CommitIf [] batch) reply → Admits s (Commit batch) reply
  admits_commit (Refused NoMemory) h = h
  admits_commit (Refused Io) h = h
  admits_commit (Refused BadTable) h = h
  admits_commit (Refused (GuardFailed place)) h = h
  admits_commit (Refused e) h = h
  admits_commit (Number n) h = h
  admits_commit Done h = h
  admits_commit (Value v) h = h
  admits_commit (Rows page) h = h
  admits_commit (Given taken) h = h
  admits_commit (Handed input) h = h
  admits_commit Unread h = h

  commit_admits : (reply : Reply) → Admits s (Commit batch) reply → Admits s (CommitIf [] batch) reply
  commit_admits (Refused NoMemory) h = h
  commit_admits (Refused Io) h = h
  commit_admits (Refused BadTable) h = h
  commit_admits (Refused (GuardFailed place)) h = h
  commit_admits (Refused e) h = h
  commit_admits (Number n) h = h
  commit_admits Done h = h
  commit_admits (Value v) h = h
  commit_admits (Rows page) h = h
  commit_admits (Given taken) h = h
  commit_admits (Handed input) h = h
  commit_admits Unread h = h

  same_next : (reply : Reply) → next s (CommitIf [] batch) reply ≡ next s (Commit batch) reply
  same_next (Refused NoMemory) = refl
  same_next (Refused Io) = refl
  same_next (Refused BadTable) = refl
  same_next (Refused (GuardFailed place)) = refl
  same_next (Refused e) = refl
  same_next (Number n) = refl
  same_next Done = refl
  same_next (Value v) = refl
  same_next (Rows page) = refl
  same_next (Given taken) = refl
  same_next (Handed input) = refl
  same_next Unread = refl

  -- the uses
  used_commit : (used : Use) (reply : Reply) (old new : Medium) → IsUsed (CommitIf [] batch) reply used old new → IsUsed (Commit batch) reply used old new
  used_commit Untouched reply old new h = h
  used_commit Reads reply old new h = h.0
  used_commit Changes reply old new h = subst (λ (m : Medium). HasWrittenBatch batch reply m.calls new.calls) (h.unasked refl) h.writes

  commit_used : (used : Use) (reply : Reply) (old new : Medium) → (used ≡ Reads → ⊥) → IsUsed (Commit batch) reply used old new → IsUsed (CommitIf [] batch) reply used old new
  commit_used Untouched reply old new other h = h
  commit_used Reads reply old new other h = absurd (other refl)
  commit_used Changes reply old new other h = record {
    mid = old;
    only_read = record { no_write = refl; no_sync = refl; same_history = λ tells. refl };
    reads = none_made 0 0 0 old.calls;
    no_fault = refl;
    unasked = λ none. refl;
    writes = h;
  }

  never_read : (reply : Reply) → use_before Untouched Changes reply ≡ Reads → ⊥
  never_read (Refused NoMemory) h = cc
  never_read (Refused Io) h = cc
  never_read (Refused BadTable) h = cc
  never_read (Refused (GuardFailed place)) h = cc
  never_read (Refused e) h = cc
  never_read (Number n) h = cc
  never_read Done h = cc
  never_read (Value v) h = cc
  never_read (Rows page) h = cc
  never_read (Given taken) h = cc
  never_read (Handed input) h = cc
  never_read Unread h = cc

  no_read : (reply : Reply) (refused : Bool) → cond refused Untouched (use_before Untouched Changes reply) ≡ Reads → ⊥
  no_read reply true h = cc
  no_read reply false h = never_read reply h

module _ (batch : List Operation) (old new : StoreView) where
  same_work : (reply : Reply) → work_by (machine_of old) (CommitIf [] batch) reply ≡ work_by (machine_of old) (Commit batch) reply
  same_work (Refused NoMemory) = refl
  same_work (Refused Io) = refl
  same_work (Refused BadTable) = refl
  same_work (Refused (GuardFailed place)) = refl
  same_work (Refused e) = refl
  same_work (Number n) = refl
  same_work Done = refl
  same_work (Value v) = refl
  same_work (Rows page) = refl
  same_work (Given taken) = refl
  same_work (Handed input) = refl
  same_work Unread = refl

  serves_commit : (reply : Reply) → Serves old (CommitIf [] batch) reply new → Serves old (Commit batch) reply new
  serves_commit reply h = record {
    admitted = admits_commit old.state batch reply h.admitted;
    allowed = λ backed. allows_commit old.state batch reply (h.allowed backed);
    state = h.state ∙ same_next old.state batch reply;
    worked = λ running. h.worked running ∙ same_work reply;
    used = used_commit old.state batch (use_by old.state (Commit batch) reply) reply old.device new.device h.used;
    cached = h.cached;
    fault = h.fault;
    same_size = h.same_size;
    same_lasting = h.same_lasting;
    crash = h.crash;
    backed = h.backed;
  }

  commit_serves : (reply : Reply) → Serves old (Commit batch) reply new → Serves old (CommitIf [] batch) reply new
  commit_serves reply h = record {
    admitted = commit_admits old.state batch reply h.admitted;
    allowed = λ backed. commit_allows old.state batch reply (h.allowed backed);
    state = h.state ∙ sym (same_next old.state batch reply);
    worked = λ running. h.worked running ∙ sym (same_work reply);
    used = commit_used old.state batch (use_by old.state (Commit batch) reply) reply old.device new.device (no_read old.state batch reply (is_some (refusal old.state (Commit batch)))) h.used;
    cached = h.cached;
    fault = h.fault;
    same_size = h.same_size;
    same_lasting = h.same_lasting;
    crash = h.crash;
    backed = h.backed;
  }

  pub no_guards_serve : (reply : Reply) → Serves old (CommitIf [] batch) reply new ↔ Serves old (Commit batch) reply new
  no_guards_serve reply = (serves_commit reply, commit_serves reply)

-- and the machine takes it as one
pub no_guards_allow : (m : Machine) (batch : List Operation) (reply : Reply) → AllowsStep m (Called (CommitIf [] batch)) reply ↔ AllowsStep m (Called (Commit batch)) reply
no_guards_allow m batch reply = (allows_commit m.state batch reply, commit_allows m.state batch reply)

pub no_guards_go : (m : Machine) (batch : List Operation) (reply : Reply) → next_machine m (Called (CommitIf [] batch)) reply ≡ next_machine m (Called (Commit batch)) reply
no_guards_go m batch reply = λ i. record { state = same_next m.state batch reply i; work = alike reply i }
  where
    alike : (told : Reply) → work_by m (CommitIf [] batch) told ≡ work_by m (Commit batch) told
    alike (Refused NoMemory) = refl
    alike (Refused Io) = refl
    alike (Refused BadTable) = refl
    alike (Refused (GuardFailed place)) = refl
    alike (Refused e) = refl
    alike (Number n) = refl
    alike Done = refl
    alike (Value v) = refl
    alike (Rows page) = refl
    alike (Given taken) = refl
    alike (Handed input) = refl
    alike Unread = refl
