-- A read of a commit's guards that faulted.
use Rattle.std.proofs.Common.{◌≡◌, ℕ, List, [], ◌∷◌, Option, Some, None, refl}
use Rattle.std.specs.Prelude.{IsNone}
use Rattle.lsm_device.specs.declared.refusal.Refusal.{Refusal}
use Rattle.lsm_machine.specs.State.{State}
use Rattle.lsm_machine.specs.Calls.{Call}
use Rattle.lsm_machine.specs.Calls.{Commit, CommitIf, Sync, SyncTo, Get, Scan, Snapshot, Release, Rotate, LogRoom, Unread}
use Rattle.lsm_machine.specs.Refusals.{refusal, full_refusal}
use Rattle.lsm_machine.specs.Effects.{answer, decided, reply_by, Use, use_of, use_first}
use Rattle.lsm_machine.specs.Effects.{Untouched, Reads, Changes}
use Rattle.lsm_machine.specs.Run.{Allows}

-- no state decides that
pub undecided : (s : State) (call : Call) → Unread ≡ decided s call → ⊥
undecided s call is = by (full_refusal s call) is
  where
    answered : (c : Call) → Unread ≡ answer s c → ⊥
    answered (Commit batch) so = cc
    answered (CommitIf guards batch) so = cc
    answered Sync so = cc
    answered (SyncTo number) so = cc
    answered (Get at key) so = cc
    answered (Scan at from to limit) so = cc
    answered Snapshot so = cc
    answered (Release number) so = cc
    answered Rotate so = cc
    answered LogRoom so = cc

    by : (o : Option Refusal) → Unread ≡ reply_by s call o → ⊥
    by (Some e) so = cc
    by None so = answered call so

-- a call that may be answered so reads before it changes anything
pub unread_reads : (s : State) (call : Call) → Allows s call Unread → IsNone (refusal s call) × (use_first call ≡ Reads) × (use_of s call ≡ Changes)
unread_reads s (CommitIf (guard ∷ guards) batch) may = (may, refl, refl)
unread_reads s (CommitIf [] batch) may = absurd (undecided s (CommitIf [] batch) may)
unread_reads s (Commit batch) may = absurd (undecided s (Commit batch) may)
unread_reads s Sync may = absurd (undecided s Sync may)
unread_reads s (SyncTo number) may = absurd (undecided s (SyncTo number) may)
unread_reads s (Get at key) may = absurd (undecided s (Get at key) may)
unread_reads s (Scan at from to limit) may = absurd (undecided s (Scan at from to limit) may)
unread_reads s Snapshot may = absurd (undecided s Snapshot may)
unread_reads s (Release number) may = absurd (undecided s (Release number) may)
unread_reads s Rotate may = absurd (undecided s Rotate may)
unread_reads s LogRoom may = absurd (undecided s LogRoom may)

no_reads : Untouched ≡ Reads → ⊥
no_reads e = cc

no_changes : Reads ≡ Changes → ⊥
no_changes e = cc

-- and a call that does so may be
pub reads_unread : (s : State) (call : Call) → IsNone (refusal s call) → use_first call ≡ Reads → use_of s call ≡ Changes → Allows s call Unread
reads_unread s (CommitIf (guard ∷ guards) batch) none reads changes = none
reads_unread s (CommitIf [] batch) none reads changes = absurd (no_reads reads)
reads_unread s (Commit batch) none reads changes = absurd (no_reads reads)
reads_unread s Sync none reads changes = absurd (no_reads reads)
reads_unread s (SyncTo number) none reads changes = absurd (no_reads reads)
reads_unread s (Get at key) none reads changes = absurd (no_changes changes)
reads_unread s (Scan at from to limit) none reads changes = absurd (no_changes changes)
reads_unread s Snapshot none reads changes = absurd (no_reads reads)
reads_unread s (Release number) none reads changes = absurd (no_reads reads)
reads_unread s Rotate none reads changes = absurd (no_reads reads)
reads_unread s LogRoom none reads changes = absurd (no_reads reads)
