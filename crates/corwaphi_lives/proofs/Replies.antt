-- What replies tell: the snapshots that are live after them, and that a log is full, which only a commit fails with.
use Rattle.std.proofs.Common.{◌≡◌, ℕ, Bool, true, false, not, ◌==◌, List, [], ◌∷◌, ◌++◌, map, cond, Option, Some, None, is_some, nat_le, true≢false, refl, ap, ◌∙◌}
use Rattle.std.specs.Prelude.{filter}
use Rattle.std.specs.List.{AllByRecursion}
use Rattle.std.proofs.lemmas.Bool.{false≢true}
use Rattle.std.proofs.lemmas.List.{map_push}
use Rattle.lsm_device.specs.declared.refusal.Refusal.{Refusal}
use Rattle.lsm_device.specs.declared.refusal.Refusal.TheVariants.{Io, LogFull, Stopped}
use Rattle.lsm_merge.specs.Inputs.{MergeInput}
use Rattle.lsm_machine.specs.Calls.{Call, Reply}
use Rattle.lsm_machine.specs.Calls.{Commit, CommitIf, Sync, SyncTo, Get, Scan, Snapshot, Release, Rotate, LogRoom, Number, Done, Value, Rows, Given, Handed, Refused, Unread, as_told}
use Rattle.lsm_machine.specs.Effects.{Use, use_of, answer, after, next_taken, reply_by, without}
use Rattle.lsm_machine.specs.Effects.{Untouched, Reads, Changes}
use Rattle.lsm_machine.specs.RecoveryPoints.{all_synced}
use Rattle.lsm_machine.specs.Refusals.{refusal, refusals, first_refusal}
use Rattle.lsm_machine.specs.Run.{Admits, after_fault, next}
use Rattle.lsm_machine.specs.State.{State, LiveSnapshot}
use Rattle.lsm_upkeep.specs.Writing.{without_log_full}
use Rattle.corwaphi_lives.specs.Batches.{live_after}

abbrev pub numbers : List LiveSnapshot → List ℕ
numbers snapshots = map (λ snapshot. snapshot.number) snapshots

-- those without one number
numbers_without : (number : ℕ) (snapshots : List LiveSnapshot) → numbers (without number snapshots) ≡ filter (λ taken. not (taken == number)) (numbers snapshots)
numbers_without number [] = refl
numbers_without number (snapshot ∷ rest) = by (not (snapshot.number == number)) (numbers_without number rest)
  where
    by : (b : Bool) → numbers (without number rest) ≡ filter (λ taken. not (taken == number)) (numbers rest)
        → numbers (cond b (snapshot ∷ without number rest) (without number rest)) ≡ cond b (snapshot.number ∷ filter (λ taken. not (taken == number)) (numbers rest)) (filter (λ taken. not (taken == number)) (numbers rest))
    by true same = ap (λ (l : List ℕ). snapshot.number ∷ l) same
    by false same = same

-- what is answered, where nothing refuses
module _ (s : State) where
  taken_number : (o : Option Refusal) (n : ℕ) → Number n ≡ reply_by s Snapshot o → s.next_snapshot ≡ n
  taken_number None n is = cc
  taken_number (Some e) n is = absurd cc

  snapshot_done : (o : Option Refusal) → Done ≡ reply_by s Snapshot o → ⊥
  snapshot_done None is = cc
  snapshot_done (Some e) is = cc

  snapshot_given : (o : Option Refusal) (job : Option (ℕ × Option ℕ)) → Given job ≡ reply_by s Snapshot o → ⊥
  snapshot_given None job is = cc
  snapshot_given (Some e) job is = cc

  snapshot_handed : (o : Option Refusal) (input : MergeInput) → Handed input ≡ reply_by s Snapshot o → ⊥
  snapshot_handed None input is = cc
  snapshot_handed (Some e) input is = cc

  release_number : (o : Option Refusal) (number n : ℕ) → Number n ≡ reply_by s (Release number) o → ⊥
  release_number None number n is = cc
  release_number (Some e) number n is = cc

  release_given : (o : Option Refusal) (number : ℕ) (job : Option (ℕ × Option ℕ)) → Given job ≡ reply_by s (Release number) o → ⊥
  release_given None number job is = cc
  release_given (Some e) number job is = cc

  release_handed : (o : Option Refusal) (number : ℕ) (input : MergeInput) → Handed input ≡ reply_by s (Release number) o → ⊥
  release_handed None number input is = cc
  release_handed (Some e) number input is = cc

  by_fault : (call : Call) (most : Use) → (after_fault s call most).snapshots ≡ s.snapshots
  by_fault call Untouched = refl
  by_fault call Reads = refl
  by_fault call Changes = refl

  -- a call that leaves the snapshots as they are
  stay : (call : Call) → (after s call).snapshots ≡ s.snapshots → (reply : Reply) → (next s call reply).snapshots ≡ s.snapshots
  stay call same (Refused Io) = by_fault call (use_of s call)
  stay call same (Refused e) = refl
  stay call same Unread = refl
  stay call same reply = same

  if_synced : (b : Bool) → (cond b s (record s { points = all_synced s.points })).snapshots ≡ s.snapshots
  if_synced true = refl
  if_synced false = refl

  pub numbers_after : (call : Call) (reply : Reply) → Admits s call reply → numbers (next s call reply).snapshots ≡ live_after (numbers s.snapshots) call (as_told reply)
  numbers_after Snapshot (Number n) may =
      map_push (λ (x : LiveSnapshot). x.number) s.snapshots (next_taken s) ∙ ap (λ (k : ℕ). numbers s.snapshots ++ k ∷ []) (taken_number (refusal s Snapshot) n may)
  numbers_after Snapshot (Refused Io) may = ap numbers (by_fault Snapshot (use_of s Snapshot))
  numbers_after Snapshot (Refused e) may = refl
  numbers_after Snapshot Unread may = refl
  numbers_after Snapshot Done may = absurd (snapshot_done (refusal s Snapshot) may)
  numbers_after Snapshot (Value v) may = absurd (false≢true may.1)
  numbers_after Snapshot (Rows page) may = absurd (false≢true may.1)
  numbers_after Snapshot (Given job) may = absurd (snapshot_given (refusal s Snapshot) job may)
  numbers_after Snapshot (Handed input) may = absurd (snapshot_handed (refusal s Snapshot) input may)
  numbers_after (Release number) Done may = numbers_without number s.snapshots
  numbers_after (Release number) (Refused Io) may = ap numbers (by_fault (Release number) (use_of s (Release number)))
  numbers_after (Release number) (Refused e) may = refl
  numbers_after (Release number) Unread may = refl
  numbers_after (Release number) (Number n) may = absurd (release_number (refusal s (Release number)) number n may)
  numbers_after (Release number) (Value v) may = absurd (false≢true may.1)
  numbers_after (Release number) (Rows page) may = absurd (false≢true may.1)
  numbers_after (Release number) (Given job) may = absurd (release_given (refusal s (Release number)) number job may)
  numbers_after (Release number) (Handed input) may = absurd (release_handed (refusal s (Release number)) number input may)
  numbers_after (Commit batch) reply may = ap numbers (stay (Commit batch) refl reply)
  numbers_after (CommitIf guards batch) reply may = ap numbers (stay (CommitIf guards batch) refl reply)
  numbers_after Sync reply may = ap numbers (stay Sync refl reply)
  numbers_after (SyncTo number) reply may = ap numbers (stay (SyncTo number) (if_synced (nat_le number s.points.synced)) reply)
  numbers_after (Get at key) reply may = ap numbers (stay (Get at key) refl reply)
  numbers_after (Scan at from to limit) reply may = ap numbers (stay (Scan at from to limit) refl reply)
  numbers_after Rotate reply may = ap numbers (stay Rotate refl reply)
  numbers_after LogRoom reply may = ap numbers (stay LogRoom refl reply)

-- ---- LogFull, which none but a commit is refused with

abbrev pub is_full : Reply → Bool
is_full (Refused LogFull) = true
is_full other = false

abbrev AreOthers : List (Bool × Refusal) → Type 0
AreOthers tests = AllByRecursion (λ test. is_full (Refused test.1) ≡ false) tests

unfull : (s : State) (call : Call) (tests : List (Bool × Refusal)) → is_full (answer s call) ≡ false → AreOthers tests → is_full (reply_by s call (first_refusal tests)) ≡ false
unfull s call [] answered others = answered
unfull s call (test ∷ rest) answered others = by test.0 (unfull s call rest answered others.1)
  where
    by : (b : Bool) → is_full (reply_by s call (first_refusal rest)) ≡ false → is_full (reply_by s call (cond b (Some test.1) (first_refusal rest))) ≡ false
    by true more = others.0
    by false more = more

-- a call of a `Db` that is no write
abbrev pub IsRead : Call → Type 0
IsRead (Commit batch) = ⊥
IsRead (CommitIf guards batch) = ⊥
IsRead Rotate = ⊥
IsRead other = Unit {0}

decided_unfull : (s : State) (call : Call) → IsRead call → is_full (reply_by s call (refusal s call)) ≡ false
decided_unfull s Sync is = unfull s Sync ((is_some s.stopped, Stopped) ∷ refusals s Sync) refl (refl, tt)
decided_unfull s (SyncTo number) is = unfull s (SyncTo number) ((is_some s.stopped, Stopped) ∷ refusals s (SyncTo number)) refl (refl, (refl, tt))
decided_unfull s (Get at key) is = unfull s (Get at key) ((is_some s.stopped, Stopped) ∷ refusals s (Get at key)) refl (refl, (refl, (refl, tt)))
decided_unfull s (Scan at from to limit) is = unfull s (Scan at from to limit) ((is_some s.stopped, Stopped) ∷ refusals s (Scan at from to limit)) refl (refl, (refl, (refl, (refl, tt))))
decided_unfull s Snapshot is = unfull s Snapshot ((is_some s.stopped, Stopped) ∷ refusals s Snapshot) refl (refl, (refl, (refl, tt)))
decided_unfull s (Release number) is = unfull s (Release number) ((is_some s.stopped, Stopped) ∷ refusals s (Release number)) refl (refl, (refl, tt))
decided_unfull s LogRoom is = unfull s LogRoom ((is_some s.stopped, Stopped) ∷ refusals s LogRoom) refl (refl, tt)
decided_unfull s (Commit batch) is = absurd is
decided_unfull s (CommitIf guards batch) is = absurd is
decided_unfull s Rotate is = absurd is

-- so its reply is told as it is
pub told_as_replied : (s : State) (call : Call) → IsRead call → (reply : Reply) → Admits s call reply → without_log_full reply ≡ reply
told_as_replied s call is (Refused LogFull) may = absurd (true≢false (ap is_full may ∙ decided_unfull s call is))
told_as_replied s call is (Refused e) may = refl
told_as_replied s call is (Number n) may = refl
told_as_replied s call is Done may = refl
told_as_replied s call is (Value v) may = refl
told_as_replied s call is (Rows page) may = refl
told_as_replied s call is (Given job) may = refl
told_as_replied s call is (Handed input) may = refl
told_as_replied s call is Unread may = refl
