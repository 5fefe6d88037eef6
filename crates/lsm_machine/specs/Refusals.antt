-- When the state refuses a call, and with which refusal.
use Rattle.std.specs.Prelude.{ℕ, suc, ◌==◌, nat_le, nat_lt, ◌&&◌, Bool, not, is_some, List, [], ◌∷◌, ◌++◌, length, Option, Some, None, if◌then◌else◌}
use Rattle.lsm_codec.specs.BatchText.{is_key}
use Rattle.lsm_device.specs.declared.refusal.Refusal.{Refusal}
use Rattle.lsm_device.specs.declared.refusal.Refusal.TheVariants.{Stopped, LogFull, SealedWaiting, NothingToRotate, NoSuchSnapshot, TooManySnapshots, NoSuchBatch, BadKey, BadRange, Exhausted, BadLimit, GuardFailed, TooManyGuards}
use Rattle.lsm_root.specs.CrashState.{last_number}
use Rattle.lsm_codec.specs.Map.{Map}
use Rattle.lsm_codec.specs.Guards.{Condition, is_met}
use Rattle.lsm_machine.specs.RecoveryPoints.{batch_count, present_map}
use Rattle.lsm_machine.specs.State.{State, are_waiting, snapshot_of, may_ask, fits, is_unused}
use Rattle.lsm_mem.specs.Paging.{is_backwards}
use Rattle.lsm_machine.specs.Calls.{Call}
use Rattle.lsm_machine.specs.Calls.{Commit, CommitIf, SyncTo, Get, Scan, Snapshot, Release, Rotate}

-- how many snapshots may be live
abbrev pub most_snapshots : ℕ
most_snapshots = 32

-- how many guards a commit may have
abbrev pub most_guards : ℕ
most_guards = 16

-- the refusals of a running store in their order, each with its condition, but for those that it finds as it reads
abbrev pub refusals : State → Call → List (Bool × Refusal)
refusals s (Commit batch) = (batch_count s.points == last_number, Exhausted) ∷ (not (fits s batch), LogFull) ∷ []
refusals s (CommitIf guards batch) = (nat_lt most_guards (length guards), TooManyGuards) ∷ (batch_count s.points == last_number, Exhausted) ∷ (not (fits s batch), LogFull) ∷ []
refusals s (SyncTo number) = (nat_lt (batch_count s.points) number, NoSuchBatch) ∷ []
refusals s (Get at key) = (not (is_key key), BadKey) ∷ (not (may_ask s at), NoSuchSnapshot) ∷ []
refusals s (Scan at from to limit) = (not (nat_le 1 limit && nat_le limit 64), BadLimit) ∷ (is_backwards from to, BadRange) ∷ (not (may_ask s at), NoSuchSnapshot) ∷ []
refusals s Snapshot = (nat_le most_snapshots (length s.snapshots), TooManySnapshots) ∷ (nat_lt last_number s.next_snapshot, Exhausted) ∷ []
refusals s (Release number) = (not (is_some (snapshot_of s number)), NoSuchSnapshot) ∷ []
refusals s Rotate = (are_waiting s, SealedWaiting) ∷ (is_unused s.open_log, NothingToRotate) ∷ (s.generation == last_number, Exhausted) ∷ []
refusals s other = []

-- the first whose condition holds
abbrev pub first_refusal : List (Bool × Refusal) → Option Refusal
first_refusal [] = None
first_refusal (test ∷ rest) = if test.0 then Some test.1 else first_refusal rest

-- the refusal that the state decides before anything is read, if it refuses the call; a stopped store refuses each
abbrev pub refusal : State → Call → Option Refusal
refusal s call = first_refusal ((is_some s.stopped, Stopped) ∷ refusals s call)

-- each guard that a map doesn't meet is a refusal, with its place, counted on from this one
abbrev pub guard_refusals : ℕ → Map → List Condition → List (Bool × Refusal)
guard_refusals place m [] = []
guard_refusals place m (guard ∷ rest) = (not (is_met m guard), GuardFailed place) ∷ guard_refusals (suc place) m rest

-- The refusals that a store finds as it reads, after all others: guards are asked of the present map, in their order. Until
-- then a read may fault.
abbrev pub later_refusals : State → Call → List (Bool × Refusal)
later_refusals s (CommitIf guards batch) = guard_refusals 0 (present_map s.points) guards
later_refusals s other = []

-- the first refusal of all
abbrev pub full_refusal : State → Call → Option Refusal
full_refusal s call = first_refusal ((is_some s.stopped, Stopped) ∷ (refusals s call ++ later_refusals s call))
