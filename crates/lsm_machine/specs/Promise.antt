-- What a store promises over crashes, in the words of batches alone.
use Rattle.std.specs.Prelude.{◌≡◌, ◌≤◌, ℕ, ◌+◌, nat_le, List, [], ◌∷◌, ◌++◌, length, take, drop, Contains, if◌then◌else◌}
use Rattle.lsm_codec.specs.Map.{Map, Operation, apply, apply_all}
use Rattle.lsm_device.specs.declared.refusal.Refusal.TheVariants.{Io}
use Rattle.lsm_root.specs.CrashState.{CrashState}
use Rattle.lsm_machine.specs.RecoveryPoints.{RecoveryPoints, batch_count, present_map}
use Rattle.lsm_machine.specs.Calls.{Reply}
use Rattle.lsm_machine.specs.Calls.{Commit, CommitIf, Sync, SyncTo, Rotate, Number, Done, Refused}
use Rattle.lsm_machine.specs.Crash.{may_leave, reopened}
use Rattle.lsm_jobs.specs.Slots.{no_jobs}
use Rattle.lsm_machine.specs.Machine.{Machine, Step, Called, Worked}
use Rattle.lsm_machine.specs.Work.{Install}
use Rattle.lsm_machine.specs.WorkSound.{IsSound}
use Rattle.lsm_machine.specs.Run.{Run, last_machine, left_in_step}

-- the batch of a commit that was answered with its number
abbrev pub accepted_by : Step → Reply → List (List Operation)
accepted_by (Called (Commit batch)) (Number n) = batch ∷ []
accepted_by (Called (CommitIf guards batch)) (Number n) = batch ∷ []
accepted_by step reply = []

-- the batches that were accepted, in order
abbrev pub accepted : List Step → List Reply → List (List Operation)
accepted (step ∷ steps) (reply ∷ replies) = accepted_by step reply ++ accepted steps replies
accepted steps replies = []

-- How many of the accepted batches are acknowledged as synced after a step, where `done` were accepted before it, `known` of
-- them acknowledged, and the store was opened with `opened` batches. A sync acknowledges all, and so do a rotation and an
-- install.
abbrev pub acknowledged_by : ℕ → ℕ → ℕ → Step → Reply → ℕ
acknowledged_by opened done known (Called Sync) Done = done
acknowledged_by opened done known (Called (SyncTo number)) Done = if nat_le number (opened + known) then known else done
acknowledged_by opened done known (Called Rotate) Done = done
acknowledged_by opened done known (Worked (Install job)) Done = done
acknowledged_by opened done known step reply = known

abbrev pub acknowledged_from : ℕ → ℕ → ℕ → List Step → List Reply → ℕ
acknowledged_from opened done known (step ∷ steps) (reply ∷ replies) = acknowledged_from opened (done + length (accepted_by step reply)) (acknowledged_by opened done known step reply) steps replies
acknowledged_from opened done known steps replies = known

-- how many of the accepted batches are acknowledged as synced after these steps
abbrev pub acknowledged : ℕ → List Step → List Reply → ℕ
acknowledged opened steps replies = acknowledged_from opened 0 0 steps replies

-- the batch in flight, if there is one: of the commit that stopped the store, or of the commit that isn't answered yet
abbrev pub in_flight : List Step → List Reply → List (List Operation)
in_flight (Called (Commit batch) ∷ steps) [] = batch ∷ []
in_flight (Called (CommitIf guards batch) ∷ steps) [] = batch ∷ []
in_flight (Called (Commit batch) ∷ steps) (Refused Io ∷ replies) = batch ∷ []
in_flight (Called (CommitIf guards batch) ∷ steps) (Refused Io ∷ replies) = batch ∷ []
in_flight (step ∷ steps) (reply ∷ replies) = in_flight steps replies
in_flight steps replies = []

-- the map after a beginning of these batches that holds at least `least`, applied to what was opened
pub record IsAfterBeginning (opened : CrashState) (batches : List (List Operation)) (least : ℕ) (left : CrashState) : Type 0 where
  pub holds : ℕ
  pub at_least : least ≤ holds
  pub among : holds ≤ length batches
  pub count : left.count ≡ opened.count + holds
  pub same_map : left.map ≡ apply_all opened.map (take holds batches)

-- the maps after each of these batches
abbrev pub maps_after : Map → List (List Operation) → List Map
maps_after m [] = []
maps_after m (batch ∷ rest) = apply m batch ∷ maps_after (apply m batch) rest

-- the recovery points after `count` batches and then these, of which `synced` are synced
abbrev pub beginnings : ℕ → Map → List (List Operation) → ℕ → RecoveryPoints
beginnings count m batches synced = record {
  synced = count + synced;
  first = apply_all m (take synced batches);
  later = maps_after (apply_all m (take synced batches)) (drop synced batches);
}

-- A machine that an opening of a crash state answers: its versions are all sealed or in tables, and stand for the map; no slot
-- is held.
pub record IsOpened (log_sectors : ℕ) (opened : CrashState) (m : Machine) : Type 0 where
  pub state : m.state ≡ reopened log_sectors opened
  pub sound : IsSound m
  pub memory : m.work.memory ≡ []
  pub jobs : m.work.jobs ≡ no_jobs

-- What holds of a machine in the state that an opening of a crash state answers, once it gave these replies to these steps.
pub record IsKept (opened : CrashState) (m : Machine) (steps : List Step) (replies : List Reply) : Type 0 where
  -- its recovery points are just the maps after the beginnings of the accepted batches that hold every acknowledged one
  pub points : (last_machine m steps replies).state.points ≡ beginnings opened.count opened.map (accepted steps replies) (acknowledged opened.count steps replies)
  -- it serves the map after all accepted batches
  pub served : present_map (last_machine m steps replies).state.points ≡ apply_all opened.map (accepted steps replies)
  pub counted : batch_count (last_machine m steps replies).state.points ≡ opened.count + length (accepted steps replies)
  -- A crash now leaves the map after a beginning of the accepted batches that holds every acknowledged one, or all of
  -- them and the one in flight.
  pub between : (left : CrashState) → Contains (may_leave (last_machine m steps replies).state) left
      → IsAfterBeginning opened (accepted steps replies ++ in_flight steps replies) (acknowledged opened.count steps replies) left
  -- and so does a crash inside one step more
  pub inside : (step : Step) (left : CrashState) → Contains (left_in_step (last_machine m steps replies) step) left
      → IsAfterBeginning opened (accepted steps replies ++ in_flight (steps ++ step ∷ []) replies) (acknowledged opened.count steps replies) left

-- So it is after any steps of a machine in that state, whatever its work; an opened store is one (`IsOpened`).
abbrev pub Promise : Type 0
Promise = (log_sectors : ℕ) (opened : CrashState) (m : Machine) (steps : List Step) (replies : List Reply) → m.state ≡ reopened log_sectors opened → Run m steps replies → IsKept opened m steps replies
