-- What a crash leaves of a state, and the state that an opening gives.
use Rattle.std.specs.Prelude.{ℕ, ◌+◌, nat_le, nat_lt, is_some, List, [], ◌∷◌, ◌++◌, map, Option, Some, None, if◌then◌else◌}
use Rattle.lsm_root.specs.CrashState.{CrashState}
use Rattle.lsm_machine.specs.RecoveryPoints.{RecoveryPoint, recovery_points, present_point}
use Rattle.lsm_machine.specs.State.{OpenLog, State}
use Rattle.lsm_machine.specs.Calls.{Call}
use Rattle.lsm_machine.specs.Refusals.{full_refusal}
use Rattle.lsm_machine.specs.Effects.{after}

-- how many log regions hold batches, where `closed` are closed and a crash keeps `count` batches: the open log counts where it
-- holds one of these
abbrev pub closed_with : ℕ → ℕ → Option OpenLog → ℕ
closed_with closed count (Some log) = if nat_le log.first count then closed + 1 else closed
closed_with closed count None = closed

-- what a crash leaves that falls back to this recovery point
abbrev pub crash_state_at : State → RecoveryPoint → CrashState
crash_state_at s point = record { count = point.count; map = point.map; closed = closed_with s.closed point.count s.open_log; generation = s.generation }

-- a crash of a running store between calls falls back to any recovery point
abbrev pub left_between : State → List CrashState
left_between s = map (crash_state_at s) (recovery_points s.points)

abbrev pub left_with : State → Option (List CrashState) → List CrashState
left_with s (Some others) = left_between s ++ others
left_with s None = left_between s

-- what a crash between calls may leave of a store, whether it runs or is stopped
abbrev pub may_leave : State → List CrashState
may_leave s = left_with s s.stopped

-- what is left where the present map is kept; a device that is handed over without a crash reads so
abbrev pub last_crash_state : State → CrashState
last_crash_state s = crash_state_at s (present_point s.points)

-- what a crash inside a call may leave besides, since the call may have had its whole effect
abbrev pub left_besides : State → Call → List CrashState
left_besides s call = last_crash_state (after s call) ∷ []

-- What a crash inside a call may leave: what the state before it may leave, and what the call adds to that where
-- nothing refuses it.
abbrev pub left_inside : State → Call → List CrashState
left_inside s call = may_leave s ++ (if is_some (full_refusal s call) then [] else left_besides s call)

-- The store that an opening answers on what a crash left, in a format with log regions of this many sectors. There are three
-- regions. Snapshots are gone, and are numbered from 1 again.
abbrev pub reopened : ℕ → CrashState → State
reopened log_sectors left = record {
  points = record { synced = left.count; first = left.map; later = [] };
  log_sectors = log_sectors;
  closed = left.closed;
  open_log = if nat_lt left.closed 3 then Some (record { first = left.count + 1; used = 0 }) else None;
  generation = left.generation + 1;
  snapshots = [];
  next_snapshot = 1;
  stopped = None;
}
