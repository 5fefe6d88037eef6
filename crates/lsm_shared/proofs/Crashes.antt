-- What a crash may leave of a shared store.
use Rattle.std.proofs.Common.{◌≡◌, ℕ, Bool, true, false, is_some, List, [], ◌∷◌, refl, ap, sym, ◌∙◌, subst, if◌then◌else◌}
use Rattle.std.specs.Prelude.{nat_le}
use Rattle.lsm_device.specs.Medium.{Medium, disk}
use Rattle.lsm_device.specs.Outcomes.{Leaves}
use Rattle.lsm_device.specs.declared.refusal.Refusal.TheVariants.{Io}
use Rattle.lsm_open.specs.Recovering.{StandForOne}
use Rattle.lsm_store.specs.Backing.{StoreView, machine_of, IsBacked}
use Rattle.lsm_machine.specs.Calls.{Call, Reply}
use Rattle.lsm_machine.specs.Calls.{Commit, CommitIf, Sync, SyncTo, Get, Scan, Snapshot, Release, Rotate, LogRoom, Number, Done, Value, Rows, Given, Handed, Refused, Unread}
use Rattle.lsm_machine.specs.Crash.{may_leave}
use Rattle.lsm_machine.specs.Effects.{after, reply_by, Use, use_of}
use Rattle.lsm_machine.specs.Effects.{Untouched, Reads, Changes}
use Rattle.lsm_machine.specs.RecoveryPoints.{all_synced}
use Rattle.lsm_machine.specs.Machine.{Machine, Step, Called, Worked}
use Rattle.lsm_machine.specs.Run.{after_fault, next, next_machine, Run}
use Rattle.lsm_machine.specs.State.{State}
use Rattle.lsm_machine.proofs.WorkReplies.{work_keeps}
use Rattle.lsm_trail.specs.Begins.{Begin, base_of, first_machine}
use Rattle.lsm_trail.specs.History.{Event, steps_of, replies_of, machine_behind, AreServed, IsLegal, state_after}
use Rattle.lsm_shared.specs.Sessions.{ended_state}

-- no call changes the format
fault_sectors : (s : State) (call : Call) (used : Use) → (after_fault s call used).log_sectors ≡ s.log_sectors
fault_sectors s call Untouched = refl
fault_sectors s call Reads = refl
fault_sectors s call Changes = refl

sync_sectors : (s : State) (b : Bool) → (if b then s else record s { points = all_synced s.points }).log_sectors ≡ s.log_sectors
sync_sectors s true = refl
sync_sectors s false = refl

after_sectors : (s : State) (call : Call) → (after s call).log_sectors ≡ s.log_sectors
after_sectors s (Commit batch) = refl
after_sectors s (CommitIf guards batch) = refl
after_sectors s Sync = refl
after_sectors s (SyncTo number) = sync_sectors s (nat_le number s.points.synced)
after_sectors s (Get at key) = refl
after_sectors s (Scan at from to limit) = refl
after_sectors s Snapshot = refl
after_sectors s (Release number) = refl
after_sectors s Rotate = refl
after_sectors s LogRoom = refl

next_sectors : (s : State) (call : Call) (reply : Reply) → (next s call reply).log_sectors ≡ s.log_sectors
next_sectors s call (Refused Io) = fault_sectors s call (use_of s call)
next_sectors s call (Refused e) = refl
next_sectors s call (Number k) = after_sectors s call
next_sectors s call Done = after_sectors s call
next_sectors s call (Value v) = after_sectors s call
next_sectors s call (Rows page) = after_sectors s call
next_sectors s call (Given job) = after_sectors s call
next_sectors s call (Handed input) = after_sectors s call
next_sectors s call Unread = refl

step_sectors : (m : Machine) (step : Step) (reply : Reply) → (next_machine m step reply).state.log_sectors ≡ m.state.log_sectors
step_sectors m (Called call) reply = next_sectors m.state call reply
step_sectors m (Worked piece) reply = work_keeps (λ s. s.log_sectors) (λ s o. refl) (λ flush s. refl) m piece reply

history_sectors : (m : Machine) (log : List Event) → AreServed m log → (machine_behind m log).state.log_sectors ≡ m.state.log_sectors
history_sectors m [] served = refl
history_sectors m (e ∷ log) (may, goes, served) = history_sectors e.machine log served ∙ ap (λ (s : State). s.log_sectors) goes.state ∙ step_sectors m e.step e.reply

-- a crash of this device leaves what this state may leave
abbrev LeavesOf : Medium → ℕ → State → Type 0
LeavesOf device sectors s = Leaves (StandForOne sectors (may_leave s)) (disk device)

in_format : (b : Begin) (log : List Event) (device : Medium) → AreServed (first_machine b) log → LeavesOf device (state_after b log).log_sectors (state_after b log) → LeavesOf device b.store.state.log_sectors (state_after b log)
in_format b log device served leaves = subst (λ (n : ℕ). LeavesOf device n (state_after b log)) (history_sectors (first_machine b) log served) leaves

pub free_leaves : (b : Begin) (log : List Event) (store : StoreView) → AreServed (first_machine b) log → store.state ≡ state_after b log → IsBacked store → LeavesOf store.device b.store.state.log_sectors (state_after b log)
free_leaves b log store served is backed = in_format b log store.device served (subst (λ (s : State). LeavesOf store.device s.log_sectors s) is backed.crashes)

-- a snapshot that is released changes nothing that a crash leaves
released_leaves : (device : Medium) (number : ℕ) (s t : State) (b : Bool) → t ≡ (if b then s else after s (Release number)) → LeavesOf device t.log_sectors t → LeavesOf device s.log_sectors s
released_leaves device number s t true is leaves = subst (λ (x : State). LeavesOf device x.log_sectors x) is leaves
released_leaves device number s t false is leaves = subst (λ (x : State). LeavesOf device x.log_sectors x) is leaves

pub ended_leaves : (b : Begin) (log : List Event) (store : StoreView) → AreServed (first_machine b) log → store.state ≡ ended_state b log → IsBacked store → LeavesOf store.device b.store.state.log_sectors (state_after b log)
ended_leaves b log store served is backed = in_format b log store.device served (released_leaves store.device (base_of b) (state_after b log) store.state (is_some (state_after b log).stopped) is backed.crashes)

-- the pinning of the base and then the history are a run
pub run_of : (b : Begin) (log : List Event) → IsLegal b log → IsBacked b.store → Run (machine_of b.store) (Called Snapshot ∷ steps_of log) (Number (base_of b) ∷ replies_of log)
run_of b log legal backed = (sym (ap (reply_by b.store.state Snapshot) legal.pinned.taken), (legal.run backed).run)
