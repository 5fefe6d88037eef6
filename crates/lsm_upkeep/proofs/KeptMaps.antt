-- What stays at each piece of work, and at a rotation.
use Rattle.std.proofs.Common.{◌≡◌, ◌∙◌, Option, Some, None, refl, ap, sym, subst}
use Rattle.lsm_device.specs.declared.refusal.Refusal.TheVariants.{Io}
use Rattle.lsm_jobs.specs.Slots.{Slot}
use Rattle.lsm_levels.specs.Pick.{is_flush}
use Rattle.lsm_store.specs.Backing.{StoreView, machine_of}
use Rattle.lsm_machine.specs.Calls.{Reply, Refused, Rotate, Unread}
use Rattle.lsm_machine.specs.Effects.{Use, use_of, installed}
use Rattle.lsm_machine.specs.Effects.{Untouched, Reads, Changes}
use Rattle.lsm_machine.specs.Machine.{Machine}
use Rattle.lsm_machine.specs.RecoveryPoints.{RecoveryPoint}
use Rattle.lsm_machine.specs.Run.{after_fault, next}
use Rattle.lsm_store.specs.Serving.{Serves}
use Rattle.lsm_machine.specs.State.{State}
use Rattle.lsm_machine.specs.Work.{Work, Take, Read, Ask, Accept, Write, Install, Drop}
use Rattle.lsm_machine.specs.WorkEffects.{state_after, work_use}
use Rattle.lsm_machine.specs.WorkRefusals.{held, of_slot}
use Rattle.lsm_machine.specs.WorkReplies.{after_work_fault, next_worked}
use Rattle.lsm_store.specs.Working.{Works}
use Rattle.lsm_machine.proofs.Points.{present_synced}
use Rattle.lsm_upkeep.specs.Keeping.{IsSameMap, KeepsMap}

-- ---- states

same : (s : State) → IsSameMap s s
same s = record { map = refl; count = refl; snapshots = refl }

pub then : (a b c : State) → IsSameMap a b → IsSameMap b c → IsSameMap a c
then a b c first second = record { map = second.map ∙ first.map; count = second.count ∙ first.count; snapshots = second.snapshots ∙ first.snapshots }

-- ---- a piece of work

install_keeps : (s : State) (o : Option Slot) → IsSameMap s (of_slot s (λ slot. installed (is_flush slot.job) s) o)
install_keeps s None = same s
install_keeps s (Some slot) = record { map = refl; count = ap (λ (p : RecoveryPoint). p.count) (present_synced s.points); snapshots = refl }

after_keeps : (m : Machine) (piece : Work) → IsSameMap m.state (state_after m piece)
after_keeps m (Take asked) = same m.state
after_keeps m (Read job) = same m.state
after_keeps m (Ask job) = same m.state
after_keeps m (Accept job result) = same m.state
after_keeps m (Write job) = same m.state
after_keeps m (Install job) = install_keeps m.state (held m job)
after_keeps m (Drop job) = same m.state

fault_keeps : (m : Machine) (piece : Work) (most : Use) → IsSameMap m.state (after_work_fault m piece most).state
fault_keeps m piece Untouched = same m.state
fault_keeps m piece Reads = same m.state
fault_keeps m piece Changes = record { map = refl; count = refl; snapshots = refl }

worked_keeps : (m : Machine) (piece : Work) (reply : Reply) → IsSameMap m.state (next_worked m piece reply).state
worked_keeps m piece (Refused Io) = fault_keeps m piece (work_use m piece)
worked_keeps m piece (Refused other) = same m.state
worked_keeps m piece reply = after_keeps m piece

pub works_keep : (old new : StoreView) (piece : Work) (reply : Reply) → Works old piece reply new → KeepsMap old new
works_keep old new piece reply works = subst (IsSameMap old.state) (sym works.state) (worked_keeps (machine_of old) piece reply)

-- ---- a rotation

rotate_fault_keeps : (s : State) (most : Use) → IsSameMap s (after_fault s Rotate most)
rotate_fault_keeps s Untouched = same s
rotate_fault_keeps s Reads = same s
rotate_fault_keeps s Changes = record { map = refl; count = refl; snapshots = refl }

rotated_keeps : (s : State) (reply : Reply) → IsSameMap s (next s Rotate reply)
rotated_keeps s (Refused Io) = rotate_fault_keeps s (use_of s Rotate)
rotated_keeps s (Refused other) = same s
rotated_keeps s Unread = same s
rotated_keeps s reply = record { map = refl; count = ap (λ (p : RecoveryPoint). p.count) (present_synced s.points); snapshots = refl }

pub rotate_keeps : (old new : StoreView) (reply : Reply) → Serves old Rotate reply new → KeepsMap old new
rotate_keeps old new reply serves = subst (IsSameMap old.state) (sym serves.state) (rotated_keeps old.state reply)

-- ---- stores

pub stays : (old new : StoreView) → new ≡ old → KeepsMap old new
stays old new e = subst (λ (s : StoreView). KeepsMap old s) (sym e) (same old.state)

pub onward : (old mid new : StoreView) → KeepsMap old mid → KeepsMap mid new → KeepsMap old new
onward old mid new first second = then old.state mid.state new.state first second
