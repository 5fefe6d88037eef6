-- What holds of a running store between steps: its work stands for its state, and each job can be installed.
use Rattle.std.specs.Prelude.{◌≡◌, ◌≤◌, true, false, List, [], Some, None}
use Rattle.lsm_codec.specs.Versions.{Version, AreOrdered}
use Rattle.lsm_levels.specs.Among.{IsAmong}
use Rattle.lsm_levels.specs.Tables.{Table}
use Rattle.lsm_levels.specs.Pick.{is_flush}
use Rattle.lsm_levels.specs.Held.{HasVersion}
use Rattle.lsm_jobs.specs.Slots.{Slot, is_writing, outputs_at}
use Rattle.lsm_jobs.specs.Keeping.{AreKept}
use Rattle.lsm_machine.specs.Calls.{Call}
use Rattle.lsm_machine.specs.Refusals.{refusal}
use Rattle.lsm_machine.specs.Effects.{after, rotated}
use Rattle.lsm_machine.specs.StateMaps.{HaveMaps}
use Rattle.lsm_machine.specs.State.{are_waiting}
use Rattle.lsm_machine.specs.Work.{Work, Take, Read, Ask, Accept, Write, Install, Drop, versions_in}
use Rattle.lsm_machine.specs.WorkRefusals.{held, placing, running_refusal}
use Rattle.lsm_machine.specs.WorkEffects.{work_after, state_after, work_called, with_sealed}
use Rattle.lsm_machine.specs.WorkMaps.{AreVersions, IsJobOf, MayBePutIn}
use Rattle.lsm_machine.specs.Machine.{Machine}

-- The versions in their places stand for the state: memory is in the order of entries, no version is of a batch to come, and
-- what is sealed or in tables is synced.
pub record IsTied (m : Machine) : Type 0 where
  pub versions : AreVersions m.work
  pub ordered : AreOrdered m.work.memory
  pub maps : HaveMaps (versions_in m.work) m.state
  pub numbered : (v : Version) → IsAmong v (versions_in m.work) → v.number ≤ maps.count
  pub settled : (v : Version) → IsAmong v m.work.sealed → v.number ≤ maps.synced
  pub tabled : (v : Version) → HasVersion m.work.levels v → v.number ≤ maps.synced

-- Sealed versions wait where the state says so, and memory is empty where no log is open.
pub record AreWaiting (m : Machine) : Type 0 where
  pub none_waits : are_waiting m.state ≡ false → m.work.sealed ≡ []
  pub flush_waits : (s : Slot) → IsAmong (Some s) m.work.jobs.slots → is_flush s.job ≡ true → are_waiting m.state ≡ true
  pub no_log : m.state.open_log ≡ None → m.work.memory ≡ []

-- The jobs in slots have their tables and share none; each was taken from what stands; and outputs are those of its merge.
pub record AreReady (m : Machine) : Type 0 where
  pub kept : AreKept m.work.levels m.work.jobs.next m.work.jobs.slots
  pub jobs : (s : Slot) → IsAmong (Some s) m.work.jobs.slots → IsJobOf m.state m.work.sealed s.job s.input
  pub outputs : (s : Slot) → IsAmong (Some s) m.work.jobs.slots → is_writing s.stage ≡ true → MayBePutIn s.job s.input (outputs_at s.stage)

pub record IsSound (m : Machine) : Type 0 where
  pub tied : IsTied m
  pub waiting : AreWaiting m
  pub ready : AreReady m

-- The tables that an accept places are those of what the job's merge keeps, and may be put in.
abbrev pub IsServed : Machine → Work → Type 0
IsServed m (Accept job result) = (slot : Slot) (new : List Table) → held m job ≡ Some slot → placing m.work result ≡ Some new → MayBePutIn slot.job slot.input new
IsServed m (Take asked) = Unit {0}
IsServed m (Read job) = Unit {0}
IsServed m (Ask job) = Unit {0}
IsServed m (Write job) = Unit {0}
IsServed m (Install job) = Unit {0}
IsServed m (Drop job) = Unit {0}

-- Each piece of work that nothing refuses keeps all that.
abbrev pub SoundLaw : Type 0
SoundLaw = (m : Machine) (work : Work) → IsSound m → running_refusal m work ≡ None → IsServed m work → IsSound (record { state = state_after m work; work = work_after m work })

-- So does each call that nothing refuses.
abbrev pub CallSoundLaw : Type 0
CallSoundLaw = (m : Machine) (call : Call) → IsSound m → refusal m.state call ≡ None → IsSound (record { state = after m.state call; work = work_called m call })

-- And so does a rotation, where no sealed versions wait.
abbrev pub RotationSoundLaw : Type 0
RotationSoundLaw = (m : Machine) → IsSound m → are_waiting m.state ≡ false → IsSound (record { state = rotated m.state; work = with_sealed m.work })
