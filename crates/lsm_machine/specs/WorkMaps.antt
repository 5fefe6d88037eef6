-- The versions of all places as maps, and what an install, a rotation and a commit keep of them.
use Rattle.std.specs.Prelude.{◌≡◌, ◌⊎◌, ℕ, ◌+◌, ◌≤◌, List, [], Contains}
use Rattle.lsm_codec.specs.Map.{Operation, apply}
use Rattle.lsm_codec.specs.Versions.{Version}
use Rattle.lsm_mem.specs.Versions.{map_of, NumberedAtMost}
use Rattle.lsm_merge.specs.Inputs.{MergeInput, kept_of}
use Rattle.lsm_mem.specs.Versions.{joined}
use Rattle.lsm_merge.specs.Laws.{HaveSameMap}
use Rattle.lsm_levels.specs.Among.{IsAmong}
use Rattle.lsm_levels.specs.Tables.{Table, versions_of}
use Rattle.lsm_levels.specs.Levels.{level}
use Rattle.lsm_levels.specs.Pick.{Job}
use Rattle.lsm_levels.specs.Orders.{IsVersionOrder}
use Rattle.lsm_levels.specs.Held.{AreRuns, IsHeld, AreRanged, AreOutputs}
use Rattle.lsm_jobs.specs.Slots.{Slot, outputs_at}
use Rattle.lsm_jobs.specs.Taking.{runs_of}
use Rattle.lsm_machine.specs.RecoveryPoints.{batch_count}
use Rattle.lsm_machine.specs.State.{State, LiveSnapshot}
use Rattle.lsm_machine.specs.Calls.{Commit}
use Rattle.lsm_machine.specs.Work.{WorkView, versions_by_place, versions_in}
use Rattle.lsm_machine.specs.WorkEffects.{with_installed, with_sealed, work_called}
use Rattle.lsm_machine.specs.Machine.{Machine}

-- no two are of one key and number
abbrev pub IsUnique : List Version → Type 0
IsUnique versions = (v w : Version) → IsAmong v versions → IsAmong w versions → v.key ≡ w.key → v.number ≡ w.number → v ≡ w

-- The versions in their places: no two are of one key and number, of one key the newer place has the greater numbers, and each
-- version of a table is in its range.
pub record AreVersions (w : WorkView) : Type 0 where
  pub unique : IsUnique (versions_in w)
  pub order : IsVersionOrder (versions_by_place w)
  pub runs : AreRuns w.levels
  pub ranges : (k : ℕ) → AreRanged (level w.levels k)

-- a count whose map can be asked for, or fallen back to: a recovery point's, or a live snapshot's
abbrev pub IsAsked : State → ℕ → Type 0
IsAsked s n = ((s.points.synced ≤ n) × (n ≤ batch_count s.points)) ⊎ ((snapshot : LiveSnapshot) × IsAmong snapshot s.snapshots × (n ≡ snapshot.point.count))

-- What holds of a job until its install, where these versions are sealed. Its input is what it was when the job was taken, and
-- all of it is synced. The count at the taking is a cut; each live snapshot's count is a cut too, or was taken since.
pub record IsJobOf (s : State) (sealed : List Version) (job : Job) (input : MergeInput) : Type 0 where
  pub runs : input.runs ≡ runs_of sealed job
  pub cut : ℕ
  pub is_cut : Contains input.cuts cut
  pub before : cut ≤ batch_count s.points
  pub inputs : (v : Version) → IsAmong v (joined input.runs) → (v.number ≤ cut) × (v.number ≤ s.points.synced)
  pub asked : (snapshot : LiveSnapshot) → IsAmong snapshot s.snapshots → Contains input.cuts snapshot.point.count ⊎ (cut ≤ snapshot.point.count)

-- tables that a job with this input may put in: those of what its merge keeps
pub record MayBePutIn (job : Job) (input : MergeInput) (new : List Table) : Type 0 where
  pub fit : AreOutputs job new
  pub versions : versions_of new ≡ kept_of input
  pub ranges : AreRanged new

-- An install of a job keeps the map at each count that can be asked for, with the bottom flag and without it.
abbrev pub InstallLaw : Type 0
InstallLaw = (m : Machine) (job : ℕ) (slot : Slot) → AreVersions m.work → IsHeld m.work.levels slot.input.bottom slot.job → IsJobOf m.state m.work.sealed slot.job slot.input
    → MayBePutIn slot.job slot.input (outputs_at slot.stage)
    → (n : ℕ) → IsAsked m.state n → HaveSameMap n (versions_in m.work) (versions_in (with_installed m.work job slot))

-- A rotation, where no sealed versions wait, moves no version past another: they are the same.
abbrev pub RotationLaw : Type 0
RotationLaw = (w : WorkView) → w.sealed ≡ [] → versions_in (with_sealed w) ≡ versions_in w

-- A commit keeps the map at each count so far, and gives that of the next with its batch applied.
pub record AddsBatch (m : Machine) (batch : List Operation) : Type 0 where
  pub older : (n : ℕ) → n ≤ batch_count m.state.points → HaveSameMap n (versions_in m.work) (versions_in (work_called m (Commit batch)))
  pub applied : map_of (versions_in (work_called m (Commit batch))) (batch_count m.state.points + 1) ≡ apply (map_of (versions_in m.work) (batch_count m.state.points)) batch

abbrev pub CommitLaw : Type 0
CommitLaw = (m : Machine) (batch : List Operation) → NumberedAtMost (batch_count m.state.points) (versions_in m.work) → AddsBatch m batch
