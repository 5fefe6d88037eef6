-- The work of a store that has just been opened with its tables.
use Rattle.std.specs.Prelude.{◌≡◌, ℕ, ◌≤◌, ◌<◌, List, [], ◌∷◌, map, Option, is_some}
use Rattle.lsm_codec.specs.Geometry.{data_blocks_of}
use Rattle.lsm_codec.specs.Versions.{Version}
use Rattle.lsm_device.specs.Disk.{Disk}
use Rattle.lsm_extent.specs.Area.{Area}
use Rattle.lsm_mem.specs.Versions.{map_of, sealed_versions}
use Rattle.lsm_levels.specs.Among.{IsAmong}
use Rattle.lsm_levels.specs.Levels.{Levels, places}
use Rattle.lsm_levels.specs.Held.{HasVersion}
use Rattle.lsm_levels.specs.Stored.{AreNumberedBelow}
use Rattle.lsm_levels.specs.Tables.{versions_of}
use Rattle.lsm_mem.specs.Versions.{joined}
use Rattle.lsm_jobs.specs.Slots.{no_jobs}
use Rattle.lsm_root.specs.CrashState.{CrashState}
use Rattle.lsm_open.specs.Placements.{Placement}
use Rattle.lsm_open.specs.Recovering.{IsRecovered, AreWithinLimits}
use Rattle.lsm_open.specs.ToldTables.{records_of, Held}
use Rattle.lsm_machine.specs.Crash.{reopened}
use Rattle.lsm_store.specs.JustOpened.{just_opened}
use Rattle.lsm_machine.specs.State.{are_waiting}
use Rattle.lsm_machine.specs.Work.{WorkView, Work, versions_in}
use Rattle.lsm_machine.specs.WorkSound.{IsSound, IsServed}
use Rattle.lsm_machine.specs.Machine.{Machine}

-- The work of an opening's parts: what was replayed is sealed, where a region is closed, and what the manifest names is in the
-- levels, with its extents and its next number. Memory is empty, and no slot is held.
abbrev pub opened_work : Placement → Option (List Version) → Levels → Area → WorkView
opened_work p sealed levels extents = record { memory = []; sealed = sealed_versions sealed; levels = levels; jobs = no_jobs; next_table = p.logs.next_table; area = extents }

-- all versions of it
abbrev pub opened_versions : Option (List Version) → Levels → List Version
opened_versions sealed levels = joined ([] ∷ (sealed_versions sealed ∷ map versions_of (places levels)))

-- with the state of a store that was just opened, whose map is that of all these versions after `count` batches
abbrev pub opened_machine : Placement → ℕ → Option (List Version) → Levels → Area → Machine
opened_machine p count sealed levels extents = record { state = just_opened p.logs count (map_of (versions_in (opened_work p sealed levels extents)) count); work = opened_work p sealed levels extents }

-- What holds of a machine that opens on what a crash left, on a device of this size, with this placement and this sealed memory.
pub record OpensSound (size log_sectors : ℕ) (left : CrashState) (p : Placement) (sealed : Option (List Version)) (m : Machine) : Type 0 where
  pub state : m.state ≡ reopened log_sectors left
  pub sound : IsSound m
  -- each piece of work that nothing refuses keeps that
  pub served : (work : Work) → IsServed m work
  -- sealed memory waits for a flush wherever there is any
  pub waits : are_waiting m.state ≡ is_some sealed
  -- tables are of batches up to the base, and sealed versions of those after it
  pub tabled : (v : Version) → HasVersion m.work.levels v → v.number ≤ p.logs.base
  pub later : (v : Version) → IsAmong v m.work.sealed → p.logs.base < v.number
  -- each table is numbered below the next one, and just the extents of tables are handed out
  pub numbers : AreNumberedBelow m.work.next_table (places m.work.levels)
  pub extents : Held (data_blocks_of size log_sectors) (records_of m.work.levels) m.work.area

-- An opening makes such a machine of what a crash left.
abbrev pub OpenedLaw : Type 0
OpenedLaw = (size log_sectors count : ℕ) (left : CrashState) (p : Placement) (sealed : Option (List Version)) (levels : Levels) (extents : Area) (d : Disk)
    → AreWithinLimits size p count sealed levels extents → IsRecovered log_sectors left p count sealed levels d → OpensSound size log_sectors left p sealed (opened_machine p count sealed levels extents)
