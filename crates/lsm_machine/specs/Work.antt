-- The work on storage under the map machine: where the versions are, the jobs that move them, and the pieces of work on these.
use Rattle.std.specs.Prelude.{ℕ, ◌==◌, List, [], ◌∷◌, ◌++◌, map, Option, if◌then◌else◌}
use Rattle.lsm_codec.specs.Versions.{Version}
use Rattle.lsm_extent.specs.Area.{Area}
use Rattle.lsm_mem.specs.Versions.{joined}
use Rattle.lsm_merge.specs.Results.{MergeResult}
use Rattle.lsm_levels.specs.Tables.{versions_of}
use Rattle.lsm_levels.specs.Levels.{Levels, no_tables, places}
use Rattle.lsm_levels.specs.declared.choosing.Choice.{Choice}
use Rattle.lsm_jobs.specs.Slots.{JobSlots, no_jobs}
use Rattle.lsm_machine.specs.RecoveryPoints.{batch_count}
use Rattle.lsm_machine.specs.State.{State}

-- Where the versions are, and the jobs that move them.
pub record WorkView : Type 0 where
  -- the versions in memory, and those that wait for a flush, both in the order of entries
  pub memory : List Version
  pub sealed : List Version
  pub levels : Levels
  pub jobs : JobSlots
  -- the number of the next table
  pub next_table : ℕ
  -- the data area, where the extents of tables and of outputs that are being written are handed out
  pub area : Area

-- no version, no table and no job, in an area without a block
abbrev pub no_work : WorkView
no_work = record { memory = []; sealed = []; levels = no_tables; jobs = no_jobs; next_table = 0; area = record { blocks = 0; held = [] } }

-- a piece of work on a job
pub data Work : Type 0 where
  -- takes the job that is chosen, or where none is the one that comes next
  Take : Option Choice → Work
  -- reads data blocks of a job's tables
  Read : ℕ → Work
  -- asks for what a job's merge is given
  Ask : ℕ → Work
  -- places the tables of a result; none stands for a result that was never made
  Accept : ℕ → Option MergeResult → Work
  -- writes blocks of a job's outputs
  Write : ℕ → Work
  -- puts a job's outputs in the place of what it took in
  Install : ℕ → Work
  -- gives a job up
  Drop : ℕ → Work

-- the versions of each place, the newer places first
abbrev pub versions_by_place : WorkView → List (List Version)
versions_by_place w = w.memory ∷ (w.sealed ∷ map versions_of (places w.levels))

-- all versions
abbrev pub versions_in : WorkView → List Version
versions_in w = joined (versions_by_place w)

-- a count before these, but for one that is equal to the first of them
abbrev pub with_count : ℕ → List ℕ → List ℕ
with_count n [] = n ∷ []
with_count n (m ∷ rest) = if n == m then m ∷ rest else n ∷ (m ∷ rest)

-- counts without those that an equal one follows
abbrev pub each_once : List ℕ → List ℕ
each_once [] = []
each_once (n ∷ rest) = with_count n (each_once rest)

-- the counts at which the live snapshots were taken, and the present count
abbrev pub counts_of : State → List ℕ
counts_of s = map (λ snapshot. snapshot.point.count) s.snapshots ++ (batch_count s.points ∷ [])

-- the cuts of a job that is taken now: these counts, each once
abbrev pub cuts_of : State → List ℕ
cuts_of s = each_once (counts_of s)
