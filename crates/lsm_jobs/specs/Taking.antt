-- What a job is taken with.
use Rattle.std.specs.Prelude.{ℕ, ◌+◌, Bool, List, [], ◌∷◌, ◌++◌, map, Option, Some, None, if◌then◌else◌}
use Rattle.lsm_codec.specs.Versions.{Version}
use Rattle.lsm_levels.specs.Tables.{versions_of}
use Rattle.lsm_levels.specs.Levels.{Levels}
use Rattle.lsm_levels.specs.Pick.{Job, Flush, Merge, pick, is_bottom}
use Rattle.lsm_levels.specs.Choices.{chosen}
use Rattle.lsm_levels.specs.declared.choosing.Choice.{Choice}
use Rattle.lsm_jobs.specs.Gathering.{data_blocks, ascending_runs}
use Rattle.lsm_jobs.specs.declared.taking.TakenJob.{TakenJob}
use Rattle.lsm_jobs.specs.Slots.{Stage, Reading, Frozen, Slot, Slots, JobSlots, held_jobs, has_free, with_slot}

-- the job that is asked for: the one that is chosen, or where none is the one that comes next
abbrev pub asked_job : Bool → Option Choice → Levels → List Job → Option Job
asked_job waiting None levels jobs = pick waiting levels jobs
asked_job waiting (Some choice) levels jobs = chosen levels jobs choice

-- the job that is given: none where no slot is free, and else the one that is asked for
abbrev pub given_job : Bool → Option Choice → Levels → Slots → Option Job
given_job waiting asked levels slots = if has_free slots then asked_job waiting asked levels (held_jobs slots) else None

-- the level above that of a job's outputs, none of a flush
abbrev pub level_of : Job → Option ℕ
level_of Flush = None
level_of (Merge i upper lower) = Some i

-- what is told of a job that is taken under a number
abbrev pub told_of : ℕ → Job → TakenJob
told_of number job = record { number = number; level = level_of job }

-- the versions that a job takes in, in runs, those of newer runs first
abbrev pub runs_of : List Version → Job → List (List Version)
runs_of sealed Flush = sealed ∷ []
runs_of sealed (Merge i upper lower) = map versions_of (ascending_runs (upper ++ lower))

-- a flush begins with a whole input; another job has its data blocks to read
abbrev pub first_stage : Job → Stage
first_stage Flush = Frozen
first_stage (Merge i upper lower) = Reading (data_blocks (upper ++ lower))

-- the slot of a job with these cuts and this bottom flag
abbrev pub slot_with : ℕ → List Version → List ℕ → Bool → Job → Slot
slot_with number sealed cuts bottom job = record { number = number; job = job; input = record { runs = runs_of sealed job; cuts = cuts; bottom = bottom }; stage = first_stage job }

-- the slot of a job that is taken now
abbrev pub slot_for : ℕ → List Version → List ℕ → Levels → Job → Slot
slot_for number sealed cuts levels job = slot_with number sealed cuts (is_bottom levels job) job

-- with the job that is given in the least free slot
abbrev pub with_taken : List Version → List ℕ → Levels → Option Job → JobSlots → JobSlots
with_taken sealed cuts levels None s = s
with_taken sealed cuts levels (Some job) s = record { next = s.next + 1; slots = with_slot (slot_for s.next sealed cuts levels job) s.slots }
