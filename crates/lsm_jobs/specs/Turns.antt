-- What comes next of the jobs that hold slots.
use Rattle.std.specs.Prelude.{◌==◌, ℕ, slice_index_or, Option, None, option_map, if◌then◌else◌}
use Rattle.lsm_jobs.specs.Slots.{Stage, Reading, Frozen, Writing, Slot, Slots}
use Rattle.lsm_jobs.specs.declared.turns.NextPiece.{NextPiece}
use Rattle.lsm_jobs.specs.declared.turns.NextPiece.TheVariants.{Read, Build, Write, Install}
use Rattle.lsm_jobs.specs.declared.turns.JobTurn.{JobTurn}

-- what a job at a stage waits for: its data blocks are read, then a result is built, then its outputs are written, and with no
-- block left they are installed
abbrev pub piece_at : Stage → NextPiece
piece_at (Reading left) = Read
piece_at Frozen = Build
piece_at (Writing tables left) = if left == 0 then Install else Write

abbrev pub turn_of : Slot → JobTurn
turn_of slot = record { job = slot.number; piece = piece_at slot.stage }

-- the job in the slot at a place, and what it waits for; none where the slot is free
abbrev pub turn_at : Slots → ℕ → Option JobTurn
turn_at slots place = option_map turn_of (slice_index_or slots place None)
