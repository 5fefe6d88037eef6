-- What the slots of a store's jobs wait for, and what comes next of them.
use Rattle.std.specs.Prelude.{ℕ, ◌+◌, ◌%◌, ◌==◌, nat_le, Bool, true, false, ◌||◌, is_some, List, [], ◌∷◌, slice_index_or, Option, Some, None, if◌then◌else◌}
use Rattle.lsm_device.specs.declared.refusal.Refusal.{Refusal}
use Rattle.lsm_device.specs.declared.refusal.Refusal.TheVariants.{TooManyRuns, TooManyTables}
use Rattle.lsm_jobs.specs.Slots.{Stage, Reading, Frozen, Writing, Slot}
use Rattle.lsm_machine.specs.declared.piece.Piece.{Piece}
use Rattle.lsm_machine.specs.declared.piece.Piece.TheVariants as piece
use Rattle.lsm_machine.specs.Work.{Work, Take, Read, Ask, Accept, Write, Install, Drop}
use Rattle.lsm_machine.specs.WorkRefusals.{job_given, work_refusal}
use Rattle.lsm_machine.specs.Machine.{Machine}

-- the piece of work that is told so; whoever is to build a result begins by asking for the job's input
abbrev pub work_of_piece : Piece → Work
work_of_piece piece.Take = Take None
work_of_piece (piece.Read job) = Read job
work_of_piece (piece.Build job) = Ask job
work_of_piece (piece.Write job) = Write job
work_of_piece (piece.Install job) = Install job

-- ---- what a slot waits for

-- what the job of a number waits for at a stage: its data blocks are read, then it is asked for its input, then its outputs are
-- written, and with no block left they are installed
abbrev pub piece_of_job : ℕ → Stage → Work
piece_of_job job (Reading left) = Read job
piece_of_job job Frozen = Ask job
piece_of_job job (Writing tables left) = if left == 0 then Install job else Write job

-- what a slot waits for: one that is held for what its job does, and a free one for a taking, where a job comes next
abbrev pub piece_of_slot : Machine → Option Slot → Option Work
piece_of_slot m (Some slot) = Some (piece_of_job slot.number slot.stage)
piece_of_slot m None = if is_some (job_given m None) then Some (Take None) else None

-- what the slot at a place from 0 to 3 waits for: none where the store is stopped, where there is no such place, or where the
-- slot is free and no job comes next
abbrev pub piece_at : Machine → ℕ → Option Work
piece_at m place = if is_some m.state.stopped || nat_le 4 place then None else piece_of_slot m (slice_index_or m.work.jobs.slots place None)

-- ---- what comes next

-- whether a refusal tells that the levels have no room for now: level 0 is full for a flush, or too many tables would live
abbrev pub is_of_full_levels : Option Refusal → Bool
is_of_full_levels (Some TooManyRuns) = true
is_of_full_levels (Some TooManyTables) = true
is_of_full_levels other = false

-- whether an install is put off for now, since it would be refused so
abbrev pub is_put_off : Machine → Work → Bool
is_put_off m (Install job) = is_of_full_levels (work_refusal m (Install job))
is_put_off m (Take asked) = false
is_put_off m (Read job) = false
is_put_off m (Ask job) = false
is_put_off m (Accept job result) = false
is_put_off m (Write job) = false
is_put_off m (Drop job) = false

-- what a slot waits for, unless that is put off, and else this
abbrev pub unless_put_off : Machine → Option Work → Option Work → Option Work
unless_put_off m (Some work) later = if is_put_off m work then later else Some work
unless_put_off m None later = later

-- what comes next of the slots at these places, asked in this order: the first that waits for something that is not put off
abbrev pub next_among : Machine → List ℕ → Option Work
next_among m [] = None
next_among m (place ∷ rest) = unless_put_off m (piece_at m place) (next_among m rest)

-- the four places from that of a number on, round
abbrev pub places_from : ℕ → List ℕ
places_from number = number % 4 ∷ (number + 1) % 4 ∷ (number + 2) % 4 ∷ (number + 3) % 4 ∷ []

-- the next piece for a client of this number
abbrev pub next_piece : Machine → ℕ → Option Work
next_piece m number = next_among m (places_from number)
