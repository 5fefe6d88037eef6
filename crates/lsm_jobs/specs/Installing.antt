-- What an install of a job's outputs takes.
use Rattle.std.specs.Prelude.{◌≡◌, List, Option, Some, None}
use Rattle.lsm_levels.specs.Tables.{Table}
use Rattle.lsm_levels.specs.Pick as job
use Rattle.lsm_levels.specs.Pick.{Job}
use Rattle.lsm_jobs.specs.Slots.{Slot, Writing}
use Rattle.lsm_jobs.specs.Outputs.{AreMadeOf}
use Rattle.lsm_jobs.specs.declared.installing.Written.{Written}
use Rattle.lsm_jobs.specs.declared.installing.Written.TheVariants.{Flush, Merge}

-- the job that is told
abbrev pub job_told : {A : Type 0} → Written A → Job
job_told (Flush outputs) = job.Flush
job_told (Merge level upper lower outputs) = job.Merge level upper.now lower.now

-- its outputs
abbrev pub outputs_told : {A : Type 0} → Written A → List Table
outputs_told (Flush outputs) = outputs.now
outputs_told (Merge level upper lower outputs) = outputs.now

-- there is such a job, with these outputs and no block left, and they are what a merge makes of its input
abbrev pub IsWhole : {A : Type 0} → Written A → Option Slot → Type 0
IsWhole written None = ⊥
IsWhole written (Some slot) = (slot.job ≡ job_told written) × (slot.stage ≡ Writing (outputs_told written) 0) × AreMadeOf slot.input (outputs_told written)
