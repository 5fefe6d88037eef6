-- The extents of what a job took in, and of its outputs, are given back.
use Rattle.std.proofs.Common.{◌≡◌, ℕ, List, sym, ap, ◌∙◌, subst}
use Rattle.lsm_extent.specs.Area.{Area}
use Rattle.lsm_levels.specs.Tables.{Table}
use Rattle.lsm_levels.specs.Pick.{Job, inputs}
use Rattle.lsm_jobs.specs.Slots.{Slot, Slots, slot_of, outputs_at, outputs_of}
use Rattle.lsm_jobs.specs.Holding.{IsAt}
use Rattle.lsm_jobs.specs.Placing.{AreHandedOut}

-- the tables of a job that are told
pub inputs_back : (job mine : Job) (tables : List Table) → mine ≡ job → tables ≡ inputs mine → tables ≡ inputs job
inputs_back job mine tables same is = is ∙ ap inputs same

-- the outputs of a job that was found, by its number
pub outputs_are : (job : ℕ) (slots : Slots) (place : ℕ) (slot : Slot) (outputs : List Table) → IsAt job slots place slot → outputs ≡ outputs_at slot.stage → outputs ≡ outputs_of (slot_of job slots)
outputs_are job slots place slot outputs at same = same ∙ ap outputs_of (sym at.is)

pub outputs_out : (job : ℕ) (slots : Slots) (place : ℕ) (slot : Slot) (outputs : List Table) (area : Area) → IsAt job slots place slot → outputs ≡ outputs_at slot.stage → AreHandedOut (outputs_of (slot_of job slots)) area → AreHandedOut outputs area
outputs_out job slots place slot outputs area at same out = subst (λ (ts : List Table). AreHandedOut ts area) (sym (outputs_are job slots place slot outputs at same)) out
