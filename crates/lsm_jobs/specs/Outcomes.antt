-- What an install puts in.
use Rattle.std.specs.Prelude.{◌≡◌, ◌≤◌, ℕ, false, List, ◌++◌, Contains}
use Rattle.lsm_codec.specs.Versions.{Version}
use Rattle.lsm_extent.specs.Area.{Area}
use Rattle.lsm_table.specs.Division.{TableBlocks}
use Rattle.lsm_merge.specs.Divisions.{AreTables}
use Rattle.lsm_merge.specs.Inputs.{MergeInput, kept_of}
use Rattle.lsm_mem.specs.Versions.{joined}
use Rattle.lsm_levels.specs.Among.{IsAmong}
use Rattle.lsm_levels.specs.Tables.{Table, IsRun, versions_of}
use Rattle.lsm_levels.specs.Pick.{Flush, Merge}
use Rattle.lsm_levels.specs.Held.{AreOutputs, AreRanged, AreVersionsOf}
use Rattle.lsm_jobs.specs.Slots.{JobSlots}
use Rattle.lsm_jobs.specs.Outputs.{AreMadeOf}
use Rattle.lsm_jobs.specs.Placing.{IsAccepted}

-- A cut of an input sees some version of it.
pub record SeesSome (input : MergeInput) : Type 0 where
  pub version : Version
  pub there : IsAmong version (joined input.runs)
  pub cut : ℕ
  pub is_cut : Contains input.cuts cut
  pub sees : version.number ≤ cut

-- The outputs of a merge lie within its inputs, and have versions of them alone.
pub record ReplaceInputs (level : ℕ) (upper lower tables : List Table) : Type 0 where
  pub outputs : AreOutputs (Merge level upper lower) tables
  pub versions : AreVersionsOf upper lower tables

-- What is accepted for a job is made of its input, where the result's images are, wherever they are divided.
-- Tables that are made of an input are a run, of just the versions that a merge keeps of it, each in its table's range.
-- Those of a merge may replace its inputs, where the versions of these are in their ranges. Those of a flush may be installed
-- where a cut sees some version.
pub record OutputsLaw : Type 0 where
  pub accepted : (job next_table : ℕ) (input : MergeInput) (images : List TableBlocks) (area area_then : Area) (old new : JobSlots) (a : IsAccepted job next_table input images area area_then old new) → AreTables (kept_of input) images → AreMadeOf a.slot.input a.tables
  pub versions : (input : MergeInput) (tables : List Table) → AreMadeOf input tables → versions_of tables ≡ kept_of input
  pub run : (input : MergeInput) (tables : List Table) → AreMadeOf input tables → IsRun tables
  pub ranged : (input : MergeInput) (tables : List Table) → AreMadeOf input tables → AreRanged tables
  pub merge : (input : MergeInput) (level : ℕ) (upper lower tables : List Table) → joined input.runs ≡ versions_of (upper ++ lower) → AreRanged upper → AreRanged lower → AreMadeOf input tables
      → ReplaceInputs level upper lower tables
  pub flush : (input : MergeInput) (tables : List Table) → input.bottom ≡ false → SeesSome input → AreMadeOf input tables → AreOutputs Flush tables
