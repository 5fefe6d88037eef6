-- What a store lacks that is not compacted to the end.
use Rattle.std.specs.Prelude.{◌≡◌, ◌⊎◌, ◌<◌, ℕ, true, false, List, [], ◌++◌, Some, codes, decimal}
use Rattle.std.specs.List.{list_any}
use Rattle.lsm_codec.specs.Keys.{Bytes}
use Rattle.lsm_extent.specs.Area.{Area, free_count}
use Rattle.lsm_extent.specs.Gaps.{IsLongestGap, has_sure_room}
use Rattle.lsm_jobs.specs.Slots.{held_jobs}
use Rattle.lsm_jobs.specs.SureRoom.{HaveSureRoom}
use Rattle.lsm_levels.specs.Choices.{chosen}
use Rattle.lsm_levels.specs.Pick.{Job, is_merge}
use Rattle.lsm_levels.specs.declared.choosing.Choice.{Choice}
use Rattle.lsm_room.specs.Flushes.{AreFlushed}
use Rattle.lsm_room.specs.Outputs.{FindsRoom, MakesAtMost}
use Rattle.lsm_room.specs.Taking.{AdvisesRoom, MayFollow, may_take}
use Rattle.lsm_room.specs.declared.bounds.Outputs.{Outputs}
use Rattle.lsm_room.specs.declared.stepping.Advice.{Advice}
use Rattle.lsm_store.specs.Backing.{StoreView}
use Rattle.lsm_table.specs.Division.{TableBlocks}
use Rattle.lsm_machine.specs.State.{are_waiting}
use Rattle.lsm_machine.specs.Work.{WorkView}
use Rattle.lsm_upkeep.specs.Compacting.{are_in_last}
use Rattle.lsm_upkeep.specs.Writing.{is_live}
use Rattle.lsm_upkeep.specs.declared.lacking.Shortage.{Shortage}
use Rattle.lsm_upkeep.specs.declared.lacking.Lack.{Lack}
use Rattle.lsm_upkeep.specs.declared.lacking.Lack.TheVariants.{FlushWants, Flush, StepWants, Step, Memory}

-- So many blocks are not sure to find room, and the numbers of those that there are.
pub record IsShortage (area : Area) (shortage : Shortage) : Type 0 where
  pub unsure : has_sure_room area shortage.wanted shortage.together ≡ false
  pub free : shortage.free ≡ free_count area
  pub longest : IsLongestGap area shortage.longest

-- the jobs that hold slots
abbrev pub jobs_of : WorkView → List Job
jobs_of w = held_jobs w.jobs.slots

-- All tables that a flush can make of what waits find room.
abbrev pub FlushFindsRoom : StoreView → Type 0
FlushFindsRoom s = (images : List TableBlocks) → AreFlushed (is_live s.state) s.work.sealed images → HaveSureRoom s.work.area images

-- A step may be taken, and all tables that it can make, divided at keys, find room.
pub record HasStep (s : StoreView) : Type 0 where
  pub choice : Choice
  pub keys : List Bytes
  pub may : may_take s.work.levels (jobs_of s.work) choice ≡ true
  pub room : (job : Job) → chosen s.work.levels (jobs_of s.work) choice ≡ Some job → FindsRoom s.work.area s.work.levels (is_live s.state) job keys

-- A choice may be taken, and its outputs, undivided, are these at most.
pub record AreReckoned (s : StoreView) (outputs : Outputs) : Type 0 where
  pub choice : Choice
  pub may : may_take s.work.levels (jobs_of s.work) choice ≡ true
  pub makes : outputs.blocks < 4294967296 → (job : Job) → chosen s.work.levels (jobs_of s.work) choice ≡ Some job → MakesAtMost s.work.levels (is_live s.state) job [] outputs.blocks outputs.largest

-- What is advised may be followed, and what is to be taken finds room.
pub record IsAdvised {A : Type 0} (s : StoreView) (advice : Advice A) : Type 0 where
  pub may : MayFollow s.work.levels (jobs_of s.work) advice
  pub room : AdvisesRoom s.work.area s.work.levels (is_live s.state) (jobs_of s.work) advice

-- No step is left, or one has to wait: all tables are in the last level, or a merge holds a slot.
abbrev pub IsAtRest : WorkView → Type 0
IsAtRest w = (are_in_last w.levels ≡ true) ⊎ (list_any is_merge (jobs_of w) ≡ true)

-- What is told is true of the store: a flush waits, and blocks are sure to find room or not.
abbrev pub IsLacking : StoreView → Lack → Type 0
IsLacking store (FlushWants shortage) = (are_waiting store.state ≡ true) × IsShortage store.work.area shortage
IsLacking store Flush = (are_waiting store.state ≡ true) × FlushFindsRoom store
IsLacking store (StepWants shortage) = IsShortage store.work.area shortage
IsLacking store Step = HasStep store ⊎ IsAtRest store.work
IsLacking store Memory = Unit {0}

-- as words
abbrev pub free_text : Shortage → List ℕ
free_text shortage = decimal shortage.free ++ (codes " are free, at most " ++ (decimal shortage.longest ++ codes " of them side by side"))

abbrev pub shortage_text : Shortage → List ℕ
shortage_text shortage = codes "wants up to " ++ (decimal shortage.wanted ++ (codes " blocks, up to " ++ (decimal shortage.together
    ++ (codes " of them side by side; " ++ free_text shortage))))

abbrev pub lack_text : Lack → List ℕ
lack_text (FlushWants shortage) = codes "a flush waits, which " ++ shortage_text shortage
lack_text Flush = codes "a flush waits, which was not finished"
lack_text (StepWants shortage) = codes "the next step " ++ shortage_text shortage
lack_text Step = codes "the next step was not finished"
lack_text Memory = codes "there is no memory for the next step"
