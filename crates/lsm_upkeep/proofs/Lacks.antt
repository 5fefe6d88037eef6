-- What a store lacks.
use Rattle.std.proofs.Common.{◌≡◌, ◌<◌, Bool, true, [], Some, subst}
use Rattle.lsm_extent.specs.Area.{Area}
use Rattle.lsm_extent.specs.Gaps.{SurelyFit}
use Rattle.lsm_jobs.specs.Slots.{JobSlots, held_jobs}
use Rattle.lsm_levels.specs.Choices.{chosen}
use Rattle.lsm_levels.specs.Levels.{Levels}
use Rattle.lsm_levels.specs.Pick.{Job}
use Rattle.lsm_levels.specs.declared.choosing.Choice.{Choice}
use Rattle.lsm_mem.specs.Sizes.{Covers}
use Rattle.lsm_mem.specs.declared.size.MemSize.{MemSize}
use Rattle.lsm_room.specs.Flushes.{FlushTakes}
use Rattle.lsm_room.specs.Outputs.{MakesAtMost}
use Rattle.lsm_room.specs.Taking.{AdvisesRoom, MayFollow, may_take}
use Rattle.lsm_room.specs.declared.bounds.Outputs.{Outputs}
use Rattle.lsm_room.specs.declared.stepping.Advice.{Advice}
use Rattle.lsm_room.specs.declared.stepping.Advice.TheVariants.{Take}
use Rattle.lsm_room.specs.declared.stepping.Step.{Step}
use Rattle.lsm_room.proofs.Making.{finds_room}
use Rattle.lsm_store.specs.Backing.{StoreView}
use Rattle.lsm_upkeep.specs.Lacking.{AreReckoned, FlushFindsRoom, HasStep, IsAdvised}
use Rattle.lsm_upkeep.specs.Writing.{is_live}

-- what is advised of what stands in a store, is advised of the store
pub advised : {A : Type 0} (s : StoreView) (levels : Levels) (area : Area) (held : JobSlots) (live : Bool) (advice : Advice A) → levels ≡ s.work.levels → area ≡ s.work.area → held ≡ s.work.jobs → live ≡ is_live s.state
    → MayFollow levels (held_jobs held.slots) advice → AdvisesRoom area levels live (held_jobs held.slots) advice → IsAdvised s advice
advised s levels area held live advice levels_are area_is held_are live_is may room = record {
  may = subst (λ (h : JobSlots). MayFollow s.work.levels (held_jobs h.slots) advice) held_are (subst (λ (l : Levels). MayFollow l (held_jobs held.slots) advice) levels_are may);
  room = subst (λ (h : JobSlots). AdvisesRoom s.work.area s.work.levels (is_live s.state) (held_jobs h.slots) advice) held_are
      (subst (λ (b : Bool). AdvisesRoom s.work.area s.work.levels b (held_jobs held.slots) advice) live_is
      (subst (λ (l : Levels). AdvisesRoom s.work.area l live (held_jobs held.slots) advice) levels_are
      (subst (λ (a : Area). AdvisesRoom a levels live (held_jobs held.slots) advice) area_is room)));
}

-- a step that is to be taken
pub step_taken : {A : Type 0} (s : StoreView) (advice : Advice A) (step : Step A) → advice ≡ Take step → IsAdvised s advice → HasStep s
step_taken {A} s advice step is advised =
    let taken : IsAdvised s (Take step) = subst (λ (a : Advice A). IsAdvised s a) is advised in
    record { choice = step.choice; keys = step.divisions.items; may = taken.may; room = taken.room.room }

-- what may be made of a choice, as it is reckoned
pub reckoned : (s : StoreView) (levels : Levels) (held : JobSlots) (live : Bool) (choice : Choice) (outputs : Outputs) → levels ≡ s.work.levels → held ≡ s.work.jobs → live ≡ is_live s.state
    → may_take levels (held_jobs held.slots) choice ≡ true
    → (outputs.blocks < 4294967296 → (job : Job) → chosen levels (held_jobs held.slots) choice ≡ Some job → MakesAtMost levels live job [] outputs.blocks outputs.largest) → AreReckoned s outputs
reckoned s levels held live choice outputs levels_are held_are live_is may makes =
    let M : Levels → JobSlots → Bool → Type 0 = λ l h b. outputs.blocks < 4294967296 → (job : Job) → chosen l (held_jobs h.slots) choice ≡ Some job → MakesAtMost l b job [] outputs.blocks outputs.largest in
    record {
      choice = choice;
      may = subst (λ (h : JobSlots). may_take s.work.levels (held_jobs h.slots) choice ≡ true) held_are (subst (λ (l : Levels). may_take l (held_jobs held.slots) choice ≡ true) levels_are may);
      makes = subst (λ (h : JobSlots). M s.work.levels h (is_live s.state)) held_are (subst (λ (b : Bool). M s.work.levels held b) live_is (subst (λ (l : Levels). M l held live) levels_are makes));
    }

-- a step that finds room, undivided
pub step_fits : (s : StoreView) (area : Area) (outputs : Outputs) → area ≡ s.work.area → AreReckoned s outputs → outputs.blocks < 4294967296 → SurelyFit area outputs.blocks outputs.largest → HasStep s
step_fits s area outputs area_is reckoned few fit = record {
  choice = reckoned.choice;
  keys = [];
  may = reckoned.may;
  room = λ job is. finds_room s.work.area s.work.levels (is_live s.state) job [] outputs (subst (λ (a : Area). SurelyFit a outputs.blocks outputs.largest) area_is fit) (reckoned.makes few job is);
}

-- a flush that finds room
pub flush_fits : (s : StoreView) (area : Area) (live : Bool) (size : MemSize) (outputs : Outputs) → area ≡ s.work.area → live ≡ is_live s.state → Covers s.work.sealed size → FlushTakes live size outputs → outputs.blocks < 4294967296
    → SurelyFit area outputs.blocks outputs.largest → FlushFindsRoom s
flush_fits s area live size outputs area_is live_is covers takes few fit images flushed =
    let most = subst (λ (b : Bool). FlushTakes b size outputs) live_is takes few s.work.sealed images covers flushed in
    record { total = outputs.blocks; largest = outputs.largest; fit = subst (λ (a : Area). SurelyFit a outputs.blocks outputs.largest) area_is fit; each = most.each; all = most.all }
