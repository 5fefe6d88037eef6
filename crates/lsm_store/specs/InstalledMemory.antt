-- The memory of a store after an install.
use Rattle.std.specs.Prelude.{◌≡◌, ◌-◌, ℕ, Bool, [], ◌∷◌, Some, None, option_map, if◌then◌else◌}
use Rattle.std.specs.Arc.{arc_value}
use Rattle.lsm_jobs.specs.Outputs.{AreMadeOf}
use Rattle.lsm_jobs.specs.Placing.{all_given_back}
use Rattle.lsm_jobs.specs.Slots.{Slot, Writing, slot_of, with_held, outputs_at}
use Rattle.lsm_levels.specs.Held.{AreOutputs}
use Rattle.lsm_levels.specs.Levels.{Levels}
use Rattle.lsm_levels.specs.Pick.{inputs, is_flush, installed_levels}
use Rattle.lsm_open.specs.Layout.{Layout, layout_of}
use Rattle.lsm_store.specs.declared.memory.Memory.{Memory}
use Rattle.lsm_store.specs.declared.memory.Status.TheVariants.{Stopped}
use Rattle.lsm_machine.specs.Crash.{last_crash_state}
use Rattle.lsm_store.specs.InstalledJobs.{first_open, layout_after}
use Rattle.lsm_store.specs.Memory.{state_of}
use Rattle.lsm_machine.specs.State.{State}
use Rattle.lsm_machine.specs.Effects.{installed}

-- the layout once the batches in the closed regions are in tables, at `count` batches
abbrev pub with_none_closed : ℕ → Layout → Layout
with_none_closed count l = record l { base = first_open count l.open_region - 1; closed = [] }

-- the layout with the last batch that is in tables and the closed regions as an install of a flush, or of a merge, leaves them
abbrev pub settled_layout : Bool → ℕ → Layout → Layout
settled_layout flush count l = if flush then with_none_closed count l else l

-- the layout after an install, of a flush or of a merge
abbrev pub next_layout : {A : Type 0} → Bool → Memory A → Layout
next_layout flush memory = layout_after flush (layout_of memory.regions) memory.count memory.next_table

-- What an install of a job leaves of the levels: its outputs, whose blocks are all written, are those that a merge makes of
-- its input, may be put in, and are in the place of what it took in.
pub record IsNext {A : Type 0} (memory : Memory A) (job : ℕ) (flush : Bool) (levels : Levels) : Type 0 where
  pub slot : Slot
  pub is : slot_of job memory.jobs.slots ≡ Some slot
  pub stage : slot.stage ≡ Writing (outputs_at slot.stage) 0
  pub made : AreMadeOf slot.input (outputs_at slot.stage)
  pub fit : AreOutputs slot.job (outputs_at slot.stage)
  pub flushes : flush ≡ is_flush slot.job
  pub next : levels ≡ installed_levels memory.levels slot.job (outputs_at slot.stage)

-- Memory after the install of a job: all but these parts is as it was.
pub record IsInstalledTo {A : Type 0} (old : Memory A) (job : ℕ) (slot : Slot) (levels : Levels) (new : Memory A) : Type 0 where
  pub layout : layout_of new.regions ≡ next_layout (is_flush slot.job) old
  pub waits : option_map arc_value new.sealed ≡ (if is_flush slot.job then None else option_map arc_value old.sealed)
  pub same : new ≡ record old {
    regions = new.regions;
    sealed = new.sealed;
    levels = levels;
    extents = all_given_back (inputs slot.job) old.extents;
    jobs = record { next = old.jobs.next; slots = with_held job None old.jobs.slots };
    synced = old.count;
    told = record { state = installed (is_flush slot.job) (state_of old) };
  }

-- the state of a store that a fault stopped inside the install of a flush, or of a merge
abbrev pub stopped_in_install : Bool → State → State
stopped_in_install flush s = record s { stopped = Some (last_crash_state (installed flush s) ∷ []) }

-- the memory of such a store
abbrev pub after_install_fault : {A : Type 0} → Bool → Memory A → Memory A
after_install_fault flush memory = record memory { status = Stopped; told = record { state = stopped_in_install flush (state_of memory) } }
