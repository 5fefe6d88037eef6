-- A store's memory tells its numbers.
use Rattle.std.proofs.Common.{◌≡◌, Bool, true, false, not, ◌&&◌, [], ◌∷◌, length, Some, None, is_some, sym, ap, ◌∙◌}
use Rattle.std.specs.Prelude.{Result, Ok, Err, if◌then◌else◌}
use Rattle.std.proofs.lemmas.Bool.{lt-ltb}
use Rattle.lsm_device.specs.declared.refusal.Refusal.{Refusal}
use Rattle.lsm_device.specs.declared.refusal.Refusal.TheVariants.{Stopped}
use Rattle.lsm_extent.specs.declared.extent.Extent.{Extent}
use Rattle.lsm_extent.specs.Area.{IsPartition, free_count, is_free, is_held}
use Rattle.lsm_levels.specs.Levels.{all_tables, places}
use Rattle.lsm_store.specs.declared.memory.Memory.{Memory}
use Rattle.lsm_store.specs.declared.stat.Stat.{Stat}
use Rattle.lsm_machine.specs.Accounts.{extents_like, tables_like, tables_placed}
use Rattle.lsm_store.specs.Memory.{AreConsistent, state_of, work_of}
use Rattle.lsm_machine.specs.Refusals.{first_refusal}
use Rattle.lsm_machine.specs.State.{are_waiting, log_room}
use Rattle.lsm_store.specs.Stats.{is_in_no_table, blocks_in_no_table, stat_of, stat_answer}
use Rattle.lsm_machine.specs.Work.{WorkView}
use Rattle.lsm_machine.proofs.ExtentCounts.{placed_in}
use Rattle.lsm_extent.proofs.Counting.{count_below-same}

-- ---- free blocks

-- the blocks that are free are just those in no table
pub free_in_no_table : (w : WorkView) → IsPartition w.area → ((e : Extent) → extents_like e w.area.held ≡ tables_like e (tables_placed w)) → free_count w.area ≡ blocks_in_no_table w
free_in_no_table w whole each = count_below-same (is_free w.area) (is_in_no_table w) w.area.blocks (λ k below.
    ap (λ (b : Bool). b && not (is_held w.area.held k)) (lt-ltb k w.area.blocks below) ∙ ap not ((placed_in w.area whole (tables_placed w) each).only k))

-- ---- the answer

abbrev told : Bool → Stat → Result Stat Refusal
told stopped s = if stopped then Err Stopped else Ok s

some_same : (a b : Refusal) → Some a ≡ Some b → a ≡ b
some_same a b is = cc

some_none : (e : Refusal) → Some e ≡ None → ⊥
some_none e is = cc

-- where the store is stopped
stopped_by : (stopped : Bool) (s : Stat) (e : Refusal) → first_refusal ((stopped, Stopped) ∷ []) ≡ Some e → Err e ≡ told stopped s
stopped_by true s e is = ap (λ (x : Refusal). Err x) (sym (some_same Stopped e is))
stopped_by false s e is = absurd (some_none e (sym is))

-- and where it runs
running_by : (stopped : Bool) (s t : Stat) → first_refusal ((stopped, Stopped) ∷ []) ≡ None → s ≡ t → Ok s ≡ told stopped t
running_by true s t none same = absurd (some_none Stopped none)
running_by false s t none same = ap (λ (x : Stat). Ok x) same

module _ {A : Type 0} (m : Memory A) (kept : AreConsistent m) where
  pub told_stopped : (e : Refusal) → first_refusal ((is_some (state_of m).stopped, Stopped) ∷ []) ≡ Some e → Err e ≡ stat_answer (record { state = state_of m; work = work_of m })
  told_stopped e is = stopped_by (is_some (state_of m).stopped) (stat_of (record { state = state_of m; work = work_of m })) e is

  pub told_stat : (s : Stat) → s.generation ≡ m.regions.generation → s.batches ≡ m.count → s.room ≡ log_room (state_of m) → s.waiting ≡ are_waiting (state_of m) → s.runs ≡ length m.levels.runs
      → s.tables ≡ length (all_tables (places m.levels)) → s.free_blocks ≡ blocks_in_no_table (work_of m) → first_refusal ((is_some (state_of m).stopped, Stopped) ∷ []) ≡ None
      → Ok s ≡ stat_answer (record { state = state_of m; work = work_of m })
  told_stat s generation batches room waiting runs tables free none =
      running_by (is_some (state_of m).stopped) s (stat_of (record { state = state_of m; work = work_of m })) none (λ i. record {
        generation = (generation ∙ sym kept.agrees.generation) i;
        batches = (batches ∙ sym kept.agrees.counted) i;
        room = room i;
        waiting = waiting i;
        runs = runs i;
        tables = tables i;
        free_blocks = free i;
      })
