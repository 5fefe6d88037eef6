-- The tables of a store after an install, and the manifest that names them, whatever the device holds.
use Rattle.std.proofs.Common.{◌≡◌, ℕ, ◌+◌, ◌==◌, ◌≤◌, ◌<◌, ◌^◌, Bool, List, [], ◌∷◌, ◌++◌, length, filter, Some, None, ◌∙◌, ap, subst, arith}
use Rattle.std.specs.List.{AllByRecursion}
use Rattle.lsm_codec.specs.Geometry.{data_blocks_of}
use Rattle.lsm_codec.proofs.Lists.{all_append, all_left, all_right}
use Rattle.lsm_extent.specs.Area.{IsPartition}
use Rattle.lsm_jobs.proofs.Found.{found_there, found_number}
use Rattle.lsm_jobs.proofs.KeptJobs.{installing_law}
use Rattle.lsm_jobs.specs.Keeping.{AreKept}
use Rattle.lsm_jobs.specs.Outputs.{AreMadeOf}
use Rattle.lsm_jobs.specs.Placing.{extent_of, all_given_back}
use Rattle.lsm_jobs.specs.Slots.{Slot, slot_of, with_held, outputs_at}
use Rattle.lsm_levels.proofs.Moving.{moving_law}
use Rattle.lsm_levels.proofs.Runs.{runs_law}
use Rattle.lsm_levels.specs.Held.{AreRuns, IsHeld, AreOutputs}
use Rattle.lsm_levels.specs.Levels.{Levels, all_tables, places}
use Rattle.lsm_levels.specs.NamedBlocks.{AreNumberedApart}
use Rattle.lsm_levels.specs.Pick.{inputs, installed_levels}
use Rattle.lsm_levels.specs.Tables.{Table}
use Rattle.lsm_root.specs.CrashState.{last_number}
use Rattle.lsm_open.specs.Layout.{Layout}
use Rattle.lsm_open.specs.ToldTables.{IsOutlined}
use Rattle.lsm_machine.specs.Accounts.{is_same_extent, outputs_in, tables_placed, AreNumbered}
use Rattle.lsm_store.specs.InstalledJobs.{installed_layout}
use Rattle.lsm_store.specs.Memory.{HaveTables, LieWithin}
use Rattle.lsm_machine.specs.TableLimits.{AreFew}
use Rattle.lsm_machine.specs.Work.{WorkView}
use Rattle.lsm_machine.specs.WorkEffects.{with_installed}
use Rattle.lsm_machine.proofs.Accounts.{held_counted, installed_accounts}
use Rattle.lsm_machine.proofs.ExtentCounts.{count_append, StandAmong, tables_apart, tables_inside}
use Rattle.lsm_machine.proofs.FewNumbers.{all_below}
use Rattle.lsm_store.proofs.HeldTables.{with_held_merges, held_outlined}
use Rattle.lsm_store.proofs.InstalledLayouts.{installed_within, installed_named, outlined_then}
use Rattle.lsm_machine.proofs.TableNumbers.{runs_apart, fewer_numbered}

-- the outputs of a job have numbers up to the last
pub outputs_low : (w : WorkView) (job : ℕ) (slot : Slot) → AreNumbered w.next_table (tables_placed w) → slot_of job w.jobs.slots ≡ Some slot → w.next_table ≤ last_number + 1 → AllByRecursion (λ t. t.number ≤ 2 ^ 63) (outputs_at slot.stage)
outputs_low w job slot numbered is high = by (outputs_at slot.stage) (all_below w.next_table (outputs_at slot.stage) (λ n h. omega (arith, numbered.below n h, among n)))
  where
    among : (n : ℕ) → length (filter (λ (t : Table). t.number == n) (outputs_at slot.stage)) ≤ length (filter (λ (t : Table). t.number == n) (all_tables (places w.levels) ++ outputs_in w.jobs.slots))
    among n =
        let p = λ (t : Table). t.number == n in
        omega (arith, held_counted p job None w.jobs.slots slot is, count_append p (all_tables (places w.levels)) (outputs_in w.jobs.slots))

    by : (ts : List Table) → AllByRecursion (λ t. t.number < w.next_table) ts → AllByRecursion (λ t. t.number ≤ 2 ^ 63) ts
    by [] all = tt
    by (t ∷ ts) all = (let lt = all.0 in omega (arith, lt, high), by ts all.1)

module _ (w : WorkView) (runs : AreRuns w.levels) (have : HaveTables w.levels w.jobs w.area) (numbered : AreNumbered w.next_table (tables_placed w)) (job : ℕ) (slot : Slot) (is : slot_of job w.jobs.slots ≡ Some slot)
    (made : AreMadeOf slot.input (outputs_at slot.stage)) (fit : AreOutputs slot.job (outputs_at slot.stage)) where
  abbrev outputs : List Table
  outputs = outputs_at slot.stage

  abbrev after : Levels
  after = installed_levels w.levels slot.job (outputs_at slot.stage)

  abbrev others : List Table
  others = outputs_in (with_held job None w.jobs.slots)

  its_tables : IsHeld w.levels slot.input.bottom slot.job
  its_tables = have.kept.held slot (found_there job w.jobs.slots slot is)

  runs_after : AreRuns (installed_levels w.levels slot.job (outputs_at slot.stage))
  runs_after = runs_law w.levels slot.input.bottom slot.job (outputs_at slot.stage) runs its_tables fit

  -- ---- the tables that are placed then

  counted : (p : Table → Bool) → length (filter p (all_tables (places after) ++ others)) + length (filter p (inputs slot.job)) ≡ length (filter p (all_tables (places w.levels) ++ outputs_in w.jobs.slots))
  counted p =
      omega (
        arith,
        (moving_law w.levels slot.input.bottom slot.job outputs runs its_tables).passed p,
        held_counted p job None w.jobs.slots slot is,
        count_append p (all_tables (places after)) others,
        count_append p (all_tables (places w.levels)) (outputs_in w.jobs.slots),
      )

  -- they have numbers of their own
  pub installed_numbered : AreNumbered w.next_table (all_tables (places (installed_levels w.levels slot.job (outputs_at slot.stage))) ++ outputs_in (with_held job None w.jobs.slots))
  installed_numbered =
      fewer_numbered w.next_table w.next_table (all_tables (places w.levels) ++ outputs_in w.jobs.slots) (all_tables (places after) ++ others) (omega arith)
      (λ n. omega (arith, counted (λ (t : Table). t.number == n))) numbered

  pub installed_apart : AreNumberedApart (all_tables (places (installed_levels w.levels slot.job (outputs_at slot.stage))))
  installed_apart = runs_apart w.next_table (places after) others installed_numbered

  below_after : AllByRecursion (λ t. t.number < w.next_table) (all_tables (places after))
  below_after = all_below w.next_table (all_tables (places after)) (λ n h. omega (arith, installed_numbered.below n h, count_append (λ (t : Table). t.number == n) (all_tables (places after)) others))

  stand_after : StandAmong (all_tables (places after)) w.area.held
  stand_after e =
      let p = λ (t : Table). is_same_extent e (extent_of t) in
      omega (arith, have.accounted e, counted p, count_append p (all_tables (places after)) others)

  module _ (whole : IsPartition w.area) where
    -- just their extents are handed out, and each other job has its tables
    pub installed_have : HaveTables (installed_levels w.levels slot.job (outputs_at slot.stage)) (record { next = w.jobs.next; slots = with_held job None w.jobs.slots }) (all_given_back (inputs slot.job) w.area)
    installed_have = record {
      kept = subst (λ (n : ℕ). AreKept after w.jobs.next (with_held n None w.jobs.slots)) number
          (installing_law w.levels w.jobs.next w.jobs.slots slot outputs runs have.kept (ap (λ (n : ℕ). slot_of n w.jobs.slots) number ∙ is) fit);
      merges = with_held_merges job None w.jobs.slots tt have.merges;
      accounted = (installed_accounts w (record { each = have.accounted }) whole runs job slot is its_tables).each;
      outlined = held_outlined (all_tables (places after)) job None w.jobs.slots tt
          (all_append IsOutlined (all_tables (places after)) (outputs_in w.jobs.slots)
          (outlined_then w.levels slot.job slot.input outputs (all_left IsOutlined (all_tables (places w.levels)) (outputs_in w.jobs.slots) have.outlined) made)
          (all_right IsOutlined (all_tables (places w.levels)) (outputs_in w.jobs.slots) have.outlined));
    }
      where
        number : slot.number ≡ job
        number = found_number job w.jobs.slots slot is

    -- ---- the manifest then

    -- what it says is within the limits
    pub installed_lie : (size count : ℕ) (l : Layout) → LieWithin size l w.levels → w.area.blocks ≡ data_blocks_of size l.log_sectors → count ≤ last_number → l.generation + 1 ≤ last_number → l.next_table ≤ w.next_table → w.next_table ≤ last_number + 1
        → AreFew (with_installed w job slot).levels → LieWithin size (installed_layout l count w.next_table slot.job) (installed_levels w.levels slot.job (outputs_at slot.stage))
    installed_lie size count l lie blocks counted generation later high few =
        installed_within size count w.next_table l w.levels lie counted generation later high after runs_after
        (installed_named size l.log_sectors w.next_table w.levels slot.job slot.input outputs (λ k r lt. (lie.manifest.tables.each k r lt).sizes)
        (all_left IsOutlined (all_tables (places w.levels)) (outputs_in w.jobs.slots) have.outlined) made below_after
        (subst (λ (n : ℕ). AllByRecursion (λ t. (0 < t.blocks) × (t.start + t.blocks ≤ n)) (all_tables (places after))) blocks (tables_inside w.area whole (all_tables (places after)) stand_after)))
        installed_apart (tables_apart w.area whole (all_tables (places after)) stand_after) few.runs few.tables slot.job
