-- A running store with the outputs of a job placed, or without those of a job.
use Rattle.std.proofs.Common.{◌≡◌, ℕ, ◌+◌, ◌*◌, ◌-◌, ◌≤◌, ◌<◌, min, List, [], ◌∷◌, ◌++◌, length, take, All, Option, Some, None, refl, sym, ap, subst, arith}
use Rattle.std.specs.List.{AllByRecursion}
use Rattle.std.proofs.lemmas.List.Elements.{All-nil, All-cons, All-append}
use Rattle.lsm_codec.specs.Geometry.{data_blocks_of}
use Rattle.lsm_codec.specs.TableRecords.{extent_blocks}
use Rattle.lsm_device.specs.Disk.{Disk, seen}
use Rattle.lsm_jobs.specs.Outputs.{placed_blocks}
use Rattle.lsm_jobs.specs.Pieces.{sectors_of, sector_count, written_of}
use Rattle.lsm_jobs.specs.Slots.{Writing, Slot, Slots, slot_of, with_held, outputs_at}
use Rattle.lsm_levels.specs.Levels.{Levels, all_tables, places}
use Rattle.lsm_levels.specs.Tables.{Table, record_of}
use Rattle.lsm_open.proofs.ListPairs.{All-left, All-right}
use Rattle.lsm_open.specs.Placements.{Placement}
use Rattle.lsm_open.specs.Tables.{extent_at}
use Rattle.lsm_open.specs.ToldTables.{records_of, IsOutlined}
use Rattle.lsm_open.specs.Writing.{PlacedTable, IsWritten}
use Rattle.lsm_machine.specs.Accounts.{outputs_in, AllLieApart}
use Rattle.lsm_store.specs.InstalledJobs.{output_level, placed_outputs, placed_for, placed_by, HasPlaced}
use Rattle.lsm_machine.specs.State.{State}
use Rattle.lsm_store.specs.StoredTables.{IsStoredWithJobs}
use Rattle.lsm_machine.proofs.Accounts.{unheld}
use Rattle.lsm_store.proofs.KeptJobs.{one_dropped}
use Rattle.lsm_store.proofs.PlacedJobs.{nothing_placed, placed_apart, placed_clear}
use Rattle.lsm_store.proofs.WrittenOutputs.{has_placed}

-- ---- a job is gone

pub gone_stored : (p : Placement) (job : ℕ) (slots : Slots) (s : State) (d : Disk) → IsStoredWithJobs p (placed_by slots) s d → IsStoredWithJobs p (placed_by (with_held job None slots)) s d
gone_stored p job slots s d stored = by (slot_of job slots) refl
  where
    by : (o : Option Slot) → slot_of job slots ≡ o → IsStoredWithJobs p (placed_by (with_held job None slots)) s d
    by None is = subst (λ (l : Slots). IsStoredWithJobs p (placed_by l) s d) (sym (unheld job None slots is)) stored
    by (Some slot) is =
        let has = has_placed slots job slot is in
        subst (λ (l : List PlacedTable). IsStoredWithJobs p l s d) (sym has.others)
        (one_dropped p has.before (placed_for slot) has.behind s d (subst (λ (l : List PlacedTable). IsStoredWithJobs p l s d) has.own stored))

-- ---- outputs are placed, and nothing of them is written

ends_inside : (size log first blocks : ℕ) → 0 < blocks → first + blocks ≤ data_blocks_of size log → 130 + 3 * log + 8 * first + 8 * blocks ≤ size
ends_inside size log first blocks some le = omega (arith, some, le)

module _ (log : ℕ) (d : Disk) (level : ℕ) where
  one_unwritten : (t : Table) → IsOutlined t → sector_count t ≡ 8 * t.blocks → t.start + t.blocks ≤ data_blocks_of (length d.stands) log
      → IsWritten log d (record { table = record_of level 0 t; image = sectors_of t; done = min 0 (sector_count t) })
  one_unwritten t outlined count le =
      let blocks : t.blocks ≡ extent_blocks (record_of level 0 t) = ap (λ (x : Table). x.blocks) outlined in
      let ends = ends_inside (length d.stands) log t.start t.blocks (omega (arith, blocks)) le in
      let none : min 0 (sector_count t) ≡ 0 = omega arith in
      record {
        whole = omega (arith, count, blocks);
        inside = omega (arith, ends, blocks);
        among = omega arith;
        reads = subst (λ (k : ℕ). take k (extent_at log (seen d) (record_of level 0 t)) ≡ take k (sectors_of t)) (sym none) refl;
      }

  none_written : (tables : List Table) → AllByRecursion IsOutlined tables → AllByRecursion (λ t. sector_count t ≡ 8 * t.blocks) tables → AllByRecursion (λ t. t.start + t.blocks ≤ data_blocks_of (length d.stands) log) tables
      → All (IsWritten log d) (placed_outputs level 0 tables)
  none_written [] outlined counts inside = All-nil (IsWritten log d)
  none_written (t ∷ rest) outlined counts inside =
      All-cons (IsWritten log d) _ (placed_outputs level (0 - sector_count t) rest) (one_unwritten t outlined.0 counts.0 inside.0)
      (subst (λ (n : ℕ). All (IsWritten log d) (placed_outputs level n rest)) (sym (zero_less (sector_count t))) (none_written rest outlined.1 counts.1 inside.1))
    where
      zero_less : (n : ℕ) → 0 - n ≡ 0
      zero_less n = omega arith

module _ (p : Placement) (levels : Levels) (job : ℕ) (slot : Slot) (slots : Slots) (s : State) (d : Disk) (named : records_of levels ≡ p.tables) (is : slot_of job slots ≡ Some slot) (before : outputs_at slot.stage ≡ [])
    (stored : IsStoredWithJobs p (placed_by slots) s d) where
  pub newly_stored : (tables : List Table) → (now : Slot) → now ≡ record slot { stage = Writing tables (length (placed_blocks tables)) } → AllByRecursion IsOutlined (all_tables (places levels) ++ outputs_in (with_held job (Some now) slots))
      → AllLieApart (all_tables (places levels) ++ outputs_in (with_held job (Some now) slots)) → AllByRecursion IsOutlined tables → AllByRecursion (λ t. sector_count t ≡ 8 * t.blocks) tables
      → AllByRecursion (λ t. t.start + t.blocks ≤ data_blocks_of (length d.stands) p.logs.log_sectors) tables → IsStoredWithJobs p (placed_by (with_held job (Some now) slots)) s d
  newly_stored tables now same outlined apart own counts inside = record {
    stored = stored.stored;
    jobs = record {
      carried = stored.jobs.carried;
      tables = stored.jobs.tables;
      clear = placed_clear levels (with_held job (Some now) slots) outlined apart p named;
      apart = placed_apart levels (with_held job (Some now) slots) outlined apart;
      written = subst (All W) (sym (has.changed now)) (All-append W has.before (placed_for now ++ has.behind) old_front (All-append W (placed_for now) has.behind new_part old_behind));
    };
  }
    where
      has : HasPlaced slots job slot
      has = has_placed slots job slot is

      W : PlacedTable → Type 0
      W = IsWritten p.logs.log_sectors d

      old : All W (has.before ++ has.behind)
      old = subst (λ (l : List PlacedTable). All W (has.before ++ (l ++ has.behind))) (nothing_placed slot before) (subst (All W) has.own stored.jobs.written)

      old_front : All W has.before
      old_front = All-left W has.before has.behind old

      old_behind : All W has.behind
      old_behind = All-right W has.before has.behind old

      none_yet : written_of tables (length (placed_blocks tables)) ≡ 0
      none_yet = omega arith

      new_part : All W (placed_for now)
      new_part =
          subst (λ (x : Slot). All W (placed_for x)) (sym same)
          (subst (λ (n : ℕ). All W (placed_outputs (output_level slot.job) n tables)) (sym none_yet) (none_written p.logs.log_sectors d (output_level slot.job) tables own counts inside))
