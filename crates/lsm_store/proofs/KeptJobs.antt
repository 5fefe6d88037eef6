-- What jobs have placed stays keeps a running store.
use Rattle.std.proofs.Common.{◌≡◌, ℕ, ◌+◌, ◌≤◌, true, false, List, [], ◌∷◌, ◌++◌, length, take, drop, Some, sym, ◌∙◌, ap, subst, refl, All}
use Rattle.std.proofs.lemmas.List.Elements.{All-weaker}
use Rattle.lsm_device.specs.Disk.{Disk, Write, seen, synced}
use Rattle.lsm_device.specs.History.{present, EachSince}
use Rattle.lsm_device.specs.Outcomes.{Leaves}
use Rattle.lsm_device.specs.Runs.{run_at, grown, HasSomeOf}
use Rattle.lsm_log.specs.Opened.{IsOfLog, IsGrownBy}
use Rattle.lsm_open.specs.Placements.{Placement, contents_for, closed_in}
use Rattle.lsm_open.specs.Recovering.{StandForOne}
use Rattle.lsm_open.specs.Switching.{rotated_placement, flushed, AreFlushed, merged, Parts, with_outputs, AreMerged}
use Rattle.lsm_open.specs.Tables.{extent_start, extent_length}
use Rattle.lsm_open.specs.Writing.{PlacedTable, tables_of, IsWritten, MayBePlaced}
use Rattle.lsm_open.specs.declared.regions.OpenRegion.{OpenRegion}
use Rattle.lsm_open.proofs.Taking.{flush_keeps, merge_keeps}
use Rattle.lsm_open.proofs.Writing.{placed_more, free_here, written_keeps, dropped_keeps, synced_keeps, installed_keeps}
use Rattle.lsm_root.specs.Installed.{IsInstalled}
use Rattle.lsm_root.specs.Roots.{Stands}
use Rattle.lsm_machine.specs.Calls.{Sync}
use Rattle.lsm_machine.specs.Crash.{may_leave}
use Rattle.lsm_machine.specs.Effects.{after, installed}
use Rattle.lsm_machine.specs.State.{State}
use Rattle.lsm_store.specs.StoredTables.{IsStoredIn, IsStoredWithJobs, with_log}
use Rattle.lsm_store.proofs.AppendedTables.{area_elsewhere, outside_extent}
use Rattle.lsm_store.proofs.InstalledTables.{some_sectors, next_stored, flush_goes_on, merge_goes_on}
use Rattle.lsm_store.proofs.StoredTables.{free_stored, free_each, synced_stored}

-- ---- the jobs' own steps

pub one_more_placed : (p : Placement) (placed : List PlacedTable) (s : State) (d : Disk) (x : PlacedTable) → MayBePlaced p placed d x → IsStoredWithJobs p placed s d → IsStoredWithJobs p (placed ++ x ∷ []) s d
one_more_placed p placed s d x may keeps = record { stored = keeps.stored; jobs = placed_more p placed d x may keeps.jobs }

pub more_written : (p : Placement) (xs : List PlacedTable) (x : PlacedTable) (ys : List PlacedTable) (s : State) (d : Disk) (m : ℕ) → x.done + m ≤ length x.image → IsStoredWithJobs p (xs ++ x ∷ ys) s d
    → IsStoredWithJobs p (xs ++ record x { done = x.done + m } ∷ ys) s (grown (run_at (extent_start p.logs.log_sectors x.table + x.done) (take m (drop x.done x.image))) d)
more_written p xs x ys s d m fits keeps = record {
  stored = free_stored p s d _ (free_here p xs x ys d m fits keeps.jobs) keeps.stored;
  jobs = written_keeps p xs x ys d m fits keeps.jobs;
}

pub written_each : (p : Placement) (xs : List PlacedTable) (x : PlacedTable) (ys : List PlacedTable) (s : State) (m : ℕ) (old new : List Disk) → x.done + m ≤ length x.image → IsStoredWithJobs p (xs ++ x ∷ ys) s (present old)
    → EachSince (HasSomeOf (present old) (run_at (extent_start p.logs.log_sectors x.table + x.done) (take m (drop x.done x.image)))) old new
    → EachSince (Leaves (StandForOne s.log_sectors (may_leave s))) old new
written_each p xs x ys s m old new fits keeps each = free_each p s _ old new (free_here p xs x ys (present old) m fits keeps.jobs) keeps.stored each

pub one_dropped : (p : Placement) (xs own ys : List PlacedTable) (s : State) (d : Disk) → IsStoredWithJobs p (xs ++ (own ++ ys)) s d → IsStoredWithJobs p (xs ++ ys) s d
one_dropped p xs own ys s d keeps = record { stored = keeps.stored; jobs = dropped_keeps p xs own ys d keeps.jobs }

-- ---- under calls

module _ (p : Placement) (placed : List PlacedTable) (s t : State) (o x : OpenRegion) (old : Disk) (keeps : IsStoredWithJobs p placed s old) (is_open : p.logs.open_region ≡ Some o) (ws : List Write) (of_log : All (IsOfLog o.log) ws) where
  written_still : (y : PlacedTable) → IsWritten p.logs.log_sectors old y → IsWritten p.logs.log_sectors (grown ws old) y
  written_still y is = record {
    whole = is.whole;
    inside = is.inside;
    among = is.among;
    reads = ap (take y.done) (area_elsewhere (extent_start p.logs.log_sectors y.table) (extent_length y.table) old ws (outside_extent p old keeps.stored.carried.held o is_open ws of_log y.table)) ∙ is.reads;
  }

  grown_keeps : IsStoredIn (with_log p x) t (grown ws old) → IsStoredWithJobs (with_log p x) placed t (grown ws old)
  grown_keeps stored = record {
    stored = stored;
    jobs = record {
      carried = stored.carried;
      tables = keeps.jobs.tables;
      clear = keeps.jobs.clear;
      apart = keeps.jobs.apart;
      written = All-weaker (IsWritten p.logs.log_sectors old) (IsWritten p.logs.log_sectors (grown ws old)) written_still placed keeps.jobs.written;
    };
  }

pub commit_keeps : (p : Placement) (placed : List PlacedTable) (s t : State) (o x : OpenRegion) (old new : Disk) → IsStoredWithJobs p placed s old → p.logs.open_region ≡ Some o → IsGrownBy o.log old new
    → IsStoredIn (with_log p x) t new → IsStoredWithJobs (with_log p x) placed t new
commit_keeps p placed s t o x old new keeps is_open (ws, of_log, same) stored =
    subst (IsStoredWithJobs (with_log p x) placed t) (sym same)
    (grown_keeps p placed s t o x old keeps is_open ws of_log (subst (IsStoredIn (with_log p x) t) same stored))

pub sync_keeps : (p : Placement) (placed : List PlacedTable) (s : State) (d : Disk) → IsStoredWithJobs p placed s d → IsStoredWithJobs p placed (after s Sync) (synced d)
sync_keeps p placed s d keeps = record { stored = synced_stored p s d keeps.stored; jobs = synced_keeps p placed d keeps.jobs }

-- ---- under installations

pub rotate_keeps : (p : Placement) (placed : List PlacedTable) (s t : State) (o : OpenRegion) (start d : Disk) → IsStoredWithJobs p placed s start → IsInstalled start (Stands p.logs.log_sectors (contents_for (rotated_placement p o))) d
    → IsStoredIn (rotated_placement p o) t d → IsStoredWithJobs (rotated_placement p o) placed t d
rotate_keeps p placed s t o start d keeps is stored = record {
  stored = stored;
  jobs = installed_keeps p (rotated_placement p o) [] [] placed start d refl keeps.jobs stored.carried is.settled is.stands.all keeps.jobs.tables keeps.jobs.clear;
}

pub flush_taken : (p : Placement) (xs own ys : List PlacedTable) (s : State) (start d : Disk) (next_table : ℕ) → IsStoredWithJobs p (xs ++ (own ++ ys)) s start → AreFlushed p (seen start) (tables_of own)
    → IsInstalled start (Stands p.logs.log_sectors (contents_for (flushed p (length (closed_in p (seen start))) next_table (tables_of own)))) d
    → IsStoredWithJobs (flushed p (length (closed_in p (seen start))) next_table (tables_of own)) (xs ++ ys) (installed true s) d
flush_taken p xs own ys s start d next_table keeps are is =
    let some = some_sectors p s start keeps.stored in
    record {
      stored = next_stored (flushed p (length (closed_in p (seen start))) next_table (tables_of own)) (installed true s) start d some (flush_goes_on p s start keeps.stored next_table (tables_of own) are) is;
      jobs = flush_keeps p xs own ys start d next_table keeps.jobs are some is;
    }

pub merge_taken : (p : Placement) (xs own ys : List PlacedTable) (s : State) (start d : Disk) (next_table runs : ℕ) (x : Parts) → IsStoredWithJobs p (xs ++ (own ++ ys)) s start → AreMerged p (seen start) x (tables_of own)
    → IsInstalled start (Stands p.logs.log_sectors (contents_for (merged p next_table runs (with_outputs x (tables_of own))))) d
    → IsStoredWithJobs (merged p next_table runs (with_outputs x (tables_of own))) (xs ++ ys) (installed false s) d
merge_taken p xs own ys s start d next_table runs x keeps are is =
    let some = some_sectors p s start keeps.stored in
    record {
      stored = next_stored (merged p next_table runs (with_outputs x (tables_of own))) (installed false s) start d some (merge_goes_on p s start keeps.stored next_table runs x (tables_of own) are) is;
      jobs = merge_keeps p xs own ys start d next_table runs x keeps.jobs are some is;
    }
