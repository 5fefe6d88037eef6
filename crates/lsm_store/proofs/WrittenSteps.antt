-- A step of writing blocks of a job's outputs keeps what jobs have placed.
use Rattle.std.proofs.Common.{◌≡◌, ℕ, ◌+◌, ◌-◌, ◌≤◌, min, List, [], ◌∷◌, ◌++◌, length, take, drop, All, get_or, Some, sym, ap, subst, ◌∙◌, append_assoc, arith}
use Rattle.std.proofs.lemmas.List.{append-nil, length-drop, length-take, take_all, take-take}
use Rattle.std.proofs.lemmas.List.Elements.{All-nil, All-cons, All-head, All-tail, All-append}
use Rattle.lsm_codec.specs.Map.{Operation}
use Rattle.lsm_codec.specs.Versions.{Version}
use Rattle.lsm_device.specs.Disk.{Disk, Write, seen}
use Rattle.lsm_device.specs.History.{present, EachSince}
use Rattle.lsm_device.specs.Outcomes.{Leaves}
use Rattle.lsm_device.specs.Runs.{grown, HasSomeOf}
use Rattle.lsm_jobs.proofs.TableWrites.{length-writes_of, step_so_far}
use Rattle.lsm_jobs.specs.Outputs.{placed_blocks, writes_of, next_blocks}
use Rattle.lsm_jobs.specs.Pieces.{sectors_of, sector_count, table_writes, sector_writes, written_of}
use Rattle.lsm_jobs.specs.Slots.{Stage, Slot, Slots, Writing, slot_of, with_held, outputs_at, left_at, less_left}
use Rattle.lsm_levels.specs.Tables.{Table, record_of}
use Rattle.lsm_mem.specs.EntryOrder.{with_batches}
use Rattle.lsm_open.specs.Layout.{open_batches}
use Rattle.lsm_open.specs.Placements.{Placement, IsFreeWrite, closed_in}
use Rattle.lsm_open.specs.Recovering.{StandForOne}
use Rattle.lsm_open.specs.Tables.{first_data, extent_at}
use Rattle.lsm_open.specs.Writing.{PlacedTable, IsWritten, ArePlacedApart, IsClear, CarriesJobs}
use Rattle.lsm_open.proofs.FreeWrites.{reads_elsewhere, carried_elsewhere}
use Rattle.lsm_open.proofs.ListPairs.{All-left, All-right, pairwise_left, pairwise_right, pairwise_cross, pairwise_join}
use Rattle.lsm_open.proofs.Writing.{free_next, written_keeps}
use Rattle.lsm_machine.specs.Crash.{may_leave}
use Rattle.lsm_store.specs.InstalledJobs.{output_level, placed_outputs, placed_by, HasPlaced, AreSealedIn, AreLoggedIn}
use Rattle.lsm_machine.specs.State.{State}
use Rattle.lsm_store.specs.StoredTables.{IsStoredWithJobs, KeepsExtents}
use Rattle.lsm_store.proofs.WrittenOutputs.{has_placed}
use Rattle.lsm_store.proofs.StoredTables.{free_stored, free_each, free_extents, closed_seen}
use Rattle.lsm_device.proofs.Runs.{grown_twice}

abbrev Batches : Type 0
Batches = List (List Operation)

-- ---- writes, one after the other

-- none
grown_none : (d : Disk) → grown [] d ≡ d
grown_none d = ap (λ (ws : List Write). let e : Disk = record { stands = d.stands; pending = ws } in e) (append-nil d.pending)

-- ---- fewer sectors count as written

-- a table as it is placed in a level, with `done` sectors written
abbrev placed_as : ℕ → ℕ → Table → PlacedTable
placed_as level done t = record { table = record_of level 0 t; image = sectors_of t; done = done }

-- with k sectors written
abbrev with_done : PlacedTable → ℕ → PlacedTable
with_done x k = record x { done = k }

-- reads give fewer of them too
fewer_written : (n : ℕ) (d : Disk) (x : PlacedTable) (k : ℕ) → k ≤ x.done → IsWritten n d x → IsWritten n d (with_done x k)
fewer_written n d x k less is = record {
  whole = is.whole;
  inside = is.inside;
  among = omega (arith, less, is.among);
  reads = sym (take-take k x.done (extent_at n (seen d) x.table) less) ∙ ap (take k) is.reads ∙ take-take k x.done x.image less;
}

-- so what jobs have placed stays with a disk
fewer_keep : (p : Placement) (xs : List PlacedTable) (x : PlacedTable) (ys : List PlacedTable) (d : Disk) (k : ℕ) → k ≤ x.done → CarriesJobs p (xs ++ x ∷ ys) d → CarriesJobs p (xs ++ with_done x k ∷ ys) d
fewer_keep p xs x ys d k less keeps =
    let n = p.logs.log_sectors in
    let y = with_done x k in
    let clear = All-right (IsClear p) xs (x ∷ ys) keeps.clear in
    let written = All-right (IsWritten n d) xs (x ∷ ys) keeps.written in
    let behind = pairwise_right ArePlacedApart xs (x ∷ ys) keeps.apart in
    let cross = pairwise_cross ArePlacedApart xs (x ∷ ys) keeps.apart in
    record {
      carried = keeps.carried;
      tables = keeps.tables;
      clear = All-append (IsClear p) xs (y ∷ ys) (All-left (IsClear p) xs (x ∷ ys) keeps.clear) (All-cons (IsClear p) y ys (All-head (IsClear p) x ys clear) (All-tail (IsClear p) x ys clear));
      apart = pairwise_join ArePlacedApart xs (y ∷ ys) (pairwise_left ArePlacedApart xs (x ∷ ys) keeps.apart) (behind.0, behind.1)
          (λ i z lt. All-cons (ArePlacedApart (get_or xs i z)) y ys (All-head (ArePlacedApart (get_or xs i z)) x ys (cross i z lt)) (All-tail (ArePlacedApart (get_or xs i z)) x ys (cross i z lt)));
      written = All-append (IsWritten n d) xs (y ∷ ys) (All-left (IsWritten n d) xs (x ∷ ys) keeps.written)
          (All-cons (IsWritten n d) y ys (fewer_written n d x k less (All-head (IsWritten n d) x ys written)) (All-tail (IsWritten n d) x ys written));
    }

-- ---- the sectors of outputs from one on up to another

module _ (p : Placement) (level : ℕ) where
  -- the first sector of the data area
  abbrev area : ℕ
  area = first_data p.logs.log_sectors

  -- they lie in free blocks
  free_sectors : (d : Disk) (from to : ℕ) (ts : List Table) → All (IsClear p) (placed_outputs level from ts) → All (IsWritten p.logs.log_sectors d) (placed_outputs level from ts)
      → All (IsFreeWrite p) (sector_writes (first_data p.logs.log_sectors) from to ts)
  free_sectors d from to [] clear written = All-nil (IsFreeWrite p)
  free_sectors d from to (t ∷ ts) clear written =
      let n = p.logs.log_sectors in
      let size = sector_count t in
      let x = placed_as level (min from size) t in
      let rest = placed_outputs level (from - size) ts in
      let m = min to size - min from size in
      All-append (IsFreeWrite p) (table_writes area (min from size) (min to size) t) (sector_writes area (from - size) (to - size) ts)
      (free_next p x m (All-head (IsClear p) x rest clear) (omega arith) (All-head (IsWritten n d) x rest written).whole)
      (free_sectors d (from - size) (to - size) ts (All-tail (IsClear p) x rest clear) (All-tail (IsWritten n d) x rest written))

  -- With them written, `count` sectors count as written, up to all of them.
  sectors_keep : (from to count : ℕ) (ts : List Table) (xs ys : List PlacedTable) (d : Disk) → from ≤ to → count ≤ to → CarriesJobs p (xs ++ (placed_outputs level from ts ++ ys)) d
      → CarriesJobs p (xs ++ (placed_outputs level count ts ++ ys)) (grown (sector_writes (first_data p.logs.log_sectors) from to ts) d)
  sectors_keep from to count [] xs ys d le less keeps = subst (CarriesJobs p (xs ++ ys)) (sym (grown_none d)) keeps
  sectors_keep from to count (t ∷ ts) xs ys d le less keeps =
      let size = sector_count t in
      let x = placed_as level (min from size) t in
      let y = placed_as level (min count size) t in
      let behind = placed_outputs level (from - size) ts ++ ys in
      let then = placed_outputs level (count - size) ts ++ ys in
      let m = min to size - min from size in
      let own = table_writes area (min from size) (min to size) t in
      let more = sector_writes area (from - size) (to - size) ts in
      let one : CarriesJobs p (xs ++ placed_as level (min from size + m) t ∷ behind) (grown own d) = written_keeps p xs x behind d m (omega arith) keeps in
      let two : CarriesJobs p (xs ++ y ∷ behind) (grown own d) = fewer_keep p xs (placed_as level (min from size + m) t) behind (grown own d) (min count size) (omega (arith, le, less)) one in
      let three = subst (λ (l : List PlacedTable). CarriesJobs p l (grown own d)) (sym (append_assoc xs (y ∷ []) behind)) two in
      let four = sectors_keep (from - size) (to - size) (count - size) ts (xs ++ y ∷ []) ys (grown own d) (omega (arith, le)) (omega (arith, less)) three in
      let five = subst (λ (l : List PlacedTable). CarriesJobs p l (grown more (grown own d))) (append_assoc xs (y ∷ []) then) four in
      subst (CarriesJobs p (xs ++ y ∷ then)) (grown_twice d own more) five

-- ---- one step

module _ (p : Placement) (slots : Slots) (job : ℕ) (slot : Slot) (outputs : List Table) (left : ℕ) (is : slot_of job slots ≡ Some slot) (stage : slot.stage ≡ Writing outputs left) where
  -- the first sector of the data area, and the writes of the step
  abbrev start : ℕ
  start = first_data p.logs.log_sectors

  abbrev writes : List Write
  writes = writes_of (first_data p.logs.log_sectors) (next_blocks outputs left)

  -- how many sectors are written before and after it
  abbrev before_step : ℕ
  before_step = written_of outputs left

  abbrev after_step : ℕ
  after_step = written_of outputs (left - 8)

  part : HasPlaced slots job slot
  part = has_placed slots job slot is

  -- what the job has placed at a stage
  abbrev placed_at : Stage → List PlacedTable
  placed_at at = placed_outputs (output_level slot.job) (written_of (outputs_at at) (left_at at)) (outputs_at at)

  placed_now : placed_by slots ≡ part.before ++ (placed_outputs (output_level slot.job) before_step outputs ++ part.behind)
  placed_now = part.own ∙ ap (λ (at : Stage). part.before ++ (placed_at at ++ part.behind)) stage

  placed_then : placed_by (with_held job (Some (record slot { stage = less_left 8 slot.stage })) slots) ≡ part.before ++ (placed_outputs (output_level slot.job) after_step outputs ++ part.behind)
  placed_then = part.changed (record slot { stage = less_left 8 slot.stage }) ∙ ap (λ (at : Stage). part.before ++ (placed_at (less_left 8 at) ++ part.behind)) stage

  -- the writes are those of the next sectors of its outputs, and as many as count then
  sectors_are : writes ≡ sector_writes start before_step (before_step + length writes) outputs
  sectors_are = sym (take_all (length writes) writes (omega arith)) ∙ step_so_far start left outputs (length writes) (omega arith)

  enough : after_step ≤ before_step + length writes
  enough =
      let from = length (placed_blocks outputs) - left in
      omega (arith, length-writes_of start (next_blocks outputs left), length-take 8 (drop from (placed_blocks outputs)), length-drop from (placed_blocks outputs))

  module _ (s : State) where
    -- each write of it is free
    free_step : (d : Disk) → IsStoredWithJobs p (placed_by slots) s d → All (IsFreeWrite p) writes
    free_step d stored =
        let n = p.logs.log_sectors in
        let own = placed_outputs (output_level slot.job) before_step outputs in
        let clear = subst (All (IsClear p)) placed_now stored.jobs.clear in
        let written = subst (All (IsWritten n d)) placed_now stored.jobs.written in
        subst (All (IsFreeWrite p)) (sym sectors_are)
        (free_sectors p (output_level slot.job) d before_step (before_step + length writes) outputs
        (All-left (IsClear p) own part.behind (All-right (IsClear p) part.before (own ++ part.behind) clear))
        (All-left (IsWritten n d) own part.behind (All-right (IsWritten n d) part.before (own ++ part.behind) written)))

    -- a running store goes on with it
    pub step_stored : (d : Disk) → IsStoredWithJobs p (placed_by slots) s d
        → IsStoredWithJobs p (placed_by (with_held job (Some (record slot { stage = less_left 8 slot.stage })) slots)) s (grown (writes_of (first_data p.logs.log_sectors) (next_blocks outputs left)) d)
    step_stored d stored = record {
      stored = free_stored p s d writes (free_step d stored) stored.stored;
      jobs =
          let now = subst (λ (l : List PlacedTable). CarriesJobs p l d) placed_now stored.jobs in
          let done = sectors_keep p (output_level slot.job) before_step (before_step + length writes) after_step outputs part.before part.behind d (omega arith) enough now in
          subst (λ (ws : List Write). CarriesJobs p (placed_by (with_held job (Some (record slot { stage = less_left 8 slot.stage })) slots)) (grown ws d)) (sym sectors_are)
          (subst (λ (l : List PlacedTable). CarriesJobs p l (grown (sector_writes start before_step (before_step + length writes) outputs) d)) (sym placed_then) done);
    }

    -- reads give what they gave in the tables
    pub step_extents : (d : Disk) → IsStoredWithJobs p (placed_by slots) s d → KeepsExtents p d (grown (writes_of (first_data p.logs.log_sectors) (next_blocks outputs left)) d)
    step_extents d stored = free_extents p d writes (free_step d stored)

    closed_kept : (d : Disk) → IsStoredWithJobs p (placed_by slots) s d → closed_in p (seen (grown writes d)) ≡ closed_in p (seen d)
    closed_kept d stored =
        let carried = stored.stored.carried in
        closed_seen p (grown writes d) (carried_elsewhere p d writes (free_step d stored) carried).held ∙ sym (closed_seen p d carried.held)

    open_kept : (d : Disk) → IsStoredWithJobs p (placed_by slots) s d → open_batches p.logs.open_region (seen (grown writes d)) ≡ open_batches p.logs.open_region (seen d)
    open_kept d stored =
        let held = stored.stored.carried.held in
        reads_elsewhere p d held writes (free_step d stored) p.logs.open_region held.opened

    -- nor does it change what is in the log regions
    pub step_sealed : (d : Disk) → IsStoredWithJobs p (placed_by slots) s d → (sealed : List Version) → AreSealedIn p (seen d) sealed
        → AreSealedIn p (seen (grown (writes_of (first_data p.logs.log_sectors) (next_blocks outputs left)) d)) sealed
    step_sealed d stored sealed are = are ∙ ap (λ (t : Batches). with_batches p.logs.base t []) (sym (closed_kept d stored))

    pub step_logged : (d : Disk) → IsStoredWithJobs p (placed_by slots) s d → (memory : List Version) → AreLoggedIn p (seen d) memory
        → AreLoggedIn p (seen (grown (writes_of (first_data p.logs.log_sectors) (next_blocks outputs left)) d)) memory
    step_logged d stored memory are =
        are
        ∙ ap (λ (t : Batches). with_batches (p.logs.base + length t) (open_batches p.logs.open_region (seen d)) []) (sym (closed_kept d stored))
        ∙ ap (λ (t : Batches). with_batches (p.logs.base + length (closed_in p (seen (grown writes d)))) t []) (sym (open_kept d stored))

    -- at each moment of it a crash leaves what it might
    pub step_each : (old new : List Disk) → IsStoredWithJobs p (placed_by slots) s (present old) → EachSince (HasSomeOf (present old) (writes_of (first_data p.logs.log_sectors) (next_blocks outputs left))) old new
        → EachSince (Leaves (StandForOne s.log_sectors (may_leave s))) old new
    step_each old new stored each = free_each p s writes old new (free_step (present old) stored) stored.stored each
