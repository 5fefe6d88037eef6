-- What jobs write of tables.
use Rattle.std.proofs.Common.{◌≡◌, inl, inr, ℕ, ◌+◌, ◌≤◌, List, [], ◌∷◌, ◌++◌, length, take, drop, get_or, refl, sym, ◌∙◌, ap, subst, arith, append_assoc, All}
use Rattle.std.proofs.lemmas.List.{length-append, length-drop, length-take-le, take_all, take_at}
use Rattle.std.proofs.lemmas.List.Elements.{All-nil, All-cons, All-head, All-tail, All-append, All-push, All-weaker}
use Rattle.lsm_codec.specs.declared.table_record.TableRecord.{TableRecord}
use Rattle.lsm_codec.specs.Pairs.{Pairwise}
use Rattle.lsm_codec.specs.TableRecords.{AreApart}
use Rattle.lsm_device.specs.Areas.{area, writes_in, IsOutside}
use Rattle.lsm_device.specs.Disk.{Disk, Write, seen, synced, written}
use Rattle.lsm_device.specs.Memory.{length-written}
use Rattle.lsm_device.specs.Runs.{run_at, grown}
use Rattle.lsm_device.proofs.Areas.{area-written, writes_in-none, writes_in-run_at}
use Rattle.lsm_device.proofs.Outcomes.{Within, seen-grown}
use Rattle.lsm_device.proofs.Runs.{All-run_at, written-run_at}
use Rattle.lsm_open.specs.Placements.{Placement, Carries, IsFreeWrite}
use Rattle.lsm_open.specs.Tables.{first_data, extent_start, extent_length, extent_at}
use Rattle.lsm_open.specs.Writing.{PlacedTable, IsWritten, ArePlacedApart, IsClear, CarriesJobs, MayBePlaced}
use Rattle.lsm_root.proofs.Beginnings.{take_sum}
use Rattle.lsm_open.proofs.FreeWrites.{carried_elsewhere, carried_synced}
use Rattle.lsm_open.proofs.ListPairs.{All-left, All-right, pairwise_left, pairwise_right, pairwise_cross, pairwise_join}
use Rattle.lsm_open.proofs.TableFrames.{area_behind}

abbrev Sectors : Type 0
Sectors = List (List ℕ)

pub apart_back : (a b : TableRecord) → AreApart a b → AreApart b a
apart_back a b (inl before) = inr before
apart_back a b (inr behind) = inl behind

-- ---- writes to an extent that is free

-- writes to one extent are outside each that is apart from it
outside_run : (n : ℕ) (a b : TableRecord) (done : ℕ) (sectors : List (List ℕ)) → AreApart a b → done + length sectors ≤ extent_length b → All (IsOutside (extent_start n a) (extent_length a)) (run_at (extent_start n b + done) sectors)
outside_run n a b done sectors apart fits =
    let from = extent_start n b in
    let to = extent_start n b + extent_length b in
    All-weaker (Within from to) (IsOutside (extent_start n a) (extent_length a)) (λ w is. by apart w is) (run_at (from + done) sectors) (All-run_at from to (from + done) sectors (omega arith) (omega (arith, fits)))
  where
    by : AreApart a b → (w : Write) → Within (extent_start n b) (extent_start n b + extent_length b) w → IsOutside (extent_start n a) (extent_length a) w
    by (inl before) w is = inr (omega (arith, before, is.0))
    by (inr behind) w is = inl (omega (arith, behind, is.1))

-- they are to blocks of no table
free_run : (p : Placement) (t : TableRecord) (done : ℕ) (sectors : List (List ℕ)) → All (AreApart t) p.tables → done + length sectors ≤ extent_length t → All (IsFreeWrite p) (run_at (extent_start p.logs.log_sectors t + done) sectors)
free_run p t done sectors apart fits =
    let n = p.logs.log_sectors in
    let from = extent_start n t in
    let to = extent_start n t + extent_length t in
    λ k w lt. record {
      low = low (get_or (run_at (from + done) sectors) k w) (All-run_at from to (from + done) sectors (omega arith) (omega (arith, fits)) k w lt);
      free = λ j u less. outside_run n (get_or p.tables j u) t done sectors (apart_back t (get_or p.tables j u) (apart j u less)) fits k w lt;
    }
  where
    low : (w : Write) → Within (extent_start p.logs.log_sectors t) (extent_start p.logs.log_sectors t + extent_length t) w → first_data p.logs.log_sectors ≤ w.at
    low w is = omega (arith, is.0)

abbrev pub more : PlacedTable → ℕ → PlacedTable
more x m = record x { done = x.done + m }

-- the writes of its next sectors
abbrev pub next_writes : ℕ → PlacedTable → ℕ → List Write
next_writes n x m = run_at (extent_start n x.table + x.done) (take m (drop x.done x.image))

next_fit : (x : PlacedTable) (m : ℕ) → x.done + m ≤ length x.image → length x.image ≡ extent_length x.table → x.done + length (take m (drop x.done x.image)) ≤ extent_length x.table
next_fit x m fits whole = omega (arith, fits, whole, length-take-le m (drop x.done x.image) (omega (arith, fits, length-drop x.done x.image)))

pub free_next : (p : Placement) (x : PlacedTable) (m : ℕ) → IsClear p x → x.done + m ≤ length x.image → length x.image ≡ extent_length x.table → All (IsFreeWrite p) (run_at (extent_start p.logs.log_sectors x.table + x.done) (take m (drop x.done x.image)))
free_next p x m clear fits whole = free_run p x.table x.done (take m (drop x.done x.image)) clear (next_fit x m fits whole)

-- ---- what reads give of an image

module _ (n : ℕ) (d : Disk) (x : PlacedTable) (is : IsWritten n d x) where
  extent_grown : (ws : List Write) → extent_at n (seen (grown ws d)) x.table ≡ written (extent_at n (seen d) x.table) (writes_in (extent_start n x.table) (extent_length x.table) ws)
  extent_grown ws = ap (area (extent_start n x.table) (extent_length x.table)) (seen-grown ws d) ∙ area-written (extent_start n x.table) (extent_length x.table) (seen d) ws

  -- writes to other places leave it
  written_elsewhere : (ws : List Write) → All (IsOutside (extent_start n x.table) (extent_length x.table)) ws → IsWritten n (grown ws d) x
  written_elsewhere ws outside = record {
    whole = is.whole;
    inside = is.inside;
    among = is.among;
    reads = ap (take x.done) (extent_grown ws ∙ ap (written (extent_at n (seen d) x.table)) (writes_in-none (extent_start n x.table) (extent_length x.table) ws outside)) ∙ is.reads;
  }

  long_seen : length (seen d) ≡ length d.stands
  long_seen = length-written (length d.stands) d.stands d.pending refl

  long : length (extent_at n (seen d) x.table) ≡ extent_length x.table
  long = length-take-le (extent_length x.table) (drop (extent_start n x.table) (seen d)) (omega (arith, length-drop (extent_start n x.table) (seen d), long_seen, is.inside))

  -- the next sectors of the image
  written_more : (m : ℕ) → x.done + m ≤ length x.image → IsWritten n (grown (run_at (extent_start n x.table + x.done) (take m (drop x.done x.image))) d) (record x { done = x.done + m })
  written_more m fits =
      let old = extent_at n (seen d) x.table in
      let sectors = take m (drop x.done x.image) in
      let count : length sectors ≡ m = length-take-le m (drop x.done x.image) (omega (arith, fits, length-drop x.done x.image)) in
      let room : x.done + length sectors ≤ length old = omega (arith, count, fits, is.whole, long) in
      let front : length (take x.done old ++ sectors) ≡ x.done + m = omega (arith, length-append (take x.done old) sectors, count, length-take-le x.done old (omega (arith, is.among, is.whole, long))) in
      let now : extent_at n (seen (grown (run_at (extent_start n x.table + x.done) sectors) d)) x.table ≡ (take x.done old ++ sectors) ++ drop (x.done + length sectors) old =
      extent_grown (run_at (extent_start n x.table + x.done) sectors)
      ∙ ap (written old) (writes_in-run_at (extent_start n x.table) (extent_length x.table) x.done sectors (omega (arith, room, long)))
      ∙ written-run_at old x.done sectors room
      ∙ sym (append_assoc (take x.done old) sectors (drop (x.done + length sectors) old)) in
      record {
        whole = is.whole;
        inside = is.inside;
        among = fits;
        reads = ap (take (x.done + m)) now
            ∙ take_at (take x.done old ++ sectors) (drop (x.done + length sectors) old) (x.done + m) front
            ∙ ap (λ (l : Sectors). l ++ sectors) is.reads
            ∙ sym (take_sum x.done m x.image);
      }

  -- the whole image
  pub all_written : x.done ≡ length x.image → extent_at n (seen d) x.table ≡ x.image
  all_written all =
      sym (take_all x.done (extent_at n (seen d) x.table) (omega (arith, all, is.whole, long)))
      ∙ is.reads
      ∙ take_all x.done x.image (omega (arith, all))

-- ---- what stays with all placed tables

nothing_read : (image old : List (List ℕ)) (done : ℕ) → done ≡ 0 → take done old ≡ take done image
nothing_read image old done none = ap (λ (k : ℕ). take k old) none ∙ sym (ap (λ (k : ℕ). take k image) none)

-- one more is placed
pub placed_more : (p : Placement) (placed : List PlacedTable) (d : Disk) (x : PlacedTable) → MayBePlaced p placed d x → CarriesJobs p placed d → CarriesJobs p (placed ++ x ∷ []) d
placed_more p placed d x may keeps = record {
  carried = keeps.carried;
  tables = keeps.tables;
  clear = All-push (IsClear p) placed x keeps.clear may.clear;
  apart = pairwise_join ArePlacedApart placed (x ∷ []) keeps.apart (All-nil (ArePlacedApart x), tt)
      (λ k y lt. All-cons (ArePlacedApart (get_or placed k y)) x [] (may.apart k y lt) (All-nil (ArePlacedApart (get_or placed k y))));
  written = All-push (IsWritten p.logs.log_sectors d) placed x keeps.written (record {
    whole = may.whole;
    inside = may.inside;
    among = omega (arith, may.none);
    reads = nothing_read x.image (extent_at p.logs.log_sectors (seen d) x.table) x.done may.none;
  });
}

-- the next sectors of one are written
module _ (p : Placement) (xs : List PlacedTable) (x : PlacedTable) (ys : List PlacedTable) (d : Disk) (m : ℕ) (fits : x.done + m ≤ length x.image) (keeps : CarriesJobs p (xs ++ x ∷ ys) d) where
  abbrev n : ℕ
  n = p.logs.log_sectors

  behind_xs : All (IsWritten p.logs.log_sectors d) (x ∷ ys)
  behind_xs = All-right (IsWritten n d) xs (x ∷ ys) keeps.written

  here : IsWritten p.logs.log_sectors d x
  here = All-head (IsWritten n d) x ys behind_xs

  clear_behind : All (IsClear p) (x ∷ ys)
  clear_behind = All-right (IsClear p) xs (x ∷ ys) keeps.clear

  cross : All (λ (y : PlacedTable). All (ArePlacedApart y) (x ∷ ys)) xs
  cross = pairwise_cross ArePlacedApart xs (x ∷ ys) keeps.apart

  apart_behind : Pairwise ArePlacedApart (x ∷ ys)
  apart_behind = pairwise_right ArePlacedApart xs (x ∷ ys) keeps.apart

  pub free_here : All (IsFreeWrite p) (run_at (extent_start p.logs.log_sectors x.table + x.done) (take m (drop x.done x.image)))
  free_here = free_next p x m (All-head (IsClear p) x ys clear_behind) fits here.whole

  other : (y : PlacedTable) → AreApart y.table x.table → IsWritten p.logs.log_sectors d y → IsWritten p.logs.log_sectors (grown (run_at (extent_start p.logs.log_sectors x.table + x.done) (take m (drop x.done x.image))) d) y
  other y apart is = written_elsewhere n d y is (next_writes n x m) (outside_run n y.table x.table x.done (take m (drop x.done x.image)) apart (next_fit x m fits here.whole))

  pub written_keeps : CarriesJobs p (xs ++ record x { done = x.done + m } ∷ ys) (grown (run_at (extent_start p.logs.log_sectors x.table + x.done) (take m (drop x.done x.image))) d)
  written_keeps = record {
    carried = carried_elsewhere p d (next_writes n x m) free_here keeps.carried;
    tables = keeps.tables;
    clear = All-append (IsClear p) xs (more x m ∷ ys) (All-left (IsClear p) xs (x ∷ ys) keeps.clear)
        (All-cons (IsClear p) (more x m) ys (All-head (IsClear p) x ys clear_behind) (All-tail (IsClear p) x ys clear_behind));
    apart = pairwise_join ArePlacedApart xs (more x m ∷ ys) (pairwise_left ArePlacedApart xs (x ∷ ys) keeps.apart) (apart_behind.0, apart_behind.1)
        (λ k y lt. All-cons (ArePlacedApart (get_or xs k y)) (more x m) ys (All-head (ArePlacedApart (get_or xs k y)) x ys (cross k y lt)) (All-tail (ArePlacedApart (get_or xs k y)) x ys (cross k y lt)));
    written = All-append (IsWritten n (grown (next_writes n x m) d)) xs (more x m ∷ ys)
        (λ k y lt. other (get_or xs k y) (All-head (ArePlacedApart (get_or xs k y)) x ys (cross k y lt)) (All-left (IsWritten n d) xs (x ∷ ys) keeps.written k y lt))
        (All-cons (IsWritten n (grown (next_writes n x m) d)) (more x m) ys (written_more n d x here m fits)
        (λ k y lt. other (get_or ys k y) (apart_back x.table (get_or ys k y).table (apart_behind.0 k y lt)) (All-tail (IsWritten n d) x ys behind_xs k y lt)));
  }

-- a job is dropped, or what it placed is taken over
pub dropped_keeps : (p : Placement) (xs own ys : List PlacedTable) (d : Disk) → CarriesJobs p (xs ++ (own ++ ys)) d → CarriesJobs p (xs ++ ys) d
dropped_keeps p xs own ys d keeps =
    let n = p.logs.log_sectors in
    let cross = pairwise_cross ArePlacedApart xs (own ++ ys) keeps.apart in
    record {
      carried = keeps.carried;
      tables = keeps.tables;
      clear = All-append (IsClear p) xs ys (All-left (IsClear p) xs (own ++ ys) keeps.clear) (All-right (IsClear p) own ys (All-right (IsClear p) xs (own ++ ys) keeps.clear));
      apart = pairwise_join ArePlacedApart xs ys (pairwise_left ArePlacedApart xs (own ++ ys) keeps.apart) (pairwise_right ArePlacedApart own ys (pairwise_right ArePlacedApart xs (own ++ ys) keeps.apart))
          (λ k y lt. All-right (ArePlacedApart (get_or xs k y)) own ys (cross k y lt));
      written = All-append (IsWritten n d) xs ys (All-left (IsWritten n d) xs (own ++ ys) keeps.written) (All-right (IsWritten n d) own ys (All-right (IsWritten n d) xs (own ++ ys) keeps.written));
    }

pub synced_keeps : (p : Placement) (placed : List PlacedTable) (d : Disk) → CarriesJobs p placed d → CarriesJobs p placed (synced d)
synced_keeps p placed d keeps = record {
  carried = carried_synced p d keeps.carried;
  tables = keeps.tables;
  clear = keeps.clear;
  apart = keeps.apart;
  written = All-weaker (IsWritten p.logs.log_sectors d) (IsWritten p.logs.log_sectors (synced d))
      (λ x is. record { whole = is.whole; inside = omega (arith, is.inside, length-written (length d.stands) d.stands d.pending refl); among = is.among; reads = is.reads }) placed keeps.written;
}

-- ---- an installation

-- what is after the root stays
installed_written : (n : ℕ) (start d : Disk) (x : PlacedTable) → d.pending ≡ [] → drop 130 d.stands ≡ drop 130 (seen start) → IsWritten n start x → IsWritten n d x
installed_written n start d x rests behind is =
    let here : seen d ≡ d.stands = ap (written d.stands) rests in
    let same : length (seen start) ≡ length start.stands = length-written (length start.stands) start.stands start.pending refl in
    record {
      whole = is.whole;
      inside = omega (arith, is.inside, same, ap length behind, length-drop 130 d.stands, length-drop 130 (seen start), some);
      among = is.among;
      reads = ap (λ (c : List (List ℕ)). take x.done (extent_at n c x.table)) here
          ∙ ap (take x.done) (area_behind d.stands (seen start) behind (extent_start n x.table) (extent_length x.table) (omega arith))
          ∙ is.reads;
    }
  where
    some : 1 ≤ extent_length x.table
    some = omega arith

-- Where the next placement is carried, its extents are apart, and clear of what the other jobs have placed, it goes on with
-- these.
pub installed_keeps : (p q : Placement) (xs own ys : List PlacedTable) (start d : Disk) → q.logs.log_sectors ≡ p.logs.log_sectors → CarriesJobs p (xs ++ (own ++ ys)) start
    → Carries d q → d.pending ≡ [] → drop 130 d.stands ≡ drop 130 (seen start) → Pairwise AreApart q.tables → All (IsClear q) (xs ++ ys) → CarriesJobs q (xs ++ ys) d
installed_keeps p q xs own ys start d size keeps carried rests behind apart clear =
    let left = dropped_keeps p xs own ys start keeps in
    record {
      carried = carried;
      tables = apart;
      clear = clear;
      apart = left.apart;
      written = subst (λ (n : ℕ). All (IsWritten n d) (xs ++ ys)) (sym size)
          (All-weaker (IsWritten p.logs.log_sectors start) (IsWritten p.logs.log_sectors d) (λ x is. installed_written p.logs.log_sectors start d x rests behind is) (xs ++ ys) left.written);
    }
