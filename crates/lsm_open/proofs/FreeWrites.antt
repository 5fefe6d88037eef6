-- Writes to free blocks, and syncs, leave a disk's placement and what crashes leave.
use Rattle.std.proofs.Common.{◌≡◌, inr, ℕ, suc, ◌+◌, ◌*◌, ◌≤◌, Bool, true, List, ◌++◌, length, get_or, replicate, take, Some, None, refl, sym, ◌∙◌, ap, subst, arith, All}
use Rattle.std.specs.Prelude.{Option}
use Rattle.std.proofs.Math.Nat.{mul-le-mul_right}
use Rattle.std.proofs.lemmas.List.Elements.{All-nil, All-append, All-weaker, All-take}
use Rattle.lsm_codec.specs.declared.log_record.LogRecord.{LogRecord}
use Rattle.lsm_codec.specs.declared.table_record.TableRecord.{TableRecord}
use Rattle.lsm_codec.specs.Map.{Map, Operation, apply_all}
use Rattle.lsm_codec.specs.Versions.{Version}
use Rattle.lsm_device.specs.Areas.{disk_in, IsOutside}
use Rattle.lsm_device.specs.Disk.{Disk, Write, seen, synced}
use Rattle.lsm_device.specs.History.{present, EachSince}
use Rattle.lsm_device.specs.Memory.{length-written}
use Rattle.lsm_device.specs.Outcomes.{Leaves}
use Rattle.lsm_device.specs.Runs.{grown, HasSomeOf}
use Rattle.lsm_device.proofs.Areas.{disk_in-grown, writes_in-none}
use Rattle.lsm_device.proofs.Moments.{weaker}
use Rattle.lsm_device.proofs.Outcomes.{seen_outcome}
use Rattle.lsm_device.proofs.Runs.{grown-nil}
use Rattle.lsm_log.specs.Batches.{IsBetween}
use Rattle.lsm_log.proofs.Epochs.{above_elsewhere, above_sync}
use Rattle.lsm_log.proofs.Logs.{open_elsewhere, open_after_sync}
use Rattle.lsm_mem.specs.Versions.{map_of}
use Rattle.lsm_root.specs.CrashState.{CrashState}
use Rattle.lsm_open.specs.LogRegions.{first_region, region_start, one_if_some}
use Rattle.lsm_open.specs.Layout.{open_batches, IsClosed, IsLogAtIfOpen}
use Rattle.lsm_open.specs.Image.{HoldNamed, StandForSome}
use Rattle.lsm_open.specs.Placements.{Placement, contents_for, table_map, closed_in, IsStill, IsHeld, Carries, state_with, present_state, MayBeLeft, IsFreeWrite}
use Rattle.lsm_open.specs.Tables.{first_data, extent_start, extent_length, extent_at}
use Rattle.lsm_open.specs.declared.regions.OpenRegion.{OpenRegion}
use Rattle.lsm_open.proofs.HeldPlacements.{holds_left, same_extents, same_closed, root_left, carried_leaves}
use Rattle.lsm_open.proofs.HeldRegions.{Same, same_all}
use Rattle.lsm_open.proofs.TableFrames.{same_all_versions}
use Rattle.lsm_root.specs.Roots.{Stands, root_of}

abbrev Sectors : Type 0
Sectors = List (List ℕ)

abbrev Batches : Type 0
Batches = List (List Operation)

-- ---- writes elsewhere

-- a write outside an area leaves it
pub disk_in_elsewhere : (start n : ℕ) (ws : List Write) (d : Disk) → All (IsOutside start n) ws → disk_in start n (grown ws d) ≡ disk_in start n d
disk_in_elsewhere start n ws d outside =
    disk_in-grown start n ws d ∙ ap (λ (l : List Write). grown l (disk_in start n d)) (writes_in-none start n ws outside) ∙ grown-nil (disk_in start n d)

outside_region : (n region : ℕ) (w : Write) → region ≤ 2 → first_data n ≤ w.at → IsOutside (region_start n region) n w
outside_region n region w low above =
    let fits : suc region * n ≤ 3 * n = mul-le-mul_right n (omega (arith, low)) in
    inr (omega (arith, above, fits))

module _ (p : Placement) (d : Disk) (held : IsHeld p d) (ws : List Write) (free : All (IsFreeWrite p) ws) where
  outside_log : (region : ℕ) → region ≤ 2 → All (IsOutside (region_start p.logs.log_sectors region) p.logs.log_sectors) ws
  outside_log region low = All-weaker (IsFreeWrite p) (IsOutside (region_start p.logs.log_sectors region) p.logs.log_sectors) (λ w is. outside_region p.logs.log_sectors region w low is.low) ws free

  outside_open : (o : OpenRegion) → IsLogAtIfOpen p.logs d (Some o) → All (IsOutside o.log.start o.log.sectors) ws
  outside_open o opened =
      subst (λ (k : ℕ). All (IsOutside k o.log.sectors) ws) (sym opened.start)
      (subst (λ (k : ℕ). All (IsOutside (region_start p.logs.log_sectors o.region) k) ws) (sym opened.sectors) (outside_log o.region opened.region))

  opened_elsewhere : (o : Option OpenRegion) → IsLogAtIfOpen p.logs d o → IsLogAtIfOpen p.logs (grown ws d) o
  opened_elsewhere (Some o) opened = record { region = opened.region; start = opened.start; sectors = opened.sectors; epoch = opened.epoch; is_open = (open_elsewhere o.log d opened.is_open ws (outside_open o opened)).0 }
  opened_elsewhere None opened = tt

  pub reads_elsewhere : (o : Option OpenRegion) → IsLogAtIfOpen p.logs d o → open_batches o (seen (grown ws d)) ≡ open_batches o (seen d)
  reads_elsewhere (Some o) opened = (open_elsewhere o.log d opened.is_open ws (outside_open o opened)).1
  reads_elsewhere None opened = refl

  closed_elsewhere : (r : LogRecord) → IsClosed p.logs d r → IsClosed p.logs (grown ws d) r
  closed_elsewhere r is = record {
    region = is.region;
    settled = ap (λ (e : Disk). e.pending) (disk_in_elsewhere (region_start p.logs.log_sectors r.region) p.logs.log_sectors ws d (outside_log r.region is.region)) ∙ is.settled;
    some = is.some;
    other = is.other;
  }

  still_elsewhere : All (IsStill p (grown ws d)) p.tables
  still_elsewhere = λ k t lt.
      let x : TableRecord = get_or p.tables k t in
      ap (λ (e : Disk). e.pending) (disk_in_elsewhere (extent_start p.logs.log_sectors x) (extent_length x) ws d (All-weaker (IsFreeWrite p) (IsOutside (extent_start p.logs.log_sectors x) (extent_length x)) (λ w is. is.free k t lt) ws free))
      ∙ held.still k t lt

  outside_all : All (IsOutside first_region (3 * p.logs.log_sectors)) ws
  outside_all = All-weaker (IsFreeWrite p) (IsOutside first_region (3 * p.logs.log_sectors)) (λ w is. inr is.low) ws free

  pub held_elsewhere : IsHeld p (grown ws d)
  held_elsewhere = record {
    inside = held.inside;
    closed = All-weaker (IsClosed p.logs d) (IsClosed p.logs (grown ws d)) closed_elsewhere p.logs.closed held.closed;
    follows = held.follows;
    opened = opened_elsewhere p.logs.open_region held.opened;
    above = above_elsewhere p.logs.generation first_region (3 * p.logs.log_sectors) d held.above ws outside_all;
    tables = held.tables;
    still = still_elsewhere;
  }

-- ---- a disk whose free blocks are written carries the same

behind_root : (p : Placement) (w : Write) → IsFreeWrite p w → 130 ≤ w.at
behind_root p w is = omega (arith, is.low)

pub carried_elsewhere : (p : Placement) (d : Disk) (ws : List Write) → All (IsFreeWrite p) ws → Carries d p → Carries (grown ws d) p
carried_elsewhere p d ws free carried = record {
  root = carried.root;
  settled = All-append (λ (w : Write). 130 ≤ w.at) d.pending ws carried.settled (All-weaker (IsFreeWrite p) (λ (w : Write). 130 ≤ w.at) (behind_root p) ws free);
  held = held_elsewhere p d carried.held ws free;
}

-- and a crash may leave just the same of it
pub left_elsewhere : (p : Placement) (d : Disk) (ws : List Write) → All (IsFreeWrite p) ws → Carries d p → (left : CrashState) → MayBeLeft p (grown ws d) left → MayBeLeft p d left
left_elsewhere p d ws free carried left is = record {
  kept = is.kept;
  between = subst (λ (reads : Batches). IsBetween (open_batches p.logs.open_region d.stands) reads is.kept) (reads_elsewhere p d carried.held ws free p.logs.open_region carried.held.opened) is.between;
  left_is = is.left_is;
}

pub free_leaves : (p : Placement) (d : Disk) (ws : List Write) → All (IsFreeWrite p) ws → Carries d p → Leaves (StandForSome p.logs.log_sectors (MayBeLeft p d)) (grown ws d)
free_leaves p d ws free carried mask =
    let there = carried_leaves p (grown ws d) (carried_elsewhere p d ws free carried) mask in
    (there.0, left_elsewhere p d ws free carried there.0 there.1, there.2)

pub free_present : (p : Placement) (d : Disk) (ws : List Write) → All (IsFreeWrite p) ws → Carries d p → present_state p (grown ws d) ≡ present_state p d
free_present p d ws free carried = ap (state_with p d.stands) (reads_elsewhere p d carried.held ws free p.logs.open_region carried.held.opened)

-- so it is at each moment while some of the writes are made
pub free_moments : (p : Placement) (ws : List Write) (old new : List Disk) → All (IsFreeWrite p) ws → Carries (present old) p → EachSince (HasSomeOf (present old) ws) old new
    → EachSince (Leaves (StandForSome p.logs.log_sectors (MayBeLeft p (present old)))) old new
free_moments p ws old new free carried each =
    weaker (HasSomeOf (present old) ws) (Leaves (StandForSome p.logs.log_sectors (MayBeLeft p (present old)))) old new by each
  where
    by : (d : Disk) → HasSomeOf (present old) ws d → Leaves (StandForSome p.logs.log_sectors (MayBeLeft p (present old))) d
    by d (k, le, is) = subst (Leaves (StandForSome p.logs.log_sectors (MayBeLeft p (present old)))) (sym is) (free_leaves p (present old) (take k ws) (All-take (IsFreeWrite p) k ws free) carried)

-- ---- a sync

module _ (p : Placement) (d : Disk) (held : IsHeld p d) where
  abbrev whole : List Bool
  whole = replicate (length d.pending) true

  opened_synced : (o : Option OpenRegion) → IsLogAtIfOpen p.logs d o → IsLogAtIfOpen p.logs (synced d) o
  opened_synced (Some o) opened = record { region = opened.region; start = opened.start; sectors = opened.sectors; epoch = opened.epoch; is_open = open_after_sync o.log d opened.is_open }
  opened_synced None opened = tt

  closed_seen : All (Same p.logs.log_sectors (seen d) d.stands) p.logs.closed
  closed_seen = subst (λ (c : Sectors). All (Same p.logs.log_sectors c d.stands) p.logs.closed) (seen_outcome d) (same_closed p d held whole)

  -- reads give what stands in the tables' extents
  pub tables_seen : All (λ (t : TableRecord). extent_at p.logs.log_sectors (seen d) t ≡ extent_at p.logs.log_sectors d.stands t) p.tables
  tables_seen = subst (λ (c : Sectors). All (λ (t : TableRecord). extent_at p.logs.log_sectors c t ≡ extent_at p.logs.log_sectors d.stands t) p.tables) (seen_outcome d) (same_extents p d held whole)

  closed_in_synced : closed_in p (seen d) ≡ closed_in p d.stands
  closed_in_synced = same_all p.logs.log_sectors (seen d) d.stands p.logs.closed closed_seen

  table_map_synced : table_map p (seen d) ≡ table_map p d.stands
  table_map_synced = ap (λ (vs : List Version). map_of vs p.logs.base) (same_all_versions p.logs.log_sectors (seen d) d.stands p.tables tables_seen)

  holds_seen : HoldNamed p.logs.log_sectors (contents_for p) (seen d)
  holds_seen = subst (HoldNamed p.logs.log_sectors (contents_for p)) (seen_outcome d) (holds_left p d held whole)

  pub held_synced : IsHeld p (synced d)
  held_synced = record {
    inside = omega (arith, held.inside, length-written (length d.stands) d.stands d.pending refl);
    closed = λ k r lt. let is = held.closed k r lt in record {
      region = is.region;
      settled = refl;
      some = subst (λ (t : Batches). 1 ≤ length t) (sym (closed_seen k r lt)) is.some;
      other = is.other;
    };
    follows = holds_seen.follows;
    opened = opened_synced p.logs.open_region held.opened;
    above = above_sync p.logs.generation first_region (3 * p.logs.log_sectors) d held.above;
    tables = holds_seen.tables;
    still = λ k t lt. refl;
  }

  -- what stands where all pending writes do
  pub synced_state : (xs : Batches) → state_with p (seen d) xs ≡ state_with p d.stands xs
  synced_state xs =
      ap (λ (bs : Batches). made (table_map p (seen d)) (bs ++ xs)) closed_in_synced
      ∙ ap (λ (m : Map). made m (closed_in p d.stands ++ xs)) table_map_synced
    where
      made : Map → Batches → CrashState
      made m bs = record { count = p.logs.base + length bs; map = apply_all m bs; closed = length p.logs.closed + one_if_some xs; generation = p.logs.generation }

  pub present_synced : present_state p (synced d) ≡ present_state p d
  present_synced = synced_state (open_batches p.logs.open_region (seen d))

pub carried_synced : (p : Placement) (d : Disk) → Carries d p → Carries (synced d) p
carried_synced p d carried = record {
  root = subst (λ (c : Sectors). root_of c ≡ Stands p.logs.log_sectors (contents_for p)) (seen_outcome d) (root_left _ d carried.root carried.settled (replicate (length d.pending) true));
  settled = All-nil (λ (w : Write). 130 ≤ w.at);
  held = held_synced p d carried.held;
}
