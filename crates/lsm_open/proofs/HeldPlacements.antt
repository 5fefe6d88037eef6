-- What each crash of a disk leaves that holds a placement.
use Rattle.std.proofs.Common.{◌≡◌, ℕ, ◌+◌, ◌*◌, Bool, true, List, [], ◌++◌, length, get_or, replicate, Some, None, refl, sym, ◌∙◌, ap, subst, All}
use Rattle.std.specs.Prelude.{Option}
use Rattle.lsm_codec.specs.declared.table_record.TableRecord.{TableRecord}
use Rattle.lsm_codec.specs.Map.{Map, Operation, apply_all}
use Rattle.lsm_codec.specs.Versions.{Version}
use Rattle.lsm_device.specs.Areas.{area, disk_in}
use Rattle.lsm_device.specs.Disk.{Disk, Write, image, kept, seen, written}
use Rattle.lsm_device.specs.Outcomes.{Leaves}
use Rattle.lsm_device.proofs.Areas.{mask_in, area-image}
use Rattle.lsm_device.proofs.Outcomes.{seen_outcome, stands_outcome}
use Rattle.lsm_log.specs.Batches.{IsBetween}
use Rattle.lsm_log.specs.Opened.{HasNoneAbove}
use Rattle.lsm_log.specs.Replay.{replay}
use Rattle.lsm_log.proofs.Epochs.{above_crash}
use Rattle.lsm_log.proofs.Logs.{open_leaves}
use Rattle.lsm_mem.specs.Versions.{map_of}
use Rattle.lsm_root.specs.CrashState.{CrashState}
use Rattle.lsm_open.specs.LogRegions.{first_region, region_start, all_batches, one_if_some, regions_with_batches}
use Rattle.lsm_open.specs.Layout.{Layout, open_records, open_batches, IsLogAtIfOpen}
use Rattle.lsm_open.specs.Image.{left_in, HoldNamed, StandFor, StandForSome}
use Rattle.lsm_open.specs.Placements.{Placement, contents_for, table_map, closed_in, IsHeld, Carries, state_with, present_state, MayBeLeft}
use Rattle.lsm_open.specs.Tables.{extent_start, extent_length, AreTables}
use Rattle.lsm_open.specs.declared.regions.OpenRegion.{OpenRegion}
use Rattle.lsm_open.proofs.HeldRegions as regions
use Rattle.lsm_open.proofs.KeptRecords.{all_batches-append, regions-append}
use Rattle.lsm_open.proofs.TableFrames.{SameExtent, same_all_versions, same_tables, state_applied}
use Rattle.lsm_root.specs.Installed.{IsSettled}
use Rattle.lsm_root.specs.Roots.{Root, root_of}
use Rattle.lsm_root.proofs.Frames.{root_of_outcome}

abbrev Sectors : Type 0
Sectors = List (List ℕ)

abbrev Batches : Type 0
Batches = List (List Operation)

-- an area to which nothing pends
pub settled_image : (start n : ℕ) (d : Disk) → (disk_in start n d).pending ≡ [] → (mask : List Bool) → area start n (image mask d) ≡ area start n d.stands
settled_image start n d settled mask = area-image start n mask d ∙ ap (λ (ws : List Write). written (area start n d.stands) (kept (mask_in start n mask d.pending) ws)) settled

-- a crash leaves all of the open log's batches that stand and a beginning of the others
pub open_between : (l : Layout) (d : Disk) (o : Option OpenRegion) → IsLogAtIfOpen l d o → (mask : List Bool) → IsBetween (open_batches o d.stands) (open_batches o (seen d)) (open_batches o (image mask d))
open_between l d (Some o) opened mask = open_leaves o.log d opened.is_open mask
open_between l d None opened mask = record { from = ([], refl); to = ([], refl) }

-- Sectors with the same extents of the tables and the same closed regions hold the same, whatever the open log's region
-- holds.
module _ (p : Placement) (d : Disk) (held : IsHeld p d) (c : Sectors) (extents : All (SameExtent p.logs.log_sectors c d.stands) p.tables) (closed : All (regions.Same p.logs.log_sectors c d.stands) p.logs.closed)
    (fresh : HasNoneAbove p.logs.generation (area first_region (3 * p.logs.log_sectors) c)) where
  some_closed : All (regions.HoldsSome p.logs.log_sectors d.stands) p.logs.closed
  some_closed = λ k r lt. (held.closed k r lt).some

  tables_like : AreTables p.logs.log_sectors p.logs.base p.tables c
  tables_like = same_tables p.logs.log_sectors c d.stands p.logs.base p.tables extents held.tables

  pub holds_like : HoldNamed p.logs.log_sectors (contents_for p) c
  holds_like = record {
    tables = tables_like;
    follows = regions.same_follow p.logs.log_sectors c d.stands (open_records p.logs.open_region) (regions.follow_open p.logs.log_sectors c d.stands p.logs.open_region) (p.logs.base + 1) p.logs.closed closed ∙ held.follows;
    fresh = fresh;
  }

  place : regions.IsPlaced p.logs.log_sectors p.logs.open_region
  place = regions.placed p.logs d p.logs.open_region held.opened

  batches_like : all_batches p.logs.log_sectors c (p.logs.closed ++ open_records p.logs.open_region) ≡ closed_in p d.stands ++ open_batches p.logs.open_region c
  batches_like =
      let n = p.logs.log_sectors in
      all_batches-append n c p.logs.closed (open_records p.logs.open_region)
      ∙ ap (λ (t : Batches). t ++ all_batches n c (open_records p.logs.open_region)) (regions.same_all n c d.stands p.logs.closed closed)
      ∙ ap (λ (t : Batches). closed_in p d.stands ++ t) (regions.all_open n c p.logs.open_region place)

  regions_like : regions_with_batches p.logs.log_sectors c (p.logs.closed ++ open_records p.logs.open_region) ≡ length p.logs.closed + one_if_some (open_batches p.logs.open_region c)
  regions_like =
      let n = p.logs.log_sectors in
      regions-append n c p.logs.closed (open_records p.logs.open_region)
      ∙ ap (λ (k : ℕ). k + regions_with_batches n c (open_records p.logs.open_region)) (regions.same_count n c d.stands p.logs.closed closed some_closed)
      ∙ ap (λ (k : ℕ). length p.logs.closed + k) (regions.regions_open n c p.logs.open_region place)

  pub state_like : left_in p.logs.log_sectors c (contents_for p) ≡ state_with p d.stands (open_batches p.logs.open_region c)
  state_like =
      let n = p.logs.log_sectors in
      state_applied n c (contents_for p) tables_like
      ∙ ap (λ (vs : List Version). made (map_of vs p.logs.base) (all_batches n c (contents_for p).logs) (regions_with_batches n c (contents_for p).logs)) (same_all_versions n c d.stands p.tables extents)
      ∙ ap (λ (bs : Batches). made (table_map p d.stands) bs (regions_with_batches n c (contents_for p).logs)) batches_like
      ∙ ap (λ (k : ℕ). made (table_map p d.stands) (closed_in p d.stands ++ open_batches p.logs.open_region c) k) regions_like
    where
      made : Map → Batches → ℕ → CrashState
      made m bs k = record { count = p.logs.base + length bs; map = apply_all m bs; closed = k; generation = p.logs.generation }

-- so do all that a crash leaves
module _ (p : Placement) (d : Disk) (held : IsHeld p d) (mask : List Bool) where
  pub same_extents : All (SameExtent p.logs.log_sectors (image mask d) d.stands) p.tables
  same_extents = λ k t lt.
      let x : TableRecord = get_or p.tables k t in
      settled_image (extent_start p.logs.log_sectors x) (extent_length x) d (held.still k t lt) mask

  pub same_closed : All (regions.Same p.logs.log_sectors (image mask d) d.stands) p.logs.closed
  same_closed = λ k r lt.
      let x = get_or p.logs.closed k r in
      ap (replay x.epoch x.first_batch) (settled_image (region_start p.logs.log_sectors x.region) p.logs.log_sectors d (held.closed k r lt).settled mask)

  fresh_left : HasNoneAbove p.logs.generation (area first_region (3 * p.logs.log_sectors) (image mask d))
  fresh_left = above_crash p.logs.generation first_region (3 * p.logs.log_sectors) d held.above mask

  pub holds_left : HoldNamed p.logs.log_sectors (contents_for p) (image mask d)
  holds_left = holds_like p d held (image mask d) same_extents same_closed fresh_left

  pub state_left : left_in p.logs.log_sectors (image mask d) (contents_for p) ≡ state_with p d.stands (open_batches p.logs.open_region (image mask d))
  state_left = state_like p d held (image mask d) same_extents same_closed fresh_left

-- no crash leaves another root where nothing pends there
pub root_left : (root : Root) (d : Disk) → root_of d.stands ≡ root → IsSettled d → (mask : List Bool) → root_of (image mask d) ≡ root
root_left root d is settled mask = root_of_outcome d mask settled ∙ sym (root_of_outcome d [] settled) ∙ ap root_of (stands_outcome d) ∙ is

module _ (p : Placement) (d : Disk) (carried : Carries d p) where
  pub stands_for : (mask : List Bool) → StandFor p.logs.log_sectors (state_with p d.stands (open_batches p.logs.open_region (image mask d))) (image mask d)
  stands_for mask = record {
    manifest = contents_for p;
    root = root_left _ d carried.root carried.settled mask;
    holds = holds_left p d carried.held mask;
    left_is = sym (state_left p d carried.held mask);
  }

  -- each crash leaves what it may
  pub carried_leaves : Leaves (StandForSome p.logs.log_sectors (MayBeLeft p d)) d
  carried_leaves mask = (
    state_with p d.stands (open_batches p.logs.open_region (image mask d)),
    record { kept = open_batches p.logs.open_region (image mask d); between = open_between p.logs d p.logs.open_region carried.held.opened mask; left_is = refl },
    stands_for mask,
  )

  -- and reads give what is left where all is kept
  pub carried_reads : StandFor p.logs.log_sectors (present_state p d) (seen d)
  carried_reads = subst (λ (c : Sectors). StandFor p.logs.log_sectors (state_with p d.stands (open_batches p.logs.open_region c)) c) (seen_outcome d) (stands_for (replicate (length d.pending) true))
