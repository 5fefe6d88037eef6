-- An installation leaves the old meaning or the new one, and after it the new placement is carried.
use Rattle.std.proofs.Common.{◌≡◌, inl, inr, ℕ, ◌+◌, ◌*◌, ◌≤◌, false, List, [], ◌++◌, length, drop, get_or, Some, None, refl, sym, ◌∙◌, ap, subst, arith}
use Rattle.std.specs.Prelude.{Option}
use Rattle.std.proofs.lemmas.List.{length-drop}
use Rattle.std.proofs.lemmas.List.Elements.{All-nil}
use Rattle.lsm_codec.specs.declared.log_record.LogRecord.{LogRecord}
use Rattle.lsm_codec.specs.Map.{Map, Operation, apply_all}
use Rattle.lsm_codec.specs.Versions.{Version}
use Rattle.lsm_device.specs.Areas.{area, disk_in}
use Rattle.lsm_device.specs.Disk.{Disk, Write, image, seen, synced, at_rest}
use Rattle.lsm_device.specs.History.{present, EachSince}
use Rattle.lsm_device.specs.Outcomes.{Leaves}
use Rattle.lsm_device.proofs.Moments.{weaker}
use Rattle.lsm_log.specs.Opened.{HasNoneAbove, is_above}
use Rattle.lsm_log.specs.Replay.{replay}
use Rattle.lsm_log.proofs.Logs.{open_same}
use Rattle.lsm_mem.specs.Versions.{map_of}
use Rattle.lsm_root.specs.CrashState.{CrashState}
use Rattle.lsm_open.specs.LogRegions.{first_region, region_start, batches_at, one_if_some}
use Rattle.lsm_open.specs.Layout.{open_batches, IsLogAtIfOpen}
use Rattle.lsm_open.specs.Image.{StandFor, StandForSome}
use Rattle.lsm_open.specs.Placements.{Placement, contents_for, table_map, closed_in, IsHeld, Carries, state_with, present_state}
use Rattle.lsm_open.specs.Switching.{MayBeInstalled, IsSwitched}
use Rattle.lsm_open.specs.declared.regions.OpenRegion.{OpenRegion}
use Rattle.lsm_open.proofs.HeldPlacements.{holds_left, state_left}
use Rattle.lsm_open.proofs.HeldRegions.{same_all}
use Rattle.lsm_open.proofs.TableFrames.{same_tables, same_all_versions, same_follow, same_behind, same_holds, same_state, same_meaning, area_behind}
use Rattle.lsm_root.specs.Installed.{IsSettled, IsOld, IsNew, IsOldOrNew, IsInstalled}
use Rattle.lsm_root.specs.Roots.{Stands}
use Rattle.lsm_root.proofs.Frames.{root_of_outcome}

abbrev Sectors : Type 0
Sectors = List (List ℕ)

abbrev Batches : Type 0
Batches = List (List Operation)

-- ---- at each moment

module _ (n : ℕ) (P : CrashState → Type 0) (start : Disk) (q : Placement) (left : CrashState) (leaves : Leaves (StandForSome n P) start) (settled : IsSettled start)
    (size : q.logs.log_sectors ≡ n) (next : MayBeInstalled q left start) where
  old_leaves : (c : Sectors) → IsOld start c → StandForSome n P c
  old_leaves c old =
      let mask = old.outcome.1.0 in
      let there : StandForSome n P (image mask start) = leaves mask in
      let behind : drop 130 c ≡ drop 130 (image mask start) = old.outcome.2 ∙ ap (drop 130) old.outcome.1.1 in
      (there.0, there.1, same_meaning n c (image mask start) there.0 behind (old.root ∙ sym (root_of_outcome start mask settled)) there.2)

  fresh_new : (c : Sectors) → drop 130 c ≡ drop 130 (seen start) → HasNoneAbove q.logs.generation (area first_region (3 * q.logs.log_sectors) c)
  fresh_new c behind = subst (HasNoneAbove q.logs.generation) (sym (area_behind c (seen start) behind first_region (3 * q.logs.log_sectors) (omega arith))) next.held.above.stands

  new_meaning : (c : Sectors) → IsNew start (Stands n (contents_for q)) c → StandFor q.logs.log_sectors left c
  new_meaning c new =
      let k = q.logs.log_sectors in
      let same = same_behind k c (seen start) new.all (contents_for q) in
      record {
        manifest = contents_for q;
        root = new.root ∙ ap (λ (j : ℕ). Stands j (contents_for q)) (sym size);
        holds = same_holds k c (seen start) (contents_for q) same (fresh_new c new.all) (holds_left q (synced start) next.held []);
        left_is = next.left_is ∙ sym (same_state k c (seen start) (contents_for q) same ∙ state_left q (synced start) next.held []);
      }

  pub old_or_new : (c : Sectors) → IsOldOrNew start (Stands n (contents_for q)) c → IsSwitched n P start q left c
  old_or_new c (inl old) = inl (old.root, old_leaves c old)
  old_or_new c (inr new) = inr (new.root, subst (λ (k : ℕ). StandFor k left c) size (new_meaning c new))

pub switch_moments : (n : ℕ) (P : CrashState → Type 0) (q : Placement) (left : CrashState) (old new : List Disk) → Leaves (StandForSome n P) (present old) → IsSettled (present old) → q.logs.log_sectors ≡ n
    → MayBeInstalled q left (present old) → EachSince (Leaves (IsOldOrNew (present old) (Stands n (contents_for q)))) old new
    → EachSince (Leaves (IsSwitched n P (present old) q left)) old new
switch_moments n P q left old new leaves settled size next each =
    weaker (Leaves (IsOldOrNew (present old) (Stands n (contents_for q)))) (Leaves (IsSwitched n P (present old) q left)) old new
    (λ d switches mask. old_or_new n P (present old) q left leaves settled size next (image mask d) (switches mask)) each

-- ---- after it

-- what lies after the root holds a placement wherever the same lies after the root
module _ (q : Placement) (c e : Sectors) (behind : drop 130 c ≡ drop 130 e) (some : 1 ≤ q.logs.log_sectors) (held : IsHeld q (at_rest e)) where
  long : length c ≡ length e
  long = omega (arith, some, held.inside, ap length behind, length-drop 130 c, length-drop 130 e)

  same_area : (start count : ℕ) → 130 ≤ start → disk_in start count (at_rest c) ≡ disk_in start count (at_rest e)
  same_area start count low = ap at_rest (area_behind c e behind start count low)

  region_same : (r : LogRecord) → batches_at q.logs.log_sectors c r ≡ batches_at q.logs.log_sectors e r
  region_same r = ap (replay r.epoch r.first_batch) (area_behind c e behind (region_start q.logs.log_sectors r.region) q.logs.log_sectors (omega arith))

  opened_behind : (o : Option OpenRegion) → IsLogAtIfOpen q.logs (at_rest e) o → IsLogAtIfOpen q.logs (at_rest c) o
  opened_behind (Some o) opened = record {
    region = opened.region;
    start = opened.start;
    sectors = opened.sectors;
    epoch = opened.epoch;
    is_open = open_same o.log (at_rest e) opened.is_open (at_rest c) (same_area o.log.start o.log.sectors (omega (arith, opened.start))) (omega (arith, long, opened.is_open.within));
  }
  opened_behind None opened = tt

  open_same_behind : (o : Option OpenRegion) → IsLogAtIfOpen q.logs (at_rest e) o → open_batches o c ≡ open_batches o e
  open_same_behind (Some o) opened = ap (replay o.log.epoch o.log.first) (area_behind c e behind o.log.start o.log.sectors (omega (arith, opened.start)))
  open_same_behind None opened = refl

  pub held_behind : IsHeld q (at_rest c)
  held_behind = record {
    inside = omega (arith, long, held.inside);
    closed = λ k r lt. let is = held.closed k r lt in record {
      region = is.region;
      settled = refl;
      some = subst (λ (t : Batches). 1 ≤ length t) (sym (region_same (get_or q.logs.closed k r))) is.some;
      other = is.other;
    };
    follows = same_follow q.logs.log_sectors c e (q.logs.base + 1) (contents_for q).logs (λ k r lt. region_same (get_or (contents_for q).logs k r)) ∙ held.follows;
    opened = opened_behind q.logs.open_region held.opened;
    above = record {
      stands = subst (HasNoneAbove q.logs.generation) (sym (area_behind c e behind first_region (3 * q.logs.log_sectors) (omega arith))) held.above.stands;
      pends = All-nil (λ (w : Write). is_above q.logs.generation w.bytes ≡ false);
    };
    tables = same_tables q.logs.log_sectors c e q.logs.base q.tables (same_behind q.logs.log_sectors c e behind (contents_for q)).tables held.tables;
    still = λ k t lt. refl;
  }

  closed_behind : closed_in q c ≡ closed_in q e
  closed_behind = same_all q.logs.log_sectors c e q.logs.closed (λ k r lt. region_same (get_or q.logs.closed k r))

  table_map_behind : table_map q c ≡ table_map q e
  table_map_behind = ap (λ (vs : List Version). map_of vs q.logs.base) (same_all_versions q.logs.log_sectors c e q.tables (same_behind q.logs.log_sectors c e behind (contents_for q)).tables)

  pub present_behind : state_with q c (open_batches q.logs.open_region c) ≡ state_with q e (open_batches q.logs.open_region e)
  present_behind =
      ap (λ (m : Map). made m (closed_in q c) (open_batches q.logs.open_region c)) table_map_behind
      ∙ ap (λ (bs : Batches). made (table_map q e) bs (open_batches q.logs.open_region c)) closed_behind
      ∙ ap (λ (xs : Batches). made (table_map q e) (closed_in q e) xs) (open_same_behind q.logs.open_region held.opened)
    where
      made : Map → Batches → Batches → CrashState
      made m bs xs = record { count = q.logs.base + length (bs ++ xs); map = apply_all m (bs ++ xs); closed = length q.logs.closed + one_if_some xs; generation = q.logs.generation }

-- a disk where nothing pends
rested : (d : Disk) → d.pending ≡ [] → at_rest d.stands ≡ d
rested d rests = ap (λ (ws : List Write). disk_of d.stands ws) (sym rests)
  where
    disk_of : Sectors → List Write → Disk
    disk_of sectors ws = record { stands = sectors; pending = ws }

module _ (start d : Disk) (q : Placement) (left : CrashState) (some : 1 ≤ q.logs.log_sectors) (next : MayBeInstalled q left start)
    (installed : IsInstalled start (Stands q.logs.log_sectors (contents_for q)) d) where
  carried_at : Carries (at_rest d.stands) q
  carried_at = record {
    root = installed.stands.root;
    settled = All-nil (λ (w : Write). 130 ≤ w.at);
    held = held_behind q d.stands (seen start) installed.stands.all some next.held;
  }

  pub installed_carried : Carries d q
  installed_carried = subst (λ (e : Disk). Carries e q) (rested d installed.settled) carried_at

  pub installed_present : left ≡ present_state q d
  installed_present =
      next.left_is
      ∙ sym (present_behind q d.stands (seen start) installed.stands.all some next.held)
      ∙ ap (present_state q) (rested d installed.settled)
