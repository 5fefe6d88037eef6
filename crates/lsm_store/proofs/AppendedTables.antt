-- An append to the open log keeps a running store with its tables.
use Rattle.std.proofs.Common.{◌≡◌, ◌≢◌, inl, ℕ, ◌+◌, ◌*◌, ◌≤◌, Bool, true, List, [], ◌∷◌, ◌++◌, length, get_or, Some, refl, sym, ◌∙◌, ap, subst, arith, append_assoc, All}
use Rattle.std.specs.Prelude.{Option, option_map}
use Rattle.std.proofs.Math.Nat.{mul-le-mul_right}
use Rattle.std.proofs.lemmas.List.Elements.{All-append, All-weaker}
use Rattle.lsm_codec.specs.Manifests.{Contents}
use Rattle.lsm_codec.specs.declared.log_record.LogRecord.{LogRecord}
use Rattle.lsm_codec.specs.declared.table_record.TableRecord.{TableRecord}
use Rattle.lsm_codec.specs.Map.{Map, Operation}
use Rattle.lsm_device.specs.Areas.{area, disk_in, IsOutside}
use Rattle.lsm_device.specs.Disk.{Disk, Write, image, seen, written}
use Rattle.lsm_device.specs.History.{present, EachSince}
use Rattle.lsm_device.specs.Outcomes.{Leaves}
use Rattle.lsm_device.specs.Runs.{grown}
use Rattle.lsm_device.proofs.Areas.{area-written, writes_in-none}
use Rattle.lsm_device.proofs.Moments.{both, weaker, ended}
use Rattle.lsm_device.proofs.Outcomes.{seen-grown}
use Rattle.lsm_log.specs.declared.log.Log.{Log}
use Rattle.lsm_log.specs.Batches.{IsBetween}
use Rattle.lsm_log.specs.Opened.{IsOpen, IsOfLog, IsGrownBy, HasNoneAbove, NoneAboveIn, TakesBatch, batches_in}
use Rattle.lsm_log.specs.Replay.{replay}
use Rattle.lsm_log.proofs.Epochs.{above_crash, above_by_log}
use Rattle.lsm_root.specs.CrashState.{CrashState}
use Rattle.lsm_open.specs.Image.{StandFor}
use Rattle.lsm_open.specs.Layout.{record_of, open_records, open_batches, IsOther, IsClosed, IsLogAtIfOpen, IsLogAt}
use Rattle.lsm_open.specs.LogRegions.{first_region, region_start, follow_on}
use Rattle.lsm_open.specs.Placements.{Placement, contents_for, table_map, closed_in, IsStill, IsHeld, Carries, state_with}
use Rattle.lsm_open.specs.Recovering.{StandForOne}
use Rattle.lsm_open.specs.Tables.{extent_start, extent_length}
use Rattle.lsm_open.specs.declared.regions.OpenRegion.{OpenRegion}
use Rattle.lsm_open.proofs.FreeWrites.{disk_in_elsewhere}
use Rattle.lsm_open.proofs.HeldPlacements.{settled_image, holds_like, state_like, root_left}
use Rattle.lsm_open.proofs.HeldRegions.{Same}
use Rattle.lsm_open.proofs.TableFrames.{SameExtent}
use Rattle.lsm_root.specs.Installed.{IsSettled}
use Rattle.lsm_root.specs.Roots.{Stands}
use Rattle.lsm_machine.specs.Calls.{Commit}
use Rattle.lsm_machine.specs.Crash.{left_between, may_leave, left_besides}
use Rattle.lsm_machine.specs.Effects.{after, with_sectors}
use Rattle.lsm_machine.specs.Promise.{beginnings}
use Rattle.lsm_machine.specs.RecoveryPoints.{RecoveryPoints, with_batch}
use Rattle.lsm_machine.specs.Run.{stopped_in}
use Rattle.lsm_machine.specs.State.{State}
use Rattle.lsm_store.specs.Stored.{open_log_of}
use Rattle.lsm_store.specs.StoredTables.{IsStateOver, IsStoredIn, KeepsExtents, with_log}
use Rattle.lsm_store.proofs.Carrying.{may_leave_running}
use Rattle.lsm_machine.proofs.CrashStates.{closed_same, between_goes}
use Rattle.lsm_open.proofs.Growing.{outside_region}
use Rattle.lsm_store.proofs.LeftStates.{LeavesOver, leaves_over, none_if_closed, may_be_left, begins_at, all_within}
use Rattle.lsm_machine.proofs.Points.{with_batch_beginnings}

abbrev Sectors : Type 0
Sectors = List (List ℕ)

abbrev Batches : Type 0
Batches = List (List Operation)

-- reads give the same in an area that no write is to
pub area_elsewhere : (start n : ℕ) (d : Disk) (ws : List Write) → All (IsOutside start n) ws → area start n (seen (grown ws d)) ≡ area start n (seen d)
area_elsewhere start n d ws outside =
    ap (area start n) (seen-grown ws d) ∙ area-written start n (seen d) ws ∙ ap (written (area start n (seen d))) (writes_in-none start n ws outside)

-- ---- writes to the open log's region

module _ (p : Placement) (d : Disk) (held : IsHeld p d) (o : OpenRegion) (is_open : p.logs.open_region ≡ Some o) (ws : List Write) (of_log : All (IsOfLog o.log) ws) where
  pub log_at : IsLogAt p.logs.log_sectors p.logs.generation d o
  log_at = subst (IsLogAtIfOpen p.logs d) is_open held.opened

  below_data : (o.region + 1) * p.logs.log_sectors ≤ 3 * p.logs.log_sectors
  below_data = mul-le-mul_right p.logs.log_sectors (omega (arith, log_at.region))

  outside_one : (t : TableRecord) (w : Write) → IsOfLog o.log w → IsOutside (extent_start p.logs.log_sectors t) (extent_length t) w
  outside_one t w is = inl (omega (arith, is.high, log_at.start, log_at.sectors, below_data))

  -- they are outside each extent
  pub outside_extent : (t : TableRecord) → All (IsOutside (extent_start p.logs.log_sectors t) (extent_length t)) ws
  outside_extent t = All-weaker (IsOfLog o.log) (IsOutside (extent_start p.logs.log_sectors t) (extent_length t)) (outside_one t) ws of_log

  still_log : (t : TableRecord) → IsStill p d t → IsStill p (grown ws d) t
  still_log t still = ap (λ (e : Disk). e.pending) (disk_in_elsewhere (extent_start p.logs.log_sectors t) (extent_length t) ws d (outside_extent t)) ∙ still

  closed_log : (r : LogRecord) → IsClosed p.logs d r → (disk_in (region_start p.logs.log_sectors r.region) p.logs.log_sectors (grown ws d)).pending ≡ []
  closed_log r is =
      let other : r.region ≢ o.region = subst (λ (x : Option OpenRegion). IsOther x r) is_open is.other in
      let outside = All-weaker (IsOfLog o.log) (IsOutside (region_start p.logs.log_sectors r.region) p.logs.log_sectors) (outside_region p.logs d o log_at r other) ws of_log in
      ap (λ (e : Disk). e.pending) (disk_in_elsewhere (region_start p.logs.log_sectors r.region) p.logs.log_sectors ws d outside) ∙ is.settled

  above_log : NoneAboveIn p.logs.generation first_region (3 * p.logs.log_sectors) (grown ws d)
  above_log = above_by_log p.logs.generation first_region (3 * p.logs.log_sectors) d held.above (grown ws d) o.log log_at.epoch (ws, of_log, refl)

  settled_log : IsSettled d → IsSettled (grown ws d)
  settled_log settled = All-append (λ (w : Write). 130 ≤ w.at) d.pending ws settled (All-weaker (IsOfLog o.log) (λ (w : Write). 130 ≤ w.at) (λ w is. omega (arith, is.low, log_at.start)) ws of_log)

  -- each crash leaves the tables and the closed regions
  module _ (mask : List Bool) where
    extents_log : All (SameExtent p.logs.log_sectors (image mask (grown ws d)) d.stands) p.tables
    extents_log = λ k t lt.
        let x : TableRecord = get_or p.tables k t in
        settled_image (extent_start p.logs.log_sectors x) (extent_length x) (grown ws d) (still_log x (held.still k t lt)) mask

    regions_log : All (Same p.logs.log_sectors (image mask (grown ws d)) d.stands) p.logs.closed
    regions_log = λ k r lt.
        let x : LogRecord = get_or p.logs.closed k r in
        ap (replay x.epoch x.first_batch) (settled_image (region_start p.logs.log_sectors x.region) p.logs.log_sectors (grown ws d) (closed_log x (held.closed k r lt)) mask)

    fresh_log : HasNoneAbove p.logs.generation (area first_region (3 * p.logs.log_sectors) (image mask (grown ws d)))
    fresh_log = above_crash p.logs.generation first_region (3 * p.logs.log_sectors) (grown ws d) above_log mask

    pub stands_log : Carries d p → StandFor p.logs.log_sectors (state_with p d.stands (open_batches p.logs.open_region (image mask (grown ws d)))) (image mask (grown ws d))
    stands_log carried = record {
      manifest = contents_for p;
      root = root_left (Stands p.logs.log_sectors (contents_for p)) (grown ws d) carried.root (settled_log carried.settled) mask;
      holds = holds_like p d held (image mask (grown ws d)) extents_log regions_log fresh_log;
      left_is = sym (state_like p d held (image mask (grown ws d)) extents_log regions_log fresh_log);
    }

-- ---- the state after the batch

module _ (p : Placement) (base : Map) (standing reads : List (List Operation)) (s : State) (is : IsStateOver p base standing reads s) (within : length standing ≤ length reads) (batch : List Operation) where
  points_after : with_batch s.points batch ≡ beginnings p.logs.base base (reads ++ batch ∷ []) (length standing)
  points_after = ap (λ (r : RecoveryPoints). with_batch r batch) is.points ∙ with_batch_beginnings p.logs.base base reads (length standing) batch within

  -- of which a crash may leave this, as long as the log has not grown
  leaves_after : LeavesOver p base standing (reads ++ batch ∷ []) (after s (Commit batch))
  leaves_after = record {
    points = points_after;
    log_sectors = is.placed.log_sectors;
    generation = is.placed.generation;
    closed = λ count. closed_same s.closed count batch s.open_log ∙ (leaves_over p base standing reads s is).closed count;
  }

  state_after : (o x : OpenRegion) → p.logs.open_region ≡ Some o → TakesBatch batch o.log x.log → IsStateOver (with_log p x) base standing (reads ++ batch ∷ []) (after s (Commit batch))
  state_after o x is_open takes = record {
    placed = record {
      log_sectors = is.placed.log_sectors;
      generation = is.placed.generation;
      closed = is.placed.closed;
      open_log = ap (option_map (with_sectors batch)) (is.placed.open_log ∙ ap (option_map open_log_of) is_open) ∙ (λ i. Some (record { first = sym takes.first i; used = sym takes.used i }));
      running = is.placed.running;
    };
    points = points_after;
  }

-- ---- the commit

abbrev pub IsTaken : Log → Disk → List Operation → List (List ℕ) → Type 0
IsTaken log d batch c = IsBetween (batches_in log d.stands) (batches_in log (seen d) ++ batch ∷ []) (batches_in log c)

module _ (p : Placement) (s : State) (o : OpenRegion) (batch : List Operation) (old new : List Disk) (stored : IsStoredIn p s (present old)) (is_open : p.logs.open_region ≡ Some o) where
  abbrev before : Batches
  before = closed_in p (present old).stands

  abbrev standing : Batches
  standing = batches_in o.log (present old).stands

  abbrev reads : Batches
  reads = batches_in o.log (seen (present old))

  abbrev base : Map
  base = table_map p (present old).stands

  state_now : IsStateOver p (table_map p (present old).stands) (closed_in p (present old).stands ++ batches_in o.log (present old).stands) (closed_in p (present old).stands ++ batches_in o.log (seen (present old))) s
  state_now = subst (λ (x : Option OpenRegion). IsStateOver p base (before ++ open_batches x (present old).stands) (before ++ open_batches x (seen (present old))) s) is_open stored.state

  within : length (closed_in p (present old).stands ++ batches_in o.log (present old).stands) ≤ length (closed_in p (present old).stands ++ batches_in o.log (seen (present old)))
  within =
      subst (λ (x : Option OpenRegion). length (before ++ open_batches x (present old).stands) ≤ length (before ++ open_batches x (seen (present old)))) is_open
      (all_within p (present old) stored.carried.held)

  behind_all : (closed_in p (present old).stands ++ batches_in o.log (seen (present old))) ++ batch ∷ [] ≡ closed_in p (present old).stands ++ (batches_in o.log (seen (present old)) ++ batch ∷ [])
  behind_all = append_assoc before reads (batch ∷ [])

  -- what a crash inside the commit may leave, or after it has stopped the store
  abbrev pub MayLeave : List (List ℕ) → Type 0
  MayLeave = StandForOne s.log_sectors (left_between s ++ left_besides s (Commit batch))

  one_moment : (e : Disk) → Leaves (IsTaken o.log (present old) batch) e × IsGrownBy o.log (present old) e → Leaves (StandForOne s.log_sectors (left_between s ++ left_besides s (Commit batch))) e
  one_moment e (taken, by) mask =
      let d = present old in
      let ws = by.0 in
      let c = image mask (grown ws d) in
      let xs = open_batches p.logs.open_region c in
      let left = state_with p d.stands xs in
      let next : LeavesOver p base (before ++ standing) (before ++ (reads ++ batch ∷ [])) (after s (Commit batch)) =
      subst (λ (t : Batches). LeavesOver p base (before ++ standing) t (after s (Commit batch))) behind_all (leaves_after p base (before ++ standing) (before ++ reads) s state_now within batch) in
      let between : IsBetween standing (reads ++ batch ∷ []) xs =
      subst (λ (x : Option OpenRegion). IsBetween standing (reads ++ batch ∷ []) (open_batches x c)) (sym is_open)
      (subst (λ (f : Disk). IsTaken o.log d batch (image mask f)) by.2 (taken mask)) in
      let there : StandFor p.logs.log_sectors left c = stands_log p d stored.carried.held o is_open ws by.1 mask stored.carried in
      let named = may_be_left p d.stands standing (reads ++ batch ∷ []) (after s (Commit batch)) next (begins_at p d stored.carried.held) xs (none_if_closed p.logs.open_region c) between in
      subst (λ (f : Disk). MayLeave (image mask f)) (sym by.2) (left, between_goes s (Commit batch) left named, subst (λ (k : ℕ). StandFor k left c) (sym stored.state.placed.log_sectors) there)

  module _ (taken : EachSince (Leaves (IsTaken o.log (present old) batch)) old new) (grows : EachSince (IsGrownBy o.log (present old)) old new) where
    between_moments : EachSince (Leaves (StandForOne s.log_sectors (left_between s ++ left_besides s (Commit batch)))) old new
    between_moments =
        weaker (λ (e : Disk). Leaves (IsTaken o.log (present old) batch) e × IsGrownBy o.log (present old) e) (Leaves MayLeave) old new one_moment
        (both (Leaves (IsTaken o.log (present old) batch)) (IsGrownBy o.log (present old)) old new taken grows)

    pub commit_moments : EachSince (Leaves (StandForOne s.log_sectors (may_leave s ++ left_besides s (Commit batch)))) old new
    commit_moments =
        subst (λ (all : List CrashState). EachSince (Leaves (StandForOne s.log_sectors (all ++ left_besides s (Commit batch)))) old new) (sym (may_leave_running s stored.state.placed.running)) between_moments

    -- and so at the end
    pub commit_stopped : Leaves (StandForOne s.log_sectors (may_leave (stopped_in s (Commit batch)))) (present new)
    commit_stopped = ended (Leaves MayLeave) old new between_moments

-- ---- the batch was appended

module _ (p : Placement) (s : State) (o x : OpenRegion) (batch : List Operation) (d : Disk) (stored : IsStoredIn p s d) (is_open : p.logs.open_region ≡ Some o) (region : x.region ≡ o.region) (takes : TakesBatch batch o.log x.log)
    (ws : List Write) (of_log : All (IsOfLog o.log) ws) (opened : IsOpen x.log (grown ws d)) where
  same_record : record_of x ≡ record_of o
  same_record = λ i. record { region = region i; epoch = takes.epoch i; first_batch = takes.first i }

  same_records : open_records p.logs.open_region ≡ record_of x ∷ []
  same_records = ap open_records is_open ∙ ap (λ (r : LogRecord). r ∷ []) (sym same_record)

  abbrev with_records : List LogRecord → Contents
  with_records rs = record { generation = p.logs.generation; base = p.logs.base; next_table = p.logs.next_table; runs = p.runs; logs = p.logs.closed ++ rs; tables = p.tables }

  held_after : IsHeld (with_log p x) (grown ws d)
  held_after =
      let held = stored.carried.held in
      let at = log_at p d held o is_open ws of_log in
      record {
        inside = held.inside;
        closed = λ k r lt. let is = held.closed k r lt in record {
          region = is.region;
          settled = closed_log p d held o is_open ws of_log (get_or p.logs.closed k r) is;
          some = is.some;
          other = subst (λ (n : ℕ). (get_or p.logs.closed k r).region ≢ n) (sym region) (subst (λ (y : Option OpenRegion). IsOther y (get_or p.logs.closed k r)) is_open is.other);
        };
        follows = subst (λ (rs : List LogRecord). follow_on p.logs.log_sectors d.stands (p.logs.base + 1) (p.logs.closed ++ rs) ≡ true) same_records held.follows;
        opened = record {
          region = omega (arith, region, at.region);
          start = takes.start ∙ at.start ∙ ap (λ (k : ℕ). 130 + k * p.logs.log_sectors) (sym region);
          sectors = takes.sectors ∙ at.sectors;
          epoch = omega (arith, takes.epoch, at.epoch);
          is_open = opened;
        };
        above = above_log p d held o is_open ws of_log;
        tables = held.tables;
        still = λ k t lt. still_log p d held o is_open ws of_log (get_or p.tables k t) (held.still k t lt);
      }

  carried_after : Carries (grown ws d) (with_log p x)
  carried_after = record {
    root = stored.carried.root ∙ ap (λ (rs : List LogRecord). Stands p.logs.log_sectors (with_records rs)) same_records;
    settled = settled_log p d stored.carried.held o is_open ws of_log stored.carried.settled;
    held = held_after;
  }

  pub grown_stored : batches_in x.log (seen (grown ws d)) ≡ batches_in o.log (seen d) ++ batch ∷ [] → batches_in x.log d.stands ≡ batches_in o.log d.stands → IsStoredIn (with_log p x) (after s (Commit batch)) (grown ws d)
  grown_stored appended stands =
      let before = closed_in p d.stands in
      let base = table_map p d.stands in
      let q = with_log p x in
      let is_now = state_now p s o batch (d ∷ []) [] stored is_open in
      let whole : IsStateOver q base (before ++ batches_in o.log d.stands) (before ++ (batches_in o.log (seen d) ++ batch ∷ [])) (after s (Commit batch)) =
      subst (λ (t : Batches). IsStateOver q base (before ++ batches_in o.log d.stands) t (after s (Commit batch))) (append_assoc before (batches_in o.log (seen d)) (batch ∷ []))
      (state_after p base (before ++ batches_in o.log d.stands) (before ++ batches_in o.log (seen d)) s is_now (within p s o batch (d ∷ []) [] stored is_open) batch o x is_open takes) in
      record {
        carried = carried_after;
        state =
            subst (λ (t : Batches). IsStateOver q base (before ++ t) (before ++ batches_in x.log (seen (grown ws d))) (after s (Commit batch))) (sym stands)
            (subst (λ (t : Batches). IsStateOver q base (before ++ batches_in o.log d.stands) (before ++ t) (after s (Commit batch))) (sym appended) whole);
      }

pub commit_stored : (p : Placement) (s : State) (o x : OpenRegion) (batch : List Operation) (old new : List Disk) → IsStoredIn p s (present old) → p.logs.open_region ≡ Some o
    → EachSince (IsGrownBy o.log (present old)) old new → x.region ≡ o.region → TakesBatch batch o.log x.log → IsOpen x.log (present new)
    → batches_in x.log (seen (present new)) ≡ batches_in o.log (seen (present old)) ++ batch ∷ [] → batches_in x.log (present new).stands ≡ batches_in o.log (present old).stands
    → IsStoredIn (with_log p x) (after s (Commit batch)) (present new)
commit_stored p s o x batch old new stored is_open grows region takes opened appended stands =
    let last = ended (IsGrownBy o.log (present old)) old new grows in
    let ws = last.0 in
    let d = present old in
    let same : present new ≡ grown ws d = last.2 in
    subst (IsStoredIn (with_log p x) (after s (Commit batch))) (sym same)
    (grown_stored p s o x batch d stored is_open region takes ws last.1 (subst (IsOpen x.log) same opened)
    (subst (λ (e : Disk). batches_in x.log (seen e) ≡ batches_in o.log (seen d) ++ batch ∷ []) same appended)
    (subst (λ (e : Disk). batches_in x.log e.stands ≡ batches_in o.log d.stands) same stands))

-- reads give the same in the tables
pub commit_extents : (p : Placement) (s : State) (o : OpenRegion) (old new : Disk) → IsStoredIn p s old → p.logs.open_region ≡ Some o → IsGrownBy o.log old new → KeepsExtents p old new
commit_extents p s o old new stored is_open (ws, of_log, same) =
    subst (KeepsExtents p old) (sym same)
    (λ k t lt. let x : TableRecord = get_or p.tables k t in area_elsewhere (extent_start p.logs.log_sectors x) (extent_length x) old ws (outside_extent p old stored.carried.held o is_open ws of_log x))
