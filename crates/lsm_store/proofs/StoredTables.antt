-- Writes to free blocks, syncs and openings keep a running store with its tables.
use Rattle.std.proofs.Common.{◌≡◌, ℕ, ◌+◌, ◌≤◌, nat_lt, cond, true, List, [], ◌∷◌, ◌++◌, length, get_or, replicate, Some, None, refl, sym, ◌∙◌, ap, subst, arith, All}
use Rattle.std.specs.Prelude.{Option}
use Rattle.std.proofs.Math.Nat.{add-zero}
use Rattle.std.proofs.lemmas.List.{length-append}
use Rattle.std.proofs.lemmas.List.Elements.{All-nil, All-weaker}
use Rattle.lsm_codec.specs.Map.{Map, Operation, apply_all}
use Rattle.lsm_codec.specs.Pairs.{Pairwise}
use Rattle.lsm_codec.specs.TableRecords.{AreApart, TablesAgree}
use Rattle.lsm_codec.specs.Versions.{Version}
use Rattle.lsm_codec.specs.declared.table_record.TableRecord.{TableRecord}
use Rattle.lsm_device.specs.Areas.{IsOutside}
use Rattle.lsm_device.specs.Disk.{Disk, Write, seen, synced, written}
use Rattle.lsm_device.specs.History.{present, Becomes, EachSince}
use Rattle.lsm_device.specs.Outcomes.{Leaves}
use Rattle.lsm_device.specs.Runs.{grown, HasSomeOf}
use Rattle.lsm_device.proofs.Moments.{became, weaker}
use Rattle.lsm_device.proofs.Outcomes.{seen_outcome}
use Rattle.lsm_levels.specs.Levels.{Levels}
use Rattle.lsm_mem.specs.Versions.{map_of}
use Rattle.lsm_root.specs.CrashState.{CrashState}
use Rattle.lsm_open.specs.Image.{StandForSome}
use Rattle.lsm_open.specs.Layout.{open_records, open_batches}
use Rattle.lsm_open.specs.LogRegions.{one_if_some}
use Rattle.lsm_open.specs.Placements.{Placement, contents_for, table_map, closed_in, IsHeld, MayBeLeft, IsFreeWrite}
use Rattle.lsm_open.specs.Recovering.{StandForOne, IsRecovered}
use Rattle.lsm_open.specs.Tables.{extent_start, extent_length}
use Rattle.lsm_open.specs.Writing.{IsClear, IsWritten}
use Rattle.lsm_open.proofs.FreeWrites.{reads_elsewhere, carried_elsewhere, free_moments, tables_seen, carried_synced}
use Rattle.lsm_open.proofs.HeldPlacements.{same_closed}
use Rattle.lsm_open.proofs.HeldRegions.{Same, same_all}
use Rattle.lsm_open.proofs.TableFrames.{same_all_versions}
use Rattle.lsm_root.proofs.Standing.{standing}
use Rattle.lsm_machine.specs.Calls.{Sync}
use Rattle.lsm_machine.specs.Crash.{may_leave, reopened}
use Rattle.lsm_machine.specs.Effects.{after}
use Rattle.lsm_machine.specs.Promise.{beginnings}
use Rattle.lsm_machine.specs.RecoveryPoints.{all_synced, batch_count, present_map, last_map}
use Rattle.lsm_machine.specs.State.{State}
use Rattle.lsm_store.specs.StoredTables.{IsStateIn, IsStateOver, IsStoredIn, IsStoredWithJobs, KeepsExtents}
use Rattle.lsm_store.proofs.AppendedTables.{area_elsewhere}
use Rattle.lsm_store.proofs.LeftStates.{begins_at, all_within, one_of_state, stored_leaves}
use Rattle.lsm_machine.proofs.Points.{present_beginnings, count_beginnings, all_synced_beginnings}
use Rattle.lsm_store.proofs.Reopening.{open_log_is}

abbrev Sectors : Type 0
Sectors = List (List ℕ)

abbrev Batches : Type 0
Batches = List (List Operation)

-- ---- writes to blocks of no table

pub free_stored : (p : Placement) (s : State) (d : Disk) (writes : List Write) → All (IsFreeWrite p) writes → IsStoredIn p s d → IsStoredIn p s (grown writes d)
free_stored p s d writes free stored =
    let before = closed_in p d.stands in
    let stands = open_batches p.logs.open_region d.stands in
    record {
      carried = carried_elsewhere p d writes free stored.carried;
      state = subst (λ (reads : Batches). IsStateOver p (table_map p d.stands) (before ++ stands) (before ++ reads) s) (sym (reads_elsewhere p d stored.carried.held writes free p.logs.open_region stored.carried.held.opened)) stored.state;
    }

pub free_each : (p : Placement) (s : State) (writes : List Write) (old new : List Disk) → All (IsFreeWrite p) writes → IsStoredIn p s (present old) → EachSince (HasSomeOf (present old) writes) old new
    → EachSince (Leaves (StandForOne s.log_sectors (may_leave s))) old new
free_each p s writes old new free stored each =
    weaker (Leaves (StandForSome p.logs.log_sectors (MayBeLeft p (present old)))) (Leaves (StandForOne s.log_sectors (may_leave s))) old new
    (λ d leaves mask. one_of_state p s (present old) stored _ (leaves mask))
    (free_moments p writes old new free stored.carried each)

pub free_extents : (p : Placement) (d : Disk) (writes : List Write) → All (IsFreeWrite p) writes → KeepsExtents p d (grown writes d)
free_extents p d writes free = λ k t lt.
    let x : TableRecord = get_or p.tables k t in
    area_elsewhere (extent_start p.logs.log_sectors x) (extent_length x) d writes
    (All-weaker (IsFreeWrite p) (IsOutside (extent_start p.logs.log_sectors x) (extent_length x)) (λ w is. is.free k t lt) writes free)

-- ---- a sync

module _ (p : Placement) (d : Disk) (held : IsHeld p d) where
  pub closed_seen : closed_in p (seen d) ≡ closed_in p d.stands
  closed_seen =
      same_all p.logs.log_sectors (seen d) d.stands p.logs.closed
      (subst (λ (c : Sectors). All (Same p.logs.log_sectors c d.stands) p.logs.closed) (seen_outcome d) (same_closed p d held (replicate (length d.pending) true)))

  map_seen : table_map p (seen d) ≡ table_map p d.stands
  map_seen = ap (λ (vs : List Version). map_of vs p.logs.base) (same_all_versions p.logs.log_sectors (seen d) d.stands p.tables (tables_seen p d held))

pub synced_stored : (p : Placement) (s : State) (d : Disk) → IsStoredIn p s d → IsStoredIn p (after s Sync) (synced d)
synced_stored p s d stored =
    let before = closed_in p d.stands in
    let stands = open_batches p.logs.open_region d.stands in
    let reads = open_batches p.logs.open_region (seen d) in
    let base = table_map p d.stands in
    let is = stored.state.placed in
    let held = stored.carried.held in
    let alone : IsStateOver p base (before ++ reads) (before ++ reads) (after s Sync) = record {
      placed = record { log_sectors = is.log_sectors; generation = is.generation; closed = is.closed; open_log = is.open_log; running = is.running };
      points = ap all_synced stored.state.points ∙ all_synced_beginnings p.logs.base base (before ++ reads) (length (before ++ stands)) (all_within p d held);
    } in
    record {
      carried = carried_synced p d stored.carried;
      state =
          subst (λ (m : Map). IsStateOver p m (closed_in p (seen d) ++ reads) (closed_in p (seen d) ++ reads) (after s Sync)) (sym (map_seen p d held))
          (subst (λ (t : Batches). IsStateOver p base (t ++ reads) (t ++ reads) (after s Sync)) (sym (closed_seen p d held)) alone);
    }

pub synced_each : (p : Placement) (s : State) (old new : List Disk) → IsStoredIn p s (present old) → Becomes (synced (present old)) old new → EachSince (Leaves (StandForOne s.log_sectors (may_leave s))) old new
synced_each p s old new stored becomes =
    let d = present old in
    let leaves = stored_leaves p s d stored in
    became (Leaves (StandForOne s.log_sectors (may_leave s))) (synced d) old new becomes leaves
    (λ mask. subst (StandForOne s.log_sectors (may_leave s)) (seen_outcome d) (leaves (replicate (length d.pending) true)))

-- ---- a state in which all batches are synced

-- its one recovery point is the present map
pub state_at_rest : (p : Placement) (base : Map) (batches : List (List Operation)) (s : State) → IsStateIn p s → s.points.later ≡ [] → batch_count s.points ≡ p.logs.base + length batches → present_map s.points ≡ apply_all base batches
    → IsStateOver p base batches batches s
state_at_rest p base batches s placed none counts same = record {
  placed = placed;
  points = points_are ∙ sym settled;
}
  where
    all : length batches ≤ length batches
    all = omega arith

    count_is : s.points.synced ≡ p.logs.base + length batches
    count_is = omega (arith, counts, ap length none)

    map_is : s.points.first ≡ apply_all base batches
    map_is = sym (ap (last_map s.points.first) none) ∙ same

    points_are : s.points ≡ record { synced = p.logs.base + length batches; first = apply_all base batches; later = [] }
    points_are = λ i. record { synced = count_is i; first = map_is i; later = none i }

    settled : beginnings p.logs.base base batches (length batches) ≡ record { synced = p.logs.base + length batches; first = apply_all base batches; later = [] }
    settled =
        sym (all_synced_beginnings p.logs.base base batches (length batches) all)
        ∙ (λ i. record { synced = count_beginnings p.logs.base base batches (length batches) all i; first = present_beginnings p.logs.base base batches (length batches) i; later = [] })

-- ---- an opening

-- records of a manifest's grammar have extents apart
all_apart : (tables : List TableRecord) → Pairwise TablesAgree tables → Pairwise AreApart tables
all_apart [] agree = tt
all_apart (t ∷ rest) agree = (All-weaker (TablesAgree t) (AreApart t) (λ u is. is.apart) rest agree.0, all_apart rest agree.1)

module _ (log_sectors : ℕ) (left : CrashState) (p : Placement) (count : ℕ) (sealed : Option (List Version)) (levels : Levels) (d : Disk) (is : IsRecovered log_sectors left p count sealed levels d) where
  abbrev found : Batches
  found = closed_in p d.stands ++ open_batches p.logs.open_region (seen d)

  reads_stand : seen d ≡ d.stands
  reads_stand = ap (written d.stands) is.rests

  none_open : open_batches p.logs.open_region (seen d) ≡ []
  none_open = ap (open_batches p.logs.open_region) reads_stand ∙ is.empty

  few_logs : length p.logs.closed + length (open_records p.logs.open_region) ≤ 3
  few_logs = omega (arith, (standing d.stands p.logs.log_sectors (contents_for p) is.carried.root).fits.numbers.logs, length-append p.logs.closed (open_records p.logs.open_region))

  count_left : left.count ≡ p.logs.base + length (closed_in p d.stands ++ open_batches p.logs.open_region (seen d))
  count_left = ap (λ (x : CrashState). x.count) (sym is.present)

  count_closed : left.count ≡ p.logs.base + length (closed_in p d.stands)
  count_closed = omega (arith, count_left, length-append (closed_in p d.stands) (open_batches p.logs.open_region (seen d)), ap length none_open)

  closed_left : left.closed ≡ length p.logs.closed
  closed_left = ap (λ (x : CrashState). x.closed) (sym is.present) ∙ ap (λ (xs : Batches). length p.logs.closed + one_if_some xs) none_open ∙ add-zero (length p.logs.closed)

  opened_in : IsStateIn p (reopened log_sectors left)
  opened_in = record {
    log_sectors = sym is.log_size;
    generation = ap (λ (x : CrashState). x.generation) (sym is.present);
    closed = closed_left;
    open_log = ap (λ (n : ℕ). cond (nat_lt n 3) (Some (record { first = left.count + 1; used = 0 })) None) closed_left
        ∙ open_log_is p.logs d left.count p.logs.open_region is.all_closed.0 is.carried.held.opened none_open (begins_at p d is.carried.held) few_logs count_closed;
    running = refl;
  }

  opened_state : IsStateOver p (table_map p d.stands) (closed_in p d.stands ++ open_batches p.logs.open_region (seen d)) (closed_in p d.stands ++ open_batches p.logs.open_region (seen d)) (reopened log_sectors left)
  opened_state =
      state_at_rest p (table_map p d.stands) found (reopened log_sectors left) opened_in refl
      (add-zero left.count ∙ count_left)
      (ap (λ (x : CrashState). x.map) (sym is.present))

  recovered_in : IsStoredIn p (reopened log_sectors left) d
  recovered_in = record {
    carried = is.carried;
    state = subst (λ (c : Sectors). IsStateOver p (table_map p d.stands) (closed_in p d.stands ++ open_batches p.logs.open_region c) found (reopened log_sectors left)) reads_stand opened_state;
  }

  tables_apart : Pairwise AreApart p.tables
  tables_apart = all_apart p.tables (standing d.stands p.logs.log_sectors (contents_for p) is.carried.root).fits.tables.agree

  -- nothing is placed yet
  pub recovered_stored : IsStoredWithJobs p [] (reopened log_sectors left) d
  recovered_stored = record {
    stored = recovered_in;
    jobs = record {
      carried = is.carried;
      tables = tables_apart;
      clear = All-nil (IsClear p);
      apart = tt;
      written = All-nil (IsWritten p.logs.log_sectors d);
    };
  }
