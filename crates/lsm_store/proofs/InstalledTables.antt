-- An installation keeps a running store with its tables: of the next placement of a rotation, a flush or a merge.
use Rattle.std.proofs.Common.{◌≡◌, inl, inr, ℕ, ◌+◌, ◌≤◌, Bool, true, false, cond, List, [], ◌∷◌, ◌++◌, length, drop, get_or, replicate, Some, None, is_some, refl, sym, ◌∙◌, ap, subst, arith}
use Rattle.std.specs.Prelude.{Option, option_map, IsSome, sum_by, nat_le}
use Rattle.std.proofs.Math.Nat.{add-zero}
use Rattle.std.proofs.lemmas.Bool.{cond-false, lt-leb}
use Rattle.std.proofs.lemmas.List.{length-append}
use Rattle.std.proofs.lemmas.List.Elements.{Contains-append_left, Contains-append_right}
use Rattle.lsm_codec.proofs.Lists.{none_length}
use Rattle.lsm_codec.specs.BatchText.{sectors_of}
use Rattle.lsm_codec.specs.Map.{Operation}
use Rattle.lsm_codec.specs.declared.table_record.TableRecord.{TableRecord}
use Rattle.lsm_device.specs.Disk.{Disk, image, seen, written}
use Rattle.lsm_device.specs.History.{present, EachSince}
use Rattle.lsm_device.specs.Outcomes.{Leaves}
use Rattle.lsm_device.specs.Memory.{length-written}
use Rattle.lsm_device.proofs.Moments.{weaker, ended}
use Rattle.lsm_device.proofs.Outcomes.{seen_outcome}
use Rattle.lsm_log.specs.Opened.{batches_in}
use Rattle.lsm_log.proofs.Logs.{open_used, read_batches}
use Rattle.lsm_root.specs.CrashState.{CrashState, last_number, in_next_generation}
use Rattle.lsm_open.specs.Image.{StandFor}
use Rattle.lsm_open.specs.Layout.{open_records, open_batches, IsLogAtIfOpen}
use Rattle.lsm_open.specs.LogRegions.{all_batches, one_if_some}
use Rattle.lsm_open.specs.Placements.{Placement, contents_for, table_map, closed_in, present_state, MayBeLeft}
use Rattle.lsm_open.specs.Recovering.{StandForOne}
use Rattle.lsm_open.specs.Switching.{MayBeInstalled, IsSwitched, rotated_placement, left_rotated, MayRotate, IsInLeastFree, flushed, left_flushed, AreFlushed, merged, Parts, with_outputs, AreMerged}
use Rattle.lsm_open.specs.Tables.{extent_start, extent_length}
use Rattle.lsm_open.specs.declared.regions.OpenRegion.{OpenRegion}
use Rattle.lsm_open.proofs.Flushing.{flush_installs}
use Rattle.lsm_open.proofs.HeldPlacements.{carried_leaves, root_left}
use Rattle.lsm_open.proofs.HeldRegions.{BeginsAfter}
use Rattle.lsm_open.proofs.Merging.{merge_installs}
use Rattle.lsm_open.proofs.Rotating.{rotate_installs}
use Rattle.lsm_open.proofs.Switches.{switch_moments, installed_carried, installed_present}
use Rattle.lsm_open.proofs.TableFrames.{area_behind}
use Rattle.lsm_root.specs.Installed.{IsNext, IsReady, IsOldOrNew, IsInstalled}
use Rattle.lsm_root.specs.Roots.{Root, Stands, superblock_in, root_of}
use Rattle.lsm_root.proofs.Standing.{standing}
use Rattle.lsm_machine.specs.Crash.{closed_with, may_leave, last_crash_state}
use Rattle.lsm_machine.specs.RecoveryPoints.{batch_count, present_map}
use Rattle.lsm_machine.specs.State.{OpenLog, State, map_at}
use Rattle.lsm_store.specs.Stored.{open_log_of}
use Rattle.lsm_store.specs.StoredTables.{IsStateOver, IsStoredIn, KeepsExtents, MayGoOn}
use Rattle.lsm_machine.specs.Effects.{rotated, installed}
use Rattle.lsm_machine.specs.declared.asked.At.{At}
use Rattle.lsm_machine.specs.declared.asked.At.TheVariants.{Now, Snap}
use Rattle.lsm_store.proofs.Carrying.{may_leave_running}
use Rattle.lsm_store.proofs.LeftStates.{begins_at, closed_with_open, none_if_closed, one_of_state, stored_present}
use Rattle.lsm_machine.proofs.Membership.{in_head}
use Rattle.lsm_store.proofs.StoredTables.{state_at_rest}

abbrev Sectors : Type 0
Sectors = List (List ℕ)

abbrev Batches : Type 0
Batches = List (List Operation)

-- ---- the map that a read asks

pub installed_maps : (flush : Bool) (s : State) (at : At) → map_at (installed flush s) at ≡ map_at s at
installed_maps flush s Now = refl
installed_maps flush s (Snap number) = refl

pub rotated_maps : (s : State) (at : At) → map_at (rotated s) at ≡ map_at s at
rotated_maps s Now = refl
rotated_maps s (Snap number) = refl

-- ---- any installation

-- the log regions of a store are of some sectors
pub some_sectors : (p : Placement) (s : State) (d : Disk) → IsStoredIn p s d → 1 ≤ p.logs.log_sectors
some_sectors p s d stored = omega (arith, (standing d.stands p.logs.log_sectors (contents_for p) stored.carried.root).geometry.log_low)

-- the next generation may be installed
pub next_ready : (p : Placement) (s : State) (d : Disk) → IsStoredIn p s d → IsReady (length d.stands) p.logs.log_sectors (p.logs.generation + 1) d
next_ready p s d stored =
    let n = p.logs.log_sectors in
    let root : root_of (seen d) ≡ Stands n (contents_for p) =
    subst (λ (c : Sectors). root_of c ≡ Stands n (contents_for p)) (seen_outcome d) (root_left (Stands n (contents_for p)) d stored.carried.root stored.carried.settled (replicate (length d.pending) true)) in
    record {
      settled = stored.carried.settled;
      next = subst (λ (k : ℕ). IsNext k n (p.logs.generation + 1) (superblock_in (seen d))) (length-written (length d.stands) d.stands d.pending refl) (standing (seen d) n (contents_for p) root).next;
    }

module _ (p q : Placement) (s t : State) (old new : List Disk) (stored : IsStoredIn p s (present old)) (size : q.logs.log_sectors ≡ p.logs.log_sectors) (may : MayGoOn q t (present old))
    (each : EachSince (Leaves (IsOldOrNew (present old) (Stands p.logs.log_sectors (contents_for q)))) old new) where
  abbrev besides : List CrashState
  besides = last_crash_state t ∷ []

  one_side : (c : List (List ℕ)) → IsSwitched p.logs.log_sectors (MayBeLeft p (present old)) (present old) q (last_crash_state t) c → StandForOne s.log_sectors (may_leave s ++ last_crash_state t ∷ []) c
  one_side c (inl (root, some)) =
      let there : StandForOne s.log_sectors (may_leave s) c = one_of_state p s (present old) stored c some in
      (there.0, Contains-append_left (may_leave s) besides there.0 there.1, there.2)
  one_side c (inr (root, stands)) = (
    last_crash_state t,
    Contains-append_right (may_leave s) besides (last_crash_state t) (in_head (last_crash_state t) []),
    subst (λ (n : ℕ). StandFor n (last_crash_state t) c) (sym stored.state.placed.log_sectors) stands,
  )

  pub install_moments : EachSince (Leaves (StandForOne s.log_sectors (may_leave s ++ last_crash_state t ∷ []))) old new
  install_moments =
      weaker (Leaves (IsSwitched p.logs.log_sectors (MayBeLeft p (present old)) (present old) q (last_crash_state t))) (Leaves (StandForOne s.log_sectors (may_leave s ++ besides))) old new
      (λ d switches mask. one_side (image mask d) (switches mask))
      (switch_moments p.logs.log_sectors (MayBeLeft p (present old)) q (last_crash_state t) old new (carried_leaves p (present old) stored.carried) stored.carried.settled size may.next each)

  -- and so at the end, also where a fault has stopped the store
  pub install_stopped : Leaves (StandForOne s.log_sectors (may_leave (record s { stopped = Some (last_crash_state t ∷ []) }))) (present new)
  install_stopped =
      subst (λ (all : List CrashState). Leaves (StandForOne s.log_sectors (all ++ besides)) (present new)) (may_leave_running s stored.state.placed.running)
      (ended (Leaves (StandForOne s.log_sectors (may_leave s ++ besides))) old new install_moments)

-- the store runs on in the next placement
pub next_stored : (q : Placement) (t : State) (start d : Disk) → 1 ≤ q.logs.log_sectors → MayGoOn q t start → IsInstalled start (Stands q.logs.log_sectors (contents_for q)) d → IsStoredIn q t d
next_stored q t start d some may is =
    let reads_stand : seen d ≡ d.stands = ap (written d.stands) is.settled in
    let batches = closed_in q d.stands ++ open_batches q.logs.open_region (seen d) in
    let same : last_crash_state t ≡ present_state q d = installed_present start d q (last_crash_state t) some may.next is in
    let alone : IsStateOver q (table_map q d.stands) batches batches t =
    state_at_rest q (table_map q d.stands) batches t may.placed may.synced (ap (λ (x : CrashState). x.count) same) (ap (λ (x : CrashState). x.map) same) in
    record {
      carried = installed_carried start d q (last_crash_state t) some may.next is;
      state = subst (λ (c : Sectors). IsStateOver q (table_map q d.stands) (closed_in q d.stands ++ open_batches q.logs.open_region c) batches t) reads_stand alone;
    }

pub install_stored : (p q : Placement) (s t : State) (start d : Disk) → IsStoredIn p s start → q.logs.log_sectors ≡ p.logs.log_sectors → MayGoOn q t start
    → IsInstalled start (Stands p.logs.log_sectors (contents_for q)) d → IsStoredIn q t d
install_stored p q s t start d stored size may is =
    let some : 1 ≤ q.logs.log_sectors = omega (arith, size, some_sectors p s start stored) in
    next_stored q t start d some may (subst (λ (n : ℕ). IsInstalled start (Stands n (contents_for q)) d) (sym size) is)

-- reads give the same in all extents
pub install_extents : (p : Placement) (root : Root) (start d : Disk) → IsInstalled start root d → KeepsExtents p start d
install_extents p root start d is =
    let reads_stand : drop 130 (seen d) ≡ drop 130 (seen start) = ap (drop 130) (ap (written d.stands) is.settled) ∙ is.stands.all in
    λ k t lt.
    let x : TableRecord = get_or p.tables k t in
    area_behind (seen d) (seen start) reads_stand (extent_start p.logs.log_sectors x) (extent_length x) (omega arith)

-- ---- the state after it

module _ (p : Placement) (s : State) (d : Disk) (stored : IsStoredIn p s d) where
  pub count_is : batch_count s.points ≡ (present_state p d).count
  count_is = ap (λ (x : CrashState). x.count) (stored_present p s d stored)

  pub map_is : present_map s.points ≡ (present_state p d).map
  map_is = ap (λ (x : CrashState). x.map) (stored_present p s d stored)

  -- where all batches are synced, the last crash state has the same count and map
  count_then : batch_count s.points + 0 ≡ (present_state p d).count
  count_then = add-zero (batch_count s.points) ∙ count_is

  next_generation : s.generation + 1 ≡ p.logs.generation + 1
  next_generation = ap (λ (n : ℕ). n + 1) stored.state.placed.generation

  -- ---- a flush

  flush_closed : closed_with 0 (batch_count s.points + 0) s.open_log ≡ one_if_some (open_batches p.logs.open_region (seen d))
  flush_closed =
      let reads = open_batches p.logs.open_region (seen d) in
      ap (λ (n : ℕ). closed_with 0 n s.open_log) count_then
      ∙ ap (λ (o : Option OpenLog). closed_with 0 (present_state p d).count o) stored.state.placed.open_log
      ∙ closed_with_open p.logs.base (closed_in p d.stands) reads 0 p.logs.open_region (begins_at p d stored.carried.held) (none_if_closed p.logs.open_region (seen d))
      ∙ zero_and (one_if_some reads)
    where
      zero_and : (n : ℕ) → 0 + n ≡ n
      zero_and n = omega arith

  flush_left : left_flushed p d ≡ last_crash_state (installed true s)
  flush_left = λ i. record { count = sym count_then i; map = sym map_is i; closed = sym flush_closed i; generation = sym next_generation i }

  pub flush_goes_on : (next_table : ℕ) (new : List TableRecord) → AreFlushed p (seen d) new → MayGoOn (flushed p (length (closed_in p (seen d))) next_table new) (installed true s) d
  flush_goes_on next_table new are =
      let q = flushed p (length (closed_in p (seen d))) next_table new in
      let is = stored.state.placed in
      record {
        next = subst (λ (left : CrashState). MayBeInstalled q left d) flush_left (flush_installs p d next_table new stored.carried are);
        placed = record { log_sectors = is.log_sectors; generation = next_generation; closed = refl; open_log = is.open_log; running = is.running };
        synced = refl;
      }

  -- ---- a merge

  merge_closed : closed_with s.closed (batch_count s.points + 0) s.open_log ≡ (present_state p d).closed
  merge_closed = ap (λ (n : ℕ). closed_with s.closed n s.open_log) (add-zero (batch_count s.points)) ∙ ap (λ (x : CrashState). x.closed) (stored_present p s d stored)

  merge_left : in_next_generation (present_state p d) ≡ last_crash_state (installed false s)
  merge_left = λ i. record { count = sym count_then i; map = sym map_is i; closed = sym merge_closed i; generation = sym next_generation i }

  pub merge_goes_on : (next_table runs : ℕ) (x : Parts) (new : List TableRecord) → AreMerged p (seen d) x new → MayGoOn (merged p next_table runs (with_outputs x new)) (installed false s) d
  merge_goes_on next_table runs x new are =
      let q = merged p next_table runs (with_outputs x new) in
      let is = stored.state.placed in
      record {
        next = subst (λ (left : CrashState). MayBeInstalled q left d) merge_left (merge_installs p d next_table runs x new stored.carried are);
        placed = record { log_sectors = is.log_sectors; generation = next_generation; closed = is.closed; open_log = is.open_log; running = is.running };
        synced = refl;
      }

-- ---- a rotation

-- one region is closed where a log was open
one_closed : (o : Option OpenRegion) (log : Option OpenLog) → log ≡ option_map open_log_of o → cond (is_some log) 1 0 ≡ length (open_records o)
one_closed o log is = ap (λ (x : Option OpenLog). cond (is_some x) 1 0) is ∙ by o
  where
    by : (o : Option OpenRegion) → cond (is_some (option_map open_log_of o)) 1 0 ≡ length (open_records o)
    by (Some x) = refl
    by None = refl

-- an open log that is used holds a batch
used_holds : (batches : List (List Operation)) (used : ℕ) → used ≡ sum_by sectors_of batches → 1 ≤ used → 1 ≤ length batches
used_holds [] used is some = absurd (omega (arith, is, some))
used_holds (batch ∷ rest) used is some = omega arith

module _ (p : Placement) (s : State) (d : Disk) (stored : IsStoredIn p s d) (none_closed : s.closed ≡ 0) where
  pub no_records : p.logs.closed ≡ []
  no_records = none_length p.logs.closed (sym stored.state.placed.closed ∙ none_closed)

  has_batch : (o : Option OpenRegion) → IsLogAtIfOpen p.logs d o → ((log : OpenLog) → option_map open_log_of o ≡ Some log → 1 ≤ log.used) → IsSome o → 1 ≤ length (open_batches o (seen d))
  has_batch (Some x) opened used some = used_holds (batches_in x.log (seen d)) x.log.used (open_used x.log d opened.is_open) (used (open_log_of x) refl)
  has_batch None opened used some = absurd cc

  -- the present count is that of a batch
  count_high : (o : Option OpenRegion) → IsLogAtIfOpen p.logs d o → BeginsAfter p.logs.base (closed_in p d.stands) o → p.logs.base + length (closed_in p d.stands ++ open_batches o (seen d)) ≤ last_number
  count_high (Some x) opened begins =
      let reads = batches_in x.log (seen d) in
      let is = opened.is_open in
      omega (arith, begins, is.numbers.last_high, length-append (closed_in p d.stands) reads, ap length (read_batches x.log d is), length-append is.synced is.unsynced)
  count_high None opened begins =
      let none : closed_in p d.stands ≡ [] = ap (all_batches p.logs.log_sectors d.stands) no_records in
      let high = (standing d.stands p.logs.log_sectors (contents_for p) stored.carried.root).fits.numbers.base in
      omega (arith, high, length-append (closed_in p d.stands) [], ap length none)

  module _ (used : (log : OpenLog) → s.open_log ≡ Some log → 1 ≤ log.used) (generation : s.generation + 1 ≤ last_number) where
    pub may_rotate : MayRotate p d
    may_rotate = record {
      none_closed = no_records;
      some = has_batch p.logs.open_region stored.carried.held.opened (λ log is. used log (stored.state.placed.open_log ∙ is));
      generation = omega (arith, generation, stored.state.placed.generation);
      count = count_high p.logs.open_region stored.carried.held.opened (begins_at p d stored.carried.held);
    }

    module _ (o : OpenRegion) (new : IsInLeastFree p.logs.log_sectors (s.generation + 1) (batch_count s.points) (open_records p.logs.open_region) (Some o)) where
      pub new_here : IsInLeastFree p.logs.log_sectors (p.logs.generation + 1) (present_state p d).count (open_records p.logs.open_region) (Some o)
      new_here =
          subst (λ (n : ℕ). IsInLeastFree p.logs.log_sectors (p.logs.generation + 1) n (open_records p.logs.open_region) (Some o)) (count_is p s d stored)
          (subst (λ (n : ℕ). IsInLeastFree p.logs.log_sectors n (batch_count s.points) (open_records p.logs.open_region) (Some o)) (next_generation p s d stored) new)

      closed_now : cond (is_some s.open_log) 1 0 ≡ length (open_records p.logs.open_region)
      closed_now = one_closed p.logs.open_region s.open_log stored.state.placed.open_log

      -- the new log holds no batch
      none_new : cond (nat_le (batch_count s.points + 1) (batch_count s.points + 0)) (cond (is_some s.open_log) 1 0 + 1) (cond (is_some s.open_log) 1 0) ≡ cond (is_some s.open_log) 1 0
      none_new = cond-false (nat_le (batch_count s.points + 1) (batch_count s.points + 0)) (cond (is_some s.open_log) 1 0 + 1) (cond (is_some s.open_log) 1 0) (lt-leb (batch_count s.points + 1) (batch_count s.points + 0) (omega arith))

      rotate_left : left_rotated p d ≡ last_crash_state (rotated s)
      rotate_left = λ i. record { count = sym (count_then p s d stored) i; map = sym (map_is p s d stored) i; closed = sym (none_new ∙ closed_now) i; generation = sym (next_generation p s d stored) i }

      new_log : Some (record { first = batch_count s.points + 1; used = 0 }) ≡ Some (open_log_of o)
      new_log = λ i. Some (record { first = sym new.new_log.first i; used = sym new.new_log.used i })

      pub rotate_goes_on : MayGoOn (rotated_placement p o) (rotated s) d
      rotate_goes_on =
          let is = stored.state.placed in
          record {
            next = subst (λ (left : CrashState). MayBeInstalled (rotated_placement p o) left d) rotate_left (rotate_installs p d o stored.carried may_rotate new_here);
            placed = record { log_sectors = is.log_sectors; generation = next_generation p s d stored; closed = closed_now; open_log = new_log; running = is.running };
            synced = refl;
          }
