-- Every crash of a running store with tables leaves what its state may leave.
use Rattle.std.proofs.Common.{◌≡◌, ℕ, ◌+◌, ◌≤◌, true, List, [], ◌∷◌, ◌++◌, length, take, replicate, Some, None, refl, sym, ◌∙◌, ap, subst, arith, append_assoc}
use Rattle.std.specs.Prelude.{Option, option_map, Contains}
use Rattle.std.proofs.lemmas.List.{length-append, take_at}
use Rattle.std.proofs.lemmas.List.Elements.{Contains-append_left}
use Rattle.lsm_codec.specs.Map.{Map, Operation, apply_all}
use Rattle.lsm_device.specs.Disk.{Disk, image, seen}
use Rattle.lsm_device.specs.Outcomes.{Leaves}
use Rattle.lsm_device.proofs.Outcomes.{seen_outcome}
use Rattle.lsm_log.specs.Batches.{IsBetween}
use Rattle.lsm_root.specs.CrashState.{CrashState}
use Rattle.lsm_open.specs.Image.{StandFor, StandForSome}
use Rattle.lsm_open.specs.Layout.{open_batches}
use Rattle.lsm_open.specs.LogRegions.{one_if_some}
use Rattle.lsm_open.specs.declared.regions.OpenRegion.{OpenRegion}
use Rattle.lsm_open.specs.Placements.{Placement, table_map, closed_in, IsHeld, state_with, present_state, MayBeLeft}
use Rattle.lsm_open.specs.Recovering.{StandForOne}
use Rattle.lsm_open.proofs.HeldPlacements.{open_between, carried_leaves, carried_reads}
use Rattle.lsm_open.proofs.HeldRegions.{BeginsAfter, begins_after}
use Rattle.lsm_machine.specs.Crash.{closed_with, crash_state_at, left_between, may_leave, last_crash_state}
use Rattle.lsm_machine.specs.Promise.{beginnings}
use Rattle.lsm_machine.specs.RecoveryPoints.{RecoveryPoint, RecoveryPoints, recovery_points, present_point}
use Rattle.lsm_machine.specs.State.{OpenLog, State}
use Rattle.lsm_store.specs.Stored.{open_log_of}
use Rattle.lsm_store.specs.StoredTables.{IsStateIn, IsStateOver, IsStoredIn}
use Rattle.lsm_store.proofs.Carrying.{a_point, counts_open, may_leave_running}
use Rattle.lsm_machine.proofs.Membership.{in_map}
use Rattle.lsm_machine.proofs.Points.{present_beginnings, count_beginnings}

abbrev Sectors : Type 0
Sectors = List (List ℕ)

abbrev Batches : Type 0
Batches = List (List Operation)

-- What decides which crash states a state may leave over these tables, where these batches stand and reads give these.
pub record LeavesOver (p : Placement) (base : Map) (standing reads : List (List Operation)) (s : State) : Type 0 where
  pub points : s.points ≡ beginnings p.logs.base base reads (length standing)
  pub log_sectors : s.log_sectors ≡ p.logs.log_sectors
  pub generation : s.generation ≡ p.logs.generation
  pub closed : (count : ℕ) → closed_with s.closed count s.open_log ≡ closed_with (length p.logs.closed) count (option_map open_log_of p.logs.open_region)

closed_in_place : (p : Placement) (s : State) → IsStateIn p s → (count : ℕ) → closed_with s.closed count s.open_log ≡ closed_with (length p.logs.closed) count (option_map open_log_of p.logs.open_region)
closed_in_place p s is count =
    ap (λ (o : Option OpenLog). closed_with s.closed count o) is.open_log ∙ ap (λ (k : ℕ). closed_with k count (option_map open_log_of p.logs.open_region)) is.closed

pub leaves_over : (p : Placement) (base : Map) (standing reads : List (List Operation)) (s : State) → IsStateOver p base standing reads s → LeavesOver p base standing reads s
leaves_over p base standing reads s is = record {
  points = is.points;
  log_sectors = is.placed.log_sectors;
  generation = is.placed.generation;
  closed = closed_in_place p s is.placed;
}

-- none of the batches is in the open log where none is open
abbrev pub NoneIfClosed : Option OpenRegion → List (List Operation) → Type 0
NoneIfClosed (Some o) xs = Unit {0}
NoneIfClosed None xs = xs ≡ []

pub none_if_closed : (o : Option OpenRegion) (c : List (List ℕ)) → NoneIfClosed o (open_batches o c)
none_if_closed (Some o) c = tt
none_if_closed None c = refl

first_none : (xs rest : List (List Operation)) → [] ≡ xs ++ rest → xs ≡ []
first_none [] rest is = refl
first_none (x ∷ xs) rest is = absurd (omega (arith, ap length is))

none_between : (o : Option OpenRegion) (e c : List (List ℕ)) (xs : List (List Operation)) → IsBetween (open_batches o e) (open_batches o c) xs → NoneIfClosed o xs
none_between (Some o) e c xs between = tt
none_between None e c xs between = first_none xs between.to.0 between.to.1

pub closed_with_open : (base : ℕ) (before xs : List (List Operation)) (k : ℕ) (o : Option OpenRegion) → BeginsAfter base before o → NoneIfClosed o xs → closed_with k (base + length (before ++ xs)) (option_map open_log_of o) ≡ k + one_if_some xs
closed_with_open base before xs k (Some o) begins none = counts_open base before xs o.log.first k begins
closed_with_open base before xs k None begins none = let nothing : one_if_some xs ≡ 0 = ap one_if_some none in omega (arith, nothing)

module _ (p : Placement) (e : List (List ℕ)) (standing reads : List (List Operation)) (s : State) (is : LeavesOver p (table_map p e) (closed_in p e ++ standing) (closed_in p e ++ reads) s)
    (begins : BeginsAfter p.logs.base (closed_in p e) p.logs.open_region) (xs : List (List Operation)) (none : NoneIfClosed p.logs.open_region xs) where
  abbrev before : Batches
  before = closed_in p e

  closed_is : closed_with s.closed (p.logs.base + length (closed_in p e ++ xs)) s.open_log ≡ length p.logs.closed + one_if_some xs
  closed_is = is.closed (p.logs.base + length (before ++ xs)) ∙ closed_with_open p.logs.base before xs (length p.logs.closed) p.logs.open_region begins none

  crash_state_is : crash_state_at s (record { count = p.logs.base + length (closed_in p e ++ xs); map = apply_all (table_map p e) (closed_in p e ++ xs) }) ≡ state_with p e xs
  crash_state_is = λ i. record { count = p.logs.base + length (before ++ xs); map = apply_all (table_map p e) (before ++ xs); closed = closed_is i; generation = is.generation i }

  -- each beginning of the batches that holds all that stand is one that the state may leave
  pub may_be_left : IsBetween standing reads xs → Contains (left_between s) (state_with p e xs)
  may_be_left between =
      let all_of = before ++ xs in
      let m = table_map p e in
      let rest = between.to.0 in
      let all : before ++ reads ≡ all_of ++ rest = ap (λ (t : Batches). before ++ t) between.to.1 ∙ sym (append_assoc before xs rest) in
      let low : length (before ++ standing) ≤ length all_of = omega (arith, length-append before standing, length-append before xs, ap length between.from.1, length-append standing between.from.0) in
      let high : length all_of ≤ length (before ++ reads) = omega (arith, ap length all, length-append all_of rest) in
      let here : take (length all_of) (before ++ reads) ≡ all_of = ap (take (length all_of)) all ∙ take_at all_of rest (length all_of) refl in
      let point = a_point p.logs.base m (before ++ reads) (length (before ++ standing)) (length all_of) low high in
      let named : Contains (recovery_points s.points) (record { count = p.logs.base + length all_of; map = apply_all m all_of }) =
      subst (λ (r : RecoveryPoints). Contains (recovery_points r) (record { count = p.logs.base + length all_of; map = apply_all m all_of })) (sym is.points)
      (subst (λ (t : Batches). Contains (recovery_points (beginnings p.logs.base m (before ++ reads) (length (before ++ standing)))) (record { count = p.logs.base + length all_of; map = apply_all m t })) here point) in
      subst (Contains (left_between s)) crash_state_is (in_map (crash_state_at s) (recovery_points s.points) _ named)

  -- and all of them are the last
  pub last_is : reads ≡ xs → length standing ≤ length reads → last_crash_state s ≡ state_with p e xs
  last_is same within =
      let done = before ++ reads in
      let m = table_map p e in
      let j = length (before ++ standing) in
      let fits : j ≤ length done = omega (arith, within, length-append before standing, length-append before reads) in
      let here : done ≡ before ++ xs = ap (λ (t : Batches). before ++ t) same in
      ap (λ (r : RecoveryPoints). crash_state_at s (present_point r)) is.points
      ∙ ap (λ (r : RecoveryPoint). crash_state_at s r) (λ i. record { count = count_beginnings p.logs.base m done j fits i; map = present_beginnings p.logs.base m done j i })
      ∙ ap (λ (t : Batches). crash_state_at s (record { count = p.logs.base + length t; map = apply_all m t })) here
      ∙ crash_state_is

-- ---- a disk that holds the placement

module _ (p : Placement) (d : Disk) (held : IsHeld p d) where
  pub begins_at : BeginsAfter p.logs.base (closed_in p d.stands) p.logs.open_region
  begins_at = begins_after p.logs.log_sectors p.logs.base d.stands p.logs.closed p.logs.open_region held.follows

  -- what stands is a beginning of what reads give
  pub reads_hold : (more : List (List Operation)) × (open_batches p.logs.open_region (seen d) ≡ open_batches p.logs.open_region d.stands ++ more)
  reads_hold =
      let most = open_between p.logs d p.logs.open_region held.opened (replicate (length d.pending) true) in
      (most.from.0, ap (open_batches p.logs.open_region) (sym (seen_outcome d)) ∙ most.from.1)

  pub stands_within : length (open_batches p.logs.open_region d.stands) ≤ length (open_batches p.logs.open_region (seen d))
  stands_within = omega (arith, ap length reads_hold.1, length-append (open_batches p.logs.open_region d.stands) reads_hold.0)

  pub all_within : length (closed_in p d.stands ++ open_batches p.logs.open_region d.stands) ≤ length (closed_in p d.stands ++ open_batches p.logs.open_region (seen d))
  all_within =
      let before = closed_in p d.stands in
      omega (arith, stands_within, length-append before (open_batches p.logs.open_region d.stands), length-append before (open_batches p.logs.open_region (seen d)))

  -- the present map is what is left where all that reads give is kept
  pub present_is : (s : State) → IsStateOver p (table_map p d.stands) (closed_in p d.stands ++ open_batches p.logs.open_region d.stands) (closed_in p d.stands ++ open_batches p.logs.open_region (seen d)) s
      → last_crash_state s ≡ present_state p d
  present_is s is =
      last_is p d.stands (open_batches p.logs.open_region d.stands) (open_batches p.logs.open_region (seen d)) s (leaves_over p _ _ _ s is) begins_at (open_batches p.logs.open_region (seen d)) (none_if_closed p.logs.open_region (seen d)) refl stands_within

module _ (p : Placement) (s : State) (d : Disk) (stored : IsStoredIn p s d) where
  -- what a crash may leave of the disk the state may leave
  pub left_may : (left : CrashState) → MayBeLeft p d left → Contains (may_leave s) left
  left_may left is =
      let standing = open_batches p.logs.open_region d.stands in
      let reads = open_batches p.logs.open_region (seen d) in
      let found = may_be_left p d.stands standing reads s (leaves_over p _ _ _ s stored.state) (begins_at p d stored.carried.held) is.kept (none_between p.logs.open_region d.stands (seen d) is.kept is.between) is.between in
      subst (λ (all : List CrashState). Contains all left) (sym (may_leave_running s stored.state.placed.running)) (subst (Contains (left_between s)) (sym is.left_is) found)

  -- so sectors that stand for something that a crash may leave stand for something that the state may leave
  pub one_of_state : (c : List (List ℕ)) → StandForSome p.logs.log_sectors (MayBeLeft p d) c → StandForOne s.log_sectors (may_leave s) c
  one_of_state c (left, may, stands) = subst (λ (n : ℕ). StandForOne n (may_leave s) c) (sym stored.state.placed.log_sectors) (left, left_may left may, stands)

  pub stored_leaves : Leaves (StandForOne s.log_sectors (may_leave s)) d
  stored_leaves mask = one_of_state (image mask d) (carried_leaves p d stored.carried mask)

  pub stored_present : last_crash_state s ≡ present_state p d
  stored_present = present_is p d stored.carried.held s stored.state

  pub stored_reads : StandFor s.log_sectors (last_crash_state s) (seen d)
  stored_reads =
      subst (λ (n : ℕ). StandFor n (last_crash_state s) (seen d)) (sym stored.state.placed.log_sectors)
      (subst (λ (left : CrashState). StandFor p.logs.log_sectors left (seen d)) (sym stored_present) (carried_reads p d stored.carried))

  -- so it is where a fault has stopped the store, whatever the call may have left besides
  pub stopped_leaves : (besides : List CrashState) → Leaves (StandForOne s.log_sectors (may_leave (record s { stopped = Some besides }))) d
  stopped_leaves besides mask =
      let there = stored_leaves mask in
      (there.0, Contains-append_left (left_between s) besides there.0 (subst (λ (all : List CrashState). Contains all there.0) (may_leave_running s stored.state.placed.running) there.1), there.2)
