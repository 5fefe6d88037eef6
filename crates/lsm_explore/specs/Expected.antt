-- What may be left of a life.
use Rattle.std.specs.Prelude.{◌≡◌, ◌<◌, ◌≤◌, ℕ, ◌+◌, List, [], ◌∷◌, ◌++◌, take, drop, map, ◌-◌, slice_get, IsNone, Option, None, Some}
use Rattle.std.specs.FinMap as finite
use Rattle.lsm_codec.specs.Map.{Map, Operation, apply_all}
use Rattle.lsm_root.specs.CrashState.{CrashState, last_number}
use Rattle.lsm_open.specs.Image.{StandFor}
use Rattle.lsm_store.specs.Backing.{StoreView, IsBacked}
use Rattle.lsm_machine.specs.RecoveryPoints.{batch_count, present_map}
use Rattle.lsm_machine.specs.Calls.{Reply}
use Rattle.lsm_machine.specs.Calls.{Commit, CommitIf, Value, Refused}
use Rattle.lsm_machine.specs.Lives.{IsAfter, IsPrefixFrom}
use Rattle.lsm_machine.specs.Machine.{Step, Called}
use Rattle.lsm_device.specs.declared.refusal.Refusal.TheVariants.{Io}
use Rattle.lsm_machine.specs.Promise.{accepted, acknowledged, maps_after}
use Rattle.lsm_lives.specs.Asked.{Asked, Told, Replied, Built, step_in}
use Rattle.lsm_explore.specs.Plain.{rows_of}
use Rattle.lsm_explore.specs.declared.expected.Expected.{Expected}

-- What was asked as steps of the machine, and what was told as its replies: of a build, and of a result by its number, nothing is
-- accepted or acknowledged.
abbrev pub steps_of : List Asked → List Step
steps_of asked = map (step_in []) asked

abbrev pub reply_in : Told → Reply
reply_in (Replied reply) = reply
reply_in (Built number tables) = Value None

abbrev pub replies_of : List Told → List Reply
replies_of told = map reply_in told

-- the batch that may be in flight by one step and its reply
abbrev pub flies_by : Step → Reply → List (List Operation)
flies_by (Called (Commit batch)) (Refused Io) = batch ∷ []
flies_by (Called (CommitIf guards batch)) (Refused Io) = batch ∷ []
flies_by step reply = []

-- the last of two batches that there may be
abbrev pub last_of : List (List Operation) → List (List Operation) → List (List Operation)
last_of before [] = before
last_of before (batch ∷ rest) = batch ∷ rest

-- The batch that may be in flight after these steps, where this one may have been before: that of the last commit that was told
-- of a fault. Where a guard's read faulted, nothing is in flight, but that is told in the same words; the steps after it go on.
-- After a write that faulted each is told that the store is stopped.
abbrev pub flies_behind : List (List Operation) → List Step → List Reply → List (List Operation)
flies_behind before (step ∷ steps) (reply ∷ replies) = flies_behind (last_of before (flies_by step reply)) steps replies
flies_behind before steps replies = before

-- The batches of which a crash keeps a beginning, where what was asked on an empty store was told so: those that were accepted, and
-- the one that may be in flight.
abbrev pub batches_in : List Asked → List Told → List (List Operation)
batches_in asked told = accepted (steps_of asked) (replies_of told) ++ flies_behind [] (steps_of asked) (replies_of told)

-- and how many of them it keeps at least
abbrev pub least_in : List Asked → List Told → ℕ
least_in asked told = acknowledged 0 (steps_of asked) (replies_of told)

-- the maps after each beginning of batches that holds at least `least`
abbrev pub maps_from : ℕ → List (List Operation) → List Map
maps_from least batches = apply_all finite.empty (take least batches) ∷ maps_after (apply_all finite.empty (take least batches)) (drop least batches)

-- The sectors stand for the map after a beginning of the batches that holds at least `least`, at just that count; and there are more
-- than `spare` generations before the last one.
pub record MayBeLeft (spare least : ℕ) (batches : List (List Operation)) (sectors : List (List ℕ)) : Type 0 where
  pub log_sectors : ℕ
  pub kept : List (List Operation)
  pub beginning : IsPrefixFrom least batches kept
  pub left : CrashState
  pub after : IsAfter kept left
  pub stands : StandFor log_sectors left sectors
  pub early : left.generation + spare < last_number

-- ---- what the code counts

abbrev pub as_list : {X : Type 0} → Option X → List X
as_list None = []
as_list (Some x) = x ∷ []

-- Just the maps that may be left, in the words of rows.
pub record AreExpected {A : Type 0} (least : ℕ) (batches : List (List Operation)) (expected : Expected A) : Type 0 where
  pub from : expected.least ≡ least
  pub maps : map (λ rows. rows_of rows.items) expected.maps.items ≡ map finite.entries (maps_from least batches)

-- A store whose device backs it has one of the maps, at just its count.
pub record IsFound (least : ℕ) (batches : List (List Operation)) (s : StoreView) : Type 0 where
  pub backed : IsBacked s
  pub runs : IsNone s.state.stopped
  pub at_least : least ≤ batch_count s.state.points
  pub found : slice_get (maps_from least batches) (batch_count s.state.points - least) ≡ Some (present_map s.state.points)
