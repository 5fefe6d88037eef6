-- Refusals in order, and what is known of a state that doesn't refuse.
use Rattle.std.proofs.Common.{◌≡◌, ◌≢◌, ◌⊎◌, inl, inr, ⊎_elim, Bool, true, false, not, List, [], ◌∷◌, Some, None, is_some, refl, sym, ◌∙◌, ap, subst}
use Rattle.std.specs.Result.{IsErrAnd}
use Rattle.std.specs.Prelude.{ℕ, Result, Ok, Err, Option, IsNone, length, nat_le, nat_lt, ◌==◌, ◌&&◌, if◌then◌else◌}
use Rattle.std.specs.List.{AllByRecursion}
use Rattle.std.proofs.lemmas.Bool.{eq-eqb}
use Rattle.lsm_codec.specs.BatchText.{is_key}
use Rattle.lsm_codec.specs.Keys.{Bytes}
use Rattle.lsm_codec.specs.Map.{Operation}
use Rattle.lsm_device.specs.declared.refusal.Refusal.{Refusal}
use Rattle.lsm_device.specs.declared.refusal.Refusal.TheVariants.{NoMemory, Io, Stopped, LogFull, SealedWaiting, NothingToRotate, NoSuchSnapshot, TooManySnapshots, NoSuchBatch, BadKey, BadRange, Exhausted, BadLimit, TooManyGuards}
use Rattle.lsm_root.specs.CrashState.{last_number}
use Rattle.lsm_machine.specs.RecoveryPoints.{batch_count}
use Rattle.lsm_mem.specs.Paging.{is_backwards}
use Rattle.lsm_codec.specs.Guards.{Condition}
use Rattle.lsm_machine.specs.State.{State, are_waiting, fits, may_ask}
use Rattle.lsm_machine.specs.declared.asked.At.{At}
use Rattle.lsm_machine.specs.Calls.{Call}
use Rattle.lsm_machine.specs.Calls.{Commit, CommitIf, Sync, SyncTo, Get, Scan, Snapshot, Release, Rotate, LogRoom}
use Rattle.lsm_machine.specs.Refusals.{most_guards, refusals, first_refusal, refusal}

-- a test that doesn't hold
pub passes_by : (b : Bool) (e : Refusal) (rest x : Option Refusal) → b ≡ false → rest ≡ x → (if b then Some e else rest) ≡ x
passes_by b e rest x is goes = ap (λ (t : Bool). if t then Some e else rest) is ∙ goes

-- the first that holds
pub is_taken : (b : Bool) (e : Refusal) (rest : Option Refusal) → b ≡ true → (if b then Some e else rest) ≡ Some e
is_taken b e rest is = ap (λ (t : Bool). if t then Some e else rest) is

some_none : (e : Refusal) → Some e ≡ None → ⊥
some_none e is = cc

-- where none holds
pub none_taken : (b : Bool) (e : Refusal) (rest : Option Refusal) → (if b then Some e else rest) ≡ None → (b ≡ false) × (rest ≡ None)
none_taken true e rest is = absurd (some_none e is)
none_taken false e rest is = (refl, is)

-- where one does
pub one_taken : (b : Bool) (e x : Refusal) (rest : Option Refusal) → (if b then Some e else rest) ≡ Some x → (e ≡ x) ⊎ (rest ≡ Some x)
one_taken true e x rest is = inl cc
one_taken false e x rest is = inr is

-- a refusal that the state decides tells neither of memory nor of the device
pub record IsDecided (e : Refusal) : Type 0 where
  pub no_memory : e ≢ NoMemory
  pub no_fault : e ≢ Io

IsDecided-along : (e x : Refusal) → e ≡ x → IsDecided e → IsDecided x
IsDecided-along e x is decided = subst IsDecided is decided

stopped_decided : IsDecided Stopped
stopped_decided = record { no_memory = λ e. cc; no_fault = λ e. cc }

full_decided : IsDecided LogFull
full_decided = record { no_memory = λ e. cc; no_fault = λ e. cc }

waiting_decided : IsDecided SealedWaiting
waiting_decided = record { no_memory = λ e. cc; no_fault = λ e. cc }

unused_decided : IsDecided NothingToRotate
unused_decided = record { no_memory = λ e. cc; no_fault = λ e. cc }

guards_decided : IsDecided TooManyGuards
guards_decided = record { no_memory = λ e. cc; no_fault = λ e. cc }

exhausted_decided : IsDecided Exhausted
exhausted_decided = record { no_memory = λ e. cc; no_fault = λ e. cc }

batch_decided : IsDecided NoSuchBatch
batch_decided = record { no_memory = λ e. cc; no_fault = λ e. cc }

key_decided : IsDecided BadKey
key_decided = record { no_memory = λ e. cc; no_fault = λ e. cc }

snapshot_decided : IsDecided NoSuchSnapshot
snapshot_decided = record { no_memory = λ e. cc; no_fault = λ e. cc }

snapshots_decided : IsDecided TooManySnapshots
snapshots_decided = record { no_memory = λ e. cc; no_fault = λ e. cc }

range_decided : IsDecided BadRange
range_decided = record { no_memory = λ e. cc; no_fault = λ e. cc }

limit_decided : IsDecided BadLimit
limit_decided = record { no_memory = λ e. cc; no_fault = λ e. cc }

none_left : (x : Refusal) → None ≡ Some x → IsDecided x
none_left x is = absurd (some_none x (sym is))

abbrev Decided : Bool × Refusal → Type 0
Decided test = IsDecided test.1

first_decided : (tests : List (Bool × Refusal)) (x : Refusal) → AllByRecursion Decided tests → first_refusal tests ≡ Some x → IsDecided x
first_decided [] x all is = none_left x is
first_decided (test ∷ rest) x all is = ⊎_elim (λ same. IsDecided-along test.1 x same all.0) (λ later. first_decided rest x all.1 later) (one_taken test.0 test.1 x (first_refusal rest) is)

all_decided : (s : State) (call : Call) → AllByRecursion Decided (refusals s call)
all_decided s (Commit batch) = (exhausted_decided, (full_decided, tt))
all_decided s (CommitIf guards batch) = (guards_decided, (exhausted_decided, (full_decided, tt)))
all_decided s Sync = tt
all_decided s (SyncTo number) = (batch_decided, tt)
all_decided s (Get at key) = (key_decided, (snapshot_decided, tt))
all_decided s (Scan at from to limit) = (limit_decided, (range_decided, (snapshot_decided, tt)))
all_decided s Snapshot = (snapshots_decided, (exhausted_decided, tt))
all_decided s (Release number) = (snapshot_decided, tt)
all_decided s Rotate = (waiting_decided, (unused_decided, (exhausted_decided, tt)))
all_decided s LogRoom = tt

pub refusal_decided : (s : State) (call : Call) (x : Refusal) → refusal s call ≡ Some x → IsDecided x
refusal_decided s call x is = first_decided ((is_some s.stopped, Stopped) ∷ refusals s call) x (stopped_decided, all_decided s call) is

pub unrefused_runs : (s : State) (call : Call) → refusal s call ≡ None → IsNone s.stopped
unrefused_runs s call none = (none_taken (is_some s.stopped) Stopped (first_refusal (refusals s call)) none).0

-- what is known of a state that doesn't refuse a commit
pub record MayCommit (s : State) (batch : List Operation) : Type 0 where
  pub running : IsNone s.stopped
  pub number : batch_count s.points ≢ last_number
  pub fits : fits s batch ≡ true

not_false : (b : Bool) → not b ≡ false → b ≡ true
not_false true is = refl
not_false false is = sym is

pub unrefused_commit : (s : State) (batch : List Operation) → refusal s (Commit batch) ≡ None → MayCommit s batch
unrefused_commit s batch none =
    let one = none_taken (is_some s.stopped) Stopped _ none in
    let two = none_taken (batch_count s.points == last_number) Exhausted _ one.1 in
    let three = none_taken (not (fits s batch)) LogFull None two.1 in
    record { running = one.0; number = λ e. absurd (no (sym (eq-eqb (batch_count s.points) last_number e) ∙ two.0)); fits = not_false (fits s batch) three.0 }
  where
    no : true ≡ false → ⊥
    no e = cc

-- one that nothing refuses under guards nothing refuses without them
pub unguarded : (s : State) (guards : List Condition) (batch : List Operation) → refusal s (CommitIf guards batch) ≡ None → refusal s (Commit batch) ≡ None
unguarded s guards batch none =
    let one = none_taken (is_some s.stopped) Stopped _ none in
    let two = none_taken (nat_lt most_guards (length guards)) TooManyGuards _ one.1 in
    passes_by (is_some s.stopped) Stopped _ None one.0 two.1

-- a read that nothing refuses asks the present map, or that of a live snapshot
pub unrefused_get : (s : State) (at : At) (key : Bytes) → refusal s (Get at key) ≡ None → may_ask s at ≡ true
unrefused_get s at key none =
    let one = none_taken (is_some s.stopped) Stopped _ none in
    let two = none_taken (not (is_key key)) BadKey _ one.1 in
    not_false (may_ask s at) (none_taken (not (may_ask s at)) NoSuchSnapshot None two.1).0

pub unrefused_scan : (s : State) (at : At) (from : Bytes) (to : Option Bytes) (limit : ℕ) → refusal s (Scan at from to limit) ≡ None → may_ask s at ≡ true
unrefused_scan s at from to limit none =
    let one = none_taken (is_some s.stopped) Stopped _ none in
    let two = none_taken (not (nat_le 1 limit && nat_le limit 64)) BadLimit _ one.1 in
    let three = none_taken (is_backwards from to) BadRange _ two.1 in
    not_false (may_ask s at) (none_taken (not (may_ask s at)) NoSuchSnapshot None three.1).0

-- a rotation that nothing refuses finds no sealed versions that wait
pub unrefused_rotation : (s : State) → refusal s Rotate ≡ None → are_waiting s ≡ false
unrefused_rotation s none =
    let one = none_taken (is_some s.stopped) Stopped _ none in
    (none_taken (are_waiting s) SealedWaiting _ one.1).0

-- what `?` answers
pub err_of : {T : Type 0} (r : Result T Refusal) (P : Refusal → Type 0) → IsErrAnd r P → (e : Refusal) × (r ≡ Err e) × P e
err_of (Ok x) P h = absurd h
err_of (Err e) P h = (e, refl, h)
