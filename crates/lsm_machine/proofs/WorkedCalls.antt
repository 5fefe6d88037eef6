-- Worked examples, computed from the definitions.
use Rattle.std.proofs.Common.{◌≡◌, ℕ, ◌^◌, List, [], ◌∷◌, ◌++◌, map, replicate, take, drop, Option, Some, None, refl, sym, ◌∙◌, rules}
use Rattle.std.specs.Cmp.Lexicographic.{nat_list_cmp_total}
use Rattle.std.proofs.lemmas.List.{nil_from_length}
use Rattle.std.specs.FinMap as finite
use Rattle.std.specs.FinMap.{gets, entries-insert, len-entries, len-empty}
use Rattle.std.specs.FinMap.Entries.{put as put_in}
use Rattle.lsm_codec.specs.Keys.{Bytes, byte_order}
use Rattle.lsm_codec.specs.Map.{Map, Operation, apply}
use Rattle.lsm_codec.specs.BatchText.{batch_text, text_length, sectors_of}
use Rattle.lsm_device.specs.declared.refusal.Refusal.TheVariants.{Io, Stopped, LogFull, SealedWaiting, NothingToRotate, NoSuchSnapshot, TooManySnapshots, NoSuchBatch, BadKey, BadRange, Exhausted, BadLimit}
use Rattle.lsm_root.specs.CrashState.{CrashState, formatted, left_by_opening}
use Rattle.lsm_machine.specs.State.{State}
use Rattle.lsm_machine.specs.Calls.{Call, Reply}
use Rattle.lsm_machine.specs.Calls.{Commit, Sync, SyncTo, Get, Scan, Snapshot, Release, Rotate, LogRoom, Number, Done, Value, Rows, Refused}
use Rattle.lsm_machine.specs.Effects.{use_of, Untouched, Changes}
use Rattle.lsm_machine.specs.Crash.{may_leave, left_inside, reopened}
use Rattle.lsm_machine.specs.Machine.{Machine, Called}
use Rattle.lsm_machine.specs.Run.{Run, last_machine, ample_replies, ample_machine}
use Rattle.lsm_machine.specs.Work.{no_work}
use Rattle.lsm_machine.specs.declared.asked.At.TheVariants.{Now, Snap}

abbrev put : ℕ → ℕ → Operation
put k v = record { key = k ∷ []; value = Some (v ∷ []) }

-- a value of n bytes
abbrev put_long : ℕ → ℕ → Operation
put_long k n = record { key = k ∷ []; value = Some (replicate n 0) }

abbrev delete : ℕ → Operation
delete k = record { key = k ∷ []; value = None }

abbrev commit : ℕ → ℕ → Call
commit k v = Commit (put k v ∷ [])

-- a store on a fresh format with log regions of 128 sectors
abbrev fresh : State
fresh = reopened 128 formatted

-- calls of a store in a state, that does no work
abbrev being : State → Machine
being s = record { state = s; work = no_work }

abbrev replies_to : State → List Call → List Reply
replies_to s calls = ample_replies (being s) (map Called calls)

abbrev state_after : State → List Call → State
state_after s calls = (ample_machine (being s) (map Called calls)).state

abbrev state_by : State → List Call → List Reply → State
state_by s calls replies = (last_machine (being s) (map Called calls) replies).state

abbrev RunFrom : State → List Call → List Reply → Type 0
RunFrom s calls replies = Run (being s) (map Called calls) replies

abbrev counts : List CrashState → List ℕ
counts all = map (λ left. left.count) all

-- the counts with the generations
abbrev with_generations : List CrashState → List (ℕ × ℕ)
with_generations all = map (λ left. (left.count, left.generation)) all

-- what the maps have at two keys
abbrev at_keys : List CrashState → List (Option Bytes × Option Bytes)
at_keys all = map (λ left. (finite.get left.map (0x61 ∷ []), finite.get left.map (0x62 ∷ []))) all

-- what the map after a put has, as a list
entries-put : (m : Map) (k v : Bytes) → finite.entries (finite.insert m k v) ≡ put_in byte_order k v (finite.entries m)
entries-put m k v = entries-insert nat_list_cmp_total m k v

entries_empty : finite.entries {X = Bytes} {R = byte_order} finite.empty ≡ []
entries_empty = nil_from_length (finite.entries finite.empty) (sym (len-entries finite.empty) ∙ len-empty byte_order Bytes)

-- ---- one commit: a text of 8 bytes, one sector of the 128

one_text : text_length (put 0x61 0x31 ∷ []) ≡ 8
unfolding batch_text
one_text = refl

one_commit : replies_to fresh (commit 0x61 0x31 ∷ LogRoom ∷ []) ≡ Number 1 ∷ Number 127 ∷ []
unfolding batch_text
one_commit = refl

one_commit_get : replies_to fresh (commit 0x61 0x31 ∷ Get Now (0x61 ∷ []) ∷ []) ≡ Number 1 ∷ Value (Some (0x31 ∷ [])) ∷ []
unfolding batch_text
one_commit_get = simp gets refl

-- ---- a text of 480 bytes takes one sector, of 481 two

one_sector : sectors_of (put_long 0x61 473 ∷ []) ≡ 1
unfolding batch_text
one_sector = refl

two_sectors : sectors_of (put_long 0x61 474 ∷ []) ≡ 2
unfolding batch_text
two_sectors = refl

-- ---- the greatest batch fills the log: 29 values of 2,048 bytes and one of 1,896

abbrev greatest : List Operation
greatest = map (λ k. put_long k 2048) (1 ∷ 2 ∷ 3 ∷ 4 ∷ 5 ∷ 6 ∷ 7 ∷ 8 ∷ 9 ∷ 10 ∷ 11 ∷ 12 ∷ 13 ∷ 14 ∷ 15 ∷ 16 ∷ 17 ∷ 18 ∷ 19 ∷ 20 ∷ 21 ∷ 22 ∷ 23 ∷ 24 ∷ 25 ∷ 26 ∷ 27 ∷ 28 ∷ 29 ∷ []) ++ put_long 30 1896 ∷ []

greatest_text : text_length greatest ≡ 61440
unfolding batch_text
greatest_text = refl

greatest_commit : replies_to fresh (Commit greatest ∷ LogRoom ∷ commit 1 1 ∷ []) ≡ Number 1 ∷ Number 0 ∷ Refused LogFull ∷ []
unfolding batch_text
greatest_commit = refl

-- one byte more
too_long : text_length (greatest ++ delete 1 ∷ []) ≡ 61443
unfolding batch_text
too_long = refl

-- ---- in one batch the later operation on a key wins

put_then_delete : finite.get (apply finite.empty (put 0x61 0x31 ∷ delete 0x61 ∷ [])) (0x61 ∷ []) ≡ None
put_then_delete = simp gets refl

delete_then_put : finite.get (apply finite.empty (delete 0x61 ∷ put 0x61 0x31 ∷ [])) (0x61 ∷ []) ≡ Some (0x31 ∷ [])
delete_then_put = simp gets refl

-- ---- a key has 1 to 255 bytes, and is tested before it is asked for

bad_keys : replies_to fresh (Get Now [] ∷ Get Now (replicate 256 0) ∷ Get Now (replicate 255 0) ∷ []) ≡ Refused BadKey ∷ Refused BadKey ∷ Value None ∷ []
bad_keys = simp gets refl

-- ---- two commits of one and two sectors, no sync: a crash leaves the map after none, one or both, no batch in part and
-- none skipped

abbrev two_commits : List Call
two_commits = commit 0x61 0x31 ∷ Commit (put_long 0x62 600 ∷ []) ∷ []

two_rooms : replies_to fresh (two_commits ++ LogRoom ∷ []) ≡ Number 1 ∷ Number 2 ∷ Number 125 ∷ []
unfolding batch_text
two_rooms = refl

two_counts : counts (may_leave (state_after fresh two_commits)) ≡ 0 ∷ 1 ∷ 2 ∷ []
unfolding batch_text
two_counts = refl

two_maps : at_keys (may_leave (state_after fresh two_commits)) ≡ (None, None) ∷ (Some (0x31 ∷ []), None) ∷ (Some (0x31 ∷ []), Some (replicate 600 0)) ∷ []
unfolding batch_text
two_maps = simp gets refl

-- ---- the second crash: what stood after the kept batches never comes back

-- three commits, and a crash that keeps the first
abbrev three_commits : List Call
three_commits = commit 0x61 0x31 ∷ commit 0x62 0x41 ∷ commit 0x63 0x33 ∷ []

abbrev after_one : CrashState
after_one = record { count = 1; map = finite.insert finite.empty (0x61 ∷ []) (0x31 ∷ []); closed = 1; generation = 2 }

may_keep_one : take 1 (drop 1 (may_leave (state_after fresh three_commits))) ≡ after_one ∷ []
unfolding batch_text
may_keep_one = refl

-- the next life goes on with number 2, and after its sync a crash leaves that alone
abbrev second_life : List Call
second_life = commit 0x62 0x32 ∷ Sync ∷ []

second_opening : (reopened 128 after_one).open_log ≡ Some (record { first = 2; used = 0 })
second_opening = refl

second_generation : (reopened 128 after_one).generation ≡ 3
second_generation = refl

second_replies : replies_to (reopened 128 after_one) second_life ≡ Number 2 ∷ Done ∷ []
unfolding batch_text
second_replies = refl

second_counts : counts (may_leave (state_after (reopened 128 after_one) second_life)) ≡ 2 ∷ []
unfolding batch_text
second_counts = refl

second_entries : map (λ left. finite.entries left.map) (may_leave (state_after (reopened 128 after_one) second_life)) ≡ ((0x61 ∷ [], 0x31 ∷ []) ∷ (0x62 ∷ [], 0x32 ∷ []) ∷ []) ∷ []
unfolding batch_text
second_entries = simp (entries-put, entries_empty) refl

-- ---- what a sync was answered for stays

synced_once : counts (may_leave (state_after fresh (commit 0x61 0x31 ∷ Sync ∷ commit 0x62 0x32 ∷ []))) ≡ 1 ∷ 2 ∷ []
unfolding batch_text
synced_once = refl

synced_twice : counts (may_leave (state_after fresh (commit 0x61 0x31 ∷ Sync ∷ commit 0x62 0x32 ∷ SyncTo 2 ∷ []))) ≡ 2 ∷ []
unfolding batch_text
synced_twice = refl

-- after a crash that kept the first: it is synced already, and there is no second
sync_to_replies : replies_to (reopened 128 after_one) (SyncTo 1 ∷ SyncTo 2 ∷ []) ≡ Done ∷ Refused NoSuchBatch ∷ []
sync_to_replies = refl

sync_to_asks_nothing : use_of (reopened 128 after_one) (SyncTo 1) ≡ Untouched
sync_to_asks_nothing = refl

sync_to_syncs : use_of (state_after fresh (commit 0x61 0x31 ∷ Sync ∷ commit 0x62 0x32 ∷ [])) (SyncTo 2) ≡ Changes
unfolding batch_text
sync_to_syncs = refl

-- ---- a sync that faults stops the store, and what was synced before stays

stopped_run : RunFrom fresh (Sync ∷ Get Now (0x61 ∷ []) ∷ commit 0x61 0x31 ∷ SyncTo 0 ∷ []) (Refused Io ∷ Refused Stopped ∷ Refused Stopped ∷ Refused Stopped ∷ [])
stopped_run = search rules

stopped_leaves : counts (may_leave (state_by (state_after fresh (commit 0x61 0x31 ∷ Sync ∷ commit 0x62 0x32 ∷ [])) (Sync ∷ commit 0x61 0x31 ∷ []) (Refused Io ∷ Refused Stopped ∷ []))) ≡ 1 ∷ 2 ∷ 2 ∷ []
unfolding batch_text
stopped_leaves = refl

-- a commit that faults may have its batch kept
in_flight_leaves : counts (may_leave (state_by fresh (commit 0x61 0x31 ∷ []) (Refused Io ∷ []))) ≡ 0 ∷ 1 ∷ []
unfolding batch_text
in_flight_leaves = refl

inside_leaves : counts (left_inside fresh (commit 0x61 0x31)) ≡ 0 ∷ 1 ∷ []
unfolding batch_text
inside_leaves = refl

-- ---- a rotation closes a log that holds batches, and opens a whole one; what it sealed waits

rotated_once : replies_to fresh (commit 0x61 0x31 ∷ Rotate ∷ Rotate ∷ LogRoom ∷ []) ≡ Number 1 ∷ Done ∷ Refused SealedWaiting ∷ Number 128 ∷ []
unfolding batch_text
rotated_once = refl

rotated_unused : replies_to fresh (Rotate ∷ []) ≡ Refused NothingToRotate ∷ []
rotated_unused = refl

-- it makes all batches outlast a crash
rotated_leaves : counts (may_leave (state_after fresh (commit 0x61 0x31 ∷ Rotate ∷ commit 0x62 0x32 ∷ []))) ≡ 1 ∷ 2 ∷ []
unfolding batch_text
rotated_leaves = refl

-- one that faults may have closed the log: then the present map is left in a state of a generation more
rotation_in_flight_leaves : with_generations (may_leave (state_by fresh (commit 0x61 0x31 ∷ Rotate ∷ []) (Number 1 ∷ Refused Io ∷ []))) ≡ (0, 2) ∷ (1, 2) ∷ (1, 3) ∷ []
unfolding batch_text
rotation_in_flight_leaves = refl

-- ---- a snapshot stays as it was, and a page tells where the next one begins

abbrev three_puts : Call
three_puts = Commit (put 0x61 0x31 ∷ put 0x62 0x32 ∷ put 0x63 0x33 ∷ [])

snapshot_stays : replies_to fresh (commit 0x61 0x31 ∷ Snapshot ∷ commit 0x61 0x32 ∷ Get (Snap 1) (0x61 ∷ []) ∷ Get Now (0x61 ∷ []) ∷ Release 1 ∷ Get (Snap 1) (0x61 ∷ []) ∷ [])
    ≡ Number 1 ∷ Number 1 ∷ Number 2 ∷ Value (Some (0x31 ∷ [])) ∷ Value (Some (0x32 ∷ [])) ∷ Done ∷ Refused NoSuchSnapshot ∷ []
unfolding batch_text
snapshot_stays = simp gets refl

first_rows : replies_to fresh (three_puts ∷ Scan Now [] None 2 ∷ [])
    ≡ Number 1 ∷ Rows (record { rows = (0x61 ∷ [], 0x31 ∷ []) ∷ (0x62 ∷ [], 0x32 ∷ []) ∷ []; next = Some (0x63 ∷ []) }) ∷ []
unfolding batch_text
first_rows = simp (entries-put, entries_empty) refl

last_rows : replies_to fresh (three_puts ∷ Scan Now (0x62 ∷ []) (Some (0x63 ∷ [])) 2 ∷ []) ≡ Number 1 ∷ Rows (record { rows = (0x62 ∷ [], 0x32 ∷ []) ∷ []; next = None }) ∷ []
unfolding batch_text
last_rows = simp (entries-put, entries_empty) refl

refused_rows : replies_to fresh (Scan Now (0x63 ∷ []) (Some (0x62 ∷ [])) 5 ∷ Scan Now [] None 0 ∷ Scan Now [] None 65 ∷ Scan (Snap 1) [] None 1 ∷ [])
    ≡ Refused BadRange ∷ Refused BadLimit ∷ Refused BadLimit ∷ Refused NoSuchSnapshot ∷ []
refused_rows = refl

-- ---- 32 snapshots may live, and no number is given twice

abbrev after_32 : State
after_32 = state_after fresh (replicate 32 Snapshot)

snapshots_end : replies_to after_32 (Snapshot ∷ Release 5 ∷ Snapshot ∷ []) ≡ Refused TooManySnapshots ∷ Done ∷ Number 33 ∷ []
snapshots_end = refl

snapshots_are_gone : (left : CrashState) → replies_to (reopened 128 left) (Get (Snap 1) (0x61 ∷ []) ∷ Snapshot ∷ []) ≡ Refused NoSuchSnapshot ∷ Number 1 ∷ []
snapshots_are_gone left = refl

-- ---- three lives with a batch each fill the three regions: then no log is open

three_lives : (m : Map) → replies_to (reopened 128 (record { count = 3; map = m; closed = 3; generation = 4 })) (commit 0x61 0x31 ∷ LogRoom ∷ []) ≡ Refused LogFull ∷ Number 0 ∷ []
unfolding batch_text
three_lives m = refl

-- ---- the last numbers: of a batch, and of a generation

last_batch : (m : Map) → replies_to (reopened 128 (record { count = 2 ^ 63; map = m; closed = 0; generation = 4 })) (commit 0x61 0x31 ∷ []) ≡ Refused Exhausted ∷ []
last_batch m = refl

last_generation : (m : Map) → left_by_opening (record { count = 3; map = m; closed = 0; generation = 2 ^ 63 }) ≡ record { count = 3; map = m; closed = 0; generation = 2 ^ 63 } ∷ []
last_generation m = refl
