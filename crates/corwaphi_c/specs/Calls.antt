-- What a call in C makes of the store that its handle leads to, and what it answers.
use Rattle.std.specs.Prelude.{◌≡◌, ◌⊎◌, ◌<◌, ◌≤◌, ℕ, Bool, List, [], ◌∷◌, length, take, map, Option, Some, None, option_map, true, ◌==◌, if◌then◌else◌, MatchResult}
use Rattle.lsm_codec.specs.BatchText.{batch_of}
use Rattle.lsm_codec.specs.Guards.{Condition}
use Rattle.lsm_codec.specs.Keys.{Bytes}
use Rattle.lsm_codec.specs.Map.{Operation}
use Rattle.lsm_device.specs.Disk.{Disk}
use Rattle.lsm_device.specs.Refusals.{number_of}
use Rattle.lsm_device.specs.declared.refusal.Refusal.{Refusal}
use Rattle.lsm_device.specs.declared.refusal.Refusal.TheVariants.{GuardFailed}
use Rattle.lsm_store.specs.Backing.{StoreView, machine_of}
use Rattle.lsm_store.specs.Stats.{stat_answer}
use Rattle.lsm_store.specs.declared.stat.Stat.{Stat}
use Rattle.lsm_machine.specs.Machine.{Machine}
use Rattle.lsm_machine.specs.Calls.{Call, Reply, Number, Done, Value, Rows, Refused, Sync, SyncTo}
use Rattle.lsm_store.specs.Serving.{Serves}
use Rattle.lsm_machine.specs.declared.asked.At.{At}
use Rattle.lsm_machine.specs.declared.asked.At.TheVariants.{Now, Snap}
use Rattle.lsm_mapped.specs.Disks.{IsFilledWith, IsPast, after_records, mapped}
use Rattle.lsm_mapped.specs.Records.{Record}
use Rattle.lsm_upkeep.specs.Writing.{IsServed, LacksRoom, commit_of, wants_room, without_log_full}
use Rattle.corwaphi_c.specs.Pages.{IsPage}
use Rattle.corwaphi_c.specs.declared.answers.PageTold.{PageTold}
use Rattle.corwaphi_c.specs.declared.kept.Kept.{Kept}
use Rattle.corwaphi_c.specs.declared.numbers.Numbers.{Numbers}

-- ---- the store

-- the store on another device of its size
pub record IsMoved (old new : StoreView) : Type 0 where
  pub is : new ≡ record old { device = new.device }
  pub same_size : new.device.size ≡ old.device.size

-- the store that is kept in a slot
abbrev pub store_in : Option Kept → Option StoreView
store_in (Some kept) = kept.store
store_in None = None

-- ---- what the host lends

-- An image shows the last of these disks, which the device of the store that is kept has had.
abbrev pub IsShown : Option StoreView → List ℕ → List Disk → Type 0
IsShown store image past = (s : StoreView) → store ≡ Some s → IsPast s.device.size image past

-- of a call: the disks that the device has had before, and afterwards the journal, and how many of its bytes are filled
pub record Loan : Type 0 where
  pub past : List Disk
  pub used : ℕ
  pub journal : List ℕ

-- of a call that has no journal
abbrev pub no_journal : List Disk → Loan
no_journal past = record { past = past; used = 0; journal = [] }

-- a store on the device of a call, whose journal has a name
abbrev pub lent_to : List Disk → ℕ → StoreView → StoreView
lent_to past name s = record s { device = mapped s.device.size past name }

-- What a device of n sectors has had written and synced since are records: the journal is filled with their text, and the disks are
-- those that the device has had once a host makes them.
pub record IsWritten (n : ℕ) (loan : Loan) (history : List Disk) : Type 0 where
  pub records : List Record
  pub filled : IsFilledWith n loan.used loan.journal records
  pub made : history ≡ after_records records loan.past

-- ---- what is made of the store that is kept

-- On the device of a call this was made of a store, which is kept then.
pub record IsMade (R : StoreView → StoreView → Type 0) (loan : Loan) (old : StoreView) (kept : Option StoreView) : Type 0 where
  pub name : ℕ
  pub left : StoreView
  pub made : R (lent_to loan.past name old) left
  pub written : IsWritten old.device.size loan left.device.history
  pub parked : StoreView
  pub back : IsMoved left parked
  pub is : kept ≡ Some parked

-- This was made of the store that was kept, which is kept again.
abbrev pub Makes : (StoreView → StoreView → Type 0) → Loan → Option StoreView → Option StoreView → Type 0
Makes R loan store kept = (s : StoreView) → store ≡ Some s → IsMade R loan s kept

-- nothing was made: the journal is empty, and the store is kept as it was
abbrev pub IsLeft : Loan → StoreView → Option StoreView → Type 0
IsLeft loan s kept = (loan.used ≡ 0) × (kept ≡ Some s)

-- This was made of a store if the journal of the call has room for any; a shorter one is refused (28).
abbrev pub IsMadeIn : (StoreView → StoreView → Type 0) → ℕ → Loan → StoreView → Option StoreView → Type 0
IsMadeIn R answer loan s kept =
    ((65664 ≤ length loan.journal) × IsMade R loan s kept)
    ⊎ ((length loan.journal < 65664) × (answer ≡ 28) × IsLeft loan s kept)

-- so of the store that was kept, and is kept again
abbrev pub MakesIn : (StoreView → StoreView → Type 0) → ℕ → Loan → Option StoreView → Option StoreView → Type 0
MakesIn R answer loan store kept = (s : StoreView) → store ≡ Some s → IsMadeIn R answer loan s kept

-- So it was made on no device.
abbrev pub MakesParked : (StoreView → StoreView → Type 0) → Option StoreView → Option StoreView → Type 0
MakesParked R store kept = (s : StoreView) → store ≡ Some s → (left : StoreView) × R s left × (kept ≡ Some left)

-- the map that a number names: the present one by the last of 64 bits, and else that of a snapshot
abbrev pub at_of : ℕ → At
at_of n = if n == 18446744073709551615 then Now else Snap n

-- the end of a range, where there is one
abbrev pub end_of : Bool → Bytes → Option Bytes
end_of has_end end = if has_end then Some end else None

-- the operations of a text as guards: a put says that its key has its value, a delete that its key has none
abbrev pub condition_of : Operation → Condition
condition_of operation = record { key = operation.key; value = operation.value }

-- the guards that a text says, no bytes none of them
abbrev pub guards_of : List ℕ → Option (List Condition)
guards_of [] = Some []
guards_of (first ∷ rest) = option_map (map condition_of) (batch_of (first ∷ rest))

-- the guards and the batch that two texts say, where each says some
abbrev pub both_of : Option (List Condition) → Option (List Operation) → Option (List Condition × List Operation)
both_of (Some guards) (Some batch) = Some (guards, batch)
both_of (Some guards) None = None
both_of None batch = None

-- ---- what is answered

-- nothing but that it is done, or was refused
abbrev pub IsDone : Reply → ℕ → Type 0
IsDone Done answer = answer ≡ 0
IsDone (Refused e) answer = answer ≡ number_of e
IsDone other answer = ⊥

-- a number, or a refusal
abbrev pub IsNumber : Reply → ℕ → ℕ → Type 0
IsNumber (Number n) answer number = (answer ≡ 0) × (number ≡ n)
IsNumber (Refused e) answer number = answer ≡ number_of e
IsNumber other answer number = ⊥

-- a value of this length, which is in the room where it fits there; 32 for none, 33 for a room that is too short
abbrev pub IsValue : Reply → ℕ → List ℕ → ℕ → Type 0
IsValue (Value (Some bytes)) answer room size = (size ≡ length bytes) × (((answer ≡ 0) × (take (length bytes) room ≡ bytes)) ⊎ ((answer ≡ 33) × (length room < length bytes)))
IsValue (Value None) answer room size = answer ≡ 32
IsValue (Refused e) answer room size = answer ≡ number_of e
IsValue other answer room size = ⊥

-- the place of the guard that is false
abbrev pub IsPlace : Reply → ℕ → Type 0
IsPlace (Refused (GuardFailed n)) place = place ≡ n
IsPlace other place = Unit {0}

-- a page, or a refusal
abbrev pub IsRows : Reply → ℕ → List ℕ → PageTold → Type 0
IsRows (Rows page) answer room told = IsPage page answer room told
IsRows (Refused e) answer room told = answer ≡ number_of e
IsRows other answer room told = ⊥

-- the numbers of a store, and how many of its batches are synced
abbrev pub numbers_of : Stat → ℕ → Numbers
numbers_of stat synced = record {
  generation = stat.generation;
  batches = stat.batches;
  synced = synced;
  runs = stat.runs;
  tables = stat.tables;
  log_room = stat.room;
  free_blocks = stat.free_blocks;
  waiting = stat.waiting;
}

-- the numbers of a store are told, or it is stopped
abbrev pub IsStat : StoreView → ℕ → Numbers → Type 0
IsStat s answer numbers = MatchResult (stat_answer (machine_of s))
    (λ stat. (answer ≡ 0) × (numbers ≡ numbers_of stat s.state.points.synced))
    (λ e. answer ≡ number_of e)

-- something was asked of a store: a stopped one refuses it
abbrev pub IsAsked : Machine → ℕ → Type 0
IsAsked m answer = MatchResult (stat_answer m) (λ _. answer ≡ 0) (λ e. answer ≡ number_of e)

-- ---- calls

-- the sync up to a number, or of all batches
abbrev pub sync_of : Option ℕ → Call
sync_of (Some number) = SyncTo number
sync_of None = Sync

-- a call was served, and its reply answered so
abbrev pub Answers : Call → (Reply → Type 0) → StoreView → StoreView → Type 0
Answers call told lent left = (reply : Reply) × Serves lent call reply left × told reply

-- A batch was committed, where guards are given under them, and its reply told so; it was refused with NoSpace (13), which only one is
-- that wants room, with nothing in memory only by a store that is crowded for it; or work comes first (64). LogFull is answered as NoSpace.
abbrev pub Commits : Option (List Condition) → List Operation → (Reply → Type 0) → ℕ → StoreView → StoreView → Type 0
Commits guards batch told answer lent left =
    ((reply : Reply) × IsServed (commit_of guards batch) lent reply left × told (without_log_full reply))
    ⊎ (((answer ≡ 13) × (wants_room batch lent.state ≡ true) × LacksRoom batch lent × (left ≡ lent))
    ⊎ ((answer ≡ 64) × (left ≡ lent)))

-- So it is of one operation, unless this refuses it, or there was no memory for its batch (1): then the store is kept as it was.
abbrev pub CommitsOneIn : Option Refusal → Operation → ℕ → ℕ → Loan → StoreView → Option StoreView → Type 0
CommitsOneIn (Some e) operation answer number loan s kept = (answer ≡ number_of e) × IsLeft loan s kept
CommitsOneIn None operation answer number loan s kept = IsMadeIn (Commits None (operation ∷ []) (λ reply. IsNumber reply answer number) answer) answer loan s kept ⊎ ((answer ≡ 1) × IsLeft loan s kept)

-- the same of the store that was kept
abbrev pub CommitsOne : Option Refusal → Operation → ℕ → ℕ → Loan → Option StoreView → Option StoreView → Type 0
CommitsOne refusal operation answer number loan store kept = (s : StoreView) → store ≡ Some s → CommitsOneIn refusal operation answer number loan s kept

-- A text was not read: there was no memory for it (1), or it says nothing (34).
abbrev pub IsUnread : {X : Type 0} → Option X → ℕ → Type 0
IsUnread said answer = (answer ≡ 1) ⊎ ((answer ≡ 34) × (said ≡ None))

-- This was made of what a text says; or it was not read, and the store is kept as it was.
abbrev pub MakesOf : {X : Type 0} → Option X → (X → StoreView → StoreView → Type 0) → ℕ → Loan → Option StoreView → Option StoreView → Type 0
MakesOf {X} said R answer loan store kept = (s : StoreView) → store ≡ Some s → ((x : X) × (said ≡ Some x) × IsMadeIn (R x) answer loan s kept) ⊎ (IsUnread said answer × IsLeft loan s kept)

-- so a batch is committed that is given by its text
abbrev pub CommitsText : List ℕ → ℕ → ℕ → Loan → Option StoreView → Option StoreView → Type 0
CommitsText text answer number = MakesOf (batch_of text) (λ batch. Commits None batch (λ reply. IsNumber reply answer number) answer) answer

-- and so under guards, which are given as a text too
abbrev pub CommitsTextIf : List ℕ → List ℕ → ℕ → ℕ → ℕ → Loan → Option StoreView → Option StoreView → Type 0
CommitsTextIf guards text answer number place = MakesOf (both_of (guards_of guards) (batch_of text))
    (λ both. Commits (Some both.0) both.1 (λ reply. IsNumber reply answer number × IsPlace reply place) answer) answer
