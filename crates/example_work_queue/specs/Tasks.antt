-- The rows of a queue, and what they say of each task.
use Rattle.std.specs.Prelude.{◌≡◌, ◌⊎◌, ◌<◌, ◌≤◌, ◌^◌, ◌&&◌, ℕ, nat_le, Bool, true, false, IsNone, IsSome, drop, List, [], ◌∷◌, Option, Some, None}
use Rattle.std.specs.FinMap as finite
use Rattle.byteorder.specs.Endian.{big_bytes, big_number}
use Rattle.lsm_codec.specs.Keys.{Bytes}
use Rattle.lsm_codec.specs.Map.{Map}

-- ---- rows

-- the eight bytes of a number, the highest first
unfoldable pub number_bytes : ℕ → Bytes
number_bytes number = big_bytes 8 number

-- the number in eight bytes
unfoldable pub number_in : Bytes → ℕ
number_in bytes = big_number 8 bytes

-- the key of the last number that was given: "n"
abbrev pub last_key : Bytes
last_key = 110 ∷ []

-- the key of a task that waits: "w" and its number
abbrev pub waiting_key : ℕ → Bytes
waiting_key number = 119 ∷ number_bytes number

-- the key of a task that is claimed: "c" and its number
abbrev pub claimed_key : ℕ → Bytes
claimed_key number = 99 ∷ number_bytes number

-- the number in a row, 0 where there is none
abbrev pub number_of : Option Bytes → ℕ
number_of (Some bytes) = number_in bytes
number_of None = 0

-- the number and the task in the first of the rows of tasks that wait
abbrev pub first_task : List (Bytes × Bytes) → Option (ℕ × Bytes)
first_task [] = None
first_task (row ∷ rest) = Some (number_in (drop 1 row.0), row.1)

-- the last number that was given, 0 where none was
abbrev pub last_given : Map → ℕ
last_given m = number_of (finite.get m last_key)

-- ---- tasks

pub data Status : Type 0 where
  -- no task has the number yet
  NotGiven : Status
  Waiting : Bytes → Status
  Claimed : Bytes → Status
  Finished : Status

-- whether a number was given to a task: they are given from 1 on, one after another
abbrev pub is_given : Map → ℕ → Bool
is_given m number = nat_le 1 number && nat_le number (last_given m)

abbrev pub status_by : Bool → Option Bytes → Option Bytes → Status
status_by false waiting claimed = NotGiven
status_by true (Some task) claimed = Waiting task
status_by true None (Some task) = Claimed task
status_by true None None = Finished

-- what a map says of the task of a number
abbrev pub status : Map → ℕ → Status
status m number = status_by (is_given m number) (finite.get m (waiting_key number)) (finite.get m (claimed_key number))

-- ---- queues

-- no number was given, or the last one stands in eight bytes
abbrev pub IsLastRow : Option Bytes → Type 0
IsLastRow row = IsNone row ⊎ ((number : ℕ) × (number < 2 ^ 64) × (row ≡ Some (number_bytes number)))

-- a key of one of the tasks up to this number
abbrev pub IsTaskKey : ℕ → Bytes → Type 0
IsTaskKey last key = (number : ℕ) × (1 ≤ number) × (number ≤ last) × ((key ≡ waiting_key number) ⊎ (key ≡ claimed_key number))

-- A map that holds a queue, and nothing else.
pub record IsQueue (m : Map) : Type 0 where
  pub last : IsLastRow (finite.get m last_key)
  -- each row is of a task that was given, but for that of the last number
  pub rows : (key : Bytes) → IsSome (finite.get m key) → (key ≡ last_key) ⊎ IsTaskKey (last_given m) key
  -- no task waits and is claimed
  pub apart : (number : ℕ) → IsNone (finite.get m (waiting_key number)) ⊎ IsNone (finite.get m (claimed_key number))
