-- The rule of the words that are read without the lock. Word 0 is the length of the history, and the numbers of its
-- beginning with k entries stand from word 3 k + 1 on.
use Rattle.std.specs.Prelude.{◌≡◌, ℕ, ◌+◌, ◌*◌, ◌<◌, ◌≤◌, List, [], ◌∷◌, length, slice_index, Option, Some, None}
use mathlib.Core.List.{IsPrefix}
use mathlib.Core.Option.{some}
use lib.ListN.{get_elem?}
use Rattle.atomic_table.specs.Table.{State}
use Rattle.lsm_trail.specs.Begins.{Begin}
use Rattle.lsm_trail.specs.History.{Event, IsLegal, entries_by, numbers}
use Rattle.lsm_trail.specs.Knowledge.{Keeper, Known, View, keeping, view_of}
use Rattle.lsm_trail.specs.declared.numbers.Numbers.{Numbers}

-- the numbers stand from this word on
abbrev pub StandsAt : List ℕ → ℕ → Numbers → Type 0
StandsAt words at n = (slice_index words at ≡ n.calls) × (slice_index words (at + 1) ≡ n.batches) × (slice_index words (at + 2) ≡ n.synced)

-- these words stand from this place on
abbrev pub Drafted : List ℕ → ℕ → List ℕ → Type 0
Drafted words at [] = Unit {0}
Drafted words at (d ∷ ds) = (slice_index words at ≡ d) × Drafted words (at + 1) ds

-- one pass has the lock's part, which is the whole history, and how many clients there are
abbrev pub FitsKeeper : Begin → List Event → ℕ → ℕ → List ℕ → ℕ → Option Keeper → Type 0
FitsKeeper b log dealt writer words by None = Unit {0}
FitsKeeper b log dealt writer words by (Some k) = (k.begin ≡ b) × (by ≡ writer) × (k.log ≡ log) × (k.dealt ≡ dealt) × Drafted words (3 * length log + 4) k.draft

-- one pass has the part of each client: a beginning of the history, and all that the history has of this client
abbrev pub FitsClient : Begin → List Event → ℕ → (ℕ → ℕ) → ℕ → Option Known → Type 0
FitsClient b log dealt seat by None = Unit {0}
FitsClient b log dealt seat by (Some c) = (c.begin ≡ b) × (seat c.number ≡ by) × (c.number < dealt) × IsPrefix c.seen log × (entries_by c.number log ≡ c.mine)

-- what a pass was told is a beginning of the history
abbrev pub Fits : Begin → List Event → ℕ → ℕ → (ℕ → ℕ) → List ℕ → ℕ → View → Type 0
Fits b log dealt writer seat words by v = FitsKeeper b log dealt writer words by v.keeper × FitsClient b log dealt seat by v.client × IsPrefix v.told log

-- There is one legal history. The words are the numbers of its beginnings, and only the clients have calls in it.
pub record Kept (b : Begin) (s : State Event View) : Type 0 where
  pub log : List Event
  pub dealt : ℕ
  pub writer : ℕ
  pub seat : ℕ → ℕ
  pub legal : IsLegal b log
  pub wide : length s.words ≡ 3 * b.limit + 4
  pub room : length log ≤ b.limit
  pub count : slice_index s.words 0 ≡ length log
  pub rows : (seen : List Event) → IsPrefix seen log → StandsAt s.words (3 * length seen + 1) (numbers b seen)
  pub strangers : (c : ℕ) → dealt ≤ c → entries_by c log ≡ []
  pub fits : (by : ℕ) (v : View) → get_elem? s.views by ≡ some v → Fits b log dealt writer seat s.words by v

-- what the first pass knows: there is no entry and no client yet
abbrev pub first_view : Begin → View
first_view b = view_of (Some (keeping b 0 [] [])) None
