-- What a crash leaves of a store, and what an opening makes of that.
use Rattle.std.specs.Prelude.{◌≡◌, ◌≢◌, ◌≤◌, ◌^◌, ◌+◌, ◌==◌, ℕ, zero, suc, List, [], ◌∷◌, Contains, if◌then◌else◌}
use Rattle.std.specs.FinMap as finite
use Rattle.lsm_codec.specs.Map.{Map}
use Rattle.lsm_device.specs.declared.refusal.Refusal.{Refusal}
use Rattle.lsm_device.specs.declared.refusal.Refusal.TheVariants.{NoMemory, Io, Exhausted}

-- the greatest number of a batch or a generation
abbrev pub last_number : ℕ
last_number = 2 ^ 63

-- What a crash leaves: the map after the first `count` batches, how many closed log regions hold batches, and the
-- generation.
pub record CrashState : Type 0 where
  pub count : ℕ
  pub map : Map
  pub closed : ℕ
  pub generation : ℕ

-- what a format leaves
abbrev pub formatted : CrashState
formatted = record { count = 0; map = finite.empty; closed = 0; generation = 1 }

-- the same in the next generation
abbrev pub in_next_generation : CrashState → CrashState
in_next_generation left = record left { generation = left.generation + 1 }

-- A crash inside an opening, or after its refusal, leaves the same again, in this generation or the next. There is none
-- after the last.
abbrev pub left_by_opening : CrashState → List CrashState
left_by_opening left = if left.generation == last_number then left ∷ [] else left ∷ in_next_generation left ∷ []

-- An opening of what a crash left may return a store: in each generation but the last.
abbrev pub MayOpen : CrashState → Type 0
MayOpen left = left.generation ≢ last_number

-- An opening of what a crash left may fail with this: for want of memory, because of a fault of the device, or exactly
-- in the last generation because there is no next.
abbrev pub MayRefuseOpening : CrashState → Refusal → Type 0
MayRefuseOpening left NoMemory = Unit {0}
MayRefuseOpening left Io = Unit {0}
MayRefuseOpening left Exhausted = left.generation ≡ last_number
MayRefuseOpening left other = ⊥

-- `openings` consecutive openings, each crashed or refused, leave this at last
abbrev pub IsLeftAgain : CrashState → ℕ → CrashState → Type 0
IsLeftAgain first zero last = last ≡ first
IsLeftAgain first (suc openings) last = (mid : CrashState) × IsLeftAgain first openings mid × Contains (left_by_opening mid) last

-- the same batches, map and regions, in a generation that went up by at most one an opening, and never past the last
pub record IsSameAgain (first : CrashState) (openings : ℕ) (last : CrashState) : Type 0 where
  pub same : last ≡ record first { generation = last.generation }
  pub not_before : first.generation ≤ last.generation
  pub at_most : last.generation ≤ first.generation + openings
  pub never_past : last.generation ≤ last_number
