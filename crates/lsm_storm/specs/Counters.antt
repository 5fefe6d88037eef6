-- A counter that clients raise together: each asks for it, and puts one more under the guard that nobody did meanwhile.
use Rattle.std.specs.Prelude.{◌≡◌, ◌<◌, ◌^◌, ℕ, ◌+◌, ◌==◌, List, [], ◌∷◌, length, Option, Some, None, if◌then◌else◌}
use Rattle.std.specs.FinMap as finite
use Rattle.std.specs.List.{AllByRecursion}
use Rattle.byteorder.specs.Endian.{big_number, big_bytes}
use Rattle.lsm_codec.specs.Guards.{Condition}
use Rattle.lsm_codec.specs.Keys.{Bytes}
use Rattle.lsm_codec.specs.Map.{Map, Operation}
use Rattle.lsm_machine.specs.Calls.{Call}
use Rattle.lsm_machine.specs.Calls.{CommitIf, Get}
use Rattle.lsm_machine.specs.Machine.{Step, Called}
use Rattle.lsm_trail.specs.History.{Event}
use Rattle.lsm_trail.specs.Knowledge.{Known}

-- ---- the counter

-- its key
abbrev pub counter_key : Bytes
counter_key = 0 ∷ []

-- the count that a value says: eight bytes, the high one first; no value says 0, as does any other
abbrev pub count_said : Option Bytes → ℕ
count_said None = 0
count_said (Some bytes) = if length bytes == 8 then big_number 8 bytes else 0

-- that of a map
abbrev pub counted_in : Map → ℕ
counted_in m = count_said (finite.get m counter_key)

-- ---- raising it

-- the guard that it still has a value, or none
abbrev pub unchanged : Option Bytes → Condition
unchanged old = record { key = counter_key; value = old }

-- the batch that gives it a count
abbrev pub next_count : ℕ → List Operation
next_count count = record { key = counter_key; value = Some (big_bytes 8 count) } ∷ []

-- Guards and a batch raise it by one: it is to have some value still, and gets the next count.
pub record Raises (guards : List Condition) (batch : List Operation) : Type 0 where
  pub old : Option Bytes
  pub count : ℕ
  pub fits : count < 2 ^ 64
  pub next : count ≡ count_said old + 1
  pub guarded : guards ≡ unchanged old ∷ []
  pub puts : batch ≡ next_count count

-- a call of a client that counts: it asks for a value, or raises the counter
abbrev pub IsCounting : Call → Type 0
IsCounting (Get at key) = Unit {0}
IsCounting (CommitIf guards batch) = Raises guards batch
IsCounting other = ⊥

abbrev pub IsCountingStep : Step → Type 0
IsCountingStep (Called call) = IsCounting call
IsCountingStep other = ⊥

-- all entries are such
abbrev pub AreCounting : List Event → Type 0
AreCounting log = AllByRecursion (λ e. IsCountingStep e.step) log

-- a client that has only counted goes on so
pub record GoesOnCounting (old new : Known) : Type 0 where
  pub number : new.number ≡ old.number
  pub counting : AreCounting old.mine → AreCounting new.mine
