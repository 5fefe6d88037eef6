-- Look-ups: which places are asked, and what is found.
use Rattle.std.specs.Prelude.{◌≡◌, ◌⊎◌, ℕ, Bool, true, is_some, List, [], ◌∷◌, map, Option, Some, None, option_map, option_and_then, Result, Ok, Err, Vec}
use Rattle.std.specs.Option.{option_or}
use denote.Ref.{Bor}
use Rattle.lsm_device.specs.declared.refusal.Refusal.{Refusal}
use Rattle.lsm_device.specs.declared.refusal.Refusal.TheVariants.{NoMemory}
use Rattle.lsm_codec.specs.Guards.{Condition, is_same_value}
use Rattle.lsm_codec.specs.Keys.{Bytes}
use Rattle.lsm_codec.specs.Versions.{Version, newest}
use Rattle.lsm_levels.specs.Tables.{Table, versions_of}
use Rattle.lsm_levels.specs.Asking.{Source, Says, asked_of_run}

-- a version that was found, or a refusal, ends a look-up; else it goes on
abbrev pub EndsOr : Result (Option Version) Refusal → Type 0 → Type 0 → Type 0
EndsOr (Ok None) ends goes_on = goes_on
EndsOr (Ok (Some v)) ends goes_on = ends
EndsOr (Err refusal) ends goes_on = ends

-- A look-up in runs, the newer first: of each run the one block is asked for, until one says something of the key.
abbrev pub LooksUp : ℕ → Bytes → ℕ → List (List Table) → Result (Option Version) Refusal → Source → Source → Type 0
LooksUp area key n [] found old new = (found ≡ Ok None) × (new ≡ old)
LooksUp area key n (run ∷ older) found old new =
    (first : Result (Option Version) Refusal) × (mid : Source) × Says key n (asked_of_run area key n run) first old mid × EndsOr first ((found ≡ first) × (new ≡ mid)) (LooksUp area key n older found mid new)

-- a look-up in runs, where nothing newer has a version of the key
abbrev pub LooksUpUnless : Option Version → ℕ → Bytes → ℕ → List (List Table) → Result (Option Version) Refusal → Source → Source → Type 0
LooksUpUnless (Some v) area key n runs found old new = (found ≡ Ok (Some v)) × (new ≡ old)
LooksUpUnless None area key n runs found old new = LooksUp area key n runs found old new

-- the value that was found, none where there is no version or it deletes the key
abbrev pub value_of : Option Version → Option Bytes
value_of found = option_and_then (λ v. v.value) found

-- what is answered of a value: a copy of it, or that memory for the copy was refused
abbrev pub Copies : Option Bytes → Result (Option Bytes) Refusal → Type 0
Copies value answer = (answer ≡ Ok value) ⊎ ((answer ≡ Err NoMemory) × (is_some value ≡ true))

-- what is answered of what was found: a copy of its value, or the refusal
abbrev pub CopiesFound : Result (Option Version) Refusal → Result (Option Bytes) Refusal → Type 0
CopiesFound (Ok found) answer = Copies (value_of found) answer
CopiesFound (Err refusal) answer = answer ≡ Err refusal

-- whether what was found meets a condition, or the refusal
abbrev pub met_by : Result (Option Version) Refusal → Condition → Result Bool Refusal
met_by (Ok found) condition = Ok (is_same_value (value_of found) condition.value)
met_by (Err refusal) condition = Err refusal

-- an answer, as a clause sees it
abbrev pub answer_of : {Z : Type 0} → Result (Option (Vec ℕ Z)) Refusal → Result (Option Bytes) Refusal
answer_of (Ok value) = Ok (option_map (λ v. v.items) value)
answer_of (Err refusal) = Err refusal

-- A key is looked up in memory, in sealed memory, and then in runs.
pub record IsLookUp (memory sealed : List Version) (runs : List (List Table)) (area : ℕ) (key : Bytes) (n : ℕ) (answer : Result (Option Bytes) Refusal) (old new : Source) : Type 0 where
  pub found : Result (Option Version) Refusal
  pub looks : LooksUpUnless (option_or (newest key n memory) (newest key n sealed)) area key n runs found old new
  pub answers : CopiesFound found answer

-- A condition is tested: its key is looked up so, and what is found meets it or doesn't.
pub record IsTest (memory sealed : List Version) (runs : List (List Table)) (area : ℕ) (condition : Condition) (n : ℕ) (answer : Result Bool Refusal) (old new : Source) : Type 0 where
  pub found : Result (Option Version) Refusal
  pub looks : LooksUpUnless (option_or (newest condition.key n memory) (newest condition.key n sealed)) area condition.key n runs found old new
  pub answers : answer ≡ met_by found condition

-- the versions in each place, the newer first: memory, sealed memory, and runs
abbrev pub versions_in_places : List Version → List Version → List (List Table) → List (List Version)
versions_in_places memory sealed runs = memory ∷ sealed ∷ map versions_of runs

-- the versions in sealed memory, if there is one
abbrev pub sealed_now : Option (Bor (List Version)) → List Version
sealed_now None = []
sealed_now (Some sealed) = sealed.now
