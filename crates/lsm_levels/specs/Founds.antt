-- What the steps of a look-up answer.
use Rattle.std.specs.Prelude.{◌≡◌, ℕ, Bool, List, Option, option_map, Result, Ok, Err}
use Rattle.lsm_device.specs.declared.refusal.Refusal.{Refusal}
use Rattle.lsm_codec.specs.Guards.{Condition}
use Rattle.lsm_codec.specs.Keys.{Bytes}
use Rattle.lsm_codec.specs.Versions.{Version}
use Rattle.lsm_table.specs.Spans.{Span, spanned}
use Rattle.lsm_levels.specs.Tables.{Table}
use Rattle.lsm_levels.specs.Asking.{Source}
use Rattle.lsm_levels.specs.Lookups.{LooksUp, CopiesFound, met_by}

-- the version that lies so in a block, if one does, or a refusal
abbrev pub spanned_in : List ℕ → Result (Option Span) Refusal → Result (Option Version) Refusal
spanned_in bytes (Ok found) = Ok (option_map (λ s. spanned s bytes) found)
spanned_in bytes (Err refusal) = Err refusal

-- runs are looked through, and a copy of the value that is found is answered
pub record CopiesOfRuns (area : ℕ) (key : Bytes) (n : ℕ) (runs : List (List Table)) (answer : Result (Option Bytes) Refusal) (old new : Source) : Type 0 where
  pub found : Result (Option Version) Refusal
  pub looks : LooksUp area key n runs found old new
  pub copies : CopiesFound found answer

-- runs are looked through, and it is told whether what is found meets a condition
pub record TestsRuns (area : ℕ) (key : Bytes) (n : ℕ) (runs : List (List Table)) (condition : Condition) (answer : Result Bool Refusal) (old new : Source) : Type 0 where
  pub found : Result (Option Version) Refusal
  pub looks : LooksUp area key n runs found old new
  pub tells : answer ≡ met_by found condition
