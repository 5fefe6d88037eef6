-- The map that versions stand for at a count of batches.
use Rattle.std.specs.Prelude.{ℕ, ◌<◌, ◌≤◌, List, [], ◌∷◌, ◌++◌, Option, Some, None, option_map, option_and_then, filter_map}
use Rattle.std.specs.List.{AllByRecursion}
use Rattle.std.specs.FinMap as finite
use Rattle.lsm_codec.specs.Keys.{Bytes}
use Rattle.lsm_codec.specs.Map.{Map}
use Rattle.lsm_codec.specs.Versions.{Version, newest}

-- the value of a key at a count, where the newest version puts one
abbrev pub value_at : List Version → ℕ → Bytes → Option Bytes
value_at versions n key = option_and_then (λ v. v.value) (newest key n versions)

-- the map of versions at a count: each key with its value at that count
abbrev pub map_of : List Version → ℕ → Map
map_of versions n = finite.from_entries (filter_map (λ v. option_map (λ value. (v.key, value)) (value_at versions n v.key)) versions)

-- each version is of a batch before this number
abbrev pub NumberedBelow : ℕ → List Version → Type 0
NumberedBelow number versions = AllByRecursion (λ v. v.number < number) versions

-- each version is of a batch up to this number
abbrev pub NumberedAtMost : ℕ → List Version → Type 0
NumberedAtMost number versions = AllByRecursion (λ v. v.number ≤ number) versions

-- the versions in a sealed memory table, none where there is no such table
abbrev pub sealed_versions : Option (List Version) → List Version
sealed_versions None = []
sealed_versions (Some versions) = versions

-- the versions of all runs, those of newer runs first
abbrev pub joined : List (List Version) → List Version
joined [] = []
joined (run ∷ runs) = run ++ joined runs
