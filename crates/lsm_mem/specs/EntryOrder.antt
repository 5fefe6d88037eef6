-- Versions in the order of entries, and those of a batch put among them.
use Rattle.std.specs.Prelude.{ℕ, ◌+◌, List, [], ◌∷◌}
use Rattle.std.specs.FinMap.Entries.{by_order}
use Rattle.lsm_codec.specs.Map.{Operation}
use Rattle.lsm_codec.specs.Versions.{Version, entry_order}

-- with a version in its place, instead of one of its key and number
abbrev pub placed : Version → List Version → List Version
placed v [] = v ∷ []
placed v (w ∷ rest) = by_order (entry_order v w) (v ∷ w ∷ rest) (v ∷ rest) (w ∷ placed v rest)

-- the version that an operation of the batch of this number makes
abbrev pub version_by : ℕ → Operation → Version
version_by number operation = record { key = operation.key; number = number; value = operation.value }

-- versions with those of a batch under its number: its operations in order, so that the later one on a key wins
abbrev pub with_batch : ℕ → List Operation → List Version → List Version
with_batch number [] versions = versions
with_batch number (operation ∷ rest) versions = with_batch number rest (placed (version_by number operation) versions)

-- versions with those of batches, which are numbered from n + 1 on
abbrev pub with_batches : ℕ → List (List Operation) → List Version → List Version
with_batches n [] versions = versions
with_batches n (batch ∷ rest) versions = with_batches (n + 1) rest (with_batch (n + 1) batch versions)
