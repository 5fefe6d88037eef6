-- Batches, as a region holds them: each begins a sector, and its text is cut into parts of 480 bytes.
use Rattle.std.specs.Prelude.{◌≡◌, ℕ, zero, suc, ◌+◌, List, [], ◌∷◌, ◌++◌, take, drop, map}
use Rattle.lsm_codec.specs.LogSectors.{Part, log_sector}
use Rattle.lsm_codec.specs.Map.{Operation}
use Rattle.lsm_codec.specs.BatchText.{batch_text, sectors_of}

-- n parts of a batch, from one on, whose payloads are this text
abbrev pub cut : ℕ → ℕ → ℕ → ℕ → List ℕ → ℕ → List Part
cut epoch number parts part text zero = []
cut epoch number parts part text (suc n) = record { epoch = epoch; batch = number; part = part; parts = parts; payload = take 480 text } ∷ cut epoch number parts (part + 1) (drop 480 text) n

-- the parts of a batch
abbrev pub parts_of : ℕ → ℕ → List Operation → List Part
parts_of epoch number batch = cut epoch number (sectors_of batch) 0 (batch_text batch) (sectors_of batch)

-- the sectors of a batch
abbrev pub batch_sectors : ℕ → ℕ → List Operation → List (List ℕ)
batch_sectors epoch number batch = map log_sector (parts_of epoch number batch)

-- the sectors of batches with these numbers: number, number + 1 ..
abbrev pub all_sectors : ℕ → ℕ → List (List Operation) → List (List ℕ)
all_sectors epoch number [] = []
all_sectors epoch number (batch ∷ batches) = batch_sectors epoch number batch ++ all_sectors epoch (number + 1) batches

-- ys begins with xs
abbrev pub IsBeginning : List (List Operation) → List (List Operation) → Type 0
IsBeginning xs ys = (rest : List (List Operation)) × (ys ≡ xs ++ rest)

-- `batches` begins with `least`, and `most` begins with `batches`
pub record IsBetween (least most batches : List (List Operation)) : Type 0 where
  pub from : IsBeginning least batches
  pub to : IsBeginning batches most
