-- The longest run of batches that sectors begin with.
use Rattle.std.specs.Prelude.{◌≡◌, ◌≤◌, ◌^◌, ℕ, ◌+◌, List, ◌++◌, length, All}
use Rattle.lsm_codec.specs.BatchText.{IsBatch}
use Rattle.lsm_codec.specs.Map.{Operation}
use Rattle.lsm_log.specs.Batches.{batch_sectors, all_sectors}

-- The sectors begin with those of these batches, and after them there are not all sectors of a batch of the next number.
pub record IsLongest (epoch first : ℕ) (sectors : List (List ℕ)) (batches : List (List Operation)) : Type 0 where
  pub rest : List (List ℕ)
  pub front : sectors ≡ all_sectors epoch first batches ++ rest
  pub whole : All IsBatch batches
  pub ends : first + length batches ≤ 2 ^ 63 → (batch : List Operation) (tail : List (List ℕ)) → IsBatch batch → rest ≡ batch_sectors epoch (first + length batches) batch ++ tail → ⊥
