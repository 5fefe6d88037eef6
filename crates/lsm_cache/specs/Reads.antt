-- What reading a block gives.
use Rattle.std.specs.Prelude.{ℕ, List}
use Rattle.std.specs.List.{concat}
use Rattle.lsm_device.specs.Areas.{area}
pub use Rattle.lsm_device.specs.Calls.{after_reads, ReadFaultsAmong as FaultsAmong}

-- the bytes of the eight sectors from one on
abbrev pub block_at : List (List ℕ) → ℕ → List ℕ
block_at sectors at = concat (area at 8 sectors)
