-- How large entries of tables are that batches make.
use Rattle.std.specs.Prelude.{◌≡◌, ◌≤◌, ℕ, ◌+◌, List, length, sum_by}
use Rattle.std.specs.List.{AllByRecursion}
use Prim.Native.Nat.{min, max}
use Rattle.lsm_codec.specs.Entries.{entry_size}
use Rattle.lsm_codec.specs.Map.{Operation}
use Rattle.lsm_codec.specs.Versions.{Version, value_length}
use Rattle.lsm_mem.specs.declared.size.MemSize.{MemSize}

-- a number, or the greatest of 64 bits
abbrev pub up_to_64_bits : ℕ → ℕ
up_to_64_bits n = min n 18446744073709551615

-- the bytes of the entry that an operation makes
abbrev pub bytes_of : Operation → ℕ
bytes_of operation = 12 + length operation.key + value_length operation.value

-- the size of no version
abbrev pub no_size : MemSize
no_size = record { entries = 0; bytes = 0; large = 0; deletes = 0; delete_bytes = 0; largest = 0 }

-- A size covers versions: their count, their bytes in all and the bytes of each are at most its numbers, unless those are 2^64 - 1.
pub record Covers (versions : List Version) (size : MemSize) : Type 0 where
  pub entries : up_to_64_bits (length versions) ≤ size.entries
  pub bytes : up_to_64_bits (sum_by entry_size versions) ≤ size.bytes
  pub each : AllByRecursion (λ v. up_to_64_bits (entry_size v) ≤ size.largest) versions

-- A size grows by no more than what operations make: an entry each, and the bytes of these.
pub record GrowsBy (operations : List Operation) (old new : MemSize) : Type 0 where
  pub entries : new.entries ≤ old.entries + length operations
  pub bytes : new.bytes ≤ old.bytes + sum_by bytes_of operations
  pub large : new.large ≤ old.large + length operations
  pub deletes : new.deletes ≤ old.deletes + length operations
  pub delete_bytes : new.delete_bytes ≤ old.delete_bytes + sum_by bytes_of operations

-- The size of an entry of `many` bytes, a put or a delete.
pub record IsAnEntry (many : ℕ) (size : MemSize) : Type 0 where
  pub entries : size.entries ≡ 1
  pub bytes : size.bytes ≡ many
  pub large : size.large ≤ 1
  pub deletes : size.deletes ≤ 1
  pub delete_bytes : size.delete_bytes ≤ many
  pub largest : size.largest ≡ many

-- A size is that of two others together.
pub record AreTogether (one other both : MemSize) : Type 0 where
  pub entries : both.entries ≡ up_to_64_bits (one.entries + other.entries)
  pub bytes : both.bytes ≡ up_to_64_bits (one.bytes + other.bytes)
  pub large : both.large ≡ up_to_64_bits (one.large + other.large)
  pub deletes : both.deletes ≡ up_to_64_bits (one.deletes + other.deletes)
  pub delete_bytes : both.delete_bytes ≡ up_to_64_bits (one.delete_bytes + other.delete_bytes)
  pub largest : both.largest ≡ max one.largest other.largest
