-- How large a store is made.
use Rattle.std.specs.Prelude.{◌≡◌, ◌≤◌, ◌⊎◌, ℕ, ◌+◌, ◌*◌, min, IsTrue}
use Rattle.lsm_codec.specs.Geometry.{data_blocks_of}
use Rattle.lsm_root.specs.Layout.{IsGeometry}
use Rattle.lsm_store.specs.Memory.{is_cache_size}
use Rattle.corwaphi.specs.declared.options.Options.{Options}

-- what the options say is within the limits of format and of an opening
pub record AreWithinLimits (o : Options) : Type 0 where
  pub geometry : IsGeometry o.sectors o.log_sectors
  pub cache : IsTrue (is_cache_size o.cache)

-- the bytes that a row takes in a block, by the bytes of its key and its value, each up to the most that there may be
abbrev pub entry_bytes : ℕ → ℕ → ℕ
entry_bytes key_bytes value_bytes = 12 + min key_bytes 255 + min value_bytes 2048

-- these entries fill at most a half of these blocks, or the largest store has no more blocks
abbrev pub AreRoomFor : ℕ → ℕ → ℕ → Type 0
AreRoomFor rows entry blocks = (131072 ≤ blocks) ⊎ (2 * (rows * entry) ≤ 4094 * blocks)

-- these entries fill at most a half of a store's data area, or no store is larger
abbrev pub HaveRoomFor : ℕ → ℕ → Options → Type 0
HaveRoomFor rows entry o = (o.sectors ≡ 1048576) ⊎ (2 * (rows * entry) ≤ 4094 * data_blocks_of o.sectors o.log_sectors)
