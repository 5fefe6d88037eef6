-- Where there is no room for more.
use Rattle.std.specs.Prelude.{ℕ, ◌+◌, ◌*◌, ◌/◌, ◌<◌, ◌⊎◌}
use Rattle.std.specs.Int.{div_ceil}

-- the least blocks of `entries` entries with `bytes` bytes in all
abbrev pub blocks_for : ℕ → ℕ → ℕ
blocks_for bytes entries = div_ceil bytes 4094 + entries / 3200

-- Tables in `taken` blocks leave too few free for a batch of `batch` blocks, or there are too many tables.
abbrev pub IsCrowded : ℕ → ℕ → ℕ → ℕ → Type 0
IsCrowded taken free tables batch = (795 < tables) ⊎ (free < 2 * taken + 8 * tables + 8 * batch + 360)
