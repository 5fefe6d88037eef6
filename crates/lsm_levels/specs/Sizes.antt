-- How many bytes the entries of a table take.
use Rattle.std.specs.Prelude.{ℕ, ◌≤◌, List}
use Rattle.lsm_codec.specs.Entries.{entry_size}
use Rattle.lsm_codec.specs.Versions.{Version, IsEntry}
use Rattle.lsm_levels.specs.Among.{IsAmong}

-- no entry among these versions takes more than `bytes` bytes in a block
abbrev pub AreAtMost : ℕ → List Version → Type 0
AreAtMost bytes versions = (v : Version) → IsAmong v versions → IsEntry v → entry_size v ≤ bytes
