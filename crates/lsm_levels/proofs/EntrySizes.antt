-- How many bytes entries take at most.
use Rattle.std.proofs.Common.{◌≤◌, List, arith}
use Rattle.lsm_codec.specs.Versions.{Version}
use Rattle.lsm_codec.specs.Entries.{entry_size}
use Rattle.lsm_table.specs.Sizes.{largest_entry}
use Rattle.lsm_table.proofs.Largest.{none_larger}
use Rattle.lsm_levels.specs.Sizes.{AreAtMost}
use Rattle.lsm_levels.proofs.Ranges.{of_all}

-- whatever they are
pub entries_small : (versions : List Version) → AreAtMost 2315 versions
entries_small versions v there entry = omega (arith, entry.key.1, entry.value)

-- and of an image
pub image_small : (entries : List Version) → AreAtMost (largest_entry entries) entries
image_small entries v there entry = of_all (λ w. entry_size w ≤ largest_entry entries) entries (none_larger entries) v there
