-- The blocks of what a merge keeps.
use Rattle.std.specs.Prelude.{ℕ, ◌+◌, ◌≤◌, Bool, true, cond, is_some, List, [], ◌∷◌, ◌++◌, sum_by}
use Rattle.lsm_codec.specs.Versions.{Version, AreOrdered}
use Rattle.lsm_table.specs.BlockCounts.{block_count, most_blocks}
use Rattle.lsm_merge.specs.Keeping.{keep}

-- the most blocks that come of a put more, and none of a delete
abbrev pub most_put_blocks : Version → ℕ
most_put_blocks v = cond (is_some v.value) (most_blocks v) 0

-- What is kept of versions, those of newer runs first, over a run in order takes no more blocks than that run and the most
-- that come of each of the others; at the bottom, and with one count at which the map is kept, of each put among them.
pub record MergedBlocksLaw : Type 0 where
  pub kept : (cuts : List ℕ) (bottom : Bool) (upper lower : List Version) → AreOrdered lower → block_count (keep cuts bottom (upper ++ lower)) ≤ block_count lower + sum_by most_blocks upper
  pub settled : (cut : ℕ) (upper lower : List Version) → AreOrdered lower → block_count (keep (cut ∷ []) true (upper ++ lower)) ≤ block_count lower + sum_by most_put_blocks upper
