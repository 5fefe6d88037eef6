-- The edges of data blocks, and the first key.
use Rattle.std.specs.Prelude.{◌&&◌, not, Bool, true, List, [], ◌∷◌}
use Rattle.std.specs.List.{flat_map}
use Rattle.std.specs.Ordering.{nat_cmp, is_lt, is_gt, ordering_then}
use Rattle.lsm_codec.specs.Keys.{Bytes, byte_order}
use Rattle.lsm_codec.specs.Versions.{Version}
use Rattle.lsm_codec.specs.Indexes.{Edge}
use Rattle.lsm_table.specs.Division.{Block, TableBlocks}

-- the edge of a block that begins with v
abbrev pub last_edge : Version → Block → Edge
last_edge v [] = record { key = v.key; number = v.number }
last_edge v (w ∷ rest) = last_edge w rest

-- the edge of a block, none where it is empty
abbrev pub edge_of : Block → List Edge
edge_of [] = []
edge_of (v ∷ block) = last_edge v block ∷ []

-- the edges of blocks
abbrev pub edges_of : TableBlocks → List Edge
edges_of table = flat_map edge_of table

-- the first key of a block
abbrev pub first_in : Block → Bytes
first_in [] = []
first_in (v ∷ block) = v.key

-- the first key of a table
abbrev pub first_key_of : TableBlocks → Bytes
first_key_of [] = []
first_key_of (block ∷ table) = first_in block

-- the last key of edges
abbrev pub last_key : List Edge → Bytes
last_key [] = []
last_key (e ∷ []) = e.key
last_key (e ∷ f ∷ edges) = last_key (f ∷ edges)

-- one edge comes before the next
abbrev pub is_edge_before : Edge → Edge → Bool
is_edge_before a b = is_lt (ordering_then (byte_order a.key b.key) (nat_cmp b.number a.number))

-- each edge comes before the next
abbrev pub are_rising : List Edge → Bool
are_rising [] = true
are_rising (e ∷ []) = true
are_rising (e ∷ f ∷ edges) = is_edge_before e f && are_rising (f ∷ edges)

-- no edge is before the first key
abbrev pub follow_first : Bytes → List Edge → Bool
follow_first first [] = true
follow_first first (e ∷ edges) = not (is_gt (byte_order first e.key))
