-- The size of the largest entry.
use Rattle.std.specs.Prelude.{ℕ, ltb, List, [], ◌∷◌, if◌then◌else◌}
use Rattle.lsm_codec.specs.Versions.{Version}
use Rattle.lsm_codec.specs.Entries.{entry_size}

-- the size of an entry where it is above a number, or else the number
abbrev pub larger : ℕ → Version → ℕ
larger n v = if ltb n (entry_size v) then entry_size v else n

-- the greatest of a number and the sizes of entries
abbrev pub largest_from : ℕ → List Version → ℕ
largest_from n [] = n
largest_from n (v ∷ rest) = largest_from (larger n v) rest

-- the bytes that the largest of these takes, 0 of none
abbrev pub largest_entry : List Version → ℕ
largest_entry entries = largest_from 0 entries
