-- How entries are divided into tables and blocks.
use Rattle.std.specs.Prelude.{◌+◌, ◌<◌, ◌≤◌, ◌≡◌, ◌≢◌, ◌⊎◌, cond, leb, List, [], ◌∷◌, ◌++◌, length, take_while, count_by}
use Rattle.std.specs.List.{AllByRecursion, flat_map}
use Rattle.lsm_codec.specs.Keys.{Bytes}
use Rattle.lsm_codec.specs.Pairs.{Pairwise}
use Rattle.lsm_codec.specs.Versions.{Version, IsEntry, is_same_key, AreOrdered}
use Rattle.lsm_codec.specs.Entries.{entry_size, block_size}

-- the entries of a data block
abbrev pub Block : Type 0
Block = List Version

-- the data blocks of a table
abbrev pub TableBlocks : Type 0
TableBlocks = List Block

-- the entries of a table
abbrev pub entries_of : TableBlocks → List Version
entries_of table = flat_map (λ block. block) table

-- what is divided into tables: entries in order, at most 33 of a key
pub record IsInput (entries : List Version) : Type 0 where
  pub ordered : AreOrdered entries
  pub few : (key : Bytes) → count_by (λ v. is_same_key key v.key) entries ≤ 33

-- R holds between each element and the next
abbrev pub AllAdjacent : {A : Type 0} → (A → A → Type 0) → List A → Type 0
AllAdjacent R [] = Unit {0}
AllAdjacent R (x ∷ []) = Unit {0}
AllAdjacent R (x ∷ y ∷ rest) = R x y × AllAdjacent R (y ∷ rest)

-- the first entry of the next block would not have fitted
abbrev pub IsFullBefore : Block → Block → Type 0
IsFullBefore block [] = ⊥
IsFullBefore block (v ∷ rest) = 4096 < block_size block + entry_size v

-- The blocks of entries: nonempty; joined they are the entries; each fits, and is full before the next.
pub record IsBlocks (entries : List Version) (blocks : TableBlocks) : Type 0 where
  pub whole : entries_of blocks ≡ entries
  pub nonempty : AllByRecursion (λ block. 0 < length block) blocks
  pub fits : AllByRecursion (λ block. block_size block ≤ 4096) blocks
  pub full : AllAdjacent IsFullBefore blocks

-- entries laid down in order, after those of the block that is begun
unfoldable pub laid : Block → List Version → TableBlocks
laid begun [] = begun ∷ []
laid begun (v ∷ rest) = cond (leb (block_size begun + entry_size v) 4096) (laid (begun ++ v ∷ []) rest) (begun ∷ laid (v ∷ []) rest)

-- the blocks of entries, of which there is one at least
unfoldable pub blocks : List Version → TableBlocks
blocks entries = laid [] entries

-- the entries of the first key
abbrev pub first_group : List Version → List Version
first_group [] = []
first_group (v ∷ rest) = v ∷ take_while (λ w. is_same_key v.key w.key) rest

-- a table of these entries keeps the limits
pub record KeepsLimits (entries : List Version) : Type 0 where
  pub few_blocks : length (blocks entries) ≤ 64
  pub few_entries : length entries ≤ 3200

-- a table of these entries would pass a limit
abbrev pub IsTooMuch : List Version → Type 0
IsTooMuch entries = (64 < length (blocks entries)) ⊎ (3200 < length entries)

-- no key is in both
abbrev pub ShareNoKey : List Version → List Version → Type 0
ShareNoKey these others = AllByRecursion (λ v. AllByRecursion (λ w. v.key ≢ w.key) others) these

-- The tables of entries: nonempty; joined they are the entries; each is divided into blocks and keeps the limits;
-- no key is in two of them; each would pass a limit with all entries of the next one's first key.
pub record IsTables (entries : List Version) (tables : List TableBlocks) : Type 0 where
  pub whole : flat_map entries_of tables ≡ entries
  pub nonempty : AllByRecursion (λ table. 0 < length table) tables
  pub in_blocks : AllByRecursion (λ table. IsBlocks (entries_of table) table) tables
  pub within : AllByRecursion (λ table. KeepsLimits (entries_of table)) tables
  pub whole_keys : Pairwise (λ table other. ShareNoKey (entries_of table) (entries_of other)) tables
  pub greedy : AllAdjacent (λ table other. IsTooMuch (entries_of table ++ first_group (entries_of other))) tables

-- What every table is: nonempty, of entries within the limits and in order, divided into blocks, and it keeps the limits.
pub record IsTable (table : TableBlocks) : Type 0 where
  pub nonempty : 0 < length table
  pub ordered : AreOrdered (entries_of table)
  pub versions : AllByRecursion IsEntry (entries_of table)
  pub in_blocks : IsBlocks (entries_of table) table
  pub within : KeepsLimits (entries_of table)
