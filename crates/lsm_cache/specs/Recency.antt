-- Which blocks a cache keeps, the last one asked for first.
use Rattle.std.specs.Prelude.{◌≡◌, ◌⊎◌, ℕ, ◌+◌, ◌%◌, ◌^◌, Bool, not, is_some, ◌&&◌, ◌==◌, List, ◌∷◌, filter, replicate, take, Option, None, Some, if◌then◌else◌}
use Rattle.std.specs.Map.{lookup}
use Rattle.std.specs.Arc.{arc_value}
use Rattle.std.specs.declared.sync.Arc.{Arc}
use Rattle.lsm_cache.specs.declared.name.BlockName.{BlockName}

-- The blocks with their bytes, how many there may be, and how often memory for one was refused.
pub record Cached : Type 0 where
  pub blocks : List (BlockName × List ℕ)
  pub capacity : ℕ
  pub refusals : ℕ

-- the block at a place in a table
abbrev pub named_block : ℕ → ℕ → BlockName
named_block table block = record { table = table; block = block }

-- whether two names are those of one block
abbrev pub is_same_block : BlockName → BlockName → Bool
is_same_block a b = (a.table == b.table) && (a.block == b.block)

-- the bytes of a block, if it is kept
abbrev pub bytes_of : BlockName → Cached → Option (List ℕ)
bytes_of name c = lookup (is_same_block name) c.blocks

-- how many sectors are read for a block
abbrev pub sectors_read : BlockName → Cached → ℕ
sectors_read name c = if is_some (bytes_of name c) then 0 else 8

-- the block goes to the front, and where there are too many the last one is evicted
abbrev pub asked : BlockName → List ℕ → Cached → Cached
asked name bytes c = record c { blocks = take c.capacity ((name, bytes) ∷ filter (λ b. not (is_same_block name b.0)) c.blocks) }

-- memory for a block was refused. The number wraps
abbrev pub refused : Cached → Cached
refused c = record c { refusals = (c.refusals + 1) % 2 ^ 64 }

-- a block was asked for: it is the first of those kept, or it was not kept, and memory for it was refused
abbrev pub IsAsked : BlockName → List ℕ → Cached → Cached → Type 0
IsAsked name bytes old new = (new ≡ asked name bytes old) ⊎ ((bytes_of name old ≡ None) × (new ≡ refused old))

-- a block as a clause sees it, without what shares its bytes
abbrev pub named_bytes : {A : Type 0} → BlockName × Arc (List ℕ) A → BlockName × List ℕ
named_bytes e = (e.0, arc_value e.1)

-- the bytes of a block that is kept, or others
abbrev pub kept_or : {A : Type 0} → List ℕ → Option (Arc (List ℕ) A) → List ℕ
kept_or own None = own
kept_or own (Some kept) = arc_value kept

-- the bytes of a block that was read, or zeros
abbrev pub read_or_zeros : Option (List ℕ) → List ℕ
read_or_zeros None = replicate {A = ℕ} 4096 0
read_or_zeros (Some bytes) = bytes
