-- A data area: its blocks, and the extents of it that are handed out.
use Rattle.std.specs.Prelude.{ℕ, ◌+◌, ◌<◌, ◌≤◌, zero, suc, Bool, true, cond, not, ◌&&◌, leb, ltb, ◌==◌, ◌≡◌, List, [], ◌∷◌, All, count_by, sum_by}
use Rattle.std.specs.List.{list_any}
use Rattle.lsm_extent.specs.declared.extent.Extent.{Extent}

-- The blocks are numbered from 0; the extents are sorted by their first blocks.
pub record Area : Type 0 where
  pub blocks : ℕ
  pub held : List Extent

-- whether the extent has this block
abbrev pub covers : ℕ → Extent → Bool
covers block e = leb e.first block && ltb block (e.first + e.blocks)

-- whether one of the extents has this block
abbrev pub is_held : List Extent → ℕ → Bool
is_held held block = list_any (covers block) held

-- whether the block is one of the area and in no extent that is handed out
abbrev pub is_free : Area → ℕ → Bool
is_free area block = ltb block area.blocks && not (is_held area.held block)

-- All of these blocks are free.
pub record IsFreeRun (area : Area) (first blocks : ℕ) : Type 0 where
  pub each : (k : ℕ) → first ≤ k → k < first + blocks → is_free area k ≡ true

-- The lowest free run of `blocks` blocks begins at `first`.
pub record IsLowestFit (area : Area) (blocks first : ℕ) : Type 0 where
  pub fits : IsFreeRun area first blocks
  pub lowest : (other : ℕ) → IsFreeRun area other blocks → first ≤ other

-- No free run is that long.
pub record HasNoFit (area : Area) (blocks : ℕ) : Type 0 where
  pub none : (first : ℕ) → IsFreeRun area first blocks → ⊥

-- the extents with one more, by their first blocks
abbrev pub with_extent : Extent → List Extent → List Extent
with_extent e [] = e ∷ []
with_extent e (x ∷ xs) = cond (ltb e.first x.first) (e ∷ x ∷ xs) (x ∷ with_extent e xs)

-- the extents without the one that begins where this one does
abbrev pub without_extent : Extent → List Extent → List Extent
without_extent e [] = []
without_extent e (x ∷ xs) = cond (x.first == e.first) xs (x ∷ without_extent e xs)

-- the area after an extent was handed out
abbrev pub handed_out : Extent → Area → Area
handed_out e area = record area { held = with_extent e area.held }

-- the area after an extent was given back
abbrev pub given_back : Extent → Area → Area
given_back e area = record area { held = without_extent e area.held }

-- how many of the blocks below this one pass the test
unfoldable pub count_below : (ℕ → Bool) → ℕ → ℕ
count_below test zero = 0
count_below test (suc k) = cond (test k) 1 0 + count_below test k

-- how many blocks are free
abbrev pub free_count : Area → ℕ
free_count area = count_below (is_free area) area.blocks

-- Each block is free or in just one of the extents, and these are in the area.
pub record IsPartition (area : Area) : Type 0 where
  pub once : (block : ℕ) → block < area.blocks → count_by (covers block) area.held + cond (is_free area block) 1 0 ≡ 1
  pub inside : All (λ e. e.first + e.blocks ≤ area.blocks) area.held
  pub nonempty : All (λ e. 0 < e.blocks) area.held
  pub total : free_count area + sum_by (λ e. e.blocks) area.held ≡ area.blocks
