-- The versions in memory are newer than those in tables, and tables stand where the sectors after the root are the same.
use Rattle.std.proofs.Common.{◌≡◌, ℕ, zero, suc, ◌+◌, ◌≤◌, ◌<◌, List, [], ◌∷◌, length, drop, refl, ◌∙◌, ap, arith}
use Rattle.std.specs.List.{AllByRecursion, concat}
use Rattle.lsm_codec.specs.Map.{Operation}
use Rattle.lsm_codec.specs.Versions.{Version}
use Rattle.lsm_codec.proofs.Lists.{all_map}
use Rattle.lsm_cache.specs.Reads.{block_at}
use Rattle.lsm_levels.specs.Asking.{sector_of}
use Rattle.lsm_levels.specs.Orders.{IsNewerPlace}
use Rattle.lsm_levels.specs.Stored.{blocks_from, IsStored, AreStored}
use Rattle.lsm_levels.specs.Tables.{Table}
use Rattle.lsm_mem.specs.EntryOrder.{placed, version_by, with_batch, with_batches}
use Rattle.lsm_mem.specs.Versions.{NumberedAtMost}
use Rattle.lsm_mem.proofs.Batches.{all_placed}
use Rattle.lsm_open.proofs.TableFrames.{area_behind}
use Rattle.lsm_open.proofs.VersionOrders.{later_is_newer}
use Rattle.lsm_table.specs.Stored.{table_of}

abbrev Sectors : Type 0
Sectors = List (List ℕ)

-- ---- memory

abbrev AreLater : ℕ → List Version → Type 0
AreLater base vs = AllByRecursion (λ v. base < v.number) vs

later_with_batch : (base number : ℕ) (operations : List Operation) (vs : List Version) → base < number → AreLater base vs → AreLater base (with_batch number operations vs)
later_with_batch base number [] vs lt later = later
later_with_batch base number (operation ∷ rest) vs lt later =
    later_with_batch base number rest (placed (version_by number operation) vs) lt (all_placed (λ v. base < v.number) (version_by number operation) vs lt later)

later_with_batches : (base n : ℕ) (batches : List (List Operation)) (vs : List Version) → base ≤ n → AreLater base vs → AreLater base (with_batches n batches vs)
later_with_batches base n [] vs le later = later
later_with_batches base n (batch ∷ rest) vs le later =
    later_with_batches base (n + 1) rest (with_batch (n + 1) batch vs) (omega arith) (later_with_batch base (n + 1) batch vs (omega arith) later)

-- the versions of batches after the base are numbered above it
pub batches_later : (base : ℕ) (batches : List (List Operation)) → AreLater base (with_batches base batches [])
batches_later base batches = later_with_batches base base batches [] (omega arith) tt

-- so they are newer than those of places that have none above the base
pub batches_newer : (base : ℕ) (batches : List (List Operation)) (older : List (List Version)) → AllByRecursion (NumberedAtMost base) older → AllByRecursion (IsNewerPlace (with_batches base batches [])) older
batches_newer base batches older numbered =
    all_map (λ ys most. later_is_newer base (with_batches base batches []) ys (batches_later base batches) most) older numbered

-- ---- tables

module _ (c e : Sectors) (same : drop 130 c ≡ drop 130 e) where
  blocks_behind : (at n : ℕ) → 130 ≤ at → blocks_from c at n ≡ blocks_from e at n
  blocks_behind at zero low = refl
  blocks_behind at (suc n) low =
      ap (λ (b : List ℕ). b ∷ blocks_from c (at + 8) n) (ap concat (area_behind c e same at 8 low))
      ∙ ap (λ (bs : Sectors). block_at e at ∷ bs) (blocks_behind (at + 8) n (omega (arith, low)))

  stored_here : (first : ℕ) → 130 ≤ first → (t : Table) → IsStored e first t → IsStored c first t
  stored_here first low t is = record {
    blocks = is.blocks;
    spelled = ap table_of (blocks_behind (sector_of first t 0) (length t.outline.edges) (omega (arith, low))) ∙ is.spelled;
    sorted = is.sorted;
    told = is.told;
    members = is.members;
  }

  -- tables that are stored after the root are stored where these sectors are the same
  pub stored_behind : (first : ℕ) → 130 ≤ first → (runs : List (List Table)) → AreStored e first runs → AreStored c first runs
  stored_behind first low runs stored = all_map (λ run all. all_map (λ t is. stored_here first low t is) run all) runs stored
