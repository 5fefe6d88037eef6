-- What a flush makes, by the size of memory.
use Rattle.std.proofs.Common.{◌≡◌, ℕ, ◌+◌, ◌-◌, ◌*◌, ◌/◌, ◌<◌, ◌≤◌, Bool, true, false, List, [], ◌∷◌, length, refl, ap, subst, inl, inr, ◌⊎◌, arith, Contains}
use Rattle.std.specs.Prelude.{sum_by}
use Rattle.std.specs.Int.{div_ceil}
use Rattle.std.specs.List.{AllByRecursion, flat_map}
use Prim.Native.Nat.{min}
use Rattle.std.proofs.lemmas.Bool.{cases_lt}
use Rattle.std.proofs.lemmas.Nat.{le-div}
use Rattle.std.proofs.lemmas.List.Elements.{All-from_recursion, All-contains, All-weaker, recursion_from_All}
use native.Mathlib.Nat.{div-mul-le_self}
use Rattle.lsm_codec.specs.Versions.{Version, IsEntry}
use Rattle.lsm_codec.specs.Entries.{entry_size}
use Rattle.lsm_codec.proofs.Lists.{all_append}
use Rattle.lsm_mem.specs.Sizes.{Covers, up_to_64_bits}
use Rattle.lsm_mem.specs.declared.size.MemSize.{MemSize}
use Rattle.lsm_table.specs.Division.{TableBlocks, IsTable, entries_of}
use Rattle.lsm_table.specs.BlockCounts.{block_count}
use Rattle.lsm_table.proofs.Adding.{block_laws}
use Rattle.lsm_table.proofs.ByteCounts.{byte_laws}
use Rattle.lsm_merge.specs.Keeping.{keep}
use Rattle.lsm_merge.proofs.MapLaws.{keep_law}
use Rattle.lsm_room.specs.Flushes.{FlushTakes, FlushesLeave}
use Rattle.lsm_room.specs.Measuring.{AreOfKept, HoldImages}
use Rattle.lsm_room.specs.Outputs.{TakeAtMost}
use Rattle.lsm_room.specs.declared.bounds.Outputs.{Outputs}
use Rattle.lsm_room.proofs.Enough.{enough}
use Rattle.lsm_room.proofs.Filling.{by_number, bytes_few}
use Rattle.lsm_room.proofs.Keeping.{kept_few, kept_weighs}
use Rattle.lsm_room.proofs.KeptBlocks.{none_laid}

-- the entries of tables are within the limits
of_tables : (images : List TableBlocks) → AllByRecursion IsTable images → AllByRecursion IsEntry (flat_map entries_of images)
of_tables [] each = tt
of_tables (image ∷ images) each = all_append IsEntry (entries_of image) (flat_map entries_of images) each.0.versions (of_tables images each.1)

-- for entries within the limits a size bounds the bytes
not_larger : (versions : List Version) (most : ℕ) → AllByRecursion IsEntry versions → AllByRecursion (λ v. up_to_64_bits (entry_size v) ≤ most) versions → AllByRecursion (λ v. entry_size v ≤ most) versions
not_larger [] most are small = tt
not_larger (v ∷ versions) most are small = (omega (arith, are.0.key.1, are.0.value, small.0), not_larger versions most are.1 small.1)

no_larger : (versions : List Version) → AllByRecursion IsEntry versions → AllByRecursion (λ v. entry_size v ≤ 2315) versions
no_larger [] are = tt
no_larger (v ∷ versions) are = (omega (arith, are.0.key.1, are.0.value), no_larger versions are.1)

-- The candidates for the data blocks, of which the lesser is taken, as they are computed.
pub record AreFlushCandidates (size : MemSize) (bytes count : ℕ) : Type 0 where
  pub by_bytes : bytes < 4294967296 → size.largest ≤ 2047 → (4094 * div_ceil size.bytes 4094) / (4095 - size.largest) + 1 ≤ bytes
  pub by_pairs : bytes < 4294967296 → 2047 < size.largest → 2 * div_ceil size.bytes 4094 + 1 ≤ bytes
  pub by_count : count < 4294967296 → 0 < size.largest → size.largest ≤ 4094 → size.entries / (4094 / size.largest) + 1 ≤ count
  pub by_each : count < 4294967296 → 4094 < size.largest → size.entries + 1 ≤ count
  pub some : (0 < bytes) × (0 < count)

module _ (size : MemSize) (versions : List Version) (covers : Covers versions size) (cuts : List ℕ) (bottom : Bool) (images : List TableBlocks) (are : AreOfKept cuts bottom versions images) (low : size.entries < 1125899906842624) where
  abbrev kept : List Version
  kept = keep cuts bottom versions

  entries : AllByRecursion IsEntry kept
  entries = subst (AllByRecursion IsEntry) are.tables.whole (of_tables images are.each)

  small : AllByRecursion (λ v. entry_size v ≤ size.largest) kept
  small =
      let P : Version → Type 0 = λ v. up_to_64_bits (entry_size v) ≤ size.largest in
      not_larger kept size.largest entries
      (recursion_from_All P kept (All-weaker (Contains versions) P (λ v c. All-contains P versions v (All-from_recursion P versions covers.each) c) kept ((keep_law cuts versions).among bottom)))

  pub few : length kept ≤ size.entries
  few = omega (arith, kept_few cuts bottom versions, covers.entries, low)

  few_bytes : sum_by entry_size kept ≤ size.bytes
  few_bytes = omega (arith, kept_weighs entry_size cuts bottom versions, covers.bytes, bytes_few kept 2315 (no_larger kept entries), few, low)

  within_bytes : (bytes count : ℕ) → AreFlushCandidates size bytes count → bytes < 4294967296 → (2047 < size.largest) ⊎ (size.largest ≤ 2047) → block_count kept ≤ bytes
  within_bytes bytes count candidates below (inl large) = omega (arith, byte_laws.any kept, few_bytes, candidates.by_pairs below large)
  within_bytes bytes count candidates below (inr tiny) =
      let full : (block_count kept - 1) * (4095 - size.largest) ≤ sum_by entry_size kept = byte_laws.small kept size.largest small in
      let within = le-div (block_count kept - 1) (4094 * div_ceil size.bytes 4094) (4095 - size.largest) (omega (arith, tiny)) (omega (arith, full, few_bytes)) in
      omega (arith, within, candidates.by_bytes below tiny)

  by_size : (these : List Version) → kept ≡ these → (bytes count : ℕ) → AreFlushCandidates size bytes count → count < 4294967296 → (4094 < size.largest) ⊎ (size.largest ≤ 4094) → block_count these ≤ count
  by_size [] is bytes count candidates below any = omega (arith, none_laid, candidates.some.1)
  by_size (v ∷ rest) is bytes count candidates below (inl large) =
      omega (arith, block_laws.appended [] (v ∷ rest), none_laid, few, ap (λ (vs : List Version). length vs) is, candidates.by_each below large)
  by_size (v ∷ rest) is bytes count candidates below (inr tiny) =
      let all : AllByRecursion (λ w. entry_size w ≤ size.largest) (v ∷ rest) = subst (AllByRecursion (λ w. entry_size w ≤ size.largest)) is small in
      let some : 0 < size.largest = omega (arith, all.0) in
      let each : 1 ≤ 4094 / size.largest = le-div 1 4094 size.largest some (omega (arith, tiny)) in
      let own = by_number v rest size.largest some tiny (subst (AllByRecursion IsEntry) is entries) all in
      let within = le-div (length (v ∷ rest) / (4094 / size.largest)) size.entries (4094 / size.largest) (omega (arith, each)) (omega (arith, div-mul-le_self (length (v ∷ rest)) (4094 / size.largest), few, ap (λ (vs : List Version). length vs) is)) in
      omega (arith, own, within, candidates.by_count below some tiny)

  lesser : (n a b : ℕ) → (a < 4294967296 → n ≤ a) → (b < 4294967296 → n ≤ b) → (a < 4294967296) ⊎ (4294967296 ≤ a) → (b < 4294967296) ⊎ (4294967296 ≤ b) → min a b < 4294967296 → n ≤ min a b
  lesser n a b by_a by_b (inl p) (inl q) within = omega (arith, by_a p, by_b q)
  lesser n a b by_a by_b (inl p) (inr q) within = omega (arith, by_a p, p, q)
  lesser n a b by_a by_b (inr p) (inl q) within = omega (arith, by_b q, p, q)
  lesser n a b by_a by_b (inr p) (inr q) within = absurd (omega (arith, p, q, within))

  pub few_blocks : (bytes count : ℕ) → AreFlushCandidates size bytes count → min bytes count < 4294967296 → block_count kept ≤ min bytes count
  few_blocks bytes count candidates within =
      lesser (block_count kept) bytes count
      (λ below. within_bytes bytes count candidates below (cases_lt 2047 size.largest))
      (λ below. by_size kept refl bytes count candidates below (cases_lt 4094 size.largest))
      (cases_lt bytes 4294967296) (cases_lt count 4294967296) within

-- no more blocks and entries than outputs hold
held_few : (live : Bool) (blocks count : ℕ) (outputs : Outputs) → HoldImages live blocks count outputs → outputs.blocks < 4294967296 → (blocks < 4294967296) × (count < 1125899906842624)
held_few false blocks count outputs holds low = let hold = holds low in (omega (arith, hold.all, low), omega (arith, hold.all, low))
held_few true blocks count outputs holds low = let hold = holds low in (omega (arith, hold.all, low), omega (arith, hold.all, low))

-- outputs of these blocks and entries are those of a flush
pub flush_takes : (live : Bool) (size : MemSize) (bytes count : ℕ) (outputs : Outputs) → AreFlushCandidates size bytes count → HoldImages live (min bytes count) size.entries outputs → FlushTakes live size outputs
flush_takes live size bytes count outputs candidates holds low versions images covers flushed =
    let fewer = held_few live (min bytes count) size.entries outputs holds low in
    enough flushed.cuts flushed.bottom versions images flushed.are_kept live (min bytes count) size.entries outputs holds low flushed.are_cuts
    (few_blocks size versions covers flushed.cuts flushed.bottom images flushed.are_kept fewer.1 bytes count candidates fewer.0)
    (few size versions covers flushed.cuts flushed.bottom images flushed.are_kept fewer.1)

-- ---- of nothing

no_images : (images : List TableBlocks) (cuts : List ℕ) (bottom : Bool) (versions : List Version) → AreOfKept cuts bottom versions images → length (keep cuts bottom versions) ≤ 0 → (blocks largest : ℕ) → TakeAtMost blocks largest images
no_images [] cuts bottom versions are none blocks largest = record { each = tt; all = omega arith }
no_images ([] ∷ images) cuts bottom versions are none blocks largest = absurd (omega (arith, are.each.0.nonempty))
no_images (([] ∷ blocks_left) ∷ images) cuts bottom versions are none blocks largest = absurd (omega (arith, are.each.0.in_blocks.nonempty.0))
no_images (((v ∷ block) ∷ blocks_left) ∷ images) cuts bottom versions are none blocks largest =
    absurd (omega (arith, none, ap (λ (vs : List Version). length vs) are.tables.whole))

-- a flush of nothing makes nothing
pub nothing_flushed : (live : Bool) (size : MemSize) (outputs : Outputs) → size.entries ≡ 0 → FlushTakes live size outputs
nothing_flushed live size outputs none low versions images covers flushed =
    no_images images flushed.cuts flushed.bottom versions flushed.are_kept (omega (arith, kept_few flushed.cuts flushed.bottom versions, covers.entries, none)) outputs.blocks outputs.largest

-- ---- both

-- where outputs of both leave `spare` blocks, the flushes do
pub both_leave : (spare free : ℕ) (live : Bool) (waiting memory : MemSize) (first second : Outputs) → FlushTakes live waiting first → FlushTakes live memory second → free < 4294967296 → first.blocks + second.blocks + spare ≤ free
    → FlushesLeave spare free live waiting memory
both_leave spare free live waiting memory first second takes also few fits old versions covers covers_also made images flushed flushed_also =
    omega (arith, (takes (omega (arith, few, fits)) old made covers flushed).all, (also (omega (arith, few, fits)) versions images covers_also flushed_also).all, fits)
