-- The blocks that entries take, by their bytes.
use Rattle.std.proofs.Common.{◌≡◌, ◌⊎◌, ℕ, ◌+◌, ◌-◌, ◌*◌, ◌/◌, ◌≤◌, List, [], ◌∷◌, length, ap, subst, ◌∙◌, arith, inl, inr}
use Rattle.std.specs.Prelude.{sum_by}
use Rattle.std.specs.List.{AllByRecursion, flat_map}
use Rattle.std.proofs.Math.Nat.{add-mul}
use Rattle.std.proofs.lemmas.List.Sums.{sum_by-cons, sum_by-append}
use Rattle.std.proofs.lemmas.Bool.{cases_lt}
use Rattle.lsm_table.specs.declared.layout.Layout.{Layout}
use Rattle.lsm_codec.specs.Versions.{Version}
use Rattle.lsm_codec.specs.Entries.{entry_size, block_size}
use Rattle.lsm_table.specs.Division.{TableBlocks, entries_of}
use Rattle.lsm_table.specs.Counting.{with_entry}
use Rattle.lsm_table.specs.BlockCounts.{block_count, data_blocks, AreInBlocks, ByteLaws}
use Rattle.lsm_table.proofs.Counts.{counting, layout, counted, counted_blocks, full_entry, fit_entry}
use Rattle.lsm_table.proofs.Adding.{after, used_some, counted_used}

abbrev bytes : List Version → ℕ
bytes entries = sum_by entry_size entries

-- ---- where no entry is large

-- Each block before the last has at least `least` bytes.
pub record IsFilled (least total : ℕ) (s : Layout) : Type 0 where
  pub some : 1 ≤ s.blocks
  pub filled : (s.blocks - 1) * least + s.used ≤ total + 2

fills : (most size total : ℕ) (s : Layout) → size ≤ most → 2 ≤ s.used → IsFilled (4095 - most) total s → IsFilled (4095 - most) (size + total) (with_entry s size)
fills most size total s small used filled = elim (cases_lt 4096 (s.used + size)) [
  | inl over ↦
      let one_more : (s.blocks + 1 - 1) * (4095 - most) ≡ (s.blocks - 1) * (4095 - most) + (4095 - most) = split in
      rw (full_entry s.blocks s.used size over) (record { some = omega arith; filled = omega (arith, one_more, filled.filled) })
  | inr fits ↦ rw (fit_entry s.blocks s.used size fits) (record { some = filled.some; filled = omega (arith, filled.filled) })
]
  where
    split : (s.blocks + 1 - 1) * (4095 - most) ≡ (s.blocks - 1) * (4095 - most) + (4095 - most)
    split =
        let before : s.blocks + 1 - 1 ≡ (s.blocks - 1) + 1 = omega (arith, filled.some) in
        ap (λ (n : ℕ). n * (4095 - most)) before ∙ add-mul (s.blocks - 1) 1 (4095 - most) ∙ ap (λ (n : ℕ). (s.blocks - 1) * (4095 - most) + n) (omega arith)

all_filled : (most total : ℕ) (s : Layout) (entries : List Version) → AllByRecursion (λ v. entry_size v ≤ most) entries → 2 ≤ s.used → IsFilled (4095 - most) total s → IsFilled (4095 - most) (bytes entries + total) (after s entries)
all_filled most total s [] small used filled = subst (λ (n : ℕ). IsFilled (4095 - most) n s) (omega arith) filled
all_filled most total s (v ∷ entries) small used filled =
    subst (λ (n : ℕ). IsFilled (4095 - most) n (after s (v ∷ entries))) (omega (arith, sum_by-cons entry_size v entries))
    (all_filled most (entry_size v + total) (counting s v) entries small.1 (used_some s (entry_size v) used) (fills most (entry_size v) total s small.0 used filled))

small_law : (entries : List Version) (most : ℕ) → AllByRecursion (λ v. entry_size v ≤ most) entries → (block_count entries - 1) * (4095 - most) ≤ bytes entries
small_law entries most small =
    let start : IsFilled (4095 - most) 0 (layout 1 2) = record { some = omega arith; filled = omega arith } in
    let end = all_filled most 0 (layout 1 2) entries small (omega arith) start in
    let used : 2 ≤ (counted entries).used = counted_used (layout 1 2) entries (omega arith) in
    subst (λ (n : ℕ). (n - 1) * (4095 - most) ≤ bytes entries) (counted_blocks entries) (omega (arith, end.filled))

-- ---- whatever the sizes

-- `pairs` pairs of blocks have the bytes of a block and more, and one block is left, or two that are such a pair.
pub record IsPaired (total : ℕ) (s : Layout) : Type 0 where
  pub pairs : ℕ
  pub rest : ((s.blocks ≡ 2 * pairs + 1) × (4095 * pairs + s.used ≤ total + 2)) ⊎ ((s.blocks ≡ 2 * pairs + 2) × (4095 * pairs + 4095 ≤ total))

pairs_more : (size total : ℕ) (s : Layout) → IsPaired total s → IsPaired (size + total) (with_entry s size)
pairs_more size total s paired = elim (cases_lt 4096 (s.used + size)) [
  | inl over ↦ rw (full_entry s.blocks s.used size over) (elim paired.rest [
    | inl odd ↦ record { pairs = paired.pairs; rest = inr (omega (arith, odd.0), omega (arith, odd.1)) }
    | inr even ↦ record { pairs = paired.pairs + 1; rest = inl (omega (arith, even.0), omega (arith, even.1)) }
  ])
  | inr fits ↦ rw (fit_entry s.blocks s.used size fits) (elim paired.rest [
    | inl odd ↦ record { pairs = paired.pairs; rest = inl (odd.0, omega (arith, odd.1)) }
    | inr even ↦ record { pairs = paired.pairs; rest = inr (even.0, omega (arith, even.1)) }
  ])
]

all_paired : (total : ℕ) (s : Layout) (entries : List Version) → IsPaired total s → IsPaired (bytes entries + total) (after s entries)
all_paired total s [] paired = subst (λ (n : ℕ). IsPaired n s) (omega arith) paired
all_paired total s (v ∷ entries) paired =
    subst (λ (n : ℕ). IsPaired n (after s (v ∷ entries))) (omega (arith, sum_by-cons entry_size v entries))
    (all_paired (entry_size v + total) (counting s v) entries (pairs_more (entry_size v) total s paired))

any_law : (entries : List Version) → block_count entries ≤ 2 * (bytes entries / 4095) + 1
any_law entries =
    let start : IsPaired 0 (layout 1 2) = record { pairs = 0; rest = inl (omega arith, omega arith) } in
    let end = all_paired 0 (layout 1 2) entries start in
    let used : 2 ≤ (counted entries).used = counted_used (layout 1 2) entries (omega arith) in
    elim end.rest [
      | inl odd ↦ omega (arith, odd.0, odd.1, counted_blocks entries)
      | inr even ↦ omega (arith, even.0, even.1, counted_blocks entries)
    ]

-- ---- what blocks hold

bytes_in : (table : TableBlocks) → AllByRecursion (λ block. block_size block ≤ 4096) table → bytes (entries_of table) ≤ 4094 * length table
bytes_in [] fits = omega arith
bytes_in (block ∷ table) fits = omega (arith, fits.0, bytes_in table fits.1, sum_by-append entry_size block (entries_of table))

held_law : (tables : List TableBlocks) → AreInBlocks tables → bytes (flat_map entries_of tables) ≤ 4094 * data_blocks tables
held_law [] are = omega arith
held_law (table ∷ tables) are =
    omega (arith, bytes_in table are.in_blocks.0.fits, held_law tables (record { nonempty = are.nonempty.1; in_blocks = are.in_blocks.1 }), sum_by-append entry_size (entries_of table) (flat_map entries_of tables))

pub byte_laws : ByteLaws
byte_laws = record { small = small_law; any = any_law; held = held_law }
