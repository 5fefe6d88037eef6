-- How many blocks entries fill, by their number.
use Rattle.std.proofs.Common.{◌≡◌, ℕ, ◌+◌, ◌-◌, ◌*◌, ◌/◌, ◌<◌, ◌≤◌, List, [], ◌∷◌, length, sym, ap, subst, arith}
use Rattle.std.specs.Prelude.{sum_by}
use Rattle.std.specs.List.{AllByRecursion}
use Rattle.std.proofs.Math.Nat.{add-mul}
use Rattle.std.proofs.lemmas.Nat.{le-div, div_below}
use Rattle.std.proofs.lemmas.List.{length-append}
use Rattle.std.proofs.lemmas.List.Sums.{sum_by-cons}
use Rattle.lsm_codec.specs.Versions.{Version, IsEntry}
use Rattle.lsm_codec.specs.Entries.{entry_size}
use Rattle.lsm_codec.proofs.Lists.{all_left, all_right}
use Rattle.lsm_table.specs.Division.{Block, TableBlocks, AllAdjacent, IsFullBefore, blocks, entries_of}
use Rattle.lsm_table.specs.BlockCounts.{block_count}
use Rattle.lsm_table.proofs.Tables.{one_layout}

pub bytes_few : (versions : List Version) (most : ℕ) → AllByRecursion (λ v. entry_size v ≤ most) versions → sum_by entry_size versions ≤ length versions * most
bytes_few [] most small = omega arith
bytes_few (v ∷ versions) most small =
    omega (arith, bytes_few versions most small.1, small.0, sum_by-cons entry_size v versions, add-mul 1 (length versions) most)

-- a block before another one has as many entries as of the largest have room in one
full_few : (block next : Block) (most : ℕ) → 0 < most → AllByRecursion (λ v. entry_size v ≤ most) block → AllByRecursion (λ v. entry_size v ≤ most) next → IsFullBefore block next → 4094 / most ≤ length block
full_few block [] most some small other full = absurd full
full_few block (v ∷ next) most some small other full =
    let below : 4094 / most < length block + 1 = div_below 4094 most (length block + 1) some (omega (arith, full, other.0, bytes_few block most small, add-mul (length block) 1 most)) in
    omega (arith, below)

all_full : (first : Block) (rest : TableBlocks) (most : ℕ) → 0 < most → AllByRecursion (λ v. entry_size v ≤ most) (entries_of (first ∷ rest)) → AllAdjacent IsFullBefore (first ∷ rest) → length rest * (4094 / most) ≤ length (entries_of (first ∷ rest))
all_full first [] most some small full = omega arith
all_full first (next ∷ rest) most some small full =
    let others : AllByRecursion (λ v. entry_size v ≤ most) (entries_of (next ∷ rest)) = all_right (λ v. entry_size v ≤ most) first (entries_of (next ∷ rest)) small in
    let own = full_few first next most some (all_left (λ v. entry_size v ≤ most) first (entries_of (next ∷ rest)) small) (all_left (λ v. entry_size v ≤ most) next (entries_of rest) others) full.0 in
    omega (arith, own, all_full next rest most some others full.1, add-mul 1 (length rest) (4094 / most), length-append first (entries_of (next ∷ rest)))

full_blocks : (table : TableBlocks) (most : ℕ) → 0 < most → AllByRecursion (λ v. entry_size v ≤ most) (entries_of table) → AllAdjacent IsFullBefore table → (length table - 1) * (4094 / most) ≤ length (entries_of table)
full_blocks [] most some small full = omega arith
full_blocks (first ∷ rest) most some small full =
    let one_less : length rest ≡ length (first ∷ rest) - 1 = omega arith in
    subst (λ (n : ℕ). n * (4094 / most) ≤ length (entries_of (first ∷ rest))) one_less (all_full first rest most some small full)

-- entries take no more blocks than by their number, where some fit one block
pub by_number : (v : Version) (versions : List Version) (most : ℕ) → 0 < most → most ≤ 4094 → AllByRecursion IsEntry (v ∷ versions) → AllByRecursion (λ w. entry_size w ≤ most) (v ∷ versions)
    → block_count (v ∷ versions) ≤ length (v ∷ versions) / (4094 / most) + 1
by_number v versions most some few are small =
    let all : List Version = v ∷ versions in
    let laid = one_layout.are all (omega arith) are in
    let each : 1 ≤ 4094 / most = le-div 1 4094 most some (omega arith) in
    let full : (block_count all - 1) * (4094 / most) ≤ length (entries_of (blocks all)) = full_blocks (blocks all) most some (subst (AllByRecursion (λ w. entry_size w ≤ most)) (sym laid.whole) small) laid.full in
    let within = le-div (block_count all - 1) (length all) (4094 / most) (omega (arith, each)) (omega (arith, full, ap (λ (vs : List Version). length vs) laid.whole)) in
    omega (arith, within)
