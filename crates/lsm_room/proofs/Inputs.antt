-- What the tables of a merge's input have, by their numbers.
use Rattle.std.proofs.Common.{◌≡◌, ℕ, ◌+◌, ◌*◌, ◌≤◌, Bool, true, false, cond, leb, is_some, List, [], ◌∷◌, length, Option, Some, None, inl, inr, refl, ap, arith}
use Rattle.std.specs.Prelude.{sum_by}
use Rattle.std.specs.List.{AllByRecursion}
use Rattle.std.proofs.lemmas.Bool.{cases_lt, le-leb, lt-leb}
use Rattle.std.proofs.lemmas.List.Sums.{sum_by-cons, sum_by-append}
use Rattle.lsm_codec.specs.Keys.{Bytes}
use Rattle.lsm_codec.specs.Versions.{Version, IsEntry, one_if_none, deletes_in, value_length}
use Rattle.lsm_codec.specs.Entries.{entry_size, block_size}
use Rattle.lsm_table.specs.Division.{TableBlocks, entries_of}
use Rattle.lsm_table.specs.BlockCounts.{most_blocks}
use Rattle.lsm_jobs.specs.MergedBlocks.{most_put_blocks}

-- 1 of an entry of which no two fit one block, 0 of another
abbrev pub one_if_large : Version → ℕ
one_if_large v = cond (leb (entry_size v) 2047) 0 1

abbrev pub large_in : List Version → ℕ
large_in versions = sum_by one_if_large versions

-- ---- the blocks of entries

most_of : (b : Bool) → cond b 1 2 ≡ 1 + cond b 0 1
most_of true = refl
most_of false = refl

pub most_in : (versions : List Version) → sum_by most_blocks versions ≡ length versions + large_in versions
most_in [] = refl
most_in (v ∷ versions) = omega (arith, most_in versions, most_of (leb (entry_size v) 2047), sum_by-cons most_blocks v versions, sum_by-cons one_if_large v versions)

put_of : (value : Option Bytes) (b : Bool) → cond (is_some value) (cond b 1 2) 0 + one_if_none value ≤ 1 + cond b 0 1
put_of None b = omega arith
put_of (Some value) true = omega arith
put_of (Some value) false = omega arith

pub puts_in : (versions : List Version) → sum_by most_put_blocks versions + deletes_in versions ≤ length versions + large_in versions
puts_in [] = omega arith
puts_in (v ∷ versions) =
    omega (arith, puts_in versions, put_of v.value (leb (entry_size v) 2047), sum_by-cons most_put_blocks v versions, sum_by-cons (λ (w : Version). one_if_none w.value) v versions, sum_by-cons one_if_large v versions)

-- ---- large entries

large_size : (v : Version) → 2048 * one_if_large v ≤ entry_size v
large_size v = elim (cases_lt 2047 (entry_size v)) [
  | inl over ↦ omega (arith, ap {B = ℕ} (λ (b : Bool). cond b 0 1) (lt-leb (entry_size v) 2047 over))
  | inr fits ↦ omega (arith, ap {B = ℕ} (λ (b : Bool). cond b 0 1) (le-leb (entry_size v) 2047 fits))
]

large_bytes : (versions : List Version) → 2048 * large_in versions ≤ sum_by entry_size versions
large_bytes [] = omega arith
large_bytes (v ∷ versions) = omega (arith, large_bytes versions, large_size v, sum_by-cons one_if_large v versions, sum_by-cons entry_size v versions)

-- one of each block at most
pub large_blocks : (table : TableBlocks) → AllByRecursion (λ block. block_size block ≤ 4096) table → large_in (entries_of table) ≤ length table
large_blocks [] fits = omega arith
large_blocks (block ∷ table) fits = omega (arith, large_blocks table fits.1, fits.0, large_bytes block, sum_by-append one_if_large block (entries_of table))

-- none is a delete
large_put : (v : Version) → IsEntry v → one_if_large v + one_if_none v.value ≤ 1
large_put v is = by v.value refl
  where
    by : (value : Option Bytes) → v.value ≡ value → one_if_large v + one_if_none v.value ≤ 1
    by None e = omega (arith, large_size v, is.key.1, ap one_if_none e, ap value_length e)
    by (Some value) e = omega (arith, ap one_if_none e, large_size v)

pub large_puts : (versions : List Version) → AllByRecursion IsEntry versions → large_in versions + deletes_in versions ≤ length versions
large_puts [] are = omega arith
large_puts (v ∷ versions) are = omega (arith, large_puts versions are.1, large_put v are.0, sum_by-cons one_if_large v versions, sum_by-cons (λ (w : Version). one_if_none w.value) v versions)

-- none are there where the largest is small
pub none_large : (versions : List Version) (most : ℕ) → most ≤ 2047 → AllByRecursion (λ v. entry_size v ≤ most) versions → large_in versions ≡ 0
none_large [] most small all = refl
none_large (v ∷ versions) most small all =
    omega (arith, none_large versions most small all.1, ap {B = ℕ} (λ (b : Bool). cond b 0 1) (le-leb (entry_size v) 2047 (omega (arith, all.0))), sum_by-cons one_if_large v versions)
