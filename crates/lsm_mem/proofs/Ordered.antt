-- Versions are in the order of entries, and within their limits.
use Rattle.std.proofs.Common.{◌≡◌, ℕ, ◌<◌, ◌≤◌, ◌^◌, List, [], ◌∷◌, ◌++◌, map, Option, Some, None, ap, sym, ◌∙◌, arith}
use Rattle.std.proofs.lemmas.Cmp.{nat_list_cmp_total, tied_itself}
use Rattle.std.proofs.lemmas.List.Elements.{All-from_recursion}
use Rattle.std.specs.Cmp.{nat_cmp_is}
use Rattle.std.specs.List.{AllByRecursion}
use Rattle.std.specs.Ordering.{nat_cmp, ordering_then}
use Rattle.std.specs.declared.cmp.Ordering.TheVariants.{Less}
use Rattle.lsm_codec.specs.Keys.{Bytes, byte_order}
use Rattle.lsm_codec.specs.Map.{Operation}
use Rattle.lsm_codec.specs.BatchText.{IsChange, IsOperation}
use Rattle.lsm_codec.specs.Versions.{Version, IsEntry, AreOrdered, entry_order}
use Rattle.lsm_mem.specs.EntryOrder.{placed, version_by, with_batch}
use Rattle.lsm_mem.specs.Histories.{Change, Histories, version, versions_of, IsNewestFirst, IsHistory, IsAscending, AreHistories}
use Rattle.lsm_mem.proofs.Batches.{all_placed}
use Rattle.lsm_codec.proofs.Lists.{all_append}

abbrev Before : Version → Version → Type 0
Before v w = entry_order v w ≡ Less

abbrev AreBefore : Version → List Version → Type 0
AreBefore v versions = AllByRecursion (Before v) versions

-- of one key the newer comes first
newer_first : (key : Bytes) (v w : Change) → w.number < v.number → Before (version key v) (version key w)
newer_first key v w below =
    ap (λ o. ordering_then o (nat_cmp w.number v.number)) (tied_itself nat_list_cmp_total key) ∙ sym (nat_cmp_is w.number v.number Less below)

newer_first_all : (key : Bytes) (v : Change) (older : List Change) → AllByRecursion (λ w. w.number < v.number) older → AreBefore (version key v) (map (version key) older)
newer_first_all key v [] all = tt
newer_first_all key v (w ∷ older) all = (newer_first key v w all.0, newer_first_all key v older all.1)

before_key : (key other : Bytes) (v w : Change) → byte_order key other ≡ Less → Before (version key v) (version other w)
before_key key other v w less = ap (λ o. ordering_then o (nat_cmp w.number v.number)) less

before_history : (key other : Bytes) (v : Change) (changes : List Change) → byte_order key other ≡ Less → AreBefore (version key v) (map (version other) changes)
before_history key other v [] less = tt
before_history key other v (w ∷ changes) less = (before_key key other v w less, before_history key other v changes less)

before_rest : (key : Bytes) (v : Change) (rest : Histories) → AllByRecursion (λ later. byte_order key later.0 ≡ Less) rest → AreBefore (version key v) (versions_of rest)
before_rest key v [] all = tt
before_rest key v (entry ∷ rest) all =
    all_append (Before (version key v)) (map (version entry.0) entry.1) (versions_of rest) (before_history key entry.0 v entry.1 all.0) (before_rest key v rest all.1)

-- a key's versions, and those of later keys
ordered-joined : (key : Bytes) (changes : List Change) (rest : Histories) → AllByRecursion (λ later. byte_order key later.0 ≡ Less) rest → IsNewestFirst changes → AreOrdered (versions_of rest) → AreOrdered (map (version key) changes ++ versions_of rest)
ordered-joined key [] rest all newest ordered = ordered
ordered-joined key (v ∷ changes) rest all newest ordered = (
  All-from_recursion (Before (version key v)) (map (version key) changes ++ versions_of rest)
      (all_append (Before (version key v)) (map (version key) changes) (versions_of rest) (newer_first_all key v changes newest.0) (before_rest key v rest all)),
  ordered-joined key changes rest all newest.1 ordered,
)

ordered-histories : (entries : Histories) → IsAscending entries → AllByRecursion (λ entry. IsHistory entry.1) entries → AreOrdered (versions_of entries)
ordered-histories [] ascending each = tt
ordered-histories (entry ∷ rest) ascending each =
    ordered-joined entry.0 entry.1 rest ascending.0 each.0.newest_first (ordered-histories rest ascending.1 each.1)

pub ordered-versions_of : (entries : Histories) → AreHistories entries → AreOrdered (versions_of entries)
ordered-versions_of entries kept = ordered-histories entries kept.ascending kept.each

entry-version_by : (key : Bytes) (number : ℕ) (value : Option Bytes) → 1 ≤ number → number ≤ 2 ^ 63 → IsChange key value → IsEntry (record { key = key; number = number; value = value })
entry-version_by key number (Some bytes) low high limits = record { key = limits.0; number_low = low; number_high = high; value = limits.1 }
entry-version_by key number None low high limits = record { key = limits; number_low = low; number_high = high; value = omega arith }

pub entries-with_batch : (number : ℕ) (operations : List Operation) (versions : List Version) → 1 ≤ number → number ≤ 2 ^ 63 → AllByRecursion IsOperation operations → AllByRecursion IsEntry versions → AllByRecursion IsEntry (with_batch number operations versions)
entries-with_batch number [] versions low high limits entries = entries
entries-with_batch number (operation ∷ rest) versions low high limits entries =
    entries-with_batch number rest (placed (version_by number operation) versions) low high limits.1
    (all_placed IsEntry (version_by number operation) versions (entry-version_by operation.key number operation.value low high limits.0) entries)
