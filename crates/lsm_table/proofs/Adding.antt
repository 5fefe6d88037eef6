-- How the blocks change that entries take, with some of the entries or with more.
use Rattle.std.proofs.Common.{◌≡◌, ℕ, ◌+◌, ◌<◌, ◌≤◌, cond, leb, List, [], ◌∷◌, ◌++◌, length, refl, sym, ap, subst, arith, inl, inr}
use Rattle.std.specs.Prelude.{sum_by}
use Rattle.std.specs.List.{fold}
use Rattle.std.proofs.lemmas.List.Sums.{sum_by-cons, fold-append}
use Rattle.std.proofs.lemmas.Bool.{le-leb, lt-leb, cases_lt}
use Rattle.lsm_table.specs.declared.layout.Layout.{Layout}
use Rattle.lsm_codec.specs.Versions.{Version}
use Rattle.lsm_codec.specs.Entries.{entry_size}
use Rattle.lsm_table.specs.Division.{blocks}
use Rattle.lsm_table.specs.Counting.{with_entry}
use Rattle.lsm_table.specs.BlockCounts.{block_count, IsPart, IsMerge, most_blocks, BlockLaws}
use Rattle.lsm_table.proofs.Counts.{counting, layout, counted, counted_blocks, counted_laid, full_entry, fit_entry}

-- A layout has no more than another one with `more` blocks added, by blocks and then by the bytes used.
pub record IsWithin (more : ℕ) (s t : Layout) : Type 0 where
  pub blocks : s.blocks ≤ t.blocks + more
  pub used : t.blocks + more ≤ s.blocks → s.used ≤ t.used

-- what an entry leaves used: its count and itself at least
pub used_some : (t : Layout) (size : ℕ) → 2 ≤ t.used → 2 ≤ (with_entry t size).used
used_some t size some = elim (cases_lt 4096 (t.used + size)) [
  | inl over ↦ rw (full_entry t.blocks t.used size over) (omega arith)
  | inr fits ↦ rw (fit_entry t.blocks t.used size fits) (omega arith)
]

-- an entry to both
keeps : (more size : ℕ) (s t : Layout) → IsWithin more s t → 2 ≤ t.used → IsWithin more (with_entry s size) (with_entry t size)
keeps more size s t within some = elim (cases_lt 4096 (s.used + size)) [
  | inl over ↦ elim (cases_lt 4096 (t.used + size)) [
    | inl full ↦ rw (full_entry s.blocks s.used size over, full_entry t.blocks t.used size full) (record { blocks = omega (arith, within.blocks); used = λ last. omega arith })
    | inr room ↦ rw (full_entry s.blocks s.used size over, fit_entry t.blocks t.used size room) (record { blocks = not_last over room; used = λ last. omega arith })
  ]
  | inr fits ↦ elim (cases_lt 4096 (t.used + size)) [
    | inl full ↦ rw (fit_entry s.blocks s.used size fits, full_entry t.blocks t.used size full) (record { blocks = omega (arith, within.blocks); used = λ last. omega (arith, within.blocks) })
    | inr room ↦ rw (fit_entry s.blocks s.used size fits, fit_entry t.blocks t.used size room) (record { blocks = within.blocks; used = λ last. omega (arith, within.used last) })
  ]
]
  where
    not_last : 4096 < s.used + size → t.used + size ≤ 4096 → s.blocks + 1 ≤ t.blocks + more
    not_last over room = elim (cases_lt s.blocks (t.blocks + more)) [ inl less ↦ omega (arith, less) | inr last ↦ absurd (omega (arith, within.used last)) ]

-- an entry to the second alone
skips : (more size : ℕ) (s t : Layout) → IsWithin more s t → IsWithin more s (with_entry t size)
skips more size s t within = elim (cases_lt 4096 (t.used + size)) [
  | inl full ↦ rw (full_entry t.blocks t.used size full) (record { blocks = omega (arith, within.blocks); used = λ last. omega (arith, within.blocks) })
  | inr room ↦ rw (fit_entry t.blocks t.used size room) (record { blocks = within.blocks; used = λ last. omega (arith, within.used last) })
]

-- the most blocks that an entry of this size adds
abbrev most_of : ℕ → ℕ
most_of size = cond (leb size 2047) 1 2

-- an entry to the first alone
adds : (more size : ℕ) (s t : Layout) → IsWithin more s t → 2 ≤ t.used → IsWithin (more + most_of size) (with_entry s size) t
adds more size s t within some = elim (cases_lt 2047 size) [
  | inl large ↦ rw (lt-leb size 2047 large) (elim (cases_lt 4096 (s.used + size)) [
    | inl over ↦ rw (full_entry s.blocks s.used size over) (record { blocks = omega (arith, within.blocks); used = λ last. omega (arith, within.blocks) })
    | inr fits ↦ rw (fit_entry s.blocks s.used size fits) (record { blocks = omega (arith, within.blocks); used = λ last. omega (arith, within.blocks) })
  ])
  | inr small ↦ rw (le-leb size 2047 small) (elim (cases_lt 4096 (s.used + size)) [
    | inl over ↦ rw (full_entry s.blocks s.used size over) (record { blocks = omega (arith, within.blocks); used = λ last. omega (arith, within.blocks, within.used (omega arith)) })
    | inr fits ↦ rw (fit_entry s.blocks s.used size fits) (record { blocks = omega (arith, within.blocks); used = λ last. omega (arith, within.blocks) })
  ])
]

same_within : (s : Layout) → IsWithin 0 s s
same_within s = record { blocks = omega arith; used = λ last. omega arith }

-- entry after entry
abbrev pub after : Layout → List Version → Layout
after s entries = fold counting s entries

part_within : (s t : Layout) (some all : List Version) → IsWithin 0 s t → 2 ≤ t.used → IsPart some all → IsWithin 0 (after s some) (after t all)
part_within s t some [] within used is = subst (λ (es : List Version). IsWithin 0 (after s es) t) (sym is) within
part_within s t some (v ∷ all) within used (inl x) =
    subst (λ (es : List Version). IsWithin 0 (after s es) (after t (v ∷ all))) (sym x.1)
    (part_within (counting s v) (counting t v) x.0 all (keeps 0 (entry_size v) s t within used) (used_some t (entry_size v) used) x.2)
part_within s t some (v ∷ all) within used (inr part) = part_within s (counting t v) some all (skips 0 (entry_size v) s t within) (used_some t (entry_size v) used) part

merge_within : (more : ℕ) (s t : Layout) (base added all : List Version) → IsWithin more s t → 2 ≤ t.used → IsMerge base added all
    → IsWithin (more + sum_by most_blocks added) (after s all) (after t base)
merge_within more s t base added [] within used is =
    let none : more ≡ more + sum_by most_blocks added = omega (arith, ap (sum_by most_blocks) is.1) in
    subst (λ (n : ℕ). IsWithin n s (after t base)) none (subst (λ (es : List Version). IsWithin more s (after t es)) (sym is.0) within)
merge_within more s t base added (v ∷ all) within used (inl x) =
    subst (λ (es : List Version). IsWithin (more + sum_by most_blocks added) (after s (v ∷ all)) (after t es)) (sym x.1)
    (merge_within more (counting s v) (counting t v) x.0 added all (keeps more (entry_size v) s t within used) (used_some t (entry_size v) used) x.2)
merge_within more s t base added (v ∷ all) within used (inr x) =
    let total : more + most_of (entry_size v) + sum_by most_blocks x.0 ≡ more + sum_by most_blocks added = omega (arith, sum_by-cons most_blocks v x.0, ap (sum_by most_blocks) x.1) in
    subst (λ (n : ℕ). IsWithin n (after s (v ∷ all)) (after t base)) total
    (merge_within (more + most_of (entry_size v)) (counting s v) t base x.0 all (adds more (entry_size v) s t within used) used x.2)

part_law : (some all : List Version) → IsPart some all → block_count some ≤ block_count all
part_law some all part =
    let within = part_within (layout 1 2) (layout 1 2) some all (same_within (layout 1 2)) (omega arith) part in
    omega (arith, within.blocks, counted_blocks some, counted_blocks all)

merge_law : (base added all : List Version) → IsMerge base added all → block_count all ≤ block_count base + sum_by most_blocks added
merge_law base added all merge =
    let within = merge_within 0 (layout 1 2) (layout 1 2) base added all (same_within (layout 1 2)) (omega arith) merge in
    omega (arith, within.blocks, counted_blocks base, counted_blocks all)

-- ---- an entry more or less at a place

itself_part : (entries : List Version) → IsPart entries entries
itself_part [] = refl
itself_part (v ∷ entries) = inl (entries, refl, itself_part entries)

part_without : (before after : List Version) (v : Version) → IsPart (before ++ after) (before ++ v ∷ after)
part_without [] after v = inr (itself_part after)
part_without (w ∷ before) after v = inl (before ++ after, refl, part_without before after v)

itself_merge : (entries : List Version) → IsMerge entries [] entries
itself_merge [] = (refl, refl)
itself_merge (v ∷ entries) = inl (entries, refl, itself_merge entries)

merge_with : (before after : List Version) (v : Version) → IsMerge (before ++ after) (v ∷ []) (before ++ v ∷ after)
merge_with [] after v = inr ([], refl, itself_merge after)
merge_with (w ∷ before) after v = inl (before ++ after, refl, merge_with before after v)

-- ---- entries after others

-- entries that go on after n blocks, the last of them empty
begun_anew : (n : ℕ) (entries : List Version) → (after (layout n 2) entries).blocks + 1 ≡ n + block_count entries
unfolding blocks
begun_anew n entries = counted_laid n [] entries

within_after : (more : ℕ) (s t : Layout) (entries : List Version) → IsWithin more s t → 2 ≤ t.used → IsWithin more (after s entries) (after t entries)
within_after more s t [] within used = within
within_after more s t (v ∷ entries) within used = within_after more (counting s v) (counting t v) entries (keeps more (entry_size v) s t within used) (used_some t (entry_size v) used)

pub counted_used : (s : Layout) (entries : List Version) → 2 ≤ s.used → 2 ≤ (after s entries).used
counted_used s [] used = used
counted_used s (v ∷ entries) used = counted_used (counting s v) entries (used_some s (entry_size v) used)

counted_append : (before later : List Version) → counted (before ++ later) ≡ after (counted before) later
counted_append before later = fold-append counting (layout 1 2) before later

joined_law : (before later : List Version) → block_count (before ++ later) ≤ block_count before + block_count later
joined_law before later =
    let s : Layout = counted before in
    let within = within_after 1 s (layout s.blocks 2) later (record { blocks = omega arith; used = λ last. absurd (omega arith) }) (omega arith) in
    omega (arith, within.blocks, begun_anew s.blocks later, counted_blocks before, counted_blocks (before ++ later), ap (λ (x : Layout). x.blocks) (counted_append before later))

parted_law : (before later : List Version) → block_count before + block_count later ≤ block_count (before ++ later) + 1
parted_law before later =
    let s : Layout = counted before in
    let used : 2 ≤ s.used = counted_used (layout 1 2) before (omega arith) in
    let within = within_after 0 (layout s.blocks 2) s later (record { blocks = omega arith; used = λ last. used }) used in
    omega (arith, within.blocks, begun_anew s.blocks later, counted_blocks before, counted_blocks (before ++ later), ap (λ (x : Layout). x.blocks) (counted_append before later))

one_block : (s : Layout) (size : ℕ) → (with_entry s size).blocks ≤ s.blocks + 1
one_block s size = elim (cases_lt 4096 (s.used + size)) [
  | inl over ↦ rw (full_entry s.blocks s.used size over) (omega arith)
  | inr fits ↦ rw (fit_entry s.blocks s.used size fits) (omega arith)
]

one_block_each : (s : Layout) (entries : List Version) → (after s entries).blocks ≤ s.blocks + length entries
one_block_each s [] = omega arith
one_block_each s (v ∷ entries) = omega (arith, one_block s (entry_size v), one_block_each (counting s v) entries)

appended_law : (before later : List Version) → block_count (before ++ later) ≤ block_count before + length later
appended_law before later =
    omega (arith, one_block_each (counted before) later, counted_blocks before, counted_blocks (before ++ later), ap (λ (x : Layout). x.blocks) (counted_append before later))

pub block_laws : BlockLaws
block_laws = record {
  part = part_law;
  merged = merge_law;
  one_less = λ before later v. part_law (before ++ later) (before ++ v ∷ later) (part_without before later v);
  one_more = λ before later v. omega (arith, merge_law (before ++ later) (v ∷ []) (before ++ v ∷ later) (merge_with before later v), sum_by-cons most_blocks v []);
  joined = joined_law;
  parted = parted_law;
  appended = appended_law;
}
