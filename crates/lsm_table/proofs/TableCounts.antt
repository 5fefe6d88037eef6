-- How many tables there are, and the blocks of their extents.
use Rattle.std.proofs.Common.{◌≡◌, ℕ, ◌+◌, ◌-◌, ◌*◌, ◌/◌, ◌<◌, ◌≤◌, List, [], ◌∷◌, ◌++◌, length, ap, ◌∙◌, arith, inl, inr}
use Rattle.std.specs.Prelude.{count_by, cond}
use Rattle.std.specs.List.{AllByRecursion, flat_map}
use Rattle.std.specs.Int.{div_ceil}
use Rattle.std.proofs.Math.Nat.{add-mul}
use Rattle.std.proofs.lemmas.Nat.{le-div}
use Rattle.std.proofs.lemmas.List.{length-append}
use Rattle.std.proofs.lemmas.List.Sums.{sum_by-append}
use Rattle.lsm_codec.specs.Keys.{Bytes}
use Rattle.lsm_codec.specs.Versions.{Version, is_same_key}
use Rattle.lsm_codec.proofs.IndexLaws.{index_high}
use Rattle.lsm_codec.proofs.KeyOrder.{key_itself}
use Rattle.lsm_table.specs.Division.{TableBlocks, IsTable, IsTables, IsBlocks, IsTooMuch, AllAdjacent, entries_of, first_group}
use Rattle.lsm_table.specs.BlockEdges.{edges_of}
use Rattle.lsm_table.specs.Extents.{extent_size}
use Rattle.lsm_table.specs.BlockCounts.{data_blocks, extent_blocks, AreInBlocks, TableCountLaws}
use Rattle.lsm_table.proofs.Adding.{block_laws}
use Rattle.lsm_table.proofs.Borders.{own_blocks}
use Rattle.lsm_table.proofs.Ends.{with_key, group_length, prefix_counts, count-cons}
use Rattle.lsm_table.proofs.Outlines.{outline_fits, edge_count, few_blocks}

-- the entries of the first key are no more than those of any key
group_within : (entries : List Version) (group : ℕ) → ((key : Bytes) → count_by (with_key key) entries ≤ group) → length (first_group entries) ≤ group
group_within [] group few = omega arith
group_within (v ∷ rest) group few =
    let c : count_by (with_key v.key) (v ∷ rest) ≡ 1 + count_by (with_key v.key) rest = count-cons (with_key v.key) v rest ∙ ap (λ (b : _). cond b 1 0 + count_by (with_key v.key) rest) (key_itself v.key) in
    omega (arith, few v.key, c, prefix_counts (with_key v.key) rest, group_length v rest)

-- `by_blocks` tables are full by their blocks, and `by_entries` by their entries; all but one are.
pub record AreFull (group blocks entries tables : ℕ) : Type 0 where
  pub by_blocks : ℕ
  pub by_entries : ℕ
  pub count : tables ≤ by_blocks + by_entries + 1
  pub have_blocks : by_blocks * (65 - group) ≤ blocks
  pub have_entries : by_entries * (3201 - group) ≤ entries

one_more : (n w : ℕ) → (n + 1) * w ≡ n * w + w
one_more n w = add-mul n 1 w ∙ ap (λ (m : ℕ). n * w + m) (omega arith)

FewOfKey : List Version → ℕ → Type 0
FewOfKey entries group = (key : Bytes) → count_by (with_key key) entries ≤ group

full_more : (table next : TableBlocks) (group blocks entries tables : ℕ) → IsBlocks (entries_of table) table → 0 < length table → length (first_group (entries_of next)) ≤ group
    → IsTooMuch (entries_of table ++ first_group (entries_of next)) → AreFull group blocks entries tables → AreFull group (length table + blocks) (length (entries_of table) + entries) (tables + 1)
full_more table next group blocks entries tables is some few (inl many) full =
    let own : length table ≡ _ = own_blocks table [] (record { nonempty = (some, tt); in_blocks = (is, tt) }) in
    record {
      by_blocks = full.by_blocks + 1;
      by_entries = full.by_entries;
      count = omega (arith, full.count);
      have_blocks = omega (arith, one_more full.by_blocks (65 - group), full.have_blocks, own, block_laws.appended (entries_of table) (first_group (entries_of next)));
      have_entries = omega (arith, full.have_entries);
    }
full_more table next group blocks entries tables is some few (inr many) full =
    record {
      by_blocks = full.by_blocks;
      by_entries = full.by_entries + 1;
      count = omega (arith, full.count);
      have_blocks = omega (arith, full.have_blocks);
      have_entries = omega (arith, one_more full.by_entries (3201 - group), full.have_entries, length-append (entries_of table) (first_group (entries_of next)));
    }

are_full : (tables : List TableBlocks) (group : ℕ) → AreInBlocks tables → AllAdjacent (λ table other. IsTooMuch (entries_of table ++ first_group (entries_of other))) tables
    → AllByRecursion (λ table. length (first_group (entries_of table)) ≤ group) tables → AreFull group (data_blocks tables) (length (flat_map entries_of tables)) (length tables)
are_full [] group are greedy few = record { by_blocks = 0; by_entries = 0; count = omega arith; have_blocks = omega arith; have_entries = omega arith }
are_full (table ∷ []) group are greedy few = record { by_blocks = 0; by_entries = 0; count = omega arith; have_blocks = omega arith; have_entries = omega arith }
are_full (table ∷ next ∷ tables) group are greedy few =
    let rest = are_full (next ∷ tables) group (record { nonempty = are.nonempty.1; in_blocks = are.in_blocks.1 }) greedy.1 few.1 in
    let full = full_more table next group (data_blocks (next ∷ tables)) (length (flat_map entries_of (next ∷ tables))) (length (next ∷ tables)) are.in_blocks.0 are.nonempty.0 few.1.0 greedy.0 rest in
    record {
      by_blocks = full.by_blocks;
      by_entries = full.by_entries;
      count = omega (arith, full.count);
      have_blocks = full.have_blocks;
      have_entries = omega (arith, full.have_entries, length-append (entries_of table) (flat_map entries_of (next ∷ tables)));
    }

-- few of a key in all tables are few in each
groups_within : (tables : List TableBlocks) (group : ℕ) → ((key : Bytes) → count_by (with_key key) (flat_map entries_of tables) ≤ group) → AllByRecursion (λ table. length (first_group (entries_of table)) ≤ group) tables
groups_within [] group few = tt
groups_within (table ∷ tables) group few = (
  group_within (entries_of table) group (λ key. omega (arith, few key, both key)),
  groups_within tables group (λ key. omega (arith, few key, both key)),
)
  where
    both : (key : Bytes) → count_by (with_key key) (entries_of table ++ flat_map entries_of tables) ≡ count_by (with_key key) (entries_of table) + count_by (with_key key) (flat_map entries_of tables)
    both key = sum_by-append (λ (v : Version). cond (is_same_key key v.key) 1 0) (entries_of table) (flat_map entries_of tables)

few_law : (entries : List Version) (tables : List TableBlocks) (group : ℕ) → IsTables entries tables → group ≤ 33 → ((key : Bytes) → count_by (with_key key) entries ≤ group)
    → length tables ≤ (data_blocks tables / (65 - group)) + ((length entries / (3201 - group)) + 1)
few_law entries tables group is least few =
    let each : (key : Bytes) → count_by (with_key key) (flat_map entries_of tables) ≤ group = λ key. omega (arith, few key, ap (λ (es : List Version). count_by (with_key key) es) is.whole) in
    let full = are_full tables group (record { nonempty = is.nonempty; in_blocks = is.in_blocks }) is.greedy (groups_within tables group each) in
    let total : length (flat_map entries_of tables) ≡ length entries = ap (λ (es : List Version). length es) is.whole in
    omega (
      arith,
      full.count,
      le-div full.by_blocks (data_blocks tables) (65 - group) (omega arith) full.have_blocks,
      le-div full.by_entries (length entries) (3201 - group) (omega arith) (omega (arith, full.have_entries, total)),
    )

-- ---- their extents

one_law : (table : TableBlocks) → IsTable table → extent_size table ≤ length table + (div_ceil (264 * length table) 4096 + 2)
one_law table is =
    let high = index_high (length (edges_of table)) (edges_of table) (outline_fits 0 [] table (omega arith) is).index in
    omega (arith, high, edge_count table is)

largest_law : (table : TableBlocks) → IsTable table → extent_size table ≤ 71
largest_law table is = omega (arith, one_law table is, few_blocks table is)

all_law : (tables : List TableBlocks) → AllByRecursion IsTable tables → extent_blocks tables ≤ data_blocks tables + (div_ceil (264 * data_blocks tables) 4096 + 3 * length tables)
all_law [] all = omega arith
all_law (table ∷ tables) all = omega (arith, one_law table all.0, all_law tables all.1)

pub table_count_laws : TableCountLaws
table_count_laws = record { few = few_law; largest = largest_law; one = one_law; all = all_law }
