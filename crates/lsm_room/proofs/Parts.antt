-- What the two parts take of a table that is cut at a key.
use Rattle.std.proofs.Common.{◌≡◌, ◌⊎◌, ℕ, suc, ◌+◌, ◌-◌, ◌<◌, ◌≤◌, Bool, true, false, not, cond, ◌&&◌, List, [], ◌∷◌, ◌++◌, length, filter, Some, None, append-nil, refl, sym, ap, subst, ◌∙◌, arith, inl, inr}
use Rattle.std.specs.List.{AllByRecursion}
use Prim.Native.Nat.{max}
use Rattle.std.proofs.lemmas.List.Elements.{filter-append}
use Rattle.lsm_codec.specs.Keys.{Bytes}
use Rattle.lsm_codec.specs.Entries.{block_size}
use Rattle.lsm_codec.specs.Indexes.{Edge}
use Rattle.lsm_codec.specs.Versions.{Version, AreOrdered}
use Rattle.lsm_codec.proofs.Lists.{all_append, all_left, all_map, all_right, filter_none}
use Rattle.lsm_table.specs.Division.{Block, TableBlocks, IsTable, IsTables, blocks, entries_of, laid}
use Rattle.lsm_table.specs.BlockCounts.{block_count, extent_blocks}
use Rattle.lsm_table.specs.BlockEdges.{edges_of, last_edge}
use Rattle.lsm_table.specs.Extents.{extent_size}
use Rattle.lsm_table.specs.Places.{blocks_before, ends_before}
use Rattle.lsm_table.proofs.Adding.{block_laws}
use Rattle.lsm_table.proofs.Blocks.{laid_fits}
use Rattle.lsm_table.proofs.Orders.{Before, front_pairs, later_pairs}
use Rattle.lsm_merge.specs.Keeping.{keep}
use Rattle.lsm_merge.specs.Ranges.{is_within}
use Rattle.lsm_mem.proofs.OrderTests.{ordered_tested, tested}
use Rattle.lsm_merge.proofs.RangeLaws.{keep-filter}
use Rattle.lsm_mem.proofs.FirstLaws.{is_in_order-filter}
use Rattle.lsm_levels.specs.Tables.{Table, at_most, is_below, versions_of}
use Rattle.lsm_levels.proofs.CursorStored.{all_below, keys_behind}
use Rattle.lsm_levels.proofs.KeyOrder.{at_most_trans, at_most_turned, below_is, below_not}
use Rattle.lsm_jobs.proofs.MergedBlocks.{filter_part, merged_blocks_law}
use Rattle.lsm_room.specs.Outputs.{AreCuts, StandsDivided, TakeAtMost}
use Rattle.lsm_room.specs.Measuring.{AreBeside, AreEnoughAt, AreEnoughFor}
use Rattle.lsm_room.specs.declared.bounds.Outputs.{Outputs}
use Rattle.lsm_room.proofs.Keeping.{kept_few}
use Rattle.lsm_room.proofs.KeptBlocks.{none_laid}
use Rattle.lsm_room.proofs.Measures.{own_blocks, own_versions}

-- ---- the blocks of which something passes

abbrev some_of : List Version → ℕ
some_of [] = 0
some_of (v ∷ rest) = 1

abbrev touched : (Version → Bool) → TableBlocks → ℕ
touched test [] = 0
touched test (block ∷ table) = some_of (filter test block) + touched test table

some_few : (versions : List Version) → some_of versions ≤ 1
some_few [] = omega arith
some_few (v ∷ rest) = omega arith

touched_few : (test : Version → Bool) (table : TableBlocks) → touched test table ≤ length table
touched_few test [] = omega arith
touched_few test (block ∷ table) = omega (arith, some_few (filter test block), touched_few test table)

none_touched : (test : Version → Bool) (table : TableBlocks) → AllByRecursion (λ v. test v ≡ false) (entries_of table) → touched test table ≡ 0
none_touched test [] none = refl
none_touched test (block ∷ table) none =
    omega (arith, ap some_of (filter_none test block (all_left (λ v. test v ≡ false) block (entries_of table) none)), none_touched test table (all_right (λ v. test v ≡ false) block (entries_of table) none))

one_block : (block : Block) → block_size block ≤ 4096 → block_count block ≤ 1
unfolding blocks laid
one_block block fits = omega (arith, ap (λ (b : Block). length (laid [] b)) (sym (append-nil block)), ap (λ (t : TableBlocks). length t) (laid_fits [] block [] fits))

passed_one : (test : Version → Bool) (block : Block) → block_size block ≤ 4096 → block_count (filter test block) ≤ 1
passed_one test block fits = omega (arith, block_laws.part (filter test block) block (filter_part test block), one_block block fits)

joined_few : (some rest : List Version) (n : ℕ) → block_count some ≤ 1 → (rest ≡ []) ⊎ (block_count rest ≤ n) → (some ++ rest ≡ []) ⊎ (block_count (some ++ rest) ≤ some_of some + n)
joined_few [] rest n few (inl none) = inl none
joined_few [] rest n few (inr more) = inr (omega (arith, more))
joined_few (v ∷ some) rest n few (inl none) = inr (omega (arith, few, ap (λ (vs : List Version). block_count ((v ∷ some) ++ vs)) none, ap block_count (append-nil (v ∷ some))))
joined_few (v ∷ some) rest n few (inr more) = inr (omega (arith, block_laws.joined (v ∷ some) rest, few, more))

-- what passes takes one block each at most
touched_blocks : (test : Version → Bool) (table : TableBlocks) → AllByRecursion (λ block. block_size block ≤ 4096) table → (filter test (entries_of table) ≡ []) ⊎ (block_count (filter test (entries_of table)) ≤ touched test table)
touched_blocks test [] fits = inl refl
touched_blocks test (block ∷ table) fits =
    subst (λ (vs : List Version). (vs ≡ []) ⊎ (block_count vs ≤ touched test (block ∷ table))) (sym (filter-append test block (entries_of table)))
    (joined_few (filter test block) (filter test (entries_of table)) (touched test table) (passed_one test block fits.0) (touched_blocks test table fits.1))

within_few : (versions : List Version) (n most : ℕ) → (versions ≡ []) ⊎ (block_count versions ≤ n) → n ≤ most → 0 < most → block_count versions ≤ most
within_few versions n most (inl none) few some = omega (arith, ap block_count none, none_laid, some)
within_few versions n most (inr more) few some = omega (arith, more, few)

-- ---- on either side of a key

behind_edge : (v : Version) (block behind : List Version) → AreOrdered ((v ∷ block) ++ behind) → AllByRecursion (λ w. at_most (last_edge v block).key w.key ≡ true) behind
behind_edge v [] behind ordered = keys_behind v behind ordered
behind_edge v (w ∷ block) behind ordered = behind_edge w block behind ordered.1

-- no more blocks than end before the key, and one, have an entry before it
front_touched : (key : Bytes) (test : Version → Bool) → ((w : Version) → at_most key w.key ≡ true → test w ≡ false) → (table : TableBlocks) → AllByRecursion (λ block. 0 < length block) table → AreOrdered (entries_of table)
    → touched test table ≤ blocks_before key (edges_of table) + 1
front_touched key test fails [] some ordered = omega arith
front_touched key test fails ([] ∷ table) some ordered = absurd (omega (arith, some.0))
front_touched key test fails ((v ∷ block) ∷ table) some ordered =
    by (front_touched key test fails table some.1 (later_pairs Before (v ∷ block) (entries_of table) ordered)) (ends_before key (last_edge v block)) refl
  where
    by : touched test table ≤ blocks_before key (edges_of table) + 1 → (b : Bool) → ends_before key (last_edge v block) ≡ b → touched test ((v ∷ block) ∷ table) ≤ cond b (suc (blocks_before key (edges_of table))) 0 + 1
    by more true e = omega (arith, some_few (filter test (v ∷ block)), more)
    by more false e =
        let low : at_most key (last_edge v block).key ≡ true = at_most_turned (last_edge v block).key key ∙ ap not e in
        omega (arith, some_few (filter test (v ∷ block)), none_touched test table (all_map (λ w h. fails w (at_most_trans key (last_edge v block).key w.key low h)) (entries_of table) (behind_edge v block (entries_of table) ordered)))

pub before_few : (key : Bytes) (edges : List Edge) → blocks_before key edges ≤ length edges
before_few key [] = omega arith
before_few key (e ∷ edges) = by (ends_before key e) (before_few key edges)
  where
    by : (b : Bool) → blocks_before key edges ≤ length edges → cond b (suc (blocks_before key edges)) 0 ≤ length (e ∷ edges)
    by true more = omega (arith, more)
    by false more = omega arith

-- none of those that end before it has one from it on
back_touched : (key : Bytes) (test : Version → Bool) → ((w : Version) → is_below w.key key ≡ true → test w ≡ false) → (table : TableBlocks) → AllByRecursion (λ block. 0 < length block) table → AreOrdered (entries_of table)
    → touched test table + blocks_before key (edges_of table) ≤ length table
back_touched key test fails [] some ordered = omega arith
back_touched key test fails ([] ∷ table) some ordered = absurd (omega (arith, some.0))
back_touched key test fails ((v ∷ block) ∷ table) some ordered =
    by (back_touched key test fails table some.1 (later_pairs Before (v ∷ block) (entries_of table) ordered)) (ends_before key (last_edge v block)) refl
  where
    by : touched test table + blocks_before key (edges_of table) ≤ length table → (b : Bool) → ends_before key (last_edge v block) ≡ b → touched test ((v ∷ block) ∷ table) + cond b (suc (blocks_before key (edges_of table))) 0 ≤ length ((v ∷ block) ∷ table)
    by more true e =
        let none : filter test (v ∷ block) ≡ [] = filter_none test (v ∷ block) (all_map fails (v ∷ block) (all_below key v block (front_pairs (v ∷ block) (entries_of table) ordered) e)) in
        omega (arith, ap some_of none, more)
    by more false e = omega (arith, some_few (filter test (v ∷ block)), touched_few test table)

-- ---- what is kept of a part

filter_few : (test : Version → Bool) (versions : List Version) → length (filter test versions) ≤ length versions
filter_few test [] = omega arith
filter_few test (v ∷ versions) = by (test v) (filter_few test versions)
  where
    by : (b : Bool) → length (filter test versions) ≤ length versions → length (cond b (v ∷ filter test versions) (filter test versions)) ≤ length (v ∷ versions)
    by true more = omega (arith, more)
    by false more = omega (arith, more)

abbrev is_front : Bytes → Version → Bool
is_front key v = is_within None (Some key) v.key

abbrev is_back : Bytes → Version → Bool
is_back key v = is_within (Some key) None v.key

front_fails : (key : Bytes) (w : Version) → at_most key w.key ≡ true → is_front key w ≡ false
front_fails key w h = below_is w.key key ∙ ap not h

back_fails : (key : Bytes) (w : Version) → is_below w.key key ≡ true → is_back key w ≡ false
back_fails key w h = ap (λ b. b && true) (below_not w.key key h)

module _ (sectors : List (List ℕ)) (start : ℕ) (t : Table) (s : StandsDivided sectors start t) where
  abbrev table : TableBlocks
  table = s.stored.blocks

  versions_are : versions_of (t ∷ []) ≡ entries_of table
  versions_are = append-nil t.versions ∙ own_versions sectors start t s

  entries_are : t.outline.entries ≡ length (entries_of table)
  entries_are = ap (λ (u : Table). u.outline.entries) s.stored.told

  before_are : (key : Bytes) → blocks_before key t.outline.edges ≡ blocks_before key (edges_of table)
  before_are key = ap (λ (u : Table). blocks_before key u.outline.edges) s.stored.told

  front_few : (key : Bytes) → block_count (filter (is_front key) (entries_of table)) ≤ blocks_before key t.outline.edges + 1
  front_few key =
      within_few (filter (is_front key) (entries_of table)) (touched (is_front key) table) (blocks_before key t.outline.edges + 1) (touched_blocks (is_front key) table s.divided.in_blocks.fits)
      (omega (arith, front_touched key (is_front key) (front_fails key) table s.divided.in_blocks.nonempty s.divided.ordered, before_are key))
      (omega arith)

  back_few : (key : Bytes) → block_count (filter (is_back key) (entries_of table)) ≤ max (length t.outline.edges - blocks_before key t.outline.edges) 1
  back_few key =
      within_few (filter (is_back key) (entries_of table)) (touched (is_back key) table) (max (length t.outline.edges - blocks_before key t.outline.edges) 1) (touched_blocks (is_back key) table s.divided.in_blocks.fits)
      (omega (arith, back_touched key (is_back key) (back_fails key) table s.divided.in_blocks.nonempty s.divided.ordered, before_are key, own_blocks sectors start t s))
      (omega arith)

  module _ (live : Bool) (cuts : List ℕ) (c : AreCuts live cuts) (bottom : Bool) where
    abbrev kept : List Version
    kept = keep cuts bottom (versions_of (t ∷ []))

    part_takes : (test : Bytes → Bool) (images : List TableBlocks) (most count : ℕ) (outputs : Outputs) → t.outline.entries ≤ count → IsTables (filter (λ v. test v.key) kept) images → AllByRecursion IsTable images
        → block_count (filter (λ v. test v.key) (entries_of table)) ≤ most → AreEnoughFor live most count outputs → outputs.blocks < 4294967296 → TakeAtMost outputs.blocks outputs.largest images
    part_takes test images most count outputs all tables each few holds low =
        let part : List Version = filter (λ v. test v.key) (entries_of table) in
        let ordered : AreOrdered part = ordered_tested part (is_in_order-filter (λ v. test v.key) (entries_of table) (tested (entries_of table) s.divided.ordered)) in
        let same : filter (λ v. test v.key) kept ≡ keep cuts bottom part =
        ap (λ (vs : List Version). filter (λ v. test v.key) (keep cuts bottom vs)) versions_are ∙ sym (keep-filter test cuts bottom (entries_of table)) in
        holds low cuts bottom part images c (record { tables = subst (λ (vs : List Version). IsTables vs images) same tables; each = each })
        (omega (arith, merged_blocks_law.kept cuts bottom [] part ordered, few))
        (omega (arith, kept_few cuts bottom part, filter_few (λ v. test v.key) (entries_of table), entries_are, all))

-- ---- both parts

extents_joined : (front back : List TableBlocks) → extent_blocks (front ++ back) ≡ extent_blocks front + extent_blocks back
extents_joined [] back = omega arith
extents_joined (image ∷ front) back = omega (arith, extents_joined front back)

-- two lists of images together take what both take
both_take : (front back images : List TableBlocks) (first second both : Outputs) → images ≡ front ++ back → AreBeside first second both → TakeAtMost first.blocks first.largest front → TakeAtMost second.blocks second.largest back
    → TakeAtMost both.blocks both.largest images
both_take front back images first second both joined beside one other = record {
  each =
      subst (AllByRecursion (λ (image : TableBlocks). extent_size image ≤ both.largest)) (sym joined)
      (all_append (λ image. extent_size image ≤ both.largest) front back (all_map (λ image h. omega (arith, h, beside.each)) front one.each) (all_map (λ image h. omega (arith, h, beside.each)) back other.each));
  all = omega (arith, ap extent_blocks joined, extents_joined front back, one.all, other.all, beside.all);
}

module _ (live : Bool) (key : Bytes) (t : Table) (first second both : Outputs) (front_most back_most count : ℕ) where
  -- Outputs are enough for both parts, where those of each are.
  pub record AreEnoughForParts : Type 0 where
    pub front_data : blocks_before key t.outline.edges + 1 ≤ front_most
    pub back_data : max (length t.outline.edges - blocks_before key t.outline.edges) 1 ≤ back_most
    pub entries : t.outline.entries ≤ count
    pub front : AreEnoughFor live front_most count first
    pub back : AreEnoughFor live back_most count second
    pub beside : both.blocks < 4294967296 → AreBeside first second both

  pub parts_enough : AreEnoughForParts → AreEnoughAt live key t both
  parts_enough are low sectors start s cuts bottom images c made each =
      let beside = are.beside low in
      let parted = subst (AllByRecursion IsTable) made.joined each in
      both_take made.front made.back images first second both made.joined beside
      (part_takes sectors start t s live cuts c bottom (is_within None (Some key)) made.front front_most count first are.entries made.first (all_left IsTable made.front made.back parted)
      (omega (arith, front_few sectors start t s key, are.front_data)) are.front (omega (arith, beside.all, low)))
      (part_takes sectors start t s live cuts c bottom (is_within (Some key) None) made.back back_most count second are.entries made.others (all_right IsTable made.front made.back parted)
      (omega (arith, back_few sectors start t s key, are.back_data)) are.back (omega (arith, beside.all, low)))
