-- What a cursor finds where the tables of its run stand.
use Rattle.std.proofs.Common.{◌≡◌, ℕ, suc, ◌+◌, ◌<◌, Bool, true, false, cond, not, List, [], ◌∷◌, ◌++◌, length, map, drop, filter, Option, Some, Ok, refl, ap, sym, subst, ◌∙◌, arith, append_assoc}
use Rattle.std.specs.List.{AllByRecursion, flat_map}
use Rattle.std.specs.declared.cmp.Ordering.TheVariants.{Less}
use Rattle.std.specs.Ordering.{nat_cmp}
use Rattle.std.proofs.lemmas.Option.{same_Some}
use Rattle.lsm_device.specs.declared.refusal.Refusal.{Refusal}
use Rattle.lsm_codec.specs.Keys.{Bytes, byte_order}
use Rattle.lsm_codec.specs.Indexes.{Edge}
use Rattle.lsm_codec.specs.Reading.{◌>>=◌}
use Rattle.lsm_codec.specs.Versions.{Version, entry_order, AreOrdered}
use Rattle.lsm_codec.specs.Entries.{entries_in, block_of}
use Rattle.lsm_codec.proofs.Readers.{bind_some}
use Rattle.lsm_mem.specs.Ranges.{from_key}
use Rattle.lsm_table.specs.Division.{Block, TableBlocks, entries_of}
use Rattle.lsm_table.specs.BlockEdges.{last_edge, edges_of, first_key_of, last_key}
use Rattle.lsm_table.specs.Places.{ends_before, blocks_before}
use Rattle.lsm_table.specs.Stored.{table_of}
use Rattle.lsm_table.proofs.Orders.{befores, later_pairs, front_pairs}
use Rattle.lsm_cache.specs.declared.name.BlockName.{BlockName}
use Rattle.lsm_cache.specs.Reads.{block_at}
use Rattle.lsm_levels.specs.Tables.{Table, at_most, is_below, versions_of, IsRun}
use Rattle.lsm_levels.specs.Asking.{Source, sector_of}
use Rattle.lsm_levels.specs.Stored.{blocks_from, IsStored}
use Rattle.lsm_levels.specs.Cursors.{Items, Cursor, IsPlacedAt, Shows, Seeks, blocks_at, blocks_of_table, blocks_of, blocks_behind, has_item, sought}
use Rattle.lsm_levels.specs.declared.placed.PlacedBlock.{PlacedBlock}
use Rattle.lsm_levels.proofs.CursorLaws.{Reached, enters_left, nothing_left}
use Rattle.lsm_levels.proofs.KeyOrder.{at_most_trans, at_most_itself, at_most_turned, below_at_most, below_not, not_below, then_below}
use Rattle.lsm_codec.proofs.Lists.{filter_step, filter_none, filter_all, all_map, all_right, all_append}
use Rattle.lsm_levels.proofs.Searching.{run_ranges}
use Rattle.lsm_levels.proofs.StoredLaws.{block_entries}
use Rattle.lsm_mem.proofs.FirstLaws.{then_le}

abbrev oks : List Version → Items
oks versions = map (λ v. Ok v) versions

oks_append : (xs ys : List Version) → oks (xs ++ ys) ≡ oks xs ++ oks ys
oks_append [] ys = refl
oks_append (v ∷ xs) ys = ap (λ (t : Items). Ok v ∷ t) (oks_append xs ys)

-- ---- versions in order, without those below a key

keys_ascend : (v w : Version) → entry_order v w ≡ Less → at_most v.key w.key ≡ true
keys_ascend v w e = then_le (byte_order v.key w.key) (nat_cmp w.number v.number) e

-- the versions after one in order have no lesser key
pub keys_behind : (v : Version) (vs : List Version) → AreOrdered (v ∷ vs) → AllByRecursion (λ w. at_most v.key w.key ≡ true) vs
keys_behind v vs ordered = all_map (λ w e. keys_ascend v w e) vs (befores v vs ordered)

tail_ordered : (v : Version) (vs : List Version) → AreOrdered (v ∷ vs) → AreOrdered vs
tail_ordered v vs ordered = ordered.1

abbrev skip : Bytes → List Version → List Version
skip key [] = []
skip key (v ∷ vs) = cond (is_below v.key key) (skip key vs) (v ∷ vs)

skipped : (key : Bytes) (vs : List Version) → AreOrdered vs → from_key key vs ≡ skip key vs
skipped key [] ordered = refl
skipped key (v ∷ vs) ordered = by (is_below v.key key) refl (skipped key vs ordered.1)
  where
    by : (b : Bool) → is_below v.key key ≡ b → from_key key vs ≡ skip key vs → from_key key (v ∷ vs) ≡ cond b (skip key vs) (v ∷ vs)
    by true e more = filter_step (λ w. at_most key w.key) v vs false (below_not v.key key e) ∙ more
    by false e more =
        let from : at_most key v.key ≡ true = at_most_turned v.key key ∙ ap not e in
        filter_step (λ w. at_most key w.key) v vs true from
        ∙ ap (λ (t : List Version). v ∷ t) (filter_all (λ w. at_most key w.key) vs (all_map (λ w h. at_most_trans key v.key w.key from h) vs (keys_behind v vs ordered)))

skip_past : (key : Bytes) (xs ys : List Version) → AllByRecursion (λ v. is_below v.key key ≡ true) xs → skip key (xs ++ ys) ≡ skip key ys
skip_past key [] ys all = refl
skip_past key (v ∷ xs) ys all = ap (λ (b : Bool). cond b (skip key (xs ++ ys)) (v ∷ xs ++ ys)) all.0 ∙ skip_past key xs ys all.1

skip_within : (key : Bytes) (xs ys : List Version) → 0 < length (skip key xs) → skip key (xs ++ ys) ≡ skip key xs ++ ys
skip_within key [] ys some = absurd (omega (arith, some))
skip_within key (v ∷ xs) ys some = by (is_below v.key key) some (λ left. skip_within key xs ys left)
  where
    by : (b : Bool) → 0 < length (cond b (skip key xs) (v ∷ xs)) → (0 < length (skip key xs) → skip key (xs ++ ys) ≡ skip key xs ++ ys) → cond b (skip key (xs ++ ys)) (v ∷ xs ++ ys) ≡ cond b (skip key xs) (v ∷ xs) ++ ys
    by true some more = more some
    by false some more = refl

sought_ok : (key : Bytes) (vs : List Version) → 0 < length (skip key vs) → sought key (oks vs) ≡ oks (skip key vs)
sought_ok key [] some = absurd (omega (arith, some))
sought_ok key (v ∷ vs) some = by (is_below v.key key) some (λ left. sought_ok key vs left)
  where
    by : (b : Bool) → 0 < length (cond b (skip key vs) (v ∷ vs)) → (0 < length (skip key vs) → sought key (oks vs) ≡ oks (skip key vs)) → cond b (sought key (oks vs)) (Ok v ∷ oks vs) ≡ oks (cond b (skip key vs) (v ∷ vs))
    by true some more = more some
    by false some more = refl

some_ok : (vs : List Version) → 0 < length vs → has_item (oks vs) ≡ true
some_ok [] some = absurd (omega (arith, some))
some_ok (v ∷ vs) some = refl

-- ---- versions from a key on

from_append : (key : Bytes) (xs ys : List Version) → from_key key (xs ++ ys) ≡ from_key key xs ++ from_key key ys
from_append key [] ys = refl
from_append key (v ∷ xs) ys = by (at_most key v.key) (from_append key xs ys)
  where
    by : (b : Bool) → from_key key (xs ++ ys) ≡ from_key key xs ++ from_key key ys → cond b (v ∷ from_key key (xs ++ ys)) (from_key key (xs ++ ys)) ≡ cond b (v ∷ from_key key xs) (from_key key xs) ++ from_key key ys
    by true more = ap (λ (t : List Version). v ∷ t) more
    by false more = more

-- ---- the edges of blocks

-- all of a block is below a key where its edge is
pub all_below : (key : Bytes) (v : Version) (block : Block) → AreOrdered (v ∷ block) → ends_before key (last_edge v block) ≡ true → AllByRecursion (λ w. is_below w.key key ≡ true) (v ∷ block)
all_below key v [] ordered e = (e, tt)
all_below key v (w ∷ block) ordered e =
    let rest = all_below key w block ordered.1 e in
    (then_below v.key w.key key (keys_behind v (w ∷ block) ordered).0 rest.0, rest)

-- and else something isn't
some_left : (key : Bytes) (v : Version) (block : Block) → ends_before key (last_edge v block) ≡ false → 0 < length (skip key (v ∷ block))
some_left key v [] e = by (is_below v.key key) e
  where
    by : (b : Bool) → b ≡ false → 0 < length (cond b (skip key []) (v ∷ []))
    by true e = absurd cc
    by false e = omega arith
some_left key v (w ∷ block) e = by (is_below v.key key) (some_left key w block e)
  where
    by : (b : Bool) → 0 < length (skip key (w ∷ block)) → 0 < length (cond b (skip key (w ∷ block)) (v ∷ w ∷ block))
    by true some = some
    by false some = omega arith

last_high : (v : Version) (block : Block) → AreOrdered (v ∷ block) → AllByRecursion (λ w. at_most w.key (last_edge v block).key ≡ true) (v ∷ block)
last_high v [] ordered = (at_most_itself v.key, tt)
last_high v (w ∷ block) ordered =
    let rest = last_high w block ordered.1 in
    (at_most_trans v.key w.key (last_edge w block).key (keys_behind v (w ∷ block) ordered).0 rest.0, rest)

abbrev pub AreSome : TableBlocks → Type 0
AreSome table = AllByRecursion (λ block. 0 < length block) table

-- no key of a table is above its last
highest : (table : TableBlocks) → AreSome table → AreOrdered (entries_of table) → AllByRecursion (λ v. at_most v.key (last_key (edges_of table)) ≡ true) (entries_of table)
highest [] some ordered = tt
highest ([] ∷ table) some ordered = absurd (omega (arith, some.0))
highest ((v ∷ block) ∷ []) some ordered = all_append (λ x. at_most x.key (last_edge v block).key ≡ true) (v ∷ block) [] (last_high v block (front_pairs (v ∷ block) [] ordered)) tt
highest ((v ∷ block) ∷ [] ∷ table) some ordered = absurd (omega (arith, some.1.0))
highest ((v ∷ block) ∷ (w ∷ next) ∷ table) some ordered =
    let rest = highest ((w ∷ next) ∷ table) some.1 (later_pairs (λ x y. entry_order x y ≡ Less) (v ∷ block) (entries_of ((w ∷ next) ∷ table)) ordered) in
    all_append (λ x. at_most x.key (last_key (edges_of ((w ∷ next) ∷ table))) ≡ true) (v ∷ block) (entries_of ((w ∷ next) ∷ table)) (ahead (v ∷ block) ordered rest.0) rest
  where
    ahead : (front : Block) → AreOrdered (front ++ entries_of ((w ∷ next) ∷ table)) → at_most w.key (last_key (edges_of ((w ∷ next) ∷ table))) ≡ true → AllByRecursion (λ x. at_most x.key (last_key (edges_of ((w ∷ next) ∷ table))) ≡ true) front
    ahead [] ordered high = tt
    ahead (x ∷ front) ordered high =
        let behind = all_right (λ y. at_most x.key y.key ≡ true) front (entries_of ((w ∷ next) ∷ table)) (keys_behind x (front ++ entries_of ((w ∷ next) ∷ table)) ordered) in
        (at_most_trans x.key w.key (last_key (edges_of ((w ∷ next) ∷ table))) behind.0 high, ahead front ordered.1 high)

-- nor below its first
pub lowest : (table : TableBlocks) → AreSome table → AreOrdered (entries_of table) → AllByRecursion (λ v. at_most (first_key_of table) v.key ≡ true) (entries_of table)
lowest [] some ordered = tt
lowest ([] ∷ table) some ordered = absurd (omega (arith, some.0))
lowest ((v ∷ block) ∷ table) some ordered = (at_most_itself v.key, keys_behind v (block ++ entries_of table) ordered)

-- ---- what blocks spell

module _ (sectors : List (List ℕ)) where
  abbrev its_items : PlacedBlock → Items
  its_items block = entries_in (block_at sectors block.sector)

  abbrev Spell : List PlacedBlock → TableBlocks → Type 0
  Spell [] [] = Unit {0}
  Spell [] (block ∷ table) = ⊥
  Spell (b ∷ bs) [] = ⊥
  Spell (b ∷ bs) (block ∷ table) = (its_items b ≡ oks block) × Spell bs table

  spelled_items : (bs : List PlacedBlock) (table : TableBlocks) → Spell bs table → flat_map its_items bs ≡ oks (entries_of table)
  spelled_items [] [] h = refl
  spelled_items [] (block ∷ table) h = absurd h
  spelled_items (b ∷ bs) [] h = absurd h
  spelled_items (b ∷ bs) (block ∷ table) h = ap (λ (t : Items). t ++ flat_map its_items bs) h.0 ∙ ap (λ (t : Items). oks block ++ t) (spelled_items bs table h.1) ∙ sym (oks_append block (entries_of table))

  spell_at : (area : ℕ) (t : Table) (place at : ℕ) (edges : List Edge) (table : TableBlocks) → at ≡ sector_of area t place → table_of (blocks_from sectors at (length edges)) ≡ Some table → Spell (blocks_at area t place edges) table
  spell_at area t place at [] table here e = subst (Spell []) (same_Some [] table e) tt
  spell_at area t place at (edge ∷ edges) table here e =
      let p = bind_some (block_of (block_at sectors at)) (λ (es : Block). table_of (blocks_from sectors (at + 8) (length edges)) >>= λ r. Some (es ∷ r)) table e in
      let q = bind_some (table_of (blocks_from sectors (at + 8) (length edges))) (λ (r : TableBlocks). Some (p.0 ∷ r)) table p.2 in
      let next : at + 8 ≡ sector_of area t (place + 1) = omega (arith, here) in
      subst (Spell (blocks_at area t place (edge ∷ edges))) (same_Some (p.0 ∷ q.0) table q.2)
      (ap (λ (k : ℕ). entries_in (block_at sectors k)) (sym here) ∙ block_entries (block_at sectors at) p.0 p.1, spell_at area t (place + 1) (at + 8) edges q.0 next q.1)

  -- the blocks of a table from the first on that doesn't end before a key
  record Found (key : Bytes) (table : TableBlocks) (left : List PlacedBlock) : Type 0 where
    first : PlacedBlock
    rest : List PlacedBlock
    block : Block
    later : TableBlocks
    at : left ≡ first ∷ rest
    its : its_items first ≡ oks block
    others : Spell rest later
    some : 0 < length (skip key block)
    skips : skip key (entries_of table) ≡ skip key block ++ entries_of later

  abbrev Later : Bytes → List PlacedBlock → TableBlocks → Type 0
  Later key bs others = 0 < length others → at_most key (last_key (edges_of others)) ≡ true → Found key others (drop (blocks_before key (edges_of others)) bs)

  found_in : (key : Bytes) (table : TableBlocks) (bs : List PlacedBlock) → Spell bs table → AreSome table → AreOrdered (entries_of table) → 0 < length table → at_most key (last_key (edges_of table)) ≡ true
      → Found key table (drop (blocks_before key (edges_of table)) bs)
  found_in key [] bs spell some ordered one high = absurd (omega (arith, one))
  found_in key ([] ∷ table) bs spell some ordered one high = absurd (omega (arith, some.0))
  found_in key ((v ∷ block) ∷ table) [] spell some ordered one high = absurd spell
  found_in key ((v ∷ block) ∷ table) (b ∷ bs) spell some ordered one high =
      by (ends_before key (last_edge v block)) refl (λ more last. found_in key table bs spell.1 some.1 (later_pairs (λ x y. entry_order x y ≡ Less) (v ∷ block) (entries_of table) ordered) more last)
    where
      ended : (others : TableBlocks) → AreSome others → AreOrdered ((v ∷ block) ++ entries_of others) → at_most key (last_key (last_edge v block ∷ edges_of others)) ≡ true → ends_before key (last_edge v block) ≡ true → Later key bs others
          → Found key ((v ∷ block) ∷ others) (drop (blocks_before key (edges_of others)) bs)
      ended [] some ordered high e later = absurd (let clash : true ≡ false = sym high ∙ below_not (last_edge v block).key key e in cc)
      ended ([] ∷ others) some ordered high e later = absurd (omega (arith, some.0))
      ended ((w ∷ next) ∷ others) some ordered high e later =
          let more = later (omega arith) high in
          record {
            first = more.first;
            rest = more.rest;
            block = more.block;
            later = more.later;
            at = more.at;
            its = more.its;
            others = more.others;
            some = more.some;
            skips = skip_past key (v ∷ block) (entries_of ((w ∷ next) ∷ others)) (all_below key v block (front_pairs (v ∷ block) (entries_of ((w ∷ next) ∷ others)) ordered) e) ∙ more.skips;
          }

      by : (x : Bool) → ends_before key (last_edge v block) ≡ x → Later key bs table → Found key ((v ∷ block) ∷ table) (drop (cond x (suc (blocks_before key (edges_of table))) 0) (b ∷ bs))
      by true e later = ended table some.1 ordered high e later
      by false e later = record {
        first = b;
        rest = bs;
        block = v ∷ block;
        later = table;
        at = refl;
        its = spell.0;
        others = spell.1;
        some = some_left key v block e;
        skips = skip_within key (v ∷ block) (entries_of table) (some_left key v block e);
      }

  -- ---- a table that stands

  module _ (area : ℕ) where
    module _ (t : Table) (s : IsStored sectors area t) where
      its_edges : t.outline.edges ≡ edges_of s.blocks
      its_edges = ap (λ (u : Table). u.outline.edges) s.told

      its_versions : t.versions ≡ entries_of s.blocks
      its_versions = ap (λ (u : Table). u.versions) s.told

      its_last : t.last ≡ last_key (edges_of s.blocks)
      its_last = ap (λ (u : Table). u.last) s.told

      its_first : t.first ≡ first_key_of s.blocks
      its_first = ap (λ (u : Table). u.first) s.told

      spells : Spell (blocks_of_table area t) s.blocks
      spells = spell_at area t 0 (sector_of area t 0) t.outline.edges s.blocks refl s.spelled

      up_to_last : AllByRecursion (λ v. at_most v.key t.last ≡ true) t.versions
      up_to_last = subst (λ (vs : List Version). AllByRecursion (λ v. at_most v.key t.last ≡ true) vs) (sym its_versions) (subst (λ (k : Bytes). AllByRecursion (λ v. at_most v.key k ≡ true) (entries_of s.blocks)) (sym its_last) (highest s.blocks s.sorted.nonempty s.sorted.ordered))

      from_first : AllByRecursion (λ v. at_most t.first v.key ≡ true) t.versions
      from_first = subst (λ (vs : List Version). AllByRecursion (λ v. at_most t.first v.key ≡ true) vs) (sym its_versions) (subst (λ (k : Bytes). AllByRecursion (λ v. at_most k v.key ≡ true) (entries_of s.blocks)) (sym its_first) (lowest s.blocks s.sorted.nonempty s.sorted.ordered))

      none_from : (key : Bytes) → at_most key t.last ≡ false → from_key key t.versions ≡ []
      none_from key h = filter_none (λ v. at_most key v.key) t.versions (all_map (λ v le. below_not v.key key (then_below v.key t.last key le (not_below t.last key h))) t.versions up_to_last)

      all_from : (key : Bytes) → at_most key t.first ≡ true → from_key key t.versions ≡ t.versions
      all_from key h = filter_all (λ v. at_most key v.key) t.versions (all_map (λ v le. at_most_trans key t.first v.key h le) t.versions from_first)

    -- tables after a key
    all_from_run : (key : Bytes) (run : List Table) → AllByRecursion (IsStored sectors area) run → AllByRecursion (λ u. at_most key u.first ≡ true) run → from_key key (versions_of run) ≡ versions_of run
    all_from_run key [] all from = refl
    all_from_run key (t ∷ rest) all from =
        from_append key t.versions (versions_of rest) ∙ ap (λ (vs : List Version). vs ++ from_key key (versions_of rest)) (all_from t all.0 key from.0) ∙ ap (λ (vs : List Version). t.versions ++ vs) (all_from_run key rest all.1 from.1)

    spell_append : (bs cs : List PlacedBlock) (table others : TableBlocks) → Spell bs table → Spell cs others → Spell (bs ++ cs) (table ++ others)
    spell_append [] cs [] others h k = k
    spell_append [] cs (block ∷ table) others h k = absurd h
    spell_append (b ∷ bs) cs [] others h k = absurd h
    spell_append (b ∷ bs) cs (block ∷ table) others h k = (h.0, spell_append bs cs table others h.1 k)

    entries_append : (table others : TableBlocks) → entries_of (table ++ others) ≡ entries_of table ++ entries_of others
    entries_append [] others = refl
    entries_append (block ∷ table) others = ap (λ (vs : List Version). block ++ vs) (entries_append table others) ∙ sym (append_assoc block (entries_of table) (entries_of others))

    record RunSpelled (run : List Table) : Type 0 where
      table : TableBlocks
      spell : Spell (blocks_of area run) table
      some : AreSome table
      is : entries_of table ≡ versions_of run

    run_spelled : (run : List Table) → AllByRecursion (IsStored sectors area) run → RunSpelled run
    run_spelled [] all = record { table = []; spell = tt; some = tt; is = refl }
    run_spelled (t ∷ rest) all =
        let more = run_spelled rest all.1 in
        let s = all.0 in
        record {
          table = s.blocks ++ more.table;
          spell = spell_append (blocks_of_table area t) (blocks_of area rest) s.blocks more.table (spells t s) more.spell;
          some = all_append (λ block. 0 < length block) s.blocks more.table s.sorted.nonempty more.some;
          is = entries_append s.blocks more.table ∙ ap (λ (vs : List Version). vs ++ entries_of more.table) (sym (its_versions t s)) ∙ ap (λ (vs : List Version). t.versions ++ vs) more.is;
        }

    -- ---- a run

    module _ (place : BlockName → Option ℕ) where
      abbrev pub IsSought : Bytes → List PlacedBlock → List Version → Type 0
      IsSought key blocks versions =
          (c : Cursor) (refusal : Option Refusal) (old new : Source) → AllByRecursion (IsPlacedAt place) blocks → Shows place sectors old → Seeks key blocks c refusal old new → Reached place sectors versions c refusal new

      -- a block has a version from the key on
      block_sought : (key : Bytes) (b : PlacedBlock) (bs : List PlacedBlock) (block : Block) (table : TableBlocks) → its_items b ≡ oks block → Spell bs table → 0 < length (skip key block) → IsSought key (b ∷ bs) (skip key block ++ entries_of table)
      block_sought key b bs block table its others some c refusal old new placed st h =
          let picked : sought key (its_items b) ≡ oks (skip key block) = ap (sought key) its ∙ sought_ok key block some in
          enters_left place sectors (sought key) b bs c refusal (skip key block ++ entries_of table) old new placed.0 st (ap has_item picked ∙ some_ok (skip key block) some)
          (ap (λ (xs : Items). xs ++ flat_map its_items bs) picked ∙ ap (λ (xs : Items). oks (skip key block) ++ xs) (spelled_items bs table others) ∙ sym (oks_append (skip key block) (entries_of table)))
          h

      -- no key is below the least one
      empty_low : (key : Bytes) → at_most [] key ≡ true
      empty_low [] = refl
      empty_low (x ∷ key) = refl

      all_sought : (key : Bytes) (bs : List PlacedBlock) (table : TableBlocks) → at_most key [] ≡ true → Spell bs table → AreSome table → IsSought key bs (entries_of table)
      all_sought key [] [] low spell some = λ c refusal old new placed st h. nothing_left place sectors c refusal old new st h
      all_sought key [] (block ∷ table) low spell some = absurd spell
      all_sought key (b ∷ bs) [] low spell some = absurd spell
      all_sought key (b ∷ bs) ([] ∷ table) low spell some = absurd (omega (arith, some.0))
      all_sought key (b ∷ bs) ((v ∷ block) ∷ table) low spell some =
          let from : at_most key v.key ≡ true = at_most_trans key [] v.key low (empty_low v.key) in
          let stays : is_below v.key key ≡ false = not_true (is_below v.key key) (sym (at_most_turned v.key key) ∙ from) in
          let all : skip key (v ∷ block) ≡ v ∷ block = ap (λ (x : Bool). cond x (skip key block) (v ∷ block)) stays in
          subst (λ (vs : List Version). IsSought key (b ∷ bs) (vs ++ entries_of table)) all
          (block_sought key b bs (v ∷ block) table spell.0 spell.1 (subst (λ (vs : List Version). 0 < length vs) (sym all) (omega arith)))
        where
          not_true : (x : Bool) → not x ≡ true → x ≡ false
          not_true true e = absurd cc
          not_true false e = refl

      -- the first table that doesn't end before the key
      here_sought : (key : Bytes) (t : Table) (rest : List Table) (s : IsStored sectors area t) → AllByRecursion (IsStored sectors area) rest → at_most key t.last ≡ true → from_key key (versions_of rest) ≡ versions_of rest
          → IsSought key (blocks_behind area key (t ∷ rest)) (from_key key (t.versions ++ versions_of rest))
      here_sought key t rest s all high others = by s.blocks refl
        where
          by : (blocks : TableBlocks) → s.blocks ≡ blocks → IsSought key (blocks_behind area key (t ∷ rest)) (from_key key (t.versions ++ versions_of rest))
          by [] e =
              let more = run_spelled rest all in
              let edges : t.outline.edges ≡ [] = its_edges t s ∙ ap edges_of e in
              let left : blocks_of area rest ≡ blocks_behind area key (t ∷ rest) = sym (ap (λ (es : List Edge). drop (blocks_before key es) (blocks_at area t 0 es) ++ blocks_of area rest) edges) in
              let none : t.versions ≡ [] = its_versions t s ∙ ap entries_of e in
              let versions : entries_of more.table ≡ from_key key (t.versions ++ versions_of rest) = more.is ∙ sym others ∙ sym (ap (λ (vs : List Version). from_key key (vs ++ versions_of rest)) none) in
              let low : at_most key [] ≡ true = sym (ap (at_most key) (its_last t s ∙ ap (λ (table : TableBlocks). last_key (edges_of table)) e)) ∙ high in
              subst (λ (bs : List PlacedBlock). IsSought key bs (from_key key (t.versions ++ versions_of rest))) left
              (subst (IsSought key (blocks_of area rest)) versions (all_sought key (blocks_of area rest) more.table low more.spell more.some))
          by (block ∷ table) e =
              let more = run_spelled rest all in
              let one : 0 < length s.blocks = omega (arith, ap length e) in
              let found = found_in key s.blocks (blocks_of_table area t) (spells t s) s.sorted.nonempty s.sorted.ordered one (sym (ap (at_most key) (its_last t s)) ∙ high) in
              let left : found.first ∷ (found.rest ++ blocks_of area rest) ≡ blocks_behind area key (t ∷ rest) =
              sym (ap (λ (es : List Edge). drop (blocks_before key es) (blocks_of_table area t) ++ blocks_of area rest) (its_edges t s) ∙ ap (λ (bs : List PlacedBlock). bs ++ blocks_of area rest) found.at) in
              let its : from_key key t.versions ≡ skip key found.block ++ entries_of found.later = ap (from_key key) (its_versions t s) ∙ skipped key (entries_of s.blocks) s.sorted.ordered ∙ found.skips in
              let behind : entries_of (found.later ++ more.table) ≡ entries_of found.later ++ versions_of rest = entries_append found.later more.table ∙ ap (λ (vs : List Version). entries_of found.later ++ vs) more.is in
              let versions : skip key found.block ++ entries_of (found.later ++ more.table) ≡ from_key key (t.versions ++ versions_of rest) =
              ap (λ (vs : List Version). skip key found.block ++ vs) behind
              ∙ sym (append_assoc (skip key found.block) (entries_of found.later) (versions_of rest))
              ∙ sym (from_append key t.versions (versions_of rest) ∙ ap (λ (vs : List Version). vs ++ from_key key (versions_of rest)) its ∙ ap (λ (vs : List Version). (skip key found.block ++ entries_of found.later) ++ vs) others) in
              subst (λ (bs : List PlacedBlock). IsSought key bs (from_key key (t.versions ++ versions_of rest))) left
              (subst (IsSought key (found.first ∷ (found.rest ++ blocks_of area rest))) versions
              (block_sought key found.first (found.rest ++ blocks_of area rest) found.block (found.later ++ more.table) found.its (spell_append found.rest (blocks_of area rest) found.later more.table found.others more.spell) found.some))

      -- a cursor that seeks a key in a run has its versions from the key on left
      pub run_sought : (key : Bytes) (run : List Table) → IsRun run → AllByRecursion (IsStored sectors area) run → IsSought key (blocks_behind area key (filter (λ t. at_most key t.last) run)) (from_key key (versions_of run))
      run_sought key [] r all = all_sought_none
        where
          all_sought_none : IsSought key [] []
          all_sought_none c refusal old new placed st h = nothing_left place sectors c refusal old new st h
      run_sought key (t ∷ rest) r all = by (at_most key t.last) refl (run_sought key rest r.2 all.1)
        where
          by : (x : Bool) → at_most key t.last ≡ x → IsSought key (blocks_behind area key (filter (λ u. at_most key u.last) rest)) (from_key key (versions_of rest)) → IsSought key (blocks_behind area key (cond x (t ∷ filter (λ u. at_most key u.last) rest) (filter (λ u. at_most key u.last) rest))) (from_key key (t.versions ++ versions_of rest))
          by false e more =
              let same : from_key key (versions_of rest) ≡ from_key key (t.versions ++ versions_of rest) = sym (from_append key t.versions (versions_of rest) ∙ ap (λ (vs : List Version). vs ++ from_key key (versions_of rest)) (none_from t all.0 key e)) in
              subst (IsSought key (blocks_behind area key (filter (λ u. at_most key u.last) rest))) same more
          by true e more =
              let firsts : AllByRecursion (λ u. at_most key u.first ≡ true) rest = all_map (λ u h. at_most_trans key t.last u.first e (below_at_most t.last u.first h)) rest r.1 in
              let whole : filter (λ u. at_most key u.last) rest ≡ rest = filter_all (λ u. at_most key u.last) rest (lasts rest firsts (run_ranges rest r.2)) in
              subst (λ (ts : List Table). IsSought key (blocks_behind area key (t ∷ ts)) (from_key key (t.versions ++ versions_of rest))) (sym whole)
              (here_sought key t rest all.0 all.1 e (all_from_run key rest all.1 firsts))
            where
              lasts : (us : List Table) → AllByRecursion (λ u. at_most key u.first ≡ true) us → AllByRecursion (λ u. at_most u.first u.last ≡ true) us → AllByRecursion (λ u. at_most key u.last ≡ true) us
              lasts [] h k = tt
              lasts (u ∷ us) h k = (at_most_trans key u.first u.last h.0 k.0, lasts us h.1 k.1)
