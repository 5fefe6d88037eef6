-- What the numbers of tables say of their entries.
use Rattle.std.proofs.Common.{◌≡◌, ℕ, ◌+◌, ◌-◌, ◌*◌, ◌<◌, ◌≤◌, Bool, true, false, cond, ltb, List, [], ◌∷◌, ◌++◌, length, refl, sym, ap, subst, ◌∙◌, arith}
use Rattle.std.specs.Prelude.{sum_by}
use Rattle.std.specs.List.{AllByRecursion, flat_map}
use Prim.Native.Nat.{min, max}
use Rattle.std.proofs.lemmas.Bool.{ltb-false}
use Rattle.std.proofs.lemmas.List.{length-append}
use Rattle.std.proofs.lemmas.List.Sums.{sum_by-cons, sum_by-append}
use Rattle.lsm_codec.specs.Versions.{Version, IsEntry, one_if_none, deletes_in}
use Rattle.lsm_codec.specs.Entries.{entry_size}
use Rattle.lsm_codec.proofs.Lists.{all_append, all_map}
use Rattle.lsm_table.specs.Division.{TableBlocks, entries_of}
use Rattle.lsm_table.specs.BlockCounts.{block_count, data_blocks, AreInBlocks}
use Rattle.lsm_table.proofs.Borders.{data_block_laws}
use Rattle.lsm_table.proofs.ByteCounts.{byte_laws}
use Rattle.lsm_table.proofs.Outlines.{edge_count}
use Rattle.lsm_levels.specs.Sizes.{AreAtMost}
use Rattle.lsm_levels.specs.Tables.{Table, versions_of}
use Rattle.lsm_levels.proofs.Ranges.{all_of, of_all}
use Rattle.lsm_room.specs.Outputs.{StandsDivided}
use Rattle.lsm_room.specs.Measuring.{AreRaised, large_of}
use Rattle.lsm_room.specs.declared.bounds.Sizes.{Sizes}
use Rattle.lsm_room.proofs.Inputs.{large_in, one_if_large, large_blocks, large_puts, none_large}

-- the data blocks of tables
abbrev pub blocks_in : List Table → ℕ
blocks_in tables = sum_by (λ (t : Table). length t.outline.edges) tables

-- Entries are no more than sizes say.
pub record AreWithin (versions : List Version) (entries deletes blocks large largest : ℕ) : Type 0 where
  pub count : length versions ≡ entries
  pub gone : deletes ≤ deletes_in versions
  pub most_large : large_in versions ≤ large
  pub small : AllByRecursion (λ v. entry_size v ≤ largest) versions
  pub are : AllByRecursion IsEntry versions

module _ (sectors : List (List ℕ)) (from : ℕ) where
  pub own_versions : (t : Table) → (s : StandsDivided sectors from t) → t.versions ≡ entries_of s.stored.blocks
  own_versions t s = ap (λ (u : Table). u.versions) s.stored.told

  pub own_blocks : (t : Table) → (s : StandsDivided sectors from t) → length t.outline.edges ≡ length s.stored.blocks
  own_blocks t s = ap (λ (u : Table). length u.outline.edges) s.stored.told ∙ edge_count s.stored.blocks s.divided

  large_by : (t : Table) (most : ℕ) (b : Bool) → ltb 2047 most ≡ b → large_in t.versions ≤ min (t.outline.entries - t.deletes) (length t.outline.edges) → (most ≤ 2047 → large_in t.versions ≡ 0)
      → large_in t.versions ≤ cond b (min (t.outline.entries - t.deletes) (length t.outline.edges)) 0
  large_by t most true e few none = few
  large_by t most false e few none = omega (arith, none (omega (arith, ltb-false 2047 most e)))

  of_table : (t : Table) (most : ℕ) → StandsDivided sectors from t → AreAtMost most t.versions → AreWithin t.versions t.outline.entries t.deletes (length t.outline.edges) (large_of most t) most
  of_table t most s at_most =
      let versions = own_versions t s in
      let entries : t.outline.entries ≡ length (entries_of s.stored.blocks) = ap (λ (u : Table). u.outline.entries) s.stored.told in
      let gone : t.deletes ≡ deletes_in (entries_of s.stored.blocks) = ap (λ (u : Table). u.deletes) s.stored.told in
      let are : AllByRecursion IsEntry t.versions = subst (AllByRecursion IsEntry) (sym versions) s.divided.versions in
      let small : AllByRecursion (λ v. entry_size v ≤ most) t.versions = all_of (λ v. entry_size v ≤ most) t.versions (λ v a. at_most v a (of_all IsEntry t.versions are v a)) in
      let large : large_in t.versions ≡ large_in (entries_of s.stored.blocks) = ap large_in versions in
      record {
        count = ap (λ (vs : List Version). length vs) versions ∙ sym entries;
        gone = omega (arith, gone, ap deletes_in versions);
        most_large = large_by t most (ltb 2047 most) refl
            (omega (arith, large, large_blocks s.stored.blocks s.divided.in_blocks.fits, large_puts (entries_of s.stored.blocks) s.divided.versions, gone, entries, own_blocks t s))
            (λ few. none_large t.versions most few small);
        small = small;
        are = are;
      }

  -- ---- tables, one after the other

  large_within : (t : Table) (most : ℕ) → large_of most t ≤ length t.outline.edges
  large_within t most = by (ltb 2047 most)
    where
      by : (b : Bool) → cond b (min (t.outline.entries - t.deletes) (length t.outline.edges)) 0 ≤ length t.outline.edges
      by true = omega arith
      by false = omega arith

  each_some : (table : TableBlocks) → AllByRecursion (λ block. 0 < length block) table → length table ≤ length (entries_of table)
  each_some [] some = omega arith
  each_some (block ∷ table) some = omega (arith, each_some table some.1, some.0, length-append block (entries_of table))

  some_each : (t : Table) → StandsDivided sectors from t → length t.outline.edges ≤ length t.versions
  some_each t s = omega (arith, own_blocks t s, each_some s.stored.blocks s.divided.in_blocks.nonempty, ap (λ (vs : List Version). length vs) (own_versions t s))

  -- Raised numbers are no more than they came to, where these are no greatest numbers.
  pub record IsReached (old : Sizes) (tables : List Table) (new : Sizes) : Type 0 where
    pub entries : new.entries < 18446744073709551615 → new.entries ≡ old.entries + length (versions_of tables)
    pub deletes : new.deletes ≤ old.deletes + deletes_in (versions_of tables)
    pub blocks : new.«data» < 18446744073709551615 → new.«data» ≡ old.«data» + blocks_in tables
    pub large : new.large < 18446744073709551615 → old.large + large_in (versions_of tables) ≤ new.large
    pub blocks_high : new.«data» ≤ old.«data» + blocks_in tables
    pub large_high : new.large ≤ old.large + blocks_in tables
    pub blocks_few : blocks_in tables ≤ length (versions_of tables)
    pub raised : old.largest ≤ new.largest
    pub small : AllByRecursion (λ v. entry_size v ≤ new.largest) (versions_of tables)
    pub are : AllByRecursion IsEntry (versions_of tables)

  pub reached : (tables : List Table) (old new : Sizes) → AllByRecursion (StandsDivided sectors from) tables → AreRaised old tables new → IsReached old tables new
  reached [] old new stand raised = record {
    entries = λ _. omega (arith, ap (λ (s : Sizes). s.entries) raised);
    deletes = omega (arith, ap (λ (s : Sizes). s.deletes) raised);
    blocks = λ _. omega (arith, ap (λ (s : Sizes). s.«data») raised);
    large = λ _. omega (arith, ap (λ (s : Sizes). s.large) raised);
    blocks_high = omega (arith, ap (λ (s : Sizes). s.«data») raised);
    large_high = omega (arith, ap (λ (s : Sizes). s.large) raised);
    blocks_few = omega arith;
    raised = omega (arith, ap (λ (s : Sizes). s.largest) raised);
    small = tt;
    are = tt;
  }
  reached (t ∷ tables) old new stand (between, one, others) =
      let rest = reached tables between new stand.1 others in
      let own = of_table t one.most stand.0 one.at_most in
      let up : between.largest ≡ max old.largest one.most = one.largest in
      record {
        entries = λ low. omega (arith, low, rest.entries low, one.entries, own.count, length-append t.versions (versions_of tables));
        deletes = omega (arith, rest.deletes, one.deletes, own.gone, sum_by-append (λ (w : Version). one_if_none w.value) t.versions (versions_of tables));
        blocks = λ low. omega (arith, low, rest.blocks low, one.blocks, sum_by-cons (λ (u : Table). length u.outline.edges) t tables);
        large = λ low. omega (arith, low, rest.large low, one.large, own.most_large, sum_by-append one_if_large t.versions (versions_of tables));
        blocks_high = omega (arith, rest.blocks_high, one.blocks, sum_by-cons (λ (u : Table). length u.outline.edges) t tables);
        large_high = omega (arith, rest.large_high, one.large, large_within t one.most, sum_by-cons (λ (u : Table). length u.outline.edges) t tables);
        blocks_few = omega (arith, rest.blocks_few, some_each t stand.0, sum_by-cons (λ (u : Table). length u.outline.edges) t tables, length-append t.versions (versions_of tables));
        raised = omega (arith, rest.raised, up);
        small = all_append (λ v. entry_size v ≤ new.largest) t.versions (versions_of tables) (all_map (λ v h. omega (arith, h, rest.raised, up)) t.versions own.small) rest.small;
        are = all_append IsEntry t.versions (versions_of tables) own.are rest.are;
      }

  -- ---- their blocks

  abbrev images : (tables : List Table) → AllByRecursion (StandsDivided sectors from) tables → List TableBlocks
  images [] stand = []
  images (t ∷ tables) stand = stand.0.stored.blocks ∷ images tables stand.1

  entries_are : (tables : List Table) → (stand : AllByRecursion (StandsDivided sectors from) tables) → flat_map entries_of (images tables stand) ≡ versions_of tables
  entries_are [] stand = refl
  entries_are (t ∷ tables) stand = λ i. sym (own_versions t stand.0) i ++ entries_are tables stand.1 i

  blocks_are : (tables : List Table) → (stand : AllByRecursion (StandsDivided sectors from) tables) → data_blocks (images tables stand) ≡ blocks_in tables
  blocks_are [] stand = refl
  blocks_are (t ∷ tables) stand = omega (arith, own_blocks t stand.0, blocks_are tables stand.1, sum_by-cons (λ (u : Table). length u.outline.edges) t tables)

  in_blocks : (tables : List Table) → (stand : AllByRecursion (StandsDivided sectors from) tables) → AreInBlocks (images tables stand)
  in_blocks [] stand = record { nonempty = tt; in_blocks = tt }
  in_blocks (t ∷ tables) stand =
      let rest = in_blocks tables stand.1 in
      record { nonempty = (stand.0.divided.nonempty, rest.nonempty); in_blocks = (stand.0.divided.in_blocks, rest.in_blocks) }

  -- in one table their entries take no more
  pub one_table : (t : Table) (tables : List Table) → AllByRecursion (StandsDivided sectors from) (t ∷ tables) → block_count (versions_of (t ∷ tables)) ≤ blocks_in (t ∷ tables)
  one_table t tables stand =
      omega (arith, data_block_laws.least (images (t ∷ tables) stand) (in_blocks (t ∷ tables) stand) (omega arith), ap block_count (entries_are (t ∷ tables) stand), blocks_are (t ∷ tables) stand)

  -- the bytes that they have at most
  pub held : (tables : List Table) → AllByRecursion (StandsDivided sectors from) tables → sum_by entry_size (versions_of tables) ≤ 4094 * blocks_in tables
  held tables stand =
      omega (arith, byte_laws.held (images tables stand) (in_blocks tables stand), ap (sum_by entry_size) (entries_are tables stand), blocks_are tables stand)

  -- a table has a block at least
  pub some_blocks : (t : Table) (tables : List Table) → AllByRecursion (StandsDivided sectors from) (t ∷ tables) → 0 < blocks_in (t ∷ tables)
  some_blocks t tables stand = omega (arith, stand.0.divided.nonempty, own_blocks t stand.0, sum_by-cons (λ (u : Table). length u.outline.edges) t tables)
