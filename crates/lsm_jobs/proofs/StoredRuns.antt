-- The versions of tables that are stored, after a number of their data blocks.
use Rattle.std.proofs.Common.{◌≡◌, ℕ, zero, suc, ◌+◌, ◌-◌, ◌≤◌, min, ltb, Bool, true, false, cond, List, [], ◌∷◌, ◌++◌, length, map, take, drop, refl, sym, ap, subst, ◌∙◌, append_assoc, arith}
use Rattle.std.specs.List.{AllByRecursion}
use Rattle.std.proofs.lemmas.Bool.{ltb-true, ltb-false}
use Rattle.std.proofs.lemmas.List.{drop_all, drop_min, drop-drop, take-append-drop, drop-append-le, length-append}
use Rattle.std.proofs.Math.Seq.{drop-append-add}
use Rattle.std.proofs.lemmas.List.Concat.{flat_map-append}
use Rattle.std.proofs.lemmas.List.Sums.{sum_by-cons}
use Rattle.lsm_codec.specs.Versions.{Version, AreOrdered}
use Rattle.lsm_table.specs.Division.{Block, TableBlocks, entries_of}
use Rattle.lsm_table.proofs.Orders.{front_pairs}
use Rattle.lsm_table.proofs.Items.{Item}
use Rattle.lsm_levels.specs.Tables.{Table, versions_of}
use Rattle.lsm_levels.specs.Asking.{sector_of}
use Rattle.lsm_levels.specs.Stored.{blocks_from, IsStored}
use Rattle.lsm_jobs.specs.Gathering.{data_blocks, blocks_in, items_in, GoesOn, versions_from, versions_behind}
use Rattle.lsm_jobs.proofs.BlockReads.{length-blocks_from}
use Rattle.lsm_jobs.proofs.StoredBlocks.{ok, Spell, from_block, spelled, spell_append, spell_drop, spell_take, spell_items, spell_length, same_entries}

entries_append : (table other : TableBlocks) → entries_of (table ++ other) ≡ entries_of table ++ entries_of other
entries_append table other = flat_map-append (λ (block : Block). block) table other

module _ (sectors : List (List ℕ)) (area : ℕ) where
  -- the blocks of tables, and what they spell: their versions from each block on
  pub record AreSpelled (tables : List Table) : Type 0 where
    pub blocks : TableBlocks
    pub spell : Spell (blocks_in sectors area tables) blocks
    pub behind : (d : ℕ) → versions_behind d tables ≡ entries_of (drop d blocks)

  abbrev own_blocks : Table → List (List ℕ)
  own_blocks t = blocks_from sectors (sector_of area t 0) (length t.outline.edges)

  -- a table has as many blocks as edges
  its_length : (t : Table) (s : IsStored sectors area t) → length s.blocks ≡ length t.outline.edges
  its_length t s = spell_length (own_blocks t) s.blocks (spelled (own_blocks t) s.blocks s.spelled) ∙ length-blocks_from sectors (sector_of area t 0) (length t.outline.edges)

  its_versions : (t : Table) (s : IsStored sectors area t) → t.versions ≡ entries_of s.blocks
  its_versions t s = ap (λ (u : Table). u.versions) s.told

  its_versions_from : (i : ℕ) (t : Table) (s : IsStored sectors area t) → versions_from i t ≡ entries_of (drop i s.blocks)
  its_versions_from i t s = ap (versions_from i) s.told ∙ from_block i s.blocks s.sorted.nonempty s.sorted.ordered

  none_behind : (d : ℕ) → versions_behind d [] ≡ entries_of (drop d [])
  none_behind zero = refl
  none_behind (suc d) = refl

  one_more : (t : Table) (rest : List Table) (s : IsStored sectors area t) (more : AreSpelled rest) (d : ℕ) → versions_behind d (t ∷ rest) ≡ entries_of (drop d (s.blocks ++ more.blocks))
  one_more t rest s more zero = ap (λ (l : List Version). l ++ versions_of rest) (its_versions t s) ∙ ap (λ (l : List Version). entries_of s.blocks ++ l) (more.behind 0) ∙ sym (entries_append s.blocks more.blocks)
  one_more t rest s more (suc d) = by (ltb (suc d) (length t.outline.edges)) refl
    where
      by : (b : Bool) → ltb (suc d) (length t.outline.edges) ≡ b → cond b (versions_from (suc d) t ++ versions_of rest) (versions_behind (suc d - length t.outline.edges) rest) ≡ entries_of (drop (suc d) (s.blocks ++ more.blocks))
      by true e =
          let within : suc d ≤ length s.blocks = omega (arith, ltb-true (suc d) (length t.outline.edges) e, its_length t s) in
          ap (λ (l : List Version). l ++ versions_of rest) (its_versions_from (suc d) t s)
          ∙ ap (λ (l : List Version). entries_of (drop (suc d) s.blocks) ++ l) (more.behind 0)
          ∙ sym (ap entries_of (drop-append-le (suc d) s.blocks more.blocks within) ∙ entries_append (drop (suc d) s.blocks) more.blocks)
      by false e =
          let k = suc d - length t.outline.edges in
          let past : suc d ≡ length s.blocks + k = omega (arith, ltb-false (suc d) (length t.outline.edges) e, its_length t s) in
          more.behind k ∙ sym (ap (λ (n : ℕ). entries_of (drop n (s.blocks ++ more.blocks))) past ∙ ap entries_of (drop-append-add s.blocks more.blocks k))

  pub are_spelled : (tables : List Table) → AllByRecursion (IsStored sectors area) tables → AreSpelled tables
  are_spelled [] all = record { blocks = []; spell = tt; behind = none_behind }
  are_spelled (t ∷ rest) all =
      let more = are_spelled rest all.1 in
      record {
        blocks = all.0.blocks ++ more.blocks;
        spell = spell_append (own_blocks t) (blocks_in sectors area rest) all.0.blocks more.blocks (spelled (own_blocks t) all.0.blocks all.0.spelled) more.spell;
        behind = one_more t rest all.0 more;
      }

  pub length-blocks_in : (tables : List Table) → length (blocks_in sectors area tables) ≡ data_blocks tables
  length-blocks_in [] = refl
  length-blocks_in (t ∷ rest) =
      length-append (own_blocks t) (blocks_in sectors area rest)
      ∙ ap (λ (n : ℕ). n + length (blocks_in sectors area rest)) (length-blocks_from sectors (sector_of area t 0) (length t.outline.edges))
      ∙ ap (λ (n : ℕ). length t.outline.edges + n) (length-blocks_in rest)
      ∙ sym (sum_by-cons (λ (u : Table). length u.outline.edges) t rest)

  module _ (tables : List Table) (all : AllByRecursion (IsStored sectors area) tables) where
    abbrev its : AreSpelled tables
    its = are_spelled tables all

    count : length its.blocks ≡ data_blocks tables
    count = spell_length (blocks_in sectors area tables) its.blocks its.spell ∙ length-blocks_in tables

    -- all blocks are passed alike
    pub same_behind : (a b : ℕ) → min a (data_blocks tables) ≡ min b (data_blocks tables) → versions_behind a tables ≡ versions_behind b tables
    same_behind a b e =
        let same : min a (length its.blocks) ≡ min b (length its.blocks) = omega (arith, e, count) in
        its.behind a ∙ sym (ap entries_of (drop_min a its.blocks)) ∙ ap (λ (n : ℕ). entries_of (drop n its.blocks)) same ∙ ap entries_of (drop_min b its.blocks) ∙ sym (its.behind b)

    -- and after all of them is none
    pub none_left : (d : ℕ) → data_blocks tables ≤ d → versions_behind d tables ≡ []
    none_left d past = its.behind d ∙ ap entries_of (drop_all d its.blocks (omega (arith, past, count)))

    abbrev items : ℕ → ℕ → List Item
    items d k = items_in (take k (drop d (blocks_in sectors area tables)))

    abbrev next_entries : ℕ → ℕ → List Version
    next_entries d k = entries_of (take k (drop d its.blocks))

    next_items : (d k : ℕ) → items d k ≡ map ok (next_entries d k)
    next_items d k = spell_items (take k (drop d (blocks_in sectors area tables))) (take k (drop d its.blocks)) (spell_take k (drop d (blocks_in sectors area tables)) (drop d its.blocks) (spell_drop d (blocks_in sectors area tables) its.blocks its.spell))

    -- what is after some blocks is what the next encode, and what is after those
    parted : (d k : ℕ) → versions_behind d tables ≡ next_entries d k ++ versions_behind (d + k) tables
    parted d k =
        its.behind d
        ∙ sym (ap entries_of (take-append-drop k (drop d its.blocks)))
        ∙ entries_append (take k (drop d its.blocks)) (drop k (drop d its.blocks))
        ∙ ap (λ (table : TableBlocks). next_entries d k ++ entries_of table) (drop-drop k d its.blocks)
        ∙ ap (λ (l : List Version). next_entries d k ++ l) (sym (its.behind (d + k)))

    -- a run that goes on stays the same with what is left
    pub run_stays : (d k : ℕ) (run new : List Version) → GoesOn run (items d k) new → new ++ versions_behind (d + k) tables ≡ run ++ versions_behind d tables
    run_stays d k run new g =
        let is : g.entries ≡ next_entries d k = same_entries g.entries (next_entries d k) (sym g.spelled ∙ next_items d k) in
        ap (λ (l : List Version). l ++ versions_behind (d + k) tables) (g.whole ∙ ap (λ (l : List Version). run ++ l) is)
        ∙ append_assoc run (next_entries d k) (versions_behind (d + k) tables)
        ∙ ap (λ (l : List Version). run ++ l) (sym (parted d k))

    -- and it goes on, where with all that is left it is in order
    pub run_goes_on : (d k : ℕ) (run : List Version) → AreOrdered (run ++ versions_behind d tables) → (new : List Version) × GoesOn run (items d k) new
    run_goes_on d k run ordered =
        let new = run ++ next_entries d k in
        let whole : run ++ versions_behind d tables ≡ new ++ versions_behind (d + k) tables = ap (λ (l : List Version). run ++ l) (parted d k) ∙ sym (append_assoc run (next_entries d k) (versions_behind (d + k) tables)) in
        (new, record { entries = next_entries d k; spelled = next_items d k; whole = refl; ordered = front_pairs new (versions_behind (d + k) tables) (subst AreOrdered whole ordered) })
