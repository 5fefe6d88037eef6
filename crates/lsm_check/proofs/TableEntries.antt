-- Entries of a table, read block by block.
use Rattle.std.proofs.Common.{◌≡◌, ℕ, zero, suc, ◌+◌, ◌-◌, ◌*◌, ◌<◌, ◌==◌, true, List, [], ◌∷◌, ◌++◌, length, take, get_or, slice_get, Option, Some, None, eq-eqb, eqb-true, refl, sym, ap, subst, ◌∙◌, arith}
use Rattle.std.specs.Prelude.{◌&&◌}
use Rattle.std.specs.List.{AllByRecursion}
use Rattle.std.proofs.lemmas.Bool.{and_parts}
use Rattle.std.proofs.lemmas.Grind.{flat_map-append}
use Rattle.std.proofs.lemmas.List.{append-nil, take_more}
use Rattle.std.proofs.lemmas.Option.{slice_get_within, get_or_from_slice_get, same_Some, none-some}
use Rattle.lsm_cache.specs.Reads.{block_at}
use Rattle.lsm_codec.specs.Entries.{block_of}
use Rattle.lsm_codec.specs.Indexes.{Edge}
use Rattle.lsm_codec.specs.Keys.{Bytes}
use Rattle.lsm_codec.specs.Reading.{◌>>=◌}
use Rattle.lsm_codec.specs.Versions.{Version, is_same_key}
use Rattle.lsm_codec.proofs.KeyOrder.{same_key, key_itself}
use Rattle.lsm_codec.proofs.Readers.{bind_some}
use Rattle.lsm_levels.specs.Asking.{sector_of}
use Rattle.lsm_levels.specs.Stored.{blocks_from, IsStored}
use Rattle.lsm_levels.specs.Tables.{Table}
use Rattle.lsm_open.proofs.BlockReads.{one_block_more}
use Rattle.lsm_table.specs.BlockEdges.{last_edge, edge_of, edges_of}
use Rattle.lsm_table.specs.Division.{Block, TableBlocks, entries_of}
use Rattle.lsm_table.specs.Stored.{table_of}
use Rattle.lsm_table.proofs.LastEdges.{edge_is}
use Rattle.lsm_check.specs.Sound.{AreRead, is_at_edge, ends_with}

-- ---- the edge of a block

-- a block that ends with an edge has this edge
edge_there : (block : Block) (edge : Edge) → ends_with block edge ≡ true → edge_of block ≡ edge ∷ []
edge_there block edge ends = by (slice_get block (length block - 1)) refl ends
  where
    by : (o : Option Version) → slice_get block (length block - 1) ≡ o → is_at_edge edge o ≡ true → edge_of block ≡ edge ∷ []
    by None is ends = absurd cc
    by (Some v) is ends =
        let same = and_parts (v.number == edge.number) (is_same_key v.key edge.key) ends in
        let some : 0 < length block = omega (arith, slice_get_within block (length block - 1) v is) in
        let last : v ≡ get_or block (length block - 1) v = sym (get_or_from_slice_get block (length block - 1) v v is) in
        edge_is block v some last ∙ ap (λ (k : Bytes). record { key = k; number = v.number } ∷ []) (same_key v.key edge.key same.1)
        ∙ ap (λ (n : ℕ). record { key = edge.key; number = n } ∷ []) (eqb-true v.number edge.number same.0)

last_there : (v : Version) (block : Block) → (u : Version) × (slice_get (v ∷ block) (length block) ≡ Some u) × (last_edge v block ≡ record { key = u.key; number = u.number })
last_there v [] = (v, refl, refl)
last_there v (w ∷ block) = last_there w block

itself : (v : Version) → is_at_edge (record { key = v.key; number = v.number }) (Some v) ≡ true
itself v = ap (λ b. b && is_same_key v.key v.key) (eq-eqb v.number v.number refl) ∙ key_itself v.key

-- and a block with entries ends with its edge
ends_with_own : (v : Version) (block : Block) → ends_with (v ∷ block) (last_edge v block) ≡ true
ends_with_own v block =
    let at : length (v ∷ block) - 1 ≡ length block = omega arith in
    let last = last_there v block in
    ap (λ (i : ℕ). is_at_edge (last_edge v block) (slice_get (v ∷ block) i)) at ∙ ap (is_at_edge (last_edge v block)) last.1 ∙ ap (λ (e : Edge). is_at_edge e (Some last.0)) last.2 ∙ itself last.0

-- ---- the table of blocks

-- with one block more
table_more : (blocks : List (List ℕ)) (table : TableBlocks) (bytes : List ℕ) (block : Block) → table_of blocks ≡ Some table → block_of bytes ≡ Some block → table_of (blocks ++ bytes ∷ []) ≡ Some (table ++ block ∷ [])
table_more [] table bytes block spelled here =
    ap (λ (o : Option Block). o >>= λ es. table_of [] >>= λ t. Some (es ∷ t)) here ∙ ap (λ (t : TableBlocks). Some (t ++ block ∷ [])) (same_Some [] table spelled)
table_more (b ∷ blocks) table bytes block spelled here =
    let p = bind_some (block_of b) (λ (es : Block). table_of blocks >>= λ t. Some (es ∷ t)) table spelled in
    let q = bind_some (table_of blocks) (λ (t : TableBlocks). Some (p.0 ∷ t)) table p.2 in
    ap (λ (o : Option Block). o >>= λ es. table_of (blocks ++ bytes ∷ []) >>= λ t. Some (es ∷ t)) p.1
    ∙ ap (λ (o : Option TableBlocks). o >>= λ t. Some (p.0 ∷ t)) (table_more blocks q.0 bytes block q.1 here)
    ∙ ap (λ (t : TableBlocks). Some (t ++ block ∷ [])) (same_Some (p.0 ∷ q.0) table q.2)

abbrev HasSome : Block → Type 0
HasSome block = 0 < length block

module _ (sectors : List (List ℕ)) where
  -- a block that ends with the edge at a place
  abbrev Ends : ℕ → Edge → Type 0
  Ends at edge = (block : Block) × (block_of (block_at sectors at) ≡ Some block) × (ends_with block edge ≡ true)

  block_there : (at count : ℕ) (table : TableBlocks) (i : ℕ) (edge : Edge) → table_of (blocks_from sectors at count) ≡ Some table → AllByRecursion HasSome table → i < count → Ends (at + 8 * i) (get_or (edges_of table) i edge)
  block_there at zero table i edge spelled some lt = absurd (omega (arith, lt))
  block_there at (suc count) table i edge spelled some lt =
      let p = bind_some (block_of (block_at sectors at)) (λ (es : Block). table_of (blocks_from sectors (at + 8) count) >>= λ t. Some (es ∷ t)) table spelled in
      let q = bind_some (table_of (blocks_from sectors (at + 8) count)) (λ (t : TableBlocks). Some (p.0 ∷ t)) table p.2 in
      let whole : p.0 ∷ q.0 ≡ table = same_Some (p.0 ∷ q.0) table q.2 in
      let each : AllByRecursion HasSome (p.0 ∷ q.0) = subst (AllByRecursion HasSome) (sym whole) some in
      by p.0 i q.0 lt whole each.0 p.1 (λ j below. block_there (at + 8) count q.0 j edge q.1 each.1 below)
    where
      by : (es : Block) (i : ℕ) (rest : TableBlocks) → i < suc count → es ∷ rest ≡ table → 0 < length es → block_of (block_at sectors at) ≡ Some es → ((j : ℕ) → j < count → Ends ((at + 8) + 8 * j) (get_or (edges_of rest) j edge))
          → Ends (at + 8 * i) (get_or (edges_of table) i edge)
      by [] i rest lt whole some here others = absurd (omega (arith, some))
      by (v ∷ es) zero rest lt whole some here others =
          let same : at + 8 * 0 ≡ at = omega arith in
          (v ∷ es, ap (λ (k : ℕ). block_of (block_at sectors k)) same ∙ here, ap (λ (t : TableBlocks). ends_with (v ∷ es) (get_or (edges_of t) 0 edge)) (sym whole) ∙ ends_with_own v es)
      by (v ∷ es) (suc i) rest lt whole some here others =
          let same : at + 8 * suc i ≡ (at + 8) + 8 * i = omega arith in
          let other = others i (omega (arith, lt)) in
          (other.0, ap (λ (k : ℕ). block_of (block_at sectors k)) same ∙ other.1, ap (λ (t : TableBlocks). ends_with other.0 (get_or (edges_of t) (suc i) edge)) (sym whole) ∙ other.2)

  module _ (area i : ℕ) (t : Table) (lt : i < length t.outline.edges) where
    place_is : sector_of area t 0 + 8 * i ≡ sector_of area t i
    place_is = omega arith

    -- ---- a table that stands

    stored_block : (edge : Edge) → IsStored sectors area t → Ends (sector_of area t i) (get_or t.outline.edges i edge)
    stored_block edge stored =
        let edges : edges_of stored.blocks ≡ t.outline.edges = sym (ap (λ (u : Table). u.outline.edges) stored.told) in
        let found = block_there (sector_of area t 0) (length t.outline.edges) stored.blocks i edge stored.spelled stored.sorted.nonempty lt in
        (found.0, ap (λ (k : ℕ). block_of (block_at sectors k)) (sym place_is) ∙ found.1, ap (λ (es : List Edge). ends_with found.0 (get_or es i edge)) (sym edges) ∙ found.2)

    -- each of its data blocks spells entries
    pub some_stored : IsStored sectors area t → block_of (block_at sectors (sector_of area t i)) ≡ None → ⊥
    some_stored stored none = let found = stored_block (record { key = []; number = 0 }) stored in none-some found.0 (sym none ∙ found.1)

    -- and ends as the index tells
    pub ends_stored : (edge : Edge) (block : Block) → edge ≡ get_or t.outline.edges i edge → IsStored sectors area t → block_of (block_at sectors (sector_of area t i)) ≡ Some block → ends_with block edge ≡ true
    ends_stored edge block is stored spelled =
        let found = stored_block edge stored in
        let same : block ≡ found.0 = same_Some block found.0 (sym spelled ∙ found.1) in
        ap (λ (b : Block). ends_with b edge) same ∙ ap (ends_with found.0) is ∙ found.2

    -- ---- entries that were read

    pub block_more : (edge : Edge) (block : Block) (entries : List Version) → edge ≡ get_or t.outline.edges i edge → block_of (block_at sectors (sector_of area t i)) ≡ Some block → ends_with block edge ≡ true → AreRead sectors area i t entries
        → AreRead sectors area (i + 1) t (entries ++ block)
    block_more edge block entries is spelled ends read =
        let from = sector_of area t 0 in
        let bytes = block_at sectors (sector_of area t i) in
        let next : i + 1 ≡ suc i = omega arith in
        let blocks : blocks_from sectors from (i + 1) ≡ blocks_from sectors from i ++ bytes ∷ [] =
        ap (blocks_from sectors from) next ∙ one_block_more sectors from i ∙ ap (λ (k : ℕ). blocks_from sectors from i ++ block_at sectors k ∷ []) place_is in
        record {
          blocks = read.blocks ++ block ∷ [];
          spelled = ap table_of blocks ∙ table_more (blocks_from sectors from i) read.blocks bytes block read.spelled spelled;
          edges = flat_map-append edge_of read.blocks (block ∷ []) ∙ ap (λ (es : List Edge). edges_of read.blocks ++ es) (append-nil (edge_of block) ∙ edge_there block edge ends)
              ∙ ap (λ (es : List Edge). es ++ edge ∷ []) read.edges ∙ ap (λ (e : Edge). take i t.outline.edges ++ e ∷ []) is ∙ sym (take_more t.outline.edges i edge lt);
          whole = ap (λ (l : List Version). l ++ block) read.whole ∙ ap (λ (l : List Version). entries_of read.blocks ++ l) (sym (append-nil block)) ∙ sym (flat_map-append (λ (b : Block). b) read.blocks (block ∷ []));
        }

  -- none yet
  pub none_read : (area : ℕ) (t : Table) (entries : List Version) → entries ≡ [] → AreRead sectors area 0 t entries
  none_read area t entries none = record { blocks = []; spelled = refl; edges = refl; whole = none }

  -- all of them
  pub all_read : (area i : ℕ) (t : Table) (entries : List Version) → i ≡ length t.outline.edges → AreRead sectors area i t entries → AreRead sectors area (length t.outline.edges) t entries
  all_read area i t entries end read = subst (λ (n : ℕ). AreRead sectors area n t entries) end read
