-- An extent is read as the table that was laid into it.
use Rattle.std.proofs.Common.{◌≡◌, ℕ, zero, suc, ◌+◌, ◌*◌, ◌≤◌, ◌<◌, ◌^◌, List, [], ◌∷◌, ◌++◌, length, map, take, drop, get_or, Option, Some, refl, sym, ap, subst, ◌∙◌, append_assoc, arith}
use Rattle.std.specs.List.{AllByRecursion, flat_map}
use Rattle.std.proofs.lemmas.List.{take_at, drop_at, take-append-drop, length-map, length-append, length-drop}
use Rattle.std.proofs.lemmas.Option.{same_Some}
use Rattle.lsm_codec.specs.Reading.{◌>>=◌}
use Rattle.lsm_codec.specs.Versions.{IsEntry}
use Rattle.lsm_codec.specs.Entries.{IsDataBlock, data_block, block_of, block_size}
use Rattle.lsm_codec.specs.Indexes.{index_count, index_blocks}
use Rattle.lsm_codec.proofs.Lists.{all_left, all_right}
use Rattle.lsm_codec.proofs.Readers.{bind_some}
use Rattle.lsm_codec.proofs.DataBlockLaws.{block_format}
use Rattle.lsm_codec.proofs.IndexLaws.{length-index_blocks}
use Rattle.lsm_codec.specs.declared.table_record.TableRecord.{TableRecord}
use Rattle.lsm_table.specs.Division.{Block, TableBlocks, IsTable, entries_of}
use Rattle.lsm_table.specs.BlockEdges.{edges_of}
use Rattle.lsm_table.specs.Outlines.{IsRecordOf, outline_in}
use Rattle.lsm_table.specs.Extents.{in_pieces, index_in_blocks, footer_in, extent_in_blocks}
use Rattle.lsm_table.specs.Stored.{table_of, table_in, outline_at, StoredLaws}
use Rattle.lsm_table.proofs.Outlines.{edge_count, outline_fits, spelled}
use Rattle.lsm_table.proofs.Blocked.{length-in_pieces, at_filter, at_footer}

-- ---- data blocks

reads : (table : TableBlocks) → AllByRecursion IsDataBlock table → table_of (map data_block table) ≡ Some table
reads [] all = refl
reads (b ∷ table) all =
    ap (λ (o : Option Block). o >>= λ es. table_of (map data_block table) >>= λ t. Some (es ∷ t)) (block_format.decoded b all.0)
    ∙ ap (λ (o : Option TableBlocks). o >>= λ t. Some (b ∷ t)) (reads table all.1)

spells : (blocks : List (List ℕ)) (table : TableBlocks) → table_of blocks ≡ Some table → AllByRecursion IsDataBlock table × (blocks ≡ map data_block table)
spells [] table e = subst (λ (t : TableBlocks). AllByRecursion IsDataBlock t × ([] ≡ map data_block t)) (same_Some [] table e) (tt, refl)
spells (b ∷ blocks) table e =
    let p = bind_some (block_of b) (λ (es : Block). table_of blocks >>= λ t. Some (es ∷ t)) table e in
    let q = bind_some (table_of blocks) (λ (t : TableBlocks). Some (p.0 ∷ t)) table p.2 in
    let front = block_format.spelled b p.0 p.1 in
    let back = spells blocks q.0 q.1 in
    subst (λ (t : TableBlocks). AllByRecursion IsDataBlock t × (b ∷ blocks ≡ map data_block t)) (same_Some (p.0 ∷ q.0) table q.2)
    ((front.0, back.0), ap (λ (x : List ℕ). x ∷ blocks) front.1 ∙ ap (λ (bs : List (List ℕ)). data_block p.0 ∷ bs) back.1)

blocks_fit : (table : TableBlocks) → AllByRecursion IsEntry (entries_of table) → AllByRecursion (λ block. 0 < length block) table → AllByRecursion (λ block. block_size block ≤ 4096) table → AllByRecursion IsDataBlock table
blocks_fit [] all some fits = tt
blocks_fit (b ∷ table) all some fits =
    (record { some = omega (arith, some.0); versions = all_left IsEntry b (entries_of table) all; fits = fits.0 }, blocks_fit table (all_right IsEntry b (entries_of table) all) some.1 fits.1)

-- ---- the extent

table_back : (number : ℕ) (filter : List ℕ) (table : TableBlocks) → IsTable table → table_in (length table) (extent_in_blocks number filter table) ≡ Some table
table_back number filter table is =
    ap table_of (take_at (map data_block table) (filter ∷ (index_in_blocks table ++ footer_in number table ∷ [])) (length table) (length-map table data_block))
    ∙ reads table (blocks_fit table is.versions is.in_blocks.nonempty is.in_blocks.fits)

-- pieces, entries_of
pieces_joined : (n : ℕ) (bytes : List ℕ) → length bytes ≡ 4096 * n → flat_map (λ b. b) (in_pieces n bytes) ≡ bytes
pieces_joined zero [] e = refl
pieces_joined zero (x ∷ bytes) e = absurd (omega (arith, e))
pieces_joined (suc n) bytes e = ap (λ (rest : List ℕ). take 4096 bytes ++ rest) (pieces_joined n (drop 4096 bytes) (omega (arith, e, length-drop 4096 bytes))) ∙ take-append-drop 4096 bytes

behind : (number : ℕ) (filter : List ℕ) (table : TableBlocks) → drop (length table + 1) (extent_in_blocks number filter table) ≡ index_in_blocks table ++ footer_in number table ∷ []
behind number filter table =
    let front : List (List ℕ) = map data_block table ++ filter ∷ [] in
    let rest : List (List ℕ) = index_in_blocks table ++ footer_in number table ∷ [] in
    ap (λ (bs : List (List ℕ)). drop (length table + 1) bs) (sym (append_assoc (map data_block table) (filter ∷ []) rest))
    ∙ drop_at front rest (length table + 1) (omega (arith, length-append (map data_block table) (filter ∷ []), length-map table data_block))

outline_back : (t : TableRecord) (number : ℕ) (filter : List ℕ) (table : TableBlocks) → number ≤ 2 ^ 63 → IsTable table → IsRecordOf t (outline_in number filter table) → outline_at t (extent_in_blocks number filter table) ≡ Some (outline_in number filter table)
outline_back t number filter table le is recorded =
    let x : ℕ = index_count (edges_of table) in
    let whole : List (List ℕ) = extent_in_blocks number filter table in
    let n : t.data_blocks ≡ length table = recorded.data_blocks ∙ edge_count table is in
    let m : t.index_blocks ≡ x = recorded.index_blocks in
    let footer : get_or whole (t.data_blocks + t.index_blocks + 1) [] ≡ footer_in number table =
    ap (λ (k : ℕ). get_or whole (k + t.index_blocks + 1) []) n ∙ ap (λ (k : ℕ). get_or whole (length table + k + 1) []) m
    ∙ at_footer number filter table (length table + x + 1) (omega arith) (omega arith) in
    let index : flat_map (λ b. b) (take t.index_blocks (drop (t.data_blocks + 1) whole)) ≡ index_blocks (edges_of table) =
    ap (λ (k : ℕ). flat_map (λ b. b) (take t.index_blocks (drop (k + 1) whole))) n
    ∙ ap (λ (k : ℕ). flat_map (λ b. b) (take k (drop (length table + 1) whole))) m
    ∙ ap (λ (bs : List (List ℕ)). flat_map (λ b. b) (take x bs)) (behind number filter table)
    ∙ ap (flat_map (λ b. b)) (take_at (index_in_blocks table) (footer_in number table ∷ []) x (length-in_pieces x (index_blocks (edges_of table))))
    ∙ pieces_joined x (index_blocks (edges_of table)) (length-index_blocks (edges_of table)) in
    let kept : get_or whole t.data_blocks [] ≡ filter = ap (λ (k : ℕ). get_or whole k []) n ∙ at_filter number filter table (length table) refl in
    spelled t _ _ _ (outline_in number filter table) (outline_fits number filter table le is) (record { by_record = recorded; by_footer = footer; by_index = index; by_filter = kept })

pub stored_laws_hold : StoredLaws
stored_laws_hold = record { read = reads; spelled = spells; table = table_back; outline = outline_back }
