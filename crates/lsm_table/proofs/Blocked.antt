-- The blocks of an extent, one by one.
use Rattle.std.proofs.Common.{◌≡◌, ℕ, zero, suc, ◌+◌, ◌-◌, ◌*◌, ◌<◌, ◌≤◌, List, [], ◌∷◌, ◌++◌, length, map, take, drop, get_or, refl, sym, ap, ◌∙◌, arith}
use Rattle.std.proofs.lemmas.List.{get_or_append_left, get_or-append_right, length-map, get_or-map}
use Rattle.lsm_codec.specs.Entries.{data_block}
use Rattle.lsm_codec.specs.Indexes.{index_count, index_blocks}
use Rattle.lsm_table.specs.Division.{TableBlocks}
use Rattle.lsm_table.specs.BlockEdges.{edges_of}
use Rattle.lsm_table.specs.Extents.{in_pieces, index_in_blocks, footer_in, extent_in_blocks, extent_size}

pub length-in_pieces : (n : ℕ) (bytes : List ℕ) → length (in_pieces n bytes) ≡ n
length-in_pieces zero bytes = refl
length-in_pieces (suc n) bytes = ap suc (length-in_pieces n (drop 4096 bytes))

none_dropped : (n : ℕ) → drop {A = ℕ} n [] ≡ []
none_dropped zero = refl
none_dropped (suc n) = refl

drop_twice : (a b : ℕ) (bytes : List ℕ) → drop b (drop a bytes) ≡ drop (a + b) bytes
drop_twice zero b bytes = let e : b ≡ 0 + b = omega arith in ap (λ (k : ℕ). drop k bytes) e
drop_twice (suc a) b [] = none_dropped b ∙ sym (none_dropped (suc a + b))
drop_twice (suc a) b (x ∷ bytes) = let e : suc (a + b) ≡ suc a + b = omega arith in drop_twice a b bytes ∙ ap (λ (k : ℕ). drop k (x ∷ bytes)) e

pub piece_at : (n i : ℕ) (bytes d : List ℕ) → i < n → get_or (in_pieces n bytes) i d ≡ take 4096 (drop (4096 * i) bytes)
piece_at zero i bytes d lt = absurd (omega arith)
piece_at (suc n) zero bytes d lt = refl
piece_at (suc n) (suc i) bytes d lt =
    let e : 4096 + 4096 * i ≡ 4096 * suc i = omega arith in
    piece_at n i (drop 4096 bytes) d (omega arith) ∙ ap (λ (bs : List ℕ). take 4096 bs) (drop_twice 4096 (4096 * i) bytes) ∙ ap (λ (k : ℕ). take 4096 (drop k bytes)) e

module _ (number : ℕ) (filter : List ℕ) (table : TableBlocks) where
  abbrev whole : List (List ℕ)
  whole = extent_in_blocks number filter table

  pub at_data : (at : ℕ) → at < length table → get_or whole at [] ≡ data_block (get_or table at [])
  at_data at lt =
      get_or_append_left (map data_block table) (filter ∷ (index_in_blocks table ++ footer_in number table ∷ [])) [] at (omega (arith, length-map table data_block))
      ∙ get_or-map data_block table at [] [] lt

  after_data : (at : ℕ) → length table ≤ at → get_or whole at [] ≡ get_or (filter ∷ (index_in_blocks table ++ footer_in number table ∷ [])) (at - length table) []
  after_data at le = get_or-append_right (map data_block table) (filter ∷ (index_in_blocks table ++ footer_in number table ∷ [])) (length table) at [] (length-map table data_block) le

  pub at_filter : (at : ℕ) → at ≡ length table → get_or whole at [] ≡ filter
  at_filter at e =
      let none : at - length table ≡ 0 = omega arith in
      after_data at (omega arith) ∙ ap (λ (k : ℕ). get_or (filter ∷ (index_in_blocks table ++ footer_in number table ∷ [])) k []) none

  past_filter : (at : ℕ) → length table < at → get_or whole at [] ≡ get_or (index_in_blocks table ++ footer_in number table ∷ []) (at - length table - 1) []
  past_filter at lt =
      let step : at - length table ≡ suc (at - length table - 1) = omega arith in
      after_data at (omega arith) ∙ ap (λ (k : ℕ). get_or (filter ∷ (index_in_blocks table ++ footer_in number table ∷ [])) k []) step

  pub at_index : (at : ℕ) → length table < at → at < length table + 1 + index_count (edges_of table) → get_or whole at [] ≡ take 4096 (drop (4096 * (at - length table - 1)) (index_blocks (edges_of table)))
  at_index at lt within =
      let n : ℕ = index_count (edges_of table) in
      past_filter at lt
      ∙ get_or_append_left (index_in_blocks table) (footer_in number table ∷ []) [] (at - length table - 1) (omega (arith, length-in_pieces n (index_blocks (edges_of table))))
      ∙ piece_at n (at - length table - 1) (index_blocks (edges_of table)) [] (omega arith)

  pub at_footer : (at : ℕ) → length table + 1 + index_count (edges_of table) ≤ at → at < extent_size table → get_or whole at [] ≡ footer_in number table
  at_footer at le lt =
      let n : ℕ = index_count (edges_of table) in
      let none : (at - length table - 1) - n ≡ 0 = omega arith in
      past_filter at (omega arith)
      ∙ get_or-append_right (index_in_blocks table) (footer_in number table ∷ []) n (at - length table - 1) [] (length-in_pieces n (index_blocks (edges_of table))) (omega arith)
      ∙ ap (λ (k : ℕ). get_or (footer_in number table ∷ []) k []) none
