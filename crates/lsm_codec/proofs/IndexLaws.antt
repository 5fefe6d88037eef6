-- The index of a table is read and decoded exactly.
use Rattle.std.proofs.Common.{◌≡◌, ℕ, ◌+◌, ◌-◌, ◌*◌, ◌^◌, ◌≤◌, ◌%◌, List, [], ◌∷◌, length, Some, None, Decides, refl, ap, arith}
use Rattle.std.specs.List.{AllByRecursion}
use Rattle.std.proofs.lemmas.Bool.Decides.{Decides-like, Decides-and, Decides-eqb}
use Rattle.std.proofs.lemmas.List.{length-append, length-replicate}
use Rattle.byteorder.specs.Endian.{big_bytes}
use Rattle.lsm_codec.specs.Keys.{IsBytes}
use Rattle.lsm_codec.specs.Spelling.{block_padding, IsDecoded}
use Rattle.lsm_codec.specs.Reading.{times, front_of}
use Rattle.lsm_codec.specs.Indexes.{Edge, IsEdge, IsIndex, is_edge, is_index, edge_text, index_text, index_length, index_count, index_blocks, edge_at, index_of}
use Rattle.lsm_codec.specs.Formats.{IsFormat}
use Rattle.lsm_codec.proofs.Limits.{is_within-Decides, each-Decides}
use Rattle.lsm_codec.proofs.Readers.{Reads, then_reads, made_reads, fits_reads, times_reads}
use Rattle.lsm_codec.proofs.Decoding.{if_spelled-decodes, decodes-format, one_answer}
use Rattle.lsm_codec.proofs.Padding.{used, read_up, refused_up, unread_up}
use Rattle.lsm_codec.proofs.BatchLaws.{key_reads}
use Rattle.lsm_codec.proofs.EntryLaws.{batch_number_reads, key-Decides}

pub edge_reads : Reads edge_at IsEdge edge_text
unfolding edge_at
edge_reads =
    fits_reads (λ e f. record { key = f.0; number_low = f.1.0; number_high = f.1.1 }) (λ e f. (f.key, (f.number_low, f.number_high)))
    (made_reads (λ p. record { key = p.0; number = p.1 }) (λ e. (e.key, e.number)) (λ p f. refl) (λ e. refl) (then_reads key_reads (λ k. batch_number_reads)))

pub index_reads : (count : ℕ) → Reads (times count edge_at) (IsIndex count) index_text
index_reads count = fits_reads (λ es f. record { all = f.0; each = f.1 }) (λ es f. (f.all, f.each)) (times_reads count edge_reads)

-- ---- lengths

edge_size : (e : Edge) → length (edge_text e) ≡ 9 + length e.key
edge_size e = omega (arith, length-append e.key (big_bytes 8 e.number))

edges_low : (es : List Edge) → AllByRecursion IsEdge es → 10 * length es ≤ length (index_text es)
edges_low [] all = omega arith
edges_low (e ∷ es) all = omega (arith, all.0.key.0, edge_size e, edges_low es all.1, length-append (edge_text e) (index_text es))

edges_high : (es : List Edge) → AllByRecursion IsEdge es → length (index_text es) ≤ 264 * length es
edges_high [] all = omega arith
edges_high (e ∷ es) all = omega (arith, all.0.key.1, edge_size e, edges_high es all.1, length-append (edge_text e) (index_text es))

pub index_low : (count : ℕ) (es : List Edge) → IsIndex count es → 10 * count ≤ index_length es
index_low count es is = omega (arith, is.all, edges_low es is.each)

pub index_high : (count : ℕ) (es : List Edge) → IsIndex count es → index_length es ≤ 264 * count
index_high count es is = omega (arith, is.all, edges_high es is.each)

pub length-index_blocks : (es : List Edge) → length (index_blocks es) ≡ 4096 * index_count es
unfolding index_blocks
length-index_blocks es = omega (arith, length-append (index_text es) (block_padding (index_length es)), length-replicate {A = ℕ} ((4096 - index_length es % 4096) % 4096) 0)

-- ---- decoding

edge-Decides : (e : Edge) → Decides (is_edge e) (IsEdge e)
edge-Decides e = Decides-like (is_edge e) (λ h. record { key = h.0; number_low = h.1.0; number_high = h.1.1 }) (λ h. (h.key, (h.number_low, h.number_high)))
    (Decides-and _ _ (key-Decides e.key) (is_within-Decides 1 (2 ^ 63) e.number))

index-Decides : (count : ℕ) (es : List Edge) → Decides (is_index count es) (IsIndex count es)
index-Decides count es = Decides-like (is_index count es) (λ h. record { all = h.0; each = h.1 }) (λ h. (h.all, h.each)) (Decides-and _ _ (Decides-eqb (length es) count) (each-Decides is_edge IsEdge edge-Decides es))

reads_back : (count : ℕ) (es : List Edge) → IsIndex count es → times count edge_at (index_blocks es) ≡ Some (es, block_padding (index_length es))
unfolding index_blocks
reads_back count es is = (index_reads count).again es (block_padding (index_length es)) is

pub index_of_exact : (count : ℕ) (bytes : List ℕ) → IsDecoded (IsIndex count) index_blocks bytes (index_of count bytes)
unfolding index_of
index_of_exact count bytes = if_spelled-decodes (is_index count) (IsIndex count) (index-Decides count) index_blocks (λ b. front_of (times count edge_at b)) (λ es is. ap front_of (reads_back count es is)) bytes

pub index_format : (count : ℕ) → IsFormat (IsIndex count) index_blocks (index_of count)
index_format count = decodes-format (index_of_exact count)

-- ---- what the reader of blocks finds

module _ (count : ℕ) (bytes : List ℕ) (fits : IsBytes bytes) where
  -- the bytes after what was read are bytes of the blocks
  pub rest_shorter : (es : List Edge) (rest : List ℕ) → times count edge_at bytes ≡ Some (es, rest) → length rest ≤ length bytes
  rest_shorter es rest read = let law = (index_reads count).found bytes (es, rest) fits read in omega (arith, ap length law.1, length-append (index_text es) rest)

  -- the bytes of the index
  used_by : (es : List Edge) (rest : List ℕ) → times count edge_at bytes ≡ Some (es, rest) → length bytes - length rest ≡ index_length es
  used_by es rest read = used (index_reads count) block_padding (λ x is. is) bytes fits es rest read

  pub used_within : (es : List Edge) (rest : List ℕ) → times count edge_at bytes ≡ Some (es, rest) → (length bytes - length rest ≡ index_length es) × (length bytes - length rest ≤ 264 * length es)
  used_within es rest read =
      let is : IsIndex count es = ((index_reads count).found bytes (es, rest) fits read).0 in
      (used_by es rest read, omega (arith, used_by es rest read, index_high count es is, is.all))

  pub whole : (es : List Edge) (rest : List ℕ) → times count edge_at bytes ≡ Some (es, rest) → rest ≡ block_padding (length bytes - length rest) → Some es ≡ index_of count bytes
  unfolding index_blocks
  whole es rest read zeros =
      one_answer (read_up (index_reads count) block_padding (λ x is. is) bytes fits es rest read zeros ((index_reads count).found bytes (es, rest) fits read).0) (index_of_exact count bytes)

  pub not_whole : (es : List Edge) (rest : List ℕ) → times count edge_at bytes ≡ Some (es, rest) → (rest ≡ block_padding (length bytes - length rest) → ⊥) → None ≡ index_of count bytes
  unfolding index_blocks
  not_whole es rest read not =
      one_answer (refused_up (index_reads count) block_padding (λ x is. is) bytes fits es rest read (λ h. not h.0)) (index_of_exact count bytes)

  pub unread : times count edge_at bytes ≡ None → None ≡ index_of count bytes
  unfolding index_blocks
  unread none = one_answer (unread_up (index_reads count) block_padding (λ x is. is) bytes fits none) (index_of_exact count bytes)
