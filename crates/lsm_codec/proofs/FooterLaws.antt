-- The footer of a table is read and decoded exactly.
use Rattle.std.proofs.Common.{◌≡◌, ℕ, ◌-◌, ◌^◌, ◌<◌, ◌≤◌, ◌==◌, true, List, length, drop, replicate, Some, None, Decides, refl, sym, ap, ◌∙◌, arith}
use Rattle.std.proofs.lemmas.Bool.{eqb-true, ne_eqb}
use Rattle.std.proofs.lemmas.Bool.Decides.{Decides-like, Decides-and}
use Rattle.std.proofs.lemmas.List.{length-append, length-replicate}
use Rattle.byteorder.specs.Endian.{big_bytes}
use Rattle.lsm_codec.specs.Keys.{IsBytes, IsKey}
use Rattle.lsm_codec.specs.Spelling.{field, IsDecoded}
use Rattle.lsm_codec.specs.Reading.{number_at, kept, front_of}
use Rattle.lsm_codec.specs.BatchText.{key_at}
use Rattle.lsm_codec.proofs.Fields.{there, from_place}
use borrow.Rule.Slice.PartMut.{mid_of}
use Rattle.lsm_codec.specs.Entries.{are_zeros}
use Rattle.lsm_codec.specs.Footers.{Summary, IsSummary, is_summary, footer_text, footer_block, footer_at, footer_of}
use Rattle.lsm_codec.specs.Formats.{IsFormat}
use Rattle.lsm_codec.proofs.Limits.{at_most-Decides, is_within-Decides}
use Rattle.lsm_codec.proofs.Readers.{Reads, number_reads, then_reads, made_reads, kept_reads, fits_reads}
use Rattle.lsm_codec.proofs.Decoding.{if_spelled-decodes, decodes-format, one_answer}
use Rattle.lsm_codec.proofs.Padding.{read_up, refused_up, unread_up}
use Rattle.lsm_codec.proofs.BatchLaws.{key_reads}
use Rattle.lsm_codec.proofs.EntryLaws.{key-Decides}
use Rattle.lsm_codec.proofs.DataBlockLaws.{zeros_are, zeros_are_zeros}

-- what the fields of a footer can hold
pub record FieldsFit (f : Summary) : Type 0 where
  pub number : f.number < 256 ^ 8
  pub data_blocks : f.data_blocks < 256 ^ 2
  pub entries : f.entries < 256 ^ 4
  pub index_len : f.index_len < 256 ^ 4
  pub first : IsKey f.first

magic_reads : Reads (kept (λ m. m == 0x4c534d54) (number_at 4)) (λ n. n ≡ 0x4c534d54) (big_bytes 4)
magic_reads = fits_reads (λ n f. f.1) (λ n f. (omega (arith, f), f)) (kept_reads (λ m. m == 0x4c534d54) (λ m. m ≡ 0x4c534d54) (λ m t. eqb-true m 0x4c534d54 t) (λ m e. rw e refl) (number_reads 4))

pub footer_reads : Reads footer_at FieldsFit footer_text
unfolding footer_at
footer_reads =
    fits_reads
    (λ f p. record { number = p.1.0; data_blocks = p.1.1.0; entries = p.1.1.1.0; index_len = p.1.1.1.1.0; first = p.1.1.1.1.1 })
    (λ f p. (refl, (p.number, (p.data_blocks, (p.entries, (p.index_len, p.first))))))
    (made_reads (λ t. record { number = t.1.0; data_blocks = t.1.1.0; entries = t.1.1.1.0; index_len = t.1.1.1.1.0; first = t.1.1.1.1.1 }) (λ f. (0x4c534d54, (f.number, (f.data_blocks, (f.entries, (f.index_len, f.first))))))
    (λ p f. ap (λ (m : ℕ). (m, p.1)) (sym f.0)) (λ f. refl)
    (then_reads magic_reads (λ m. then_reads (number_reads 8) (λ n. then_reads (number_reads 2) (λ d. then_reads (number_reads 4) (λ e. then_reads (number_reads 4) (λ i. key_reads)))))))

-- ---- the numbers of a block at their places

module _ (block : List ℕ) (size : length block ≡ 4096) where
  pub footer_some : (first rest : List ℕ) → field 0 4 block ≡ 0x4c534d54 → key_at (mid_of 22 4074 block) ≡ Some (first, rest)
      → footer_at block ≡ Some (record { number = field 4 8 block; data_blocks = field 12 2 block; entries = field 14 4 block; index_len = field 18 4 block; first = first }, rest)
  unfolding footer_at
  footer_some first rest magic key =
      let behind : key_at (drop 22 block) ≡ Some (first, rest) = ap key_at (sym (from_place 22 block) ∙ ap (λ (n : ℕ). mid_of 22 (n - 22) block) size) ∙ key in
      rw (there 0 4 block (omega (arith, size)), magic, there 4 8 block (omega (arith, size)), there 12 2 block (omega (arith, size)), there 14 4 block (omega (arith, size)), there 18 4 block (omega (arith, size)), behind) refl

  pub footer_none : field 0 4 block ≡ 0x4c534d54 → key_at (mid_of 22 4074 block) ≡ None → footer_at block ≡ None
  unfolding footer_at
  footer_none magic key =
      let behind : key_at (drop 22 block) ≡ None = ap key_at (sym (from_place 22 block) ∙ ap (λ (n : ℕ). mid_of 22 (n - 22) block) size) ∙ key in
      rw (there 0 4 block (omega (arith, size)), magic, there 4 8 block (omega (arith, size)), there 12 2 block (omega (arith, size)), there 14 4 block (omega (arith, size)), there 18 4 block (omega (arith, size)), behind) refl

  pub footer_other : (field 0 4 block ≡ 0x4c534d54 → ⊥) → footer_at block ≡ None
  unfolding footer_at
  footer_other other = rw (there 0 4 block (omega (arith, size)), ne_eqb (field 0 4 block) 0x4c534d54 other) refl

fields_fit : (f : Summary) → IsSummary f → FieldsFit f
fields_fit f is = record { number = omega (arith, is.number); data_blocks = omega (arith, is.blocks_high); entries = omega (arith, is.entries_high); index_len = omega (arith, is.index_high); first = is.first }

-- the zeros after a footer's text
abbrev pad : ℕ → List ℕ
pad size = replicate (4096 - size) 0

summary-Decides : (f : Summary) → Decides (is_summary f) (IsSummary f)
summary-Decides f = Decides-like (is_summary f)
    (λ h. record { number = h.0; blocks_low = h.1.0.0; blocks_high = h.1.0.1; entries_low = h.1.1.0.0; entries_high = h.1.1.0.1; index_low = h.1.1.1.0.0; index_high = h.1.1.1.0.1; first = h.1.1.1.1 })
    (λ h. (h.number, ((h.blocks_low, h.blocks_high), ((h.entries_low, h.entries_high), ((h.index_low, h.index_high), h.first)))))
    (Decides-and _ _ (at_most-Decides f.number (2 ^ 63)) (Decides-and _ _ (is_within-Decides 1 64 f.data_blocks) (Decides-and _ _ (is_within-Decides 1 3200 f.entries) (Decides-and _ _ (is_within-Decides 10 16896 f.index_len) (key-Decides f.first)))))

reads_back : (f : Summary) → IsSummary f → footer_at (footer_block f) ≡ Some (f, pad (length (footer_text f)))
unfolding footer_block
reads_back f is = footer_reads.again f (pad (length (footer_text f))) (fields_fit f is)

pub footer_of_exact : (block : List ℕ) → IsDecoded IsSummary footer_block block (footer_of block)
unfolding footer_of
footer_of_exact block = if_spelled-decodes is_summary IsSummary summary-Decides footer_block (λ b. front_of (footer_at b)) (λ f is. ap front_of (reads_back f is)) block

pub footer_format : IsFormat IsSummary footer_block footer_of
footer_format = decodes-format footer_of_exact

pub length-footer_block : (f : Summary) → IsSummary f → length (footer_block f) ≡ 4096
unfolding footer_block
length-footer_block f is = omega (arith, is.first, length-append (footer_text f) (pad (length (footer_text f))), length-replicate {A = ℕ} (4096 - length (footer_text f)) 0)

-- ---- what the reader of a block finds

module _ (block : List ℕ) (fits : IsBytes block) (size : length block ≡ 4096) where
  rest_is : (f : Summary) (rest : List ℕ) → footer_at block ≡ Some (f, rest) → are_zeros rest ≡ true → rest ≡ pad (length block - length rest)
  rest_is f rest read zeros =
      let law = footer_reads.found block (f, rest) fits read in
      let short : length rest ≤ 4096 = omega (arith, size, ap length law.1, length-append (footer_text f) rest) in
      let same : length rest ≡ 4096 - (length block - length rest) = omega (arith, size, short) in
      zeros_are rest zeros ∙ ap (λ (n : ℕ). replicate n 0) same

  pub whole : (f : Summary) (rest : List ℕ) → footer_at block ≡ Some (f, rest) → are_zeros rest ≡ true → IsSummary f → Some f ≡ footer_of block
  unfolding footer_block
  whole f rest read zeros is = one_answer (read_up footer_reads pad fields_fit block fits f rest read (rest_is f rest read zeros) is) (footer_of_exact block)

  pub not_whole : (f : Summary) (rest : List ℕ) → footer_at block ≡ Some (f, rest) → (are_zeros rest ≡ true → IsSummary f → ⊥) → None ≡ footer_of block
  unfolding footer_block
  not_whole f rest read not = one_answer (refused_up footer_reads pad fields_fit block fits f rest read (λ h. not (ap are_zeros h.0 ∙ zeros_are_zeros (4096 - (length block - length rest))) h.1)) (footer_of_exact block)

  pub unread : footer_at block ≡ None → None ≡ footer_of block
  unfolding footer_block
  unread none = one_answer (unread_up footer_reads pad fields_fit block fits none) (footer_of_exact block)
