-- The entries that a block gives are those that it spells.
use Rattle.std.proofs.Common.{◌≡◌, ◌↔◌, ℕ, zero, suc, ◌+◌, ◌-◌, ◌^◌, ◌<◌, ◌≤◌, ◌==◌, Bool, true, false, cond, List, [], ◌∷◌, ◌++◌, length, map, replicate, Option, Some, None, Result, Ok, Err, Decides, refl, sym, ap, subst, ◌∙◌, append_assoc, arith}
use Rattle.std.specs.Prelude.{option_map}
use Rattle.std.specs.List.{flat_map, AllByRecursion}
use Rattle.std.proofs.lemmas.Bool.{and_parts, eqb-true}
use Rattle.std.proofs.lemmas.Bool.Decides.{Decides-like, Decides-and}
use Rattle.std.proofs.lemmas.List.{length-append, length-replicate}
use Rattle.byteorder.specs.Endian.{big_bytes}
use Rattle.lsm_device.specs.declared.refusal.Refusal.{Refusal}
use Rattle.lsm_device.specs.declared.refusal.Refusal.TheVariants.{BadTable}
use Rattle.lsm_codec.specs.Keys.{IsBytes}
use Rattle.lsm_codec.specs.Spelling.{IsDecoded}
use Rattle.lsm_codec.specs.Reading.{number_at}
use Rattle.lsm_codec.specs.BatchText.{key_text}
use Rattle.lsm_codec.specs.Versions.{Version, IsEntry}
use Rattle.lsm_codec.specs.Entries.{outcome_text, entry_text, block_text, block_size, data_block, IsDataBlock, is_entry, is_data_block, are_zeros, entry_at, entries_from, entries_in, all_ok, block_of}
use Rattle.lsm_codec.specs.Formats.{IsFormat}
use Rattle.lsm_codec.proofs.Limits.{at_most-Decides, each-Decides}
use Rattle.lsm_codec.proofs.Readers.{after, number_reads}
use Rattle.lsm_codec.proofs.Decoding.{if_spelled-decodes, decodes-format}
use Rattle.lsm_codec.proofs.EntryLaws.{entry_reads, entry-Decides}
use Rattle.lsm_codec.proofs.Sizes.{texts_size}

-- ---- zeros

pub zeros_are : (bytes : List ℕ) → are_zeros bytes ≡ true → bytes ≡ replicate (length bytes) 0
zeros_are [] e = refl
zeros_are (b ∷ bytes) e = let p = and_parts (b == 0) (are_zeros bytes) e in ap (λ (h : ℕ). h ∷ bytes) (eqb-true b 0 p.0) ∙ ap (λ (t : List ℕ). 0 ∷ t) (zeros_are bytes p.1)

pub zeros_are_zeros : (n : ℕ) → are_zeros (replicate n 0) ≡ true
zeros_are_zeros zero = refl
zeros_are_zeros (suc n) = zeros_are_zeros n

-- ---- blocks

abbrev Items : Type 0
Items = List (Result Version Refusal)

abbrev oks : List Version → Items
oks block = map Ok block

no_bad : (block : List Version) → Err BadTable ∷ [] ≡ oks block → ⊥
no_bad [] e = cc
no_bad (v ∷ block) e = cc

no_more : (x : Version) (items : Items) → Ok x ∷ items ≡ oks [] → ⊥
no_more x items e = cc

first_same : (x v : Version) (items : Items) (block : List Version) → Ok x ∷ items ≡ oks (v ∷ block) → (x ≡ v) × (items ≡ oks block)
first_same x v items block e = (cc, cc)

abbrev Spelled : ℕ → List ℕ → List Version → Type 0
Spelled n bytes block = (length block ≡ n) × AllByRecursion IsEntry block × ((z : ℕ) × (bytes ≡ flat_map entry_text block ++ replicate z 0))

one_spelled : (n : ℕ) (bytes : List ℕ) (x : Version × List ℕ) (v : Version) (block : List Version) → x.0 ≡ v → IsEntry x.0 × (bytes ≡ entry_text x.0 ++ x.1) → Spelled n x.1 block → Spelled (suc n) bytes (v ∷ block)
one_spelled n bytes x v block same front others =
    let rest : x.1 ≡ flat_map entry_text block ++ replicate others.2.0 0 = others.2.1 in
    let whole : bytes ≡ flat_map entry_text (v ∷ block) ++ replicate others.2.0 0 =
    front.1 ∙ ap (λ (w : Version). entry_text w ++ x.1) same ∙ ap (λ (t : List ℕ). entry_text v ++ t) rest ∙ sym (append_assoc (entry_text v) (flat_map entry_text block) (replicate others.2.0 0)) in
    (ap suc others.0, (subst IsEntry same front.0, others.1), (others.2.0, whole))

from_found : (n : ℕ) (bytes : List ℕ) (block : List Version) → IsBytes bytes → entries_from n bytes ≡ oks block → Spelled n bytes block
unfolding entries_from
from_found zero bytes [] fits e =
    elim (are_zeros bytes) as (λ t. are_zeros bytes ≡ t → cond t [] (Err BadTable ∷ []) ≡ oks [] → Spelled 0 bytes []) [
      | true ↦ λ t e. (refl, tt, (length bytes, zeros_are bytes t))
      | false ↦ λ t e. absurd (no_bad [] e)
    ] refl e
from_found zero bytes (v ∷ block) fits e =
    elim (are_zeros bytes) as (λ t. cond t [] (Err BadTable ∷ []) ≡ oks (v ∷ block) → Spelled 0 bytes (v ∷ block)) [ true ↦ λ e. absurd cc | false ↦ λ e. absurd (no_bad (v ∷ block) e) ] e
from_found (suc n) bytes [] fits e =
    elim (entry_at bytes) as (λ o. elim o as (λ _. Items) [ None ↦ Err BadTable ∷ [] | Some x ↦ Ok x.0 ∷ entries_from n x.1 ] ≡ oks [] → Spelled (suc n) bytes []) [
      | None ↦ λ e. absurd (no_bad [] e)
      | Some x ↦ λ e. absurd (no_more x.0 (entries_from n x.1) e)
    ] e
from_found (suc n) bytes (v ∷ block) fits e =
    elim (entry_at bytes) as (λ o. entry_at bytes ≡ o → elim o as (λ _. Items) [ None ↦ Err BadTable ∷ [] | Some x ↦ Ok x.0 ∷ entries_from n x.1 ] ≡ oks (v ∷ block) → Spelled (suc n) bytes (v ∷ block)) [
      | None ↦ λ r e. absurd (no_bad (v ∷ block) e)
      | Some x ↦ λ r e.
          let same = first_same x.0 v (entries_from n x.1) block e in
          let front = entry_reads.found bytes x fits r in
          one_spelled n bytes x v block same.0 front (from_found n x.1 block (after bytes (entry_text x.0) x.1 fits front.1) same.1)
    ] refl e

from_again : (block : List Version) (z : ℕ) → AllByRecursion IsEntry block → entries_from (length block) (flat_map entry_text block ++ replicate z 0) ≡ oks block
unfolding entries_from
from_again [] z all = ap (λ (b : Bool). cond b [] (Err BadTable ∷ [])) (zeros_are_zeros z)
from_again (v ∷ block) z all =
    let rest : List ℕ = flat_map entry_text block ++ replicate z 0 in
    let regrouped : flat_map entry_text (v ∷ block) ++ replicate z 0 ≡ entry_text v ++ rest = append_assoc (entry_text v) (flat_map entry_text block) (replicate z 0) in
    let read : entry_at (flat_map entry_text (v ∷ block) ++ replicate z 0) ≡ Some (v, rest) = ap entry_at regrouped ∙ entry_reads.again v rest all.0 in
    ap (λ (o : Option (Version × List ℕ)). elim o as (λ _. Items) [ None ↦ Err BadTable ∷ [] | Some x ↦ Ok x.0 ∷ entries_from (length block) x.1 ]) read
    ∙ ap (λ (t : Items). Ok v ∷ t) (from_again block z all.1)

abbrev after_count : Option (ℕ × List ℕ) → Items
after_count o = elim o as (λ _. Items) [ None ↦ Err BadTable ∷ [] | Some x ↦ cond (x.0 == 0) (Err BadTable ∷ []) (entries_from x.0 x.1) ]

block_spelled : (bytes : List ℕ) (block : List Version) (n : ℕ) (rest : List ℕ) → length bytes ≡ 4096 → bytes ≡ big_bytes 2 n ++ rest → (n ≡ 0 → ⊥) → Spelled n rest block → IsDataBlock block × (bytes ≡ data_block block)
unfolding data_block
block_spelled bytes block n rest size front some spelled =
    let z : ℕ = spelled.2.0 in
    let text : bytes ≡ block_text block ++ replicate z 0 =
    front ∙ ap (λ (k : ℕ). big_bytes 2 k ++ rest) (sym spelled.0) ∙ ap (λ (t : List ℕ). big_bytes 2 (length block) ++ t) spelled.2.1 ∙ sym (append_assoc (big_bytes 2 (length block)) (flat_map entry_text block) (replicate z 0)) in
    let total : length (block_text block) + z ≡ 4096 = omega (arith, ap (λ (t : List ℕ). length t) text, length-append (block_text block) (replicate z 0), length-replicate {A = ℕ} z 0) in
    let rest_size : z ≡ 4096 - length (block_text block) = omega arith in
    (record { some = omega (arith, spelled.0); versions = spelled.1; fits = omega (arith, texts_size block) }, text ∙ ap (λ (k : ℕ). block_text block ++ replicate k 0) rest_size)

in_found : (bytes : List ℕ) (block : List Version) → IsBytes bytes → length bytes ≡ 4096 → entries_in bytes ≡ oks block → IsDataBlock block × (bytes ≡ data_block block)
unfolding entries_in data_block
in_found bytes block fits size e =
    elim (number_at 2 bytes) as (λ o. number_at 2 bytes ≡ o → after_count o ≡ oks block → IsDataBlock block × (bytes ≡ data_block block)) [
      | None ↦ λ r e. absurd (no_bad block e)
      | Some x ↦ λ r e.
          let front = (number_reads 2).found bytes x fits r in
          elim (x.0 == 0) as (λ t. (x.0 == 0) ≡ t → cond t (Err BadTable ∷ []) (entries_from x.0 x.1) ≡ oks block → IsDataBlock block × (bytes ≡ data_block block)) [
            | true ↦ λ t e. absurd (no_bad block e)
            | false ↦ λ t e. block_spelled bytes block x.0 x.1 size front.1 (λ same. let yes' : (x.0 == 0) ≡ true = ap (λ (k : ℕ). k == 0) same in cc) (from_found x.0 x.1 block (after bytes (big_bytes 2 x.0) x.1 fits front.1) e)
          ] refl e
    ] refl e

entries_long : (block : List Version) → length block ≤ length (flat_map entry_text block)
entries_long [] = omega arith
entries_long (v ∷ block) = omega (arith, entries_long block, length-append (entry_text v) (flat_map entry_text block), length-append (key_text v.key) (big_bytes 8 v.number ++ outcome_text v.value))

not_zero : (n : ℕ) → 1 ≤ n → (n == 0) ≡ false
not_zero n le = elim (n == 0) as (λ t. (n == 0) ≡ t → (n == 0) ≡ false) [ true ↦ λ e. absurd (omega (arith, eqb-true n 0 e)) | false ↦ λ e. e ] refl

in_again : (bytes : List ℕ) (block : List Version) → IsDataBlock block → bytes ≡ data_block block → entries_in bytes ≡ oks block
unfolding entries_in data_block
in_again bytes block is e =
    let z : ℕ = 4096 - length (block_text block) in
    let n : ℕ = length block in
    let rest : List ℕ = flat_map entry_text block ++ replicate z 0 in
    let regrouped : bytes ≡ big_bytes 2 n ++ rest = e ∙ append_assoc (big_bytes 2 n) (flat_map entry_text block) (replicate z 0) in
    let small : n < 256 ^ 2 = omega (arith, is.fits, entries_long block, texts_size block) in
    let read : number_at 2 bytes ≡ Some (n, rest) = ap (number_at 2) regrouped ∙ (number_reads 2).again n rest small in
    ap after_count read ∙ ap (λ (b : Bool). cond b (Err BadTable ∷ []) (entries_from n rest)) (not_zero n is.some) ∙ from_again block z is.versions

pub exactly : (bytes : List ℕ) (items : Items) → IsBytes bytes → length bytes ≡ 4096 → items ≡ entries_in bytes → (block : List Version) → (items ≡ oks block) ↔ (IsDataBlock block × (bytes ≡ data_block block))
exactly bytes items fits size same block = (λ e. in_found bytes block fits size (sym same ∙ e), λ p. same ∙ in_again bytes block p.0 p.1)

pub counted_in : (bytes rest : List ℕ) (n : ℕ) → Some (n, rest) ≡ number_at 2 bytes → (n ≡ 0 → ⊥) → entries_from n rest ≡ entries_in bytes
unfolding entries_in
counted_in bytes rest n read some = sym (ap after_count (sym read) ∙ ap (λ (b : Bool). cond b (Err BadTable ∷ []) (entries_from n rest)) (not_zero n (omega arith)))

pub none_counted : (bytes rest : List ℕ) (n : ℕ) (items : Items) → Some (n, rest) ≡ number_at 2 bytes → n ≡ 0 → items ≡ Err BadTable ∷ [] → items ≡ entries_in bytes
unfolding entries_in
none_counted bytes rest n items read zeroth is = is ∙ sym (ap after_count (sym read) ∙ ap (λ (k : ℕ). cond (k == 0) (Err BadTable ∷ []) (entries_from k rest)) zeroth)

pub uncounted : (bytes : List ℕ) (items : Items) → None ≡ number_at 2 bytes → items ≡ Err BadTable ∷ [] → items ≡ entries_in bytes
unfolding entries_in
uncounted bytes items read is = is ∙ sym (ap after_count (sym read))

-- ---- decoding

all_ok-oks : (block : List Version) → all_ok (oks block) ≡ Some block
all_ok-oks [] = refl
all_ok-oks (v ∷ block) = ap (λ (o : Option (List Version)). option_map (λ xs. v ∷ xs) o) (all_ok-oks block)

data_block-Decides : (block : List Version) → Decides (is_data_block block) (IsDataBlock block)
data_block-Decides block = Decides-like (is_data_block block) (λ h. record { some = h.0; versions = h.1.0; fits = h.1.1 }) (λ h. (h.some, (h.versions, h.fits)))
    (Decides-and _ _ (at_most-Decides 1 (length block)) (Decides-and _ _ (each-Decides is_entry IsEntry entry-Decides block) (at_most-Decides (block_size block) 4096)))

pub block_of_exact : (bytes : List ℕ) → IsDecoded IsDataBlock data_block bytes (block_of bytes)
unfolding block_of
block_of_exact bytes =
    if_spelled-decodes is_data_block IsDataBlock data_block-Decides data_block (λ b. all_ok (entries_in b)) (λ block is. ap all_ok (in_again (data_block block) block is refl) ∙ all_ok-oks block) bytes

pub block_format : IsFormat IsDataBlock data_block block_of
block_format = decodes-format block_of_exact

pub length-data_block : (block : List Version) → IsDataBlock block → length (data_block block) ≡ 4096
unfolding data_block
length-data_block block is =
    omega (arith, is.fits, texts_size block, length-append (block_text block) (replicate (4096 - length (block_text block)) 0), length-replicate {A = ℕ} (4096 - length (block_text block)) 0)
