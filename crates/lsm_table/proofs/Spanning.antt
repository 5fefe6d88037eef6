-- An entry is read again at its place.
use Rattle.std.proofs.Common.{◌≡◌, ℕ, ◌+◌, ◌≤◌, cond, true, false, Bool, List, [], ◌∷◌, ◌++◌, Option, Some, None, Err, option_map, length, take, drop, refl, sym, ap, ◌∙◌, arith, append_assoc, length-append, length-drop}
use Rattle.std.proofs.Math.Seq.{take-append_seam}
use Rattle.std.proofs.lemmas.List.{drop-drop, drop_at}
use Rattle.byteorder.specs.Endian.{big_bytes}
use Rattle.lsm_device.specs.declared.refusal.Refusal.TheVariants.{BadTable}
use Rattle.lsm_codec.specs.Keys.{Bytes, IsBytes}
use Rattle.lsm_codec.specs.Versions.{Version}
use Rattle.lsm_codec.specs.Entries.{are_zeros, entry_at, entry_size, entry_text, entries_from, outcome_text}
use Rattle.lsm_codec.proofs.EntryLaws.{entry_reads}
use Rattle.lsm_codec.proofs.Sizes.{text_size}
use Rattle.lsm_table.specs.Items.{first_version}
use Rattle.lsm_table.specs.Spans.{span_at, spanned}
use Rattle.lsm_table.proofs.Reading.{fit_behind, step}

-- bytes after others
behind : (block : List ℕ) (at n : ℕ) (front part rest : List ℕ) → drop at block ≡ front ++ (part ++ rest) → n ≡ at + length front → take (length part) (drop n block) ≡ part
behind block at n front part rest is there =
    ap (λ (k : ℕ). take (length part) (drop k block)) there
    ∙ ap (take (length part)) (sym (drop-drop (length front) at block) ∙ ap (drop (length front)) is ∙ drop_at front (part ++ rest) (length front) refl)
    ∙ take-append_seam part rest

-- the value of an entry that is read at its place
same_value : (block : List ℕ) (offset : ℕ) (v : Version) (rest : List ℕ) (o : Option Bytes) → o ≡ v.value → drop offset block ≡ entry_text v ++ rest
    → option_map (λ n. take n (drop (offset + 12 + length v.key) block)) (option_map length o) ≡ o
same_value block offset v rest None none is = refl
same_value block offset v rest (Some value) some is =
    let front : List ℕ = (big_bytes 1 (length v.key) ++ v.key) ++ (big_bytes 8 v.number ++ (big_bytes 1 1 ++ big_bytes 2 (length value))) in
    let text : drop offset block ≡ front ++ (value ++ rest) =
    is ∙ ap (λ (w : Option Bytes). ((big_bytes 1 (length v.key) ++ v.key) ++ (big_bytes 8 v.number ++ outcome_text w)) ++ rest) (sym some)
    ∙ append_assoc (big_bytes 1 (length v.key) ++ v.key) (big_bytes 8 v.number ++ outcome_text (Some value)) rest
    ∙ sym (append_assoc (big_bytes 1 (length v.key) ++ v.key) (big_bytes 8 v.number ++ (big_bytes 1 1 ++ big_bytes 2 (length value))) (value ++ rest)) in
    let long : length front ≡ 12 + length v.key = omega (arith, length-append (big_bytes 1 (length v.key) ++ v.key) (big_bytes 8 v.number ++ (big_bytes 1 1 ++ big_bytes 2 (length value)))) in
    ap Some (behind block offset (offset + 12 + length v.key) front value rest text (omega (arith, long)))

-- the entry at the place where its text begins
pub same_entry : (block : List ℕ) (offset : ℕ) (v : Version) (rest : List ℕ) → drop offset block ≡ entry_text v ++ rest → spanned (span_at offset v) block ≡ v
same_entry block offset v rest is =
    let key = behind block offset (offset + 1) (big_bytes 1 (length v.key)) v.key ((big_bytes 8 v.number ++ outcome_text v.value) ++ rest) (is ∙ ap (λ (t : List ℕ). big_bytes 1 (length v.key) ++ t) (append_assoc v.key (big_bytes 8 v.number ++ outcome_text v.value) rest)) refl in
    ap (λ (k : Bytes). record { key = k; number = v.number; value = option_map (λ n. take n (drop (offset + 12 + length v.key) block)) (option_map length v.value) }) key
    ∙ ap (λ (o : Option Bytes). record { key = v.key; number = v.number; value = o }) (same_value block offset v rest v.value refl is)

-- an entry that is read from a byte of a block ends within it
pub ends_within : (block : List ℕ) (offset : ℕ) (v : Version) (rest : List ℕ) → IsBytes block → length block ≡ 4096 → Some (v, rest) ≡ entry_at (drop offset block) → offset ≤ 4096 → offset + entry_size v ≤ 4096
ends_within block offset v rest fits size read inside =
    let found = entry_reads.found (drop offset block) (v, rest) (fit_behind block offset fits) (sym read) in
    omega (arith, size, inside, length-drop offset block, ap length found.1, length-append (entry_text v) rest, text_size v)

-- the first version from a place on is where its text begins
pub first_spanned : (left : ℕ) (block : List ℕ) (offset : ℕ) (v : Version) (rest : List ℕ) → IsBytes block → (left ≡ 0 → ⊥) → Some (v, rest) ≡ entry_at (drop offset block)
    → Some (spanned (span_at offset v) block) ≡ first_version (entries_from left (drop offset block))
first_spanned left block offset v rest fits some read =
    let found = entry_reads.found (drop offset block) (v, rest) (fit_behind block offset fits) (sym read) in
    ap Some (same_entry block offset v rest found.1) ∙ sym (ap first_version (step left (drop offset block) (Some (v, rest)) some (sym read)))

pub none_spanned : (left : ℕ) (bytes : List ℕ) → (left ≡ 0 → ⊥) → None ≡ entry_at bytes → None ≡ first_version (entries_from left bytes)
none_spanned left bytes some read = sym (ap first_version (step left bytes None some (sym read)))

none_first : (b : Bool) → first_version (cond b [] (Err BadTable ∷ [])) ≡ None
none_first true = refl
none_first false = refl

pub none_left : (left : ℕ) (bytes : List ℕ) → left ≡ 0 → None ≡ first_version (entries_from left bytes)
unfolding entries_from
none_left left bytes none = sym (ap (λ (n : ℕ). first_version (entries_from n bytes)) none ∙ none_first (are_zeros bytes))
