-- One step of the entries of a block.
use Rattle.std.proofs.Common.{◌≡◌, ℕ, zero, suc, ◌-◌, ◌≤◌, ◌++◌, Bool, true, false, cond, List, [], ◌∷◌, Option, Some, None, Result, Ok, Err, sym, ap, ◌∙◌, arith, length, take, drop, append_assoc, take-append-drop, refl, subst}
use Rattle.lsm_device.specs.declared.refusal.Refusal.{Refusal}
use Rattle.lsm_device.specs.declared.refusal.Refusal.TheVariants.{BadTable}
use Rattle.lsm_codec.specs.BatchText.{key_at}
use Rattle.lsm_codec.specs.Versions.{Version}
use Rattle.lsm_codec.specs.Entries.{are_zeros, entry_text, entry_at, entries_from, entries_in}
use Rattle.lsm_codec.specs.Keys.{IsBytes}
use Rattle.lsm_codec.proofs.Readers.{after}
use Rattle.lsm_codec.proofs.EntryLaws.{entry_reads}
use Rattle.std.proofs.lemmas.Bool.{le-ltb}
use Rattle.std.proofs.lemmas.List.{take_all, length-drop, length-append}
use borrow.Rule.Slice.PartMut.{mid_of}
use Rattle.byteorder.specs.Endian.{big_number}
use Rattle.lsm_codec.specs.Reading.{number_at}
use Rattle.lsm_codec.proofs.DataBlockLaws.{counted_in, none_counted}
use Rattle.lsm_table.specs.Items.{first_version}

abbrev Items : Type 0
Items = List (Result Version Refusal)

pub all_taken : (left : ℕ) (bytes : List ℕ) (items : Items) (r : Bool) → entries_from left bytes ≡ items → left ≡ 0 → r ≡ are_zeros bytes → r ≡ true → items ≡ []
unfolding entries_from
all_taken left bytes items r view none tested zeros =
    sym view ∙ ap (λ (n : ℕ). entries_from n bytes) none ∙ ap (λ (b : Bool). cond b [] (Err BadTable ∷ [])) (sym tested ∙ zeros)

pub bad_tail : (left : ℕ) (bytes nothing : List ℕ) (items : Items) (r : Bool) → entries_from left bytes ≡ items → left ≡ 0 → r ≡ are_zeros bytes → r ≡ false → nothing ≡ [] → items ≡ Err BadTable ∷ entries_from left nothing
unfolding entries_from
bad_tail left bytes nothing items r view none tested zeros empty =
    sym view ∙ ap (λ (n : ℕ). entries_from n bytes) none ∙ ap (λ (b : Bool). cond b [] (Err BadTable ∷ [])) (sym tested ∙ zeros)
    ∙ ap (λ (t : Items). Err BadTable ∷ t) (sym (ap (λ (n : ℕ). entries_from n nothing) none ∙ ap (entries_from 0) empty))

pub step : (left : ℕ) (bytes : List ℕ) (o : Option (Version × List ℕ)) → (left ≡ 0 → ⊥) → entry_at bytes ≡ o → entries_from left bytes ≡ elim o as (λ _. Items) [ None ↦ Err BadTable ∷ [] | Some x ↦ Ok x.0 ∷ entries_from (left - 1) x.1 ]
unfolding entries_from
step left bytes o some read =
    let one : left ≡ suc (left - 1) = omega arith in
    ap (λ (n : ℕ). entries_from n bytes) one ∙ ap (λ (r : Option (Version × List ℕ)). elim r as (λ _. Items) [ None ↦ Err BadTable ∷ [] | Some x ↦ Ok x.0 ∷ entries_from (left - 1) x.1 ]) read

pub takes_entry : (left : ℕ) (bytes rest : List ℕ) (v : Version) (items : Items) → entries_from left bytes ≡ items → (left ≡ 0 → ⊥) → Some (v, rest) ≡ entry_at bytes → items ≡ Ok v ∷ entries_from (left - 1) rest
takes_entry left bytes rest v items view some read = sym view ∙ step left bytes (Some (v, rest)) some (sym read)

pub takes_bad : (left : ℕ) (bytes nothing : List ℕ) (items : Items) → entries_from left bytes ≡ items → (left ≡ 0 → ⊥) → None ≡ entry_at bytes → nothing ≡ [] → items ≡ Err BadTable ∷ entries_from 0 nothing
unfolding entries_from
takes_bad left bytes nothing items view some read empty = sym view ∙ step left bytes None some (sym read) ∙ ap (λ (t : Items). Err BadTable ∷ t) (sym (ap (entries_from 0) empty))

pub bad_only : (nothing : List ℕ) → nothing ≡ [] → entries_from 1 nothing ≡ Err BadTable ∷ []
unfolding entries_from entry_at key_at
bad_only nothing empty = ap (entries_from 1) empty

-- ---- a block's count

counted : (bytes : List ℕ) (n : ℕ) → length bytes ≡ 4096 → n ≡ big_number 2 bytes → Some (n, drop 2 bytes) ≡ number_at 2 bytes
counted bytes n size is = sym (ap (λ (b : Bool). cond b None (Some (big_number 2 bytes, drop 2 bytes))) (le-ltb (length bytes) 2 (omega (arith, size))) ∙ ap (λ (k : ℕ). Some (k, drop 2 bytes)) (sym is))

pub none_counted_here : (bytes : List ℕ) (n : ℕ) (items : Items) → length bytes ≡ 4096 → n ≡ big_number 2 bytes → n ≡ 0 → items ≡ Err BadTable ∷ [] → items ≡ entries_in bytes
none_counted_here bytes n items size is zeroth bad = none_counted bytes (drop 2 bytes) n items (counted bytes n size is) zeroth bad

pub some_counted : (bytes : List ℕ) (n : ℕ) → length bytes ≡ 4096 → n ≡ big_number 2 bytes → (n ≡ 0 → ⊥) → entries_from n (mid_of 2 4094 bytes) ≡ entries_in bytes
some_counted bytes n size is some =
    ap (entries_from n) (take_all 4094 (drop 2 bytes) (omega (arith, size, length-drop 2 bytes))) ∙ counted_in bytes (drop 2 bytes) n (counted bytes n size is) some

-- ---- places

pub some_counted_at : (bytes : List ℕ) (n : ℕ) → length bytes ≡ 4096 → n ≡ big_number 2 bytes → (n ≡ 0 → ⊥) → entries_from n (drop 2 bytes) ≡ entries_in bytes
some_counted_at bytes n size is some = counted_in bytes (drop 2 bytes) n (counted bytes n size is) some

-- nothing is left of no bytes
pub nothing_left : (nothing : List ℕ) → nothing ≡ [] → entries_from 0 nothing ≡ []
unfolding entries_from
nothing_left nothing empty = ap (entries_from 0) empty

-- one item at most is left where no entry is
one_at_most : (b : Bool) → drop {A = Result Version Refusal} 1 (cond b [] (Err BadTable ∷ [])) ≡ []
one_at_most true = refl
one_at_most false = refl

-- nothing is left after the first item where that is no entry
pub none_behind : (left : ℕ) (bytes : List ℕ) → None ≡ first_version (entries_from left bytes) → drop 1 (entries_from left bytes) ≡ []
unfolding entries_from
none_behind zero bytes none = one_at_most (are_zeros bytes)
none_behind (suc n) bytes none = by (entry_at bytes) none
  where
    by : (o : Option (Version × List ℕ)) → None ≡ first_version (elim o as (λ _. Items) [ None ↦ Err BadTable ∷ [] | Some x ↦ Ok x.0 ∷ entries_from n x.1 ])
        → drop 1 (elim o as (λ _. Items) [ None ↦ Err BadTable ∷ [] | Some x ↦ Ok x.0 ∷ entries_from n x.1 ]) ≡ []
    by None e = refl
    by (Some x) e = absurd (let no : None ≡ Some x.0 = e in cc)

rest_of : (front rest : List ℕ) → drop (length (front ++ rest) - length rest) (front ++ rest) ≡ rest
rest_of [] rest =
    let none : length ([] ++ rest) - length rest ≡ 0 = omega arith in
    ap (λ (n : ℕ). drop n rest) none
rest_of (x ∷ front) rest =
    let same : length (x ∷ front ++ rest) - length rest ≡ suc (length (front ++ rest) - length rest) = omega (arith, length-append front rest) in
    ap (λ (n : ℕ). drop n (x ∷ front ++ rest)) same ∙ rest_of front rest

-- where the bytes after a text begin
begins_at : (bytes : List ℕ) (offset : ℕ) (text rest : List ℕ) → drop offset bytes ≡ text ++ rest → drop (length bytes - length rest) bytes ≡ rest
begins_at bytes offset text rest e =
    let whole : (take offset bytes ++ text) ++ rest ≡ bytes = append_assoc (take offset bytes) text rest ∙ ap (λ (t : List ℕ). take offset bytes ++ t) (sym e) ∙ take-append-drop offset bytes in
    subst (λ (b : List ℕ). drop (length b - length rest) b ≡ rest) whole (rest_of (take offset bytes ++ text) rest)

pub fit_behind : (bytes : List ℕ) (offset : ℕ) → IsBytes bytes → IsBytes (drop offset bytes)
fit_behind bytes offset fits = after bytes (take offset bytes) (drop offset bytes) fits (sym (take-append-drop offset bytes))

-- what is left after an entry
pub left_behind : (left : ℕ) (bytes : List ℕ) (offset at : ℕ) (v : Version) (rest : List ℕ) → IsBytes bytes → length bytes ≡ 4096 → at ≡ 4096 - length rest → (left ≡ 0 → ⊥) → Some (v, rest) ≡ entry_at (drop offset bytes)
    → entries_from (left - 1) (drop at bytes) ≡ drop 1 (entries_from left (drop offset bytes))
left_behind left bytes offset at v rest fits size is some read =
    let found = entry_reads.found (drop offset bytes) (v, rest) (fit_behind bytes offset fits) (sym read) in
    let same : at ≡ length bytes - length rest = is ∙ ap (λ (n : ℕ). n - length rest) (sym size) in
    ap (entries_from (left - 1)) (ap (λ (n : ℕ). drop n bytes) same ∙ begins_at bytes offset (entry_text v) rest found.1)
    ∙ sym (ap (drop 1) (step left (drop offset bytes) (Some (v, rest)) some (sym read)))

-- the bytes after an entry are some of the block's
pub within_block : (bytes : List ℕ) (offset : ℕ) (v : Version) (rest : List ℕ) → IsBytes bytes → length bytes ≡ 4096 → Some (v, rest) ≡ entry_at (drop offset bytes) → length rest ≤ 4096
within_block bytes offset v rest fits size read =
    let found = entry_reads.found (drop offset bytes) (v, rest) (fit_behind bytes offset fits) (sym read) in
    omega (arith, size, length-drop offset bytes, ap length found.1, length-append (entry_text v) rest)
