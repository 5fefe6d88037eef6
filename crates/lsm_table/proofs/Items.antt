-- What the items of a block are, and how they are read one after the other.
use Rattle.std.proofs.Common.{◌≡◌, ℕ, zero, suc, ◌==◌, true, false, cond, List, [], ◌∷◌, ◌++◌, map, Some, None, Result, Ok, Err, refl, sym, ap, ◌∙◌, append_assoc}
use Rattle.std.specs.List.{AllByRecursion}
use Rattle.std.proofs.lemmas.List.{map_push}
use Rattle.lsm_device.specs.declared.refusal.Refusal.{Refusal}
use Rattle.lsm_device.specs.declared.refusal.Refusal.TheVariants.{BadTable}
use Rattle.lsm_codec.specs.Keys.{IsBytes}
use Rattle.lsm_codec.specs.Reading.{number_at}
use Rattle.lsm_codec.specs.Versions.{Version, IsEntry}
use Rattle.lsm_codec.specs.Entries.{are_zeros, entry_at, entries_from, entries_in}
use Rattle.lsm_codec.proofs.Readers.{Reader, Reads, after, number_reads}
use Rattle.lsm_codec.proofs.EntryLaws.{entry_reads}

abbrev pub Item : Type 0
Item = Result Version Refusal

-- entries as items
abbrev pub items_of : List Version → List Item
items_of entries = map Ok entries

-- an item is an entry, or BadTable
abbrev pub IsItem : Item → Type 0
IsItem (Ok v) = IsEntry v
IsItem (Err e) = e ≡ BadTable

rest_fits : {X : Type 0} {read : Reader X} {Fits : X → Type 0} {spelling : X → List ℕ} → Reads read Fits spelling → (bytes : List ℕ) (x : X × List ℕ) → IsBytes bytes → read bytes ≡ Some x → IsBytes x.1
rest_fits {spelling = spelling} reads bytes x fit e = after bytes (spelling x.0) x.1 fit (reads.found bytes x fit e).1

items_from : (n : ℕ) (bytes : List ℕ) → IsBytes bytes → AllByRecursion IsItem (entries_from n bytes)
unfolding entries_from
items_from zero bytes fit = elim (are_zeros bytes) as (λ b. AllByRecursion IsItem (cond b [] (Err BadTable ∷ []))) [ true ↦ tt | false ↦ (refl, tt) ]
items_from (suc n) bytes fit = elim (entry_at bytes) as (λ o. entry_at bytes ≡ o → AllByRecursion IsItem (elim o as (λ _. List Item) [ None ↦ Err BadTable ∷ [] | Some x ↦ Ok x.0 ∷ entries_from n x.1 ])) [
  | None ↦ λ e. (refl, tt)
  | Some x ↦ λ e. let h = entry_reads.found bytes x fit e in (h.0, items_from n x.1 (rest_fits entry_reads bytes x fit e))
] refl

pub block_items : (bytes : List ℕ) → IsBytes bytes → AllByRecursion IsItem (entries_in bytes)
unfolding entries_in
block_items bytes fit = elim (number_at 2 bytes) as (λ o. number_at 2 bytes ≡ o → AllByRecursion IsItem (elim o as (λ _. List Item) [ None ↦ Err BadTable ∷ [] | Some x ↦ cond (x.0 == 0) (Err BadTable ∷ []) (entries_from x.0 x.1) ])) [
  | None ↦ λ e. (refl, tt)
  | Some x ↦ λ e. elim (x.0 == 0) as (λ b. AllByRecursion IsItem (cond b (Err BadTable ∷ []) (entries_from x.0 x.1))) [
    | true ↦ (refl, tt)
    | false ↦ items_from x.0 x.1 (rest_fits (number_reads 2) bytes x fit e)
  ]
] refl

-- one entry more
pub one_more : (entries : List Version) (v : Version) (rest : List Item) → items_of entries ++ Ok v ∷ rest ≡ items_of (entries ++ v ∷ []) ++ rest
one_more entries v rest = sym (ap (λ (l : List Item). l ++ rest) (map_push Ok entries v) ∙ append_assoc (items_of entries) (Ok v ∷ []) rest)

-- where one is a refusal, they are no entries
pub not_all_entries : (entries : List Version) (e : Refusal) (rest : List Item) (all : List Version) → items_of entries ++ Err e ∷ rest ≡ items_of all → ⊥
not_all_entries [] e rest [] is = cc
not_all_entries [] e rest (v ∷ all) is = cc
not_all_entries (u ∷ entries) e rest [] is = cc
not_all_entries (u ∷ entries) e rest (v ∷ all) is = let others : items_of entries ++ Err e ∷ rest ≡ items_of all = cc in not_all_entries entries e rest all others
