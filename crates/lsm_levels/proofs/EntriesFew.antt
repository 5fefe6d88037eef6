-- How many entries bytes can have.
use Rattle.std.proofs.Common.{◌≡◌, ℕ, zero, suc, ◌+◌, ◌≤◌, true, false, cond, List, [], ◌∷◌, length, Option, Some, None, Result, Ok, Err, refl, ap, arith}
use Rattle.std.proofs.lemmas.List.{length-append}
use Rattle.lsm_device.specs.declared.refusal.Refusal.{Refusal}
use Rattle.lsm_device.specs.declared.refusal.Refusal.TheVariants.{BadTable}
use Rattle.lsm_codec.specs.Keys.{IsBytes}
use Rattle.lsm_codec.specs.Versions.{Version}
use Rattle.lsm_codec.specs.Entries.{are_zeros, entry_at, entry_text, entries_from}
use Rattle.lsm_codec.proofs.EntryLaws.{entry_reads}
use Rattle.lsm_codec.proofs.Readers.{after}

abbrev Items : Type 0
Items = List (Result Version Refusal)

abbrev no_items : Items
no_items = []

text_some : (v : Version) → 1 ≤ length (entry_text v)
text_some v = omega arith

-- each takes a byte at least
pub entries_few : (n : ℕ) (bytes : List ℕ) → IsBytes bytes → length (entries_from n bytes) ≤ length bytes + 1
unfolding entries_from
entries_few zero bytes fits = elim (are_zeros bytes) as (λ b. length (cond b no_items (Err BadTable ∷ [])) ≤ length bytes + 1) [ true ↦ omega arith | false ↦ omega arith ]
entries_few (suc n) bytes fits = by (entry_at bytes) refl (λ rest fit. entries_few n rest fit)
  where
    by : (o : Option (Version × List ℕ)) → entry_at bytes ≡ o → ((rest : List ℕ) → IsBytes rest → length (entries_from n rest) ≤ length rest + 1)
        → length (elim o as (λ _. Items) [ None ↦ Err BadTable ∷ [] | Some x ↦ Ok x.0 ∷ entries_from n x.1 ]) ≤ length bytes + 1
    by None e more = omega arith
    by (Some x) e more =
        let found = entry_reads.found bytes x fits e in
        let some = text_some x.0 in
        let few = more x.1 (after bytes (entry_text x.0) x.1 fits found.1) in
        let long = ap length found.1 in
        let parts = length-append (entry_text x.0) x.1 in
        omega (arith, some, few, long, parts)
