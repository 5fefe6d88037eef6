-- Entries are read exactly.
use Rattle.std.proofs.Common.{◌≡◌, ℕ, ◌^◌, ◌<◌, ◌≤◌, ◌==◌, cond, eqb, List, ◌∷◌, ◌++◌, length, Option, Some, None, Decides, refl, ap, subst, ◌∙◌, arith, inl, inr}
use Rattle.std.proofs.lemmas.Bool.{eqb-true}
use Rattle.std.proofs.lemmas.Bool.Decides.{Decides-like, Decides-and}
use Rattle.std.proofs.lemmas.Option.{same_Some, none-some}
use Rattle.byteorder.specs.Endian.{big_bytes}
use Rattle.lsm_codec.specs.Keys.{Bytes, IsBytes, IsKey}
use Rattle.lsm_codec.specs.Spelling.{is_within}
use Rattle.lsm_codec.specs.Reading.{number_at, made}
use Rattle.lsm_codec.specs.BatchText.{value_text, is_key, value_at}
use Rattle.lsm_codec.specs.Versions.{Version, IsEntry, value_length}
use Rattle.lsm_codec.specs.Entries.{outcome_text, entry_text, is_entry, absent_length_at, batch_number_at, outcome_at, entry_at}
use Rattle.lsm_codec.proofs.Limits.{at_most-Decides, is_within-Decides}
use Rattle.lsm_codec.proofs.Readers.{Reads, after, bind_some, chosen, number_reads, then_reads, made_reads, kept_reads, fits_reads}
use Rattle.lsm_codec.proofs.BatchLaws.{key_reads, value_reads}

abbrev IsOutcome : Option Bytes → Type 0
IsOutcome o = value_length o ≤ 2048

absent_reads : Reads absent_length_at (λ n. (n < 256 ^ 2) × (n ≡ 0)) (big_bytes 2)
absent_reads = kept_reads (λ n. n == 0) (λ n. n ≡ 0) (λ n t. eqb-true n 0 t) (λ n e. rw e refl) (number_reads 2)

outcome_found : (bytes : List ℕ) (x : Option Bytes × List ℕ) → IsBytes bytes → outcome_at bytes ≡ Some x → IsOutcome x.0 × (bytes ≡ outcome_text x.0 ++ x.1)
unfolding outcome_at
outcome_found bytes x fits e =
    let a = bind_some (number_at 1 bytes) (λ (k : ℕ × List ℕ). cond (eqb k.0 1) (made Some value_at k.1) (cond (eqb k.0 2) (made (λ n. None) absent_length_at k.1) None)) x e in
    let front = (number_reads 1).found bytes a.0 fits a.1 in
    let rest_fits = after bytes (big_bytes 1 a.0.0) a.0.1 fits front.1 in
    let tagged : (kind : ℕ) → a.0.0 ≡ kind → bytes ≡ big_bytes 1 kind ++ a.0.1 = λ kind same. front.1 ∙ ap (λ (n : ℕ). big_bytes 1 n ++ a.0.1) same in
    elim (chosen (eqb a.0.0 1) (made Some value_at a.0.1) (cond (eqb a.0.0 2) (made (λ n. None) absent_length_at a.0.1) None) x a.2) [
      | inl p ↦
          let b = bind_some (value_at a.0.1) (λ (v : List ℕ × List ℕ). Some (Some v.0, v.1)) x p.1 in
          let law = value_reads.found a.0.1 b.0 rest_fits b.1 in
          subst (λ (y : Option Bytes × List ℕ). IsOutcome y.0 × (bytes ≡ outcome_text y.0 ++ y.1)) (same_Some _ _ b.2) (law.0, tagged 1 (eqb-true _ _ p.0) ∙ ap (λ (t : List ℕ). 1 ∷ t) law.1)
      | inr q ↦ elim (chosen (eqb a.0.0 2) (made (λ n. None) absent_length_at a.0.1) None x q.1) [
        | inl p ↦
            let absent : Option Bytes = None in
            let b = bind_some (absent_length_at a.0.1) (λ (n : ℕ × List ℕ). Some (absent, n.1)) x p.1 in
            let law = absent_reads.found a.0.1 b.0 rest_fits b.1 in
            let zeros : a.0.1 ≡ big_bytes 2 0 ++ b.0.1 = law.1 ∙ ap (λ (n : ℕ). big_bytes 2 n ++ b.0.1) law.0.1 in
            subst (λ (y : Option Bytes × List ℕ). IsOutcome y.0 × (bytes ≡ outcome_text y.0 ++ y.1)) (same_Some _ _ b.2) (omega arith, tagged 2 (eqb-true _ _ p.0) ∙ ap (λ (t : List ℕ). 2 ∷ t) zeros)
        | inr none ↦ absurd (none-some x none.1)
      ]
    ]

outcome_again : (o : Option Bytes) (rest : List ℕ) → IsOutcome o → outcome_at (outcome_text o ++ rest) ≡ Some (o, rest)
unfolding outcome_at
outcome_again (Some value) rest fits = rw ((number_reads 1).again 1 (value_text value ++ rest) (omega arith), value_reads.again value rest fits) refl
outcome_again None rest fits = rw ((number_reads 1).again 2 (big_bytes 2 0 ++ rest) (omega arith), absent_reads.again 0 rest (omega arith, refl)) refl

outcome_reads : Reads outcome_at IsOutcome outcome_text
outcome_reads = record { found = outcome_found; again = outcome_again }

pub batch_number_reads : Reads batch_number_at (λ n. (1 ≤ n) × (n ≤ 2 ^ 63)) (big_bytes 8)
batch_number_reads =
    fits_reads (λ n f. f.1) (λ n f. (omega (arith, f.1), f))
    (kept_reads (is_within 1 (2 ^ 63)) (λ n. (1 ≤ n) × (n ≤ 2 ^ 63)) (λ n t. (is_within-Decides 1 (2 ^ 63) n).0 t) (λ n f. (is_within-Decides 1 (2 ^ 63) n).1 f) (number_reads 8))

pub entry_reads : Reads entry_at IsEntry entry_text
unfolding entry_at
entry_reads =
    fits_reads (λ v f. record { key = f.0; number_low = f.1.0.0; number_high = f.1.0.1; value = f.1.1 }) (λ v f. (f.key, ((f.number_low, f.number_high), f.value)))
    (made_reads (λ p. record { key = p.0; number = p.1.0; value = p.1.1 }) (λ v. (v.key, (v.number, v.value))) (λ p f. refl) (λ v. refl)
    (then_reads key_reads (λ k. then_reads batch_number_reads (λ n. outcome_reads))))

pub key-Decides : (key : Bytes) → Decides (is_key key) (IsKey key)
key-Decides key = Decides-and _ _ (at_most-Decides 1 (length key)) (at_most-Decides (length key) 255)

pub entry-Decides : (v : Version) → Decides (is_entry v) (IsEntry v)
entry-Decides v = Decides-like (is_entry v) (λ h. record { key = h.0; number_low = h.1.0.0; number_high = h.1.0.1; value = h.1.1 }) (λ h. (h.key, ((h.number_low, h.number_high), h.value)))
    (Decides-and _ _ (key-Decides v.key) (Decides-and _ _ (is_within-Decides 1 (2 ^ 63) v.number) (at_most-Decides (value_length v.value) 2048)))
