-- Texts that spell batches, and their operations one after another.
use Rattle.std.proofs.Common.{◌≡◌, ℕ, zero, suc, ◌+◌, ◌-◌, ◌<◌, ◌≤◌, Bool, true, false, List, [], ◌∷◌, ◌++◌, length, drop, Option, Some, None, is_some, ◌==◌, refl, sym, ap, ◌∙◌, append_assoc, append-nil, arith}
use Rattle.std.specs.List.{flat_map}
use Rattle.std.proofs.lemmas.Grind.{flat_map-append}
use Rattle.std.proofs.lemmas.Bool.{eqb-true}
use Rattle.std.proofs.lemmas.List.{length-append, drop_at}
use Rattle.byteorder.specs.Endian.{big_bytes, big_number}
use Rattle.byteorder.specs.Numbers.{big_number-reads_back, length-bytes_high_first}
use Rattle.lsm_codec.specs.Keys.{IsBytes}
use Rattle.lsm_codec.specs.Map.{Operation}
use Rattle.lsm_codec.specs.Spelling.{IsDecoded}
use Rattle.lsm_codec.specs.Reading.{◌>>=◌, number_at, times, front_of, is_end, are_all}
use Rattle.lsm_codec.specs.BatchText.{operation_text, batch_text, text_length, IsOperation, IsBatch, operation_at, operations_at, batch_of, operations_in, operations_left, spelled}
use Rattle.lsm_codec.proofs.Lists.{all_append}
use Rattle.lsm_codec.proofs.Readers.{after, number_reads, times_reads}
use Rattle.lsm_codec.proofs.BatchLaws.{batch_of_exact, count_fits, operation_reads, unread, not_whole, whole}

found : (text : List ℕ) (answer : Option (List Operation)) → IsDecoded IsBatch batch_text text answer → is_some answer ≡ true
    → (answer ≡ Some (operations_in answer)) × (IsBatch (operations_in answer) × (text ≡ batch_text (operations_in answer)))
found text (Some os) exact is = (refl, exact.found)
found text None exact is = absurd cc

-- a text that spells a batch is the text of its operations
pub is_spelled : (text : List ℕ) → is_some (batch_of text) ≡ true → (batch_of text ≡ Some (spelled text)) × (IsBatch (spelled text) × (text ≡ batch_text (spelled text)))
is_spelled text is = found text (batch_of text) (batch_of_exact text) is

-- the text of a batch spells it
pub spells : (text : List ℕ) (os : List Operation) → IsBatch os → text ≡ batch_text os → (is_some (batch_of text) ≡ true) × (spelled text ≡ os)
spells text os fits is =
    let e = (batch_of_exact text).only os fits is in
    (ap is_some e, ap operations_in e)

-- ---- one more operation

pub text_length_more : (os : List Operation) (o : Operation) → text_length (os ++ o ∷ []) ≡ text_length os + length (operation_text o)
unfolding batch_text
text_length_more os o =
    omega (arith, ap length (flat_map-append operation_text os (o ∷ [])), length-append (flat_map operation_text os) (operation_text o ++ []), ap length (append-nil (operation_text o)))

-- a batch with one more operation, where its text is short enough
pub one_more : (os : List Operation) (o : Operation) → IsBatch os → IsOperation o → text_length os + length (operation_text o) ≤ 61440 → IsBatch (os ++ o ∷ [])
one_more os o fits one short = record {
  some = omega (arith, length-append os (o ∷ []));
  each = all_append IsOperation os (o ∷ []) fits.each (one, tt);
  fits = omega (arith, text_length_more os o, short);
}

-- a batch of one operation
pub one_alone : (o : Operation) → IsOperation o → length (operation_text o) ≤ 2307 → IsBatch (o ∷ [])
unfolding batch_text
one_alone o one short = record {
  some = omega arith;
  each = (one, tt);
  fits = omega (arith, short, ap length (append-nil (operation_text o)));
}

-- the count in front of a batch's text
pub counted : (text : List ℕ) (os : List Operation) → IsBatch os → text ≡ batch_text os → big_number 2 text ≡ length os
unfolding batch_text
counted text os fits is = ap (big_number 2) is ∙ big_number-reads_back 2 (length os) (flat_map operation_text os) (omega (arith, count_fits os fits))

-- The text of one more operation is written at the end, and the count in front overwritten.
pub recounted : (text : List ℕ) (os : List Operation) (o : Operation) → text ≡ batch_text os → big_bytes 2 (length os + 1) ++ drop 2 (text ++ operation_text o) ≡ batch_text (os ++ o ∷ [])
unfolding batch_text
recounted text os o is =
    let front = big_bytes 2 (length os) in
    let body = flat_map operation_text os in
    let dropped : drop 2 (text ++ operation_text o) ≡ body ++ operation_text o =
    ap (λ (t : List ℕ). drop 2 (t ++ operation_text o)) is ∙ ap (drop 2) (append_assoc front body (operation_text o)) ∙ drop_at front (body ++ operation_text o) 2 (length-bytes_high_first 2 (length os)) in
    let more : body ++ operation_text o ≡ flat_map operation_text (os ++ o ∷ []) =
    ap (λ (t : List ℕ). body ++ t) (sym (append-nil (operation_text o))) ∙ sym (flat_map-append operation_text os (o ∷ [])) in
    let count : length os + 1 ≡ length (os ++ o ∷ []) = sym (length-append os (o ∷ [])) in
    ap (λ (t : List ℕ). big_bytes 2 (length os + 1) ++ t) (dropped ∙ more) ∙ ap (λ (n : ℕ). big_bytes 2 n ++ flat_map operation_text (os ++ o ∷ [])) count

-- ---- one operation after another

-- after the count the operations are read
pub behind_count : (text : List ℕ) (os : List Operation) → IsBatch os → text ≡ batch_text os → times (length os) operation_at (drop 2 text) ≡ Some (os, [])
unfolding batch_text
behind_count text os fits is =
    let body = flat_map operation_text os in
    let dropped : drop 2 text ≡ body ++ [] = ap (drop 2) is ∙ drop_at (big_bytes 2 (length os)) body 2 (length-bytes_high_first 2 (length os)) ∙ sym (append-nil body) in
    ap (times (length os) operation_at) dropped ∙ (times_reads (length os) operation_reads).again os [] (refl, fits.each)

pub none_left : (count : ℕ) (text : List ℕ) → count ≡ 0 → operations_left count text ≡ []
unfolding times
none_left count text none = ap (λ (n : ℕ). operations_left n text) none

abbrev before : Operation → Option (List Operation × List ℕ) → Option (List Operation × List ℕ)
before o others = others >>= λ y. Some (o ∷ y.0, y.1)

first_of : (o : Operation) (others : Option (List Operation × List ℕ)) → is_some (before o others) ≡ true
    → (is_some others ≡ true) × (operations_in (front_of (before o others)) ≡ o ∷ operations_in (front_of others))
first_of o (Some y) is = (refl, refl)
first_of o None is = absurd cc

next_of : (n : ℕ) (text : List ℕ) (o : Operation × List ℕ) → operation_at text ≡ Some o → is_some (times (suc n) operation_at text) ≡ true
    → (is_some (times n operation_at o.1) ≡ true) × (operations_left (suc n) text ≡ o.0 ∷ operations_left n o.1)
unfolding times
next_of n text o read is =
    let step : times (suc n) operation_at text ≡ before o.0 (times n operation_at o.1) = rw read refl in
    let law = first_of o.0 (times n operation_at o.1) (sym (ap is_some step) ∙ is) in
    (law.0, ap (λ (r : Option (List Operation × List ℕ)). operations_in (front_of r)) step ∙ law.1)

-- Where operations are left, the first is read, and the others are left after it.
pub next_left : (count : ℕ) (text : List ℕ) (o : Operation × List ℕ) → 0 < count → operation_at text ≡ Some o → is_some (times count operation_at text) ≡ true
    → (is_some (times (count - 1) operation_at o.1) ≡ true) × (operations_left count text ≡ o.0 ∷ operations_left (count - 1) o.1)
next_left count text o some read is =
    let one_less : count ≡ suc (count - 1) = omega (arith, some) in
    let law = next_of (count - 1) text o read (ap (λ (n : ℕ). is_some (times n operation_at text)) (sym one_less) ∙ is) in
    (law.0, ap (λ (n : ℕ). operations_left n text) one_less ∙ law.1)

pub never_unread : (count : ℕ) (text : List ℕ) → 0 < count → operation_at text ≡ None → is_some (times count operation_at text) ≡ true → ⊥
unfolding times
never_unread zero text some read is = absurd (omega (arith, some))
never_unread (suc n) text some read is =
    let none : times (suc n) operation_at text ≡ None = rw read refl in
    let never : false ≡ true = sym (ap is_some none) ∙ is in
    absurd cc

-- ---- whether a text spells a batch

regrouped : (count : ℕ) (read : Option (List Operation × List ℕ)) →
    ◌>>=◌ {A = (ℕ × List Operation) × List ℕ} {B = List Operation × List ℕ} (◌>>=◌ {A = List Operation × List ℕ} {B = (ℕ × List Operation) × List ℕ} read (λ b. Some ((count, b.0), b.1))) (λ a. Some (a.0.1, a.1)) ≡ read
regrouped count (Some x) = refl
regrouped count None = refl

counted_read : (text rest : List ℕ) (count : ℕ) → number_at 2 text ≡ Some (count, rest) → operations_at text ≡ times count operation_at rest
unfolding operations_at
counted_read text rest count front = rw front (regrouped count (times count operation_at rest))

ended : (text rest : List ℕ) (count : ℕ) (read : Option (List Operation × List ℕ)) → times count operation_at rest ≡ read → operations_at text ≡ read
    → IsBytes text → IsBytes rest → length text ≤ 61440 → 0 < count → is_end read ≡ is_some (batch_of text)
ended text rest count None so e bytes rest_bytes short some = ap is_some (sym (unread text e))
ended text rest count (Some x) so e bytes rest_bytes short some = by (length x.1 == 0) refl
  where
    many : length x.0 ≡ count
    many = ((times_reads count operation_reads).found rest x rest_bytes so).0.0

    by : (b : Bool) → (length x.1 == 0) ≡ b → b ≡ is_some (batch_of text)
    by true is = ap is_some (sym (whole text x.0 x.1 bytes short e (omega (arith, many, some), eqb-true (length x.1) 0 is)).0)
    by false is = ap is_some (sym (not_whole text x.0 x.1 e (λ h. absurd (cc (is, h.1)))))

-- A text that isn't too long spells a batch just where as many operations as it counts are read, with no bytes after them.
pub decided : (text rest : List ℕ) (count : ℕ) → number_at 2 text ≡ Some (count, rest) → IsBytes text → length text ≤ 61440 → 0 < count
    → are_all count operation_at rest ≡ is_some (batch_of text)
unfolding are_all
decided text rest count front bytes short some =
    let rest_bytes = after text (big_bytes 2 count) rest bytes ((number_reads 2).found text (count, rest) bytes front).1 in
    ended text rest count (times count operation_at rest) refl (counted_read text rest count front) bytes rest_bytes short some

-- a text that counts no operation
pub none_counted : (text rest : List ℕ) → number_at 2 text ≡ Some (0, rest) → batch_of text ≡ None
unfolding times
none_counted text rest front = not_whole text [] rest (counted_read text rest 0 front) (λ h. absurd (omega (arith, h.0)))

-- a text with no count
pub none_count : (text : List ℕ) → number_at 2 text ≡ None → batch_of text ≡ None
unfolding operations_at
none_count text front = unread text (rw front refl)
