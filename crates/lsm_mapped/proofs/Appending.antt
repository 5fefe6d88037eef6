-- What is appended to a journal, and what its text is then.
use Rattle.std.proofs.Common.{◌≡◌, ◌⊎◌, ◌↔◌, ◌<◌, ◌≤◌, ℕ, zero, suc, ◌+◌, ◌^◌, Bool, true, false, List, [], ◌∷◌, ◌++◌, length, length-append, take, drop, refl, sym, subst, inl, inr, ◌∙◌, ap, arith, append-nil, append_assoc, length-take-le, take-take, if◌then◌else◌}
use Rattle.std.specs.List.{All, concat}
use Rattle.std.proofs.lemmas.Bool.{and_parts, eq-eqb, eqb-true, false≢true, ltb-true, ne_eqb}
use lib.Dec.{ltb}
use Rattle.std.proofs.lemmas.List.{drop_at, take_at}
use Rattle.std.proofs.lemmas.List.Elements.{All-cons, All-head, All-nil, All-push, All-tail}
use Rattle.std.proofs.lemmas.List.Folds.{concat-append}
use Rattle.lsm_device.specs.Disk.{IsSector}
use Rattle.lsm_mapped.specs.Laid.{Laid}
use Rattle.lsm_mapped.specs.Records.{Record, IsWhole, front, goes_on, last, number_text, record_text, records_of, sync_record, text_of, with_sector, with_sync, with_write, write_record, writes_in}
use Rattle.lsm_mapped.proofs.Texts.{ends, front-push, laid_of, last-push, length-number, records-are, text-push}

-- ---- lengths

length-record : (r : Record) → length (record_text r) ≡ 8 + length (concat r.sectors)
length-record r =
    let a = number_text r.first in
    let b = number_text (length r.sectors) in
    omega (arith, length-append (a ++ b) (concat r.sectors), length-append a b, length-number r.first, length-number (length r.sectors))

pub length-pushed : (rs : List Record) (r : Record) → length (text_of (rs ++ r ∷ [])) ≡ length (text_of rs) + (8 + length (concat r.sectors))
length-pushed rs r = ap length (text-push rs r) ∙ length-append (text_of rs) (record_text r) ∙ ap (λ (k : ℕ). length (text_of rs) + k) (length-record r)

concat-one : (sectors : List (List ℕ)) (bytes : List ℕ) → concat (sectors ++ bytes ∷ []) ≡ concat sectors ++ bytes
concat-one sectors bytes = concat-append sectors (bytes ∷ []) ∙ ap (λ (l : List ℕ). concat sectors ++ l) (append-nil bytes)

pub length-grown : (rs : List Record) (bytes : List ℕ) → 0 < length (last rs).sectors → length bytes ≡ 512 → length (text_of (front rs ++ with_sector bytes (last rs) ∷ [])) ≡ length (text_of rs) + 512
length-grown rs bytes some whole =
    let body = concat (last rs).sectors in
    omega (
      arith,
      whole,
      length-pushed (front rs) (with_sector bytes (last rs)),
      ap length (concat-one (last rs).sectors bytes),
      length-append body bytes,
      length-pushed (front rs) (last rs),
      ap (λ (l : List Record). length (text_of l)) (ends rs some),
    )

-- ---- numbers

writes-push : (rs : List Record) (r : Record) → writes_in (rs ++ r ∷ []) ≡ writes_in rs + length r.sectors
unfolding writes_in
writes-push [] r = omega arith
writes-push (a ∷ rs) r = let rest = writes-push rs r in omega (arith, rest)

-- ---- a record more

pub pushed : (text new : List ℕ) (head first count used : ℕ) (wrote : Bool) (r : Record) → Laid text head first count wrote → used ≡ length text → IsWhole r →
    new ≡ text ++ record_text r → (wrote ≡ false → length r.sectors ≡ 0) → (records_of new ≡ records_of text ++ r ∷ []) × Laid new used r.first (length r.sectors) wrote
pushed text new head first count used wrote r laid size whole is none =
    let rs = records_of text in
    let after = rs ++ r ∷ [] in
    let same : new ≡ text_of after = is ∙ ap (λ (l : List ℕ). l ++ record_text r) (sym laid.text_is) ∙ sym (text-push rs r) in
    let all : All IsWhole after = All-push IsWhole rs r laid.whole whole in (
      records-are after new same all,
      laid_of after new used r.first (length r.sectors) wrote same all
          (size ∙ ap length (sym laid.text_is) ∙ ap (λ (l : List Record). length (text_of l)) (sym (front-push rs r)))
          (ap (λ (s : Record). s.first) (sym (last-push rs r)))
          (ap (λ (s : Record). length s.sectors) (sym (last-push rs r)))
          (λ e. writes-push rs r ∙ omega (arith, laid.unwritten e, none e)),
    )

-- a write of one sector
pub one_pushed : (old bytes all : List ℕ) (used head first count at size : ℕ) (wrote : Bool) → used ≤ length old → Laid (take used old) head first count wrote → at < 2 ^ 32 → IsSector bytes → wrote ≡ true → size ≡ used + (8 + length bytes) →
    take (used + (8 + length bytes)) all ≡ take used old ++ ((number_text at ++ number_text 1) ++ bytes) →
    (records_of (take size all) ≡ records_of (take used old) ++ write_record at bytes ∷ []) × Laid (take size all) used at 1 wrote
one_pushed old bytes all used head first count at size wrote within laid fits sector written long is =
    let r = write_record at bytes in
    let whole : IsWhole r = record { first_fits = fits; count_fits = omega arith; sectors_whole = All-cons IsSector bytes [] sector (All-nil IsSector) } in
    pushed (take used old) (take size all) head first count used wrote r laid (sym (length-take-le used old within)) whole
    (ap (λ (n : ℕ). take n all) long ∙ is ∙ ap (λ (l : List ℕ). take used old ++ ((number_text at ++ number_text 1) ++ l)) (sym (append-nil bytes)))
    (λ e. absurd (false≢true (sym e ∙ written)))

-- a sync
pub sync_pushed : (old all : List ℕ) (used head first count size : ℕ) (wrote : Bool) → used ≤ length old → Laid (take used old) head first count wrote → size ≡ used + (8 + 0) →
    take (used + (8 + 0)) all ≡ take used old ++ ((number_text 0 ++ number_text 0) ++ []) →
    (records_of (take size all) ≡ records_of (take used old) ++ sync_record ∷ []) × Laid (take size all) used 0 0 wrote
sync_pushed old all used head first count size wrote within laid long is =
    let whole : IsWhole sync_record = record { first_fits = omega arith; count_fits = omega arith; sectors_whole = All-nil IsSector } in
    pushed (take used old) (take size all) head first count used wrote sync_record laid (sym (length-take-le used old within)) whole
    (ap (λ (n : ℕ). take n all) long ∙ is)
    (λ _. refl)

-- ---- a sector more

-- what holds of each record holds of those before the last one, and of that
pub parts : (P : Record → Type 0) (rs : List Record) (r : Record) → All P (rs ++ r ∷ []) → All P rs × P r
parts P [] r all = (All-nil P, All-head P r [] all)
parts P (a ∷ rs) r all =
    let rest = parts P rs r (All-tail P a (rs ++ r ∷ []) all) in
    (All-cons P a rs (All-head P a (rs ++ r ∷ []) all) rest.0, rest.1)

-- the text of a journal whose last record has a sector more
grown_text : (before number more body bytes text new : List ℕ) (old : List ℕ) (head : ℕ) → head ≡ length before → length number ≡ 4 → length old ≡ 4 → text ≡ before ++ ((number ++ old) ++ body) →
    new ≡ take (head + 4) text ++ (more ++ (drop (head + 8) text ++ bytes)) → new ≡ before ++ ((number ++ more) ++ (body ++ bytes))
grown_text before number more body bytes text new old head place four four' is made =
    let near : text ≡ (before ++ number) ++ (old ++ body) = is ∙ ap (λ (l : List ℕ). before ++ l) (append_assoc number old body) ∙ sym (append_assoc before number (old ++ body)) in
    let far : text ≡ ((before ++ number) ++ old) ++ body = near ∙ sym (append_assoc (before ++ number) old body) in
    let size : length (before ++ number) ≡ head + 4 = length-append before number ∙ omega (arith, place, four) in
    let size' : length ((before ++ number) ++ old) ≡ head + 8 = length-append (before ++ number) old ∙ omega (arith, size, four') in
    let first : take (head + 4) text ≡ before ++ number = ap (take (head + 4)) near ∙ take_at (before ++ number) (old ++ body) (head + 4) size in
    let rest : drop (head + 8) text ≡ body = ap (drop (head + 8)) far ∙ drop_at ((before ++ number) ++ old) body (head + 8) size' in
    made
    ∙ ap (λ (l : List ℕ). l ++ (more ++ (drop (head + 8) text ++ bytes))) first
    ∙ ap (λ (l : List ℕ). (before ++ number) ++ (more ++ (l ++ bytes))) rest
    ∙ append_assoc before number (more ++ (body ++ bytes))
    ∙ ap (λ (l : List ℕ). before ++ l) (sym (append_assoc number more (body ++ bytes)))

pub grown : (text new bytes : List ℕ) (head first count : ℕ) (wrote : Bool) → Laid text head first count wrote → 0 < count → count < 4294967295 → IsSector bytes → wrote ≡ true →
    new ≡ take (head + 4) text ++ (number_text (count + 1) ++ (drop (head + 8) text ++ bytes)) →
    (records_of new ≡ front (records_of text) ++ with_sector bytes (last (records_of text)) ∷ []) × Laid new head first (count + 1) wrote
grown text new bytes head first count wrote laid some few sector written made =
    let rs = records_of text in
    let r = last rs in
    let r' = with_sector bytes r in
    let after = front rs ++ r' ∷ [] in
    let has : 0 < length r.sectors = omega (arith, laid.count_is, some) in
    let whole = parts IsWhole (front rs) r (subst (All IsWhole) (sym (ends rs has)) laid.whole) in
    let more : length (r.sectors ++ bytes ∷ []) ≡ count + 1 = length-append r.sectors (bytes ∷ []) ∙ omega (arith, laid.count_is) in
    let split : text ≡ text_of (front rs) ++ record_text r = sym laid.text_is ∙ ap text_of (sym (ends rs has)) ∙ text-push (front rs) r in
    let laid_out : new ≡ text_of (front rs) ++ ((number_text r.first ++ number_text (count + 1)) ++ (concat r.sectors ++ bytes)) =
    grown_text (text_of (front rs)) (number_text r.first) (number_text (count + 1)) (concat r.sectors) bytes text new (number_text (length r.sectors)) head laid.head_is (length-number r.first) (length-number (length r.sectors)) split made in
    let same : new ≡ text_of after =
    laid_out
    ∙ ap (λ (k : ℕ). text_of (front rs) ++ ((number_text r.first ++ number_text k) ++ (concat r.sectors ++ bytes))) (sym more)
    ∙ ap (λ (l : List ℕ). text_of (front rs) ++ ((number_text r.first ++ number_text (length r'.sectors)) ++ l)) (sym (concat-one r.sectors bytes))
    ∙ sym (text-push (front rs) r') in
    let one : IsWhole r' = record {
      first_fits = whole.1.first_fits;
      count_fits = omega (arith, more, few);
      sectors_whole = All-push IsSector r.sectors bytes whole.1.sectors_whole sector;
    } in
    let all : All IsWhole after = All-push IsWhole (front rs) r' whole.0 one in (
      records-are after new same all,
      laid_of after new head first (count + 1) wrote same all
          (laid.head_is ∙ ap (λ (l : List Record). length (text_of l)) (sym (front-push (front rs) r')))
          (laid.first_is ∙ ap (λ (s : Record). s.first) (sym (last-push (front rs) r')))
          (sym more ∙ ap (λ (s : Record). length s.sectors) (sym (last-push (front rs) r')))
          (λ e. absurd (false≢true (sym e ∙ written))),
    )

-- the same over the bytes of the journal
pub grown_in : (old bytes all : List ℕ) (used head first count size : ℕ) (wrote : Bool) → used ≤ length old → Laid (take used old) head first count wrote → 0 < count → count < 4294967295 → head + 8 ≤ used → IsSector bytes → wrote ≡ true →
    size ≡ used + length bytes → take (used + length bytes) all ≡ take (head + 4) old ++ (number_text (count + 1) ++ (drop (head + 8) (take used old) ++ bytes)) →
    (records_of (take size all) ≡ front (records_of (take used old)) ++ with_sector bytes (last (records_of (take used old))) ∷ []) × Laid (take size all) head first (count + 1) wrote
grown_in old bytes all used head first count size wrote within laid some few inside sector written long is =
    grown (take used old) (take size all) bytes head first count wrote laid some few sector written
    (ap (λ (n : ℕ). take n all) long ∙ is ∙ ap (λ (l : List ℕ). l ++ (number_text (count + 1) ++ (drop (head + 8) (take used old) ++ bytes))) (sym (take-take (head + 4) used old (omega (arith, inside)))))

-- a head is within the text
pub head-within : (text : List ℕ) (head first count : ℕ) (wrote : Bool) → Laid text head first count wrote → 0 < count → head + 8 ≤ length text
head-within text head first count wrote laid some =
    let rs = records_of text in
    let has : 0 < length (last rs).sectors = omega (arith, laid.count_is, some) in
    omega (arith, laid.head_is, ap length laid.text_is, length-pushed (front rs) (last rs), ap (λ (l : List Record). length (text_of l)) (ends rs has))

-- ---- which of these it is

pub sync-same : (rs : List Record) → 0 < length (text_of rs) → length (last rs).sectors ≡ 0 → with_sync rs ≡ rs
unfolding with_sync text_of
sync-same [] some none = absurd (omega (arith, some))
sync-same (r ∷ rs) some none = ap (λ (b : Bool). if b then r ∷ rs else r ∷ rs ++ sync_record ∷ []) (eq-eqb (length (last (r ∷ rs)).sectors) 0 none)

pub sync-more : (rs : List Record) → (length (text_of rs) ≡ 0) ⊎ (0 < length (last rs).sectors) → with_sync rs ≡ rs ++ sync_record ∷ []
unfolding with_sync text_of
sync-more [] since = refl
sync-more (r ∷ rs) (inl none) = absurd (omega (arith, none, length-append (record_text r) (text_of rs), length-record r))
sync-more (r ∷ rs) (inr some) = ap (λ (b : Bool). if b then r ∷ rs else r ∷ rs ++ sync_record ∷ []) (ne_eqb (length (last (r ∷ rs)).sectors) 0 (λ e. omega (arith, e, some)))

idle : (count used : ℕ) → ((count ≡ 0) × (0 < used) → ⊥) → (used ≡ 0) ⊎ (0 < count)
idle (suc k) used more = inr (omega arith)
idle zero zero more = inl refl
idle zero (suc n) more = absurd (more (refl, omega arith))

-- a sync adds nothing to a journal whose last record is a sync, and else it is one more record
pub ends-in-sync : (old : List ℕ) (used head first count : ℕ) (wrote : Bool) → used ≤ length old → Laid (take used old) head first count wrote → (count ≡ 0) × (0 < used) →
    with_sync (records_of (take used old)) ≡ records_of (take used old)
ends-in-sync old used head first count wrote within laid (none, some) =
    sync-same _ (omega (arith, ap length laid.text_is, length-take-le used old within, some)) (omega (arith, laid.count_is, none))

pub ends-in-none : (old : List ℕ) (used head first count : ℕ) (wrote : Bool) → used ≤ length old → Laid (take used old) head first count wrote → ((count ≡ 0) × (0 < used) → ⊥) →
    with_sync (records_of (take used old)) ≡ records_of (take used old) ++ sync_record ∷ []
ends-in-none old used head first count wrote within laid more = elim (idle count used more) [
  | inl none ↦ sync-more _ (inl (omega (arith, ap length laid.text_is, length-take-le used old within, none)))
  | inr some ↦ sync-more _ (inr (omega (arith, laid.count_is, some)))
]

-- whether a write was tried says less where one was
pub laid-tried : (text : List ℕ) (head first count : ℕ) (wrote : Bool) → Laid text head first count wrote → Laid text head first count true
laid-tried text head first count wrote laid = record {
  text_is = laid.text_is;
  whole = laid.whole;
  head_is = laid.head_is;
  first_is = laid.first_is;
  count_is = laid.count_is;
  unwritten = λ e. absurd (false≢true (sym e));
}

pub write-on : (at first count : ℕ) (bytes : List ℕ) (rs : List Record) → first ≡ (last rs).first → count ≡ length (last rs).sectors → goes_on at first count ≡ true → with_write at bytes rs ≡ front rs ++ with_sector bytes (last rs) ∷ []
unfolding with_write
write-on at first count bytes rs f k on =
    let test : goes_on at (last rs).first (length (last rs).sectors) ≡ true = ap (λ (x : ℕ). goes_on at x (length (last rs).sectors)) (sym f) ∙ ap (goes_on at first) (sym k) ∙ on in
    ap (λ (b : Bool). if b then front rs ++ with_sector bytes (last rs) ∷ [] else rs ++ write_record at bytes ∷ []) test

pub write-new : (at first count : ℕ) (bytes : List ℕ) (rs : List Record) → first ≡ (last rs).first → count ≡ length (last rs).sectors → goes_on at first count ≡ false → with_write at bytes rs ≡ rs ++ write_record at bytes ∷ []
unfolding with_write
write-new at first count bytes rs f k on =
    let test : goes_on at (last rs).first (length (last rs).sectors) ≡ false = ap (λ (x : ℕ). goes_on at x (length (last rs).sectors)) (sym f) ∙ ap (goes_on at first) (sym k) ∙ on in
    ap (λ (b : Bool). if b then front rs ++ with_sector bytes (last rs) ∷ [] else rs ++ write_record at bytes ∷ []) test

-- ---- how much room that takes

text-size : (old : List ℕ) (used head first count : ℕ) (wrote : Bool) → used ≤ length old → Laid (take used old) head first count wrote → length (text_of (records_of (take used old))) ≡ used
text-size old used head first count wrote within laid = ap length laid.text_is ∙ length-take-le used old within

pub size-pushed : (old : List ℕ) (used head first count : ℕ) (wrote : Bool) (after : List Record) (r : Record) → used ≤ length old → Laid (take used old) head first count wrote →
    after ≡ records_of (take used old) ++ r ∷ [] → length (text_of after) ≡ used + (8 + length (concat r.sectors))
size-pushed old used head first count wrote after r within laid is =
    ap (λ (l : List Record). length (text_of l)) is ∙ length-pushed (records_of (take used old)) r
    ∙ ap (λ (k : ℕ). k + (8 + length (concat r.sectors))) (text-size old used head first count wrote within laid)

pub size-written : (old bytes : List ℕ) (used head first count at : ℕ) (wrote : Bool) (after : List Record) → used ≤ length old → Laid (take used old) head first count wrote → length bytes ≡ 512 →
    after ≡ records_of (take used old) ++ write_record at bytes ∷ [] → length (text_of after) ≡ used + 520
size-written old bytes used head first count at wrote after within laid long is =
    omega (arith, size-pushed old used head first count wrote after (write_record at bytes) within laid is, ap length (append-nil bytes), long)

pub size-grown : (old bytes : List ℕ) (used head first count : ℕ) (wrote : Bool) (after : List Record) → used ≤ length old → Laid (take used old) head first count wrote → 0 < count → length bytes ≡ 512 →
    after ≡ front (records_of (take used old)) ++ with_sector bytes (last (records_of (take used old))) ∷ [] → length (text_of after) ≡ used + 512
size-grown old bytes used head first count wrote after within laid some long is =
    let rs = records_of (take used old) in
    let has : 0 < length (last rs).sectors = omega (arith, laid.count_is, some) in
    ap (λ (l : List Record). length (text_of l)) is ∙ length-grown rs bytes has long ∙ ap (λ (k : ℕ). k + 512) (text-size old used head first count wrote within laid)

-- a test that says whether there is room for a text of this size says so of the text
pub room-for : (b : Bool) (size need room : ℕ) → size ≡ need → ((b ≡ true) ↔ (need ≤ room)) → (b ≡ true) ↔ (size ≤ room)
room-for b size need room is (to, from) = (λ t. rw is (to t), λ h. from (rw (sym is) h))

-- what the test of a place says
pub going : (at first count : ℕ) → goes_on at first count ≡ true → (0 < count) × (count < 4294967295)
going at first count on =
    let first_part = and_parts (ltb 0 count) _ on in
    (ltb-true 0 count first_part.0, ltb-true count 4294967295 (and_parts (ltb count 4294967295) _ first_part.1).0)

pub going-place : (at first count : ℕ) → goes_on at first count ≡ true → first + count ≡ at
going-place at first count on =
    let first_part = and_parts (ltb 0 count) _ on in
    eqb-true (first + count) at (and_parts (ltb count 4294967295) _ first_part.1).1
