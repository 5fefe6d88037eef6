-- Records are what their text says.
use Rattle.std.proofs.Common.{◌≡◌, ◌<◌, ◌≤◌, ℕ, zero, suc, ◌+◌, ◌*◌, ◌^◌, Bool, false, List, [], ◌∷◌, ◌++◌, length, length-append, take, drop, refl, sym, subst, ◌∙◌, ap, arith, append-nil, append_assoc}
use Rattle.std.specs.List.{All, concat}
use Rattle.std.proofs.lemmas.List.{drop-drop, drop_at, take_at}
use Rattle.std.proofs.lemmas.List.Elements.{All-head, All-tail}
use Rattle.byteorder.specs.Endian.{little_number}
use Rattle.byteorder.specs.Numbers.{length-bytes_low_first, little_number-reads_back}
use Rattle.lsm_device.specs.Disk.{IsSector}
use Rattle.lsm_device.specs.Runs.{pieces}
use Rattle.lsm_mapped.proofs.Laying.{over}
use Rattle.lsm_mapped.specs.Laid.{Laid}
use Rattle.lsm_mapped.specs.Records.{Record, IsWhole, front, last, number_text, record_text, records_from, records_of, text_of, writes_in}

-- ---- the last record

pub front-push : (rs : List Record) (r : Record) → front (rs ++ r ∷ []) ≡ rs
unfolding front
front-push [] r = refl
front-push (a ∷ []) r = refl
front-push (a ∷ (b ∷ rs)) r = ap (λ (l : List Record). a ∷ l) (front-push (b ∷ rs) r)

pub last-push : (rs : List Record) (r : Record) → last (rs ++ r ∷ []) ≡ r
unfolding last
last-push [] r = refl
last-push (a ∷ []) r = refl
last-push (a ∷ (b ∷ rs)) r = last-push (b ∷ rs) r

pub front-last : (r : Record) (rs : List Record) → front (r ∷ rs) ++ last (r ∷ rs) ∷ [] ≡ r ∷ rs
unfolding front last
front-last r [] = refl
front-last r (s ∷ rs) = ap (λ (l : List Record). r ∷ l) (front-last s rs)

pub ends : (rs : List Record) → 0 < length (last rs).sectors → front rs ++ last rs ∷ [] ≡ rs
unfolding last
ends [] some = absurd (omega (arith, some))
ends (r ∷ rs) some = front-last r rs

-- ---- text

pub text-push : (rs : List Record) (r : Record) → text_of (rs ++ r ∷ []) ≡ text_of rs ++ record_text r
unfolding text_of
text-push [] r = append-nil (record_text r)
text-push (a ∷ rs) r = ap (λ (l : List ℕ). record_text a ++ l) (text-push rs r) ∙ sym (append_assoc (record_text a) (text_of rs) (record_text r))

pub length-number : (n : ℕ) → length (number_text n) ≡ 4
unfolding number_text
length-number n = length-bytes_low_first 0 4 n

-- a number overwrites four bytes
pub over-number : (at n : ℕ) (old new : List ℕ) → new ≡ take at old ++ (number_text n ++ drop (at + 4) old) → new ≡ over at (number_text n) old
over-number at n old new is = is ∙ ap (λ (k : ℕ). take at old ++ (number_text n ++ drop (at + k) old)) (sym (length-number n))

number-read : (n : ℕ) (rest : List ℕ) → n < 2 ^ 32 → little_number 4 (number_text n ++ rest) ≡ n
unfolding number_text
number-read n rest fits = little_number-reads_back 4 n rest fits

pub length-sectors : (sectors : List (List ℕ)) → All IsSector sectors → length (concat sectors) ≡ 512 * length sectors
length-sectors [] whole = refl
length-sectors (s ∷ ss) whole =
    let one = (All-head IsSector s ss whole).size in
    let rest = length-sectors ss (All-tail IsSector s ss whole) in
    omega (arith, length-append s (concat ss), one, rest)

pieces-sectors : (sectors : List (List ℕ)) (rest : List ℕ) → All IsSector sectors → pieces (length sectors) (concat sectors ++ rest) ≡ sectors
pieces-sectors [] rest whole = refl
pieces-sectors (s ∷ ss) rest whole =
    let one = (All-head IsSector s ss whole).size in
    let split : concat (s ∷ ss) ++ rest ≡ s ++ (concat ss ++ rest) = append_assoc s (concat ss) rest in
    ap (λ (l : List ℕ). take 512 l ∷ pieces (length ss) (drop 512 l)) split
    ∙ ap (λ (l : List ℕ). l ∷ pieces (length ss) (drop 512 (s ++ (concat ss ++ rest)))) (take_at s (concat ss ++ rest) 512 one)
    ∙ ap (λ (l : List ℕ). s ∷ pieces (length ss) l) (drop_at s (concat ss ++ rest) 512 one)
    ∙ ap (λ (l : List (List ℕ)). s ∷ l) (pieces-sectors ss rest (All-tail IsSector s ss whole))

-- ---- reading

first_read : (n : ℕ) (text : List ℕ) → 0 < length text →
    records_from (suc n) text ≡ record { first = little_number 4 text; sectors = pieces (little_number 4 (drop 4 text)) (drop 8 text) } ∷ records_from n (drop (8 + 512 * little_number 4 (drop 4 text)) text)
unfolding records_from
first_read n [] some = absurd (omega (arith, some))
first_read n (b ∷ text) some = refl

one_read : (n : ℕ) (r : Record) (rest : List ℕ) → IsWhole r → records_from (suc n) (record_text r ++ rest) ≡ r ∷ records_from n rest
one_read n r rest whole =
    let a = number_text r.first in
    let b = number_text (length r.sectors) in
    let body = concat r.sectors in
    let text = record_text r ++ rest in
    let split : text ≡ a ++ (b ++ (body ++ rest)) = append_assoc (a ++ b) body rest ∙ append_assoc a b (body ++ rest) in
    let four : drop 4 text ≡ b ++ (body ++ rest) = ap (drop 4) split ∙ drop_at a (b ++ (body ++ rest)) 4 (length-number r.first) in
    let eight : drop 8 text ≡ body ++ rest = sym (drop-drop 4 4 text) ∙ ap (drop 4) four ∙ drop_at b (body ++ rest) 4 (length-number (length r.sectors)) in
    let first : little_number 4 text ≡ r.first = ap (little_number 4) split ∙ number-read r.first (b ++ (body ++ rest)) whole.first_fits in
    let count : little_number 4 (drop 4 text) ≡ length r.sectors = ap (little_number 4) four ∙ number-read (length r.sectors) (body ++ rest) whole.count_fits in
    let sectors : pieces (little_number 4 (drop 4 text)) (drop 8 text) ≡ r.sectors =
    ap (λ (k : ℕ). pieces k (drop 8 text)) count ∙ ap (pieces (length r.sectors)) eight ∙ pieces-sectors r.sectors rest whole.sectors_whole in
    let behind : drop (8 + 512 * little_number 4 (drop 4 text)) text ≡ rest =
    ap (λ (k : ℕ). drop (8 + 512 * k) text) count
    ∙ sym (drop-drop (512 * length r.sectors) 8 text)
    ∙ ap (drop (512 * length r.sectors)) eight
    ∙ drop_at body rest (512 * length r.sectors) (length-sectors r.sectors whole.sectors_whole) in
    let some : 0 < length text = omega (arith, ap length split, length-append a (b ++ (body ++ rest)), length-number r.first) in
    first_read n text some
    ∙ ap (λ (l : List Record). record { first = little_number 4 text; sectors = pieces (little_number 4 (drop 4 text)) (drop 8 text) } ∷ l) (ap (records_from n) behind)
    ∙ ap (λ (r' : Record). r' ∷ records_from n rest) (λ i. record { first = first i; sectors = sectors i })

read_from : (n : ℕ) (rs : List Record) → length rs ≤ n → All IsWhole rs → records_from n (text_of rs) ≡ rs
unfolding text_of records_from
read_from zero [] long whole = refl
read_from (suc n) [] long whole = refl
read_from zero (r ∷ rs) long whole = absurd (omega (arith, long))
read_from (suc n) (r ∷ rs) long whole =
    one_read n r (text_of rs) (All-head IsWhole r rs whole) ∙ ap (λ (l : List Record). r ∷ l) (read_from n rs (omega (arith, long)) (All-tail IsWhole r rs whole))

longer : (rs : List Record) → length rs ≤ length (text_of rs)
unfolding text_of
longer [] = omega arith
longer (r ∷ rs) =
    let a = number_text r.first in
    let b = number_text (length r.sectors) in
    omega (arith, longer rs, length-append (record_text r) (text_of rs), length-append (a ++ b) (concat r.sectors), length-append a b, length-number r.first)

pub read : (rs : List Record) → All IsWhole rs → records_of (text_of rs) ≡ rs
unfolding records_of
read rs whole = read_from (length (text_of rs)) rs (longer rs) whole

-- ---- a journal that has the text of records

pub laid_of : (rs : List Record) (text : List ℕ) (head first count : ℕ) (wrote : Bool) → text ≡ text_of rs → All IsWhole rs → head ≡ length (text_of (front rs)) →
    first ≡ (last rs).first → count ≡ length (last rs).sectors → (wrote ≡ false → writes_in rs ≡ 0) → Laid text head first count wrote
laid_of rs text head first count wrote is whole h f k none =
    let same : records_of text ≡ rs = ap records_of is ∙ read rs whole in
    record {
      text_is = ap text_of same ∙ sym is;
      whole = subst (All IsWhole) (sym same) whole;
      head_is = h ∙ sym (ap (λ (l : List Record). length (text_of (front l))) same);
      first_is = f ∙ sym (ap (λ (l : List Record). (last l).first) same);
      count_is = k ∙ sym (ap (λ (l : List Record). length (last l).sectors) same);
      unwritten = λ e. ap writes_in same ∙ none e;
    }

pub records-are : (rs : List Record) (text : List ℕ) → text ≡ text_of rs → All IsWhole rs → records_of text ≡ rs
records-are rs text is whole = ap records_of is ∙ read rs whole
