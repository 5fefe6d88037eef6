-- How a line is read.
use Rattle.std.proofs.Common.{◌≡◌, ◌≢◌, ◌∙◌, ◌+◌, ◌-◌, ◌<◌, ◌≤◌, ◌==◌, min, arith, ne_eqb, ℕ, zero, suc, nat_lt, Bool, true, false, cond, not, List, [], ◌∷◌, ◌++◌, append_assoc, append-nil, length, length-append, take, Option, Some, None, refl, sym, ap, subst}
use Rattle.std.proofs.lemmas.List.Elements.{All-head, All-tail}
use Rattle.std.specs.Prelude.{IfSome, slice_index}
use Rattle.std.specs.Io.BufRead.{drop_through, strip_last, take_through}
use Rattle.std.specs.Io.KnownBytes.{Consumes, Keeps}
use Rattle.std.proofs.Math.Seq.{take-nil}
use Rattle.std.proofs.lemmas.List.{length-take, take_more}
use Rattle.lsm_language.specs.Rows.{line_begun, lines_from, lines_of}
use Rattle.lsm_language.proofs.TextLaws.{take-min}
use Rattle.lsm_language.specs.Reading.{HasNoNewline, ReadsLine}

-- `begun` was read of a line, and its first bytes were kept, at most one more than the most.
pub record IsReading (most : ℕ) (before : Option (List ℕ)) (kept : List ℕ) (left : Option (List ℕ)) : Type 0 where
  pub begun : List ℕ
  pub cut : kept ≡ take (most + 1) begun
  pub reads : IfSome before (λ all. (text : List ℕ) × (left ≡ Some text) × (lines_of all ≡ lines_from begun text))

-- a list that was cut, and added to
take-take_append : (n : ℕ) (xs ys : List ℕ) → take n (take n xs ++ ys) ≡ take n (xs ++ ys)
take-take_append zero xs ys = refl
take-take_append (suc n) [] ys = refl
take-take_append (suc n) (x ∷ xs) ys = ap (λ (l : List ℕ). x ∷ l) (take-take_append n xs ys)

pub take-short : (n : ℕ) (xs : List ℕ) → length xs ≤ n → take n xs ≡ xs
take-short n [] le = take-nil n
take-short zero (x ∷ xs) le = absurd (omega (arith, le))
take-short (suc n) (x ∷ xs) le = ap (λ (l : List ℕ). x ∷ l) (take-short n xs (omega (arith, le)))

-- a part is kept, or the first of it
pub kept_more : (most room : ℕ) (line part longer : List ℕ) → length line ≤ most → room + length line ≡ most → longer ≡ line ++ take (min room (length part)) part
    → longer ≡ take most (line ++ part)
kept_more most room line part longer le is kept = kept ∙ by most line le is
  where
    shorter : (n : ℕ) (xs : List ℕ) → take (min n (length xs)) xs ≡ take n xs
    shorter n xs = take-min n xs

    by : (most : ℕ) (line : List ℕ) → length line ≤ most → room + length line ≡ most → line ++ take (min room (length part)) part ≡ take most (line ++ part)
    by most [] le is = let same : room ≡ most = omega (arith, is) in shorter room part ∙ ap (λ (n : ℕ). take n part) same
    by zero (x ∷ xs) le is = absurd (omega (arith, le))
    by (suc most) (x ∷ xs) le is = ap (λ (l : List ℕ). x ∷ l) (by most xs (omega (arith, le)) (omega (arith, is)))

-- what is kept is all, if it is no more than the most
pub kept_whole : (most : ℕ) (line : List ℕ) → length (take (most + 1) line) ≤ most → (length line ≤ most) × (take (most + 1) line ≡ line)
kept_whole most line le =
    let few : length line ≤ most = omega (arith, le, length-take (most + 1) line) in (few, take-short (most + 1) line (omega (arith, few)))

-- more than the most of a line is kept of it
long_kept : (most : ℕ) (begun more : List ℕ) → most < length (take (most + 1) begun) → (take (most + 1) (begun ++ more) ≡ take (most + 1) begun) × (most < length (begun ++ more))
long_kept most begun more lt =
    let long : most + 1 ≤ length begun = omega (arith, lt, length-take (most + 1) begun) in (by (most + 1) begun long, omega (arith, long, length-append begun more))
  where
    by : (n : ℕ) (xs : List ℕ) → n ≤ length xs → take n (xs ++ more) ≡ take n xs
    by zero xs le = refl
    by (suc n) [] le = absurd (omega (arith, le))
    by (suc n) (x ∷ xs) le = ap (λ (l : List ℕ). x ∷ l) (by n xs (omega (arith, le)))

-- something is kept of something
some_kept : (n : ℕ) (kept : List ℕ) (x : ℕ) (xs : List ℕ) → 0 < n → kept ≡ take n (x ∷ xs) → not (length kept == 0) ≡ true
some_kept zero kept x xs le is = absurd (omega (arith, le))
some_kept (suc n) kept x xs le is = ap (λ (l : List ℕ). not (length l == 0)) is ∙ ap not (ne_eqb (suc (length (take n xs))) 0 (λ e. absurd (omega (arith, e))))

-- what is known of what is left
pub consumed : (text bs : List ℕ) (left after : Option (List ℕ)) → left ≡ Some text → Consumes left after bs → (rest : List ℕ) × (after ≡ Some rest) × (text ≡ bs ++ rest)
consumed text bs left after is takes = by after (subst (λ (o : Option (List ℕ)). Consumes o after bs) is takes)
  where
    by : (o : Option (List ℕ)) → Consumes (Some text) o bs → (rest : List ℕ) × (o ≡ Some rest) × (text ≡ bs ++ rest)
    by None none = absurd none
    by (Some rest) same = (rest, refl, same)

kept_known : (text : List ℕ) (left after : Option (List ℕ)) → left ≡ Some text → Keeps left after → after ≡ Some text
kept_known text left after is keeps = by after (subst (λ (o : Option (List ℕ)). Keeps o after) is keeps)
  where
    by : (o : Option (List ℕ)) → Keeps (Some text) o → o ≡ Some text
    by None none = absurd none
    by (Some rest) same = ap Some same

-- a line with its newline was shown
pub newline_taken : (xs : List ℕ) (n : ℕ) → n < length xs → slice_index xs n ≡ 10 → take (n + 1) xs ≡ take n xs ++ 10 ∷ []
newline_taken xs n lt is = take_more xs n 0 lt ∙ ap (λ (b : ℕ). take n xs ++ b ∷ []) is

-- ---- a line

positive : (n : ℕ) → nat_lt 0 (suc n) ≡ true
positive n = grind arith

-- a list without its last byte, if that is one byte
stripped : ℕ → ℕ → List ℕ → List ℕ
stripped byte x xs = cond (slice_index (x ∷ xs) (length xs) == byte) (take (length xs) (x ∷ xs)) (x ∷ xs)

strip_some : (byte x : ℕ) (xs : List ℕ) → strip_last byte (x ∷ xs) ≡ stripped byte x xs
unfolding stripped
strip_some byte x xs =
    let some : nat_lt 0 (length (x ∷ xs)) ≡ true = positive (length xs) in
    let less : length (x ∷ xs) - 1 ≡ length xs = omega arith in
    rw (some, less) refl

stripped_later : (byte x y : ℕ) (ts : List ℕ) → stripped byte x (y ∷ ts) ≡ x ∷ stripped byte y ts
unfolding stripped
stripped_later byte x y ts = by_test (slice_index (y ∷ ts) (length ts) == byte)
  where
    by_test : (t : Bool) → cond t (x ∷ take (length ts) (y ∷ ts)) (x ∷ y ∷ ts) ≡ x ∷ cond t (take (length ts) (y ∷ ts)) (y ∷ ts)
    by_test true = refl
    by_test false = refl

strip_later : (byte x y : ℕ) (ts : List ℕ) → strip_last byte (x ∷ y ∷ ts) ≡ x ∷ strip_last byte (y ∷ ts)
strip_later byte x y ts = strip_some byte x (y ∷ ts) ∙ stripped_later byte x y ts ∙ ap (λ (l : List ℕ). x ∷ l) (sym (strip_some byte y ts))

strip_other : (x : ℕ) → (x == 10) ≡ false → strip_last 10 (x ∷ []) ≡ x ∷ []
unfolding stripped
strip_other x e = strip_some 10 x [] ∙ rw e refl

strip_newline : (x : ℕ) → (x == 10) ≡ true → strip_last 10 (x ∷ []) ≡ []
unfolding stripped
strip_newline x e = strip_some 10 x [] ∙ rw e refl

-- what stands up to the next newline, or the end, has a first byte
through_some : (y : ℕ) (ys : List ℕ) → (t : ℕ) × (ts : List ℕ) × (take_through 10 (y ∷ ys) ≡ t ∷ ts)
through_some y ys = by_test (y == 10) refl
  where
    by_test : (t : Bool) → (y == 10) ≡ t → (first : ℕ) × (rest : List ℕ) × (take_through 10 (y ∷ ys) ≡ first ∷ rest)
    by_test true e = (y, [], rw e refl)
    by_test false e = (y, take_through 10 ys, rw e refl)

strip_through : (x y : ℕ) (ys : List ℕ) → (x == 10) ≡ false → strip_last 10 (take_through 10 (x ∷ y ∷ ys)) ≡ x ∷ strip_last 10 (take_through 10 (y ∷ ys))
strip_through x y ys e =
    let some = through_some y ys in
    let all : take_through 10 (x ∷ y ∷ ys) ≡ x ∷ take_through 10 (y ∷ ys) = rw e refl in
    ap (strip_last 10) (all ∙ ap (λ (l : List ℕ). x ∷ l) some.2) ∙ strip_later 10 x some.0 some.1 ∙ ap (λ (l : List ℕ). x ∷ strip_last 10 l) (sym some.2)

some_begun : (before : List ℕ) (y : ℕ) → line_begun (before ++ y ∷ []) ≡ (before ++ y ∷ []) ∷ []
some_begun [] y = refl
some_begun (b ∷ bs) y = refl

-- the first line, and the others
pub lines_first : (line : List ℕ) (x : ℕ) (text : List ℕ)
    → lines_from line (x ∷ text) ≡ (line ++ strip_last 10 (take_through 10 (x ∷ text))) ∷ lines_of (drop_through 10 (x ∷ text))
lines_first line x [] = by_test (x == 10) refl
  where
    by_test : (t : Bool) → (x == 10) ≡ t → lines_from line (x ∷ []) ≡ (line ++ strip_last 10 (take_through 10 (x ∷ []))) ∷ lines_of (drop_through 10 (x ∷ []))
    by_test true e = rw e (ap (λ (l : List ℕ). l ∷ []) (sym (ap (λ (l : List ℕ). line ++ l) (strip_newline x e) ∙ append-nil line)))
    by_test false e = rw e (some_begun line x ∙ ap (λ (l : List ℕ). (line ++ l) ∷ []) (sym (strip_other x e)))
lines_first line x (y ∷ ys) = by_test (x == 10) refl (lines_first (line ++ x ∷ []) y ys)
  where
    by_test : (t : Bool) → (x == 10) ≡ t
        → lines_from (line ++ x ∷ []) (y ∷ ys) ≡ ((line ++ x ∷ []) ++ strip_last 10 (take_through 10 (y ∷ ys))) ∷ lines_of (drop_through 10 (y ∷ ys))
        → lines_from line (x ∷ y ∷ ys) ≡ (line ++ strip_last 10 (take_through 10 (x ∷ y ∷ ys))) ∷ lines_of (drop_through 10 (x ∷ y ∷ ys))
    by_test true e later = rw e (ap (λ (l : List ℕ). l ∷ lines_of (y ∷ ys)) (sym (ap (λ (l : List ℕ). line ++ l) (strip_newline x e) ∙ append-nil line)))
    by_test false e later =
        let steps : lines_from line (x ∷ y ∷ ys) ≡ lines_from (line ++ x ∷ []) (y ∷ ys) = rw e refl in
        let first : (line ++ x ∷ []) ++ strip_last 10 (take_through 10 (y ∷ ys)) ≡ line ++ strip_last 10 (take_through 10 (x ∷ y ∷ ys)) =
        append_assoc line (x ∷ []) _ ∙ ap (λ (l : List ℕ). line ++ l) (sym (strip_through x y ys e)) in
        let rest : drop_through 10 (x ∷ y ∷ ys) ≡ drop_through 10 (y ∷ ys) = rw e refl in
        steps ∙ later ∙ ap (λ (l : List ℕ). l ∷ lines_of (drop_through 10 (y ∷ ys))) first ∙ ap (λ (l : List ℕ). (line ++ strip_last 10 (take_through 10 (x ∷ y ∷ ys))) ∷ lines_of l) (sym rest)

-- ---- readings

-- at its begin
pub reading-begins : (most : ℕ) (before : Option (List ℕ)) (kept : List ℕ) → kept ≡ [] → IsReading most before kept before
reading-begins most before kept none = record { begun = []; cut = none ∙ sym (take-nil (most + 1)); reads = by before }
  where
    by : (o : Option (List ℕ)) → IfSome o (λ all. (text : List ℕ) × (o ≡ Some text) × (lines_of all ≡ lines_from [] text))
    by None = tt
    by (Some all) = (all, refl, refl)

-- a part that ends no line
later : (part begun rest : List ℕ) → HasNoNewline part → lines_from begun (part ++ rest) ≡ lines_from (begun ++ part) rest
later [] begun rest none = ap (λ (l : List ℕ). lines_from l rest) (sym (append-nil begun))
later (b ∷ part) begun rest none =
    rw (ne_eqb b 10 (All-head (λ (x : ℕ). x ≢ 10) b part none)) (later part (begun ++ b ∷ []) rest (All-tail (λ (x : ℕ). x ≢ 10) b part none)
    ∙ ap (λ (l : List ℕ). lines_from l rest) (append_assoc begun (b ∷ []) part))

-- what is kept of a line, and of a part after it
cut_more : (most : ℕ) (kept longer begun part : List ℕ) → kept ≡ take (most + 1) begun → longer ≡ take (most + 1) (kept ++ part) → longer ≡ take (most + 1) (begun ++ part)
cut_more most kept longer begun part cut is = is ∙ ap (λ (l : List ℕ). take (most + 1) (l ++ part)) cut ∙ take-take_append (most + 1) begun part

pub reading-more : (most : ℕ) (before left after : Option (List ℕ)) (kept longer part : List ℕ) → IsReading most before kept left → HasNoNewline part → longer ≡ take (most + 1) (kept ++ part)
    → Consumes left after part → IsReading most before longer after
reading-more most before left after kept longer part r none is takes = record {
  begun = r.begun ++ part;
  cut = cut_more most kept longer r.begun part r.cut is;
  reads = by before r.reads;
}
  where
    by : (o : Option (List ℕ)) → IfSome o (λ all. (text : List ℕ) × (left ≡ Some text) × (lines_of all ≡ lines_from r.begun text))
        → IfSome o (λ all. (text : List ℕ) × (after ≡ Some text) × (lines_of all ≡ lines_from (r.begun ++ part) text))
    by None h = tt
    by (Some all) (text, left_is, lines) =
        let c = consumed text part left after left_is takes in
        (c.0, c.1, lines ∙ ap (lines_from r.begun) c.2 ∙ later part r.begun c.0 none)

-- one that ends it
pub reading-line : (most : ℕ) (before left after : Option (List ℕ)) (kept longer part : List ℕ) → IsReading most before kept left → HasNoNewline part → longer ≡ take (most + 1) (kept ++ part)
    → Consumes left after (part ++ 10 ∷ []) → ReadsLine most before true longer after
reading-line most before left after kept longer part r none is takes = (r.begun ++ part, cut_more most kept longer r.begun part r.cut is, by before r.reads)
  where
    by : (o : Option (List ℕ)) → IfSome o (λ all. (text : List ℕ) × (left ≡ Some text) × (lines_of all ≡ lines_from r.begun text))
        → IfSome o (λ all. (rest : List ℕ) × (lines_of all ≡ (r.begun ++ part) ∷ lines_of rest) × (length (r.begun ++ part) ≤ most → after ≡ Some rest))
    by None h = tt
    by (Some all) (text, left_is, lines) =
        let c = consumed text (part ++ 10 ∷ []) left after left_is takes in
        (c.0, lines ∙ ap (lines_from r.begun) (c.2 ∙ append_assoc part (10 ∷ []) c.0) ∙ later part r.begun (10 ∷ c.0) none, λ le. c.1)

-- the end of the input
pub reading-end : (most : ℕ) (before left after : Option (List ℕ)) (read kept : List ℕ) (found : Bool) → IsReading most before read left
    → (kept ≡ read) × IfSome left (λ text. text ≡ []) × Keeps left after → found ≡ not (length kept == 0) → ReadsLine most before found kept after
reading-end most before left after read kept found r (same, none, keeps) is = by r.begun (same ∙ r.cut) r.reads
  where
    nothing : (text : List ℕ) (o : Option (List ℕ)) → o ≡ Some text → IfSome o (λ t. t ≡ []) → text ≡ []
    nothing text o same e = subst (λ (x : Option (List ℕ)). IfSome x (λ t. t ≡ [])) same e

    by : (begun : List ℕ) → kept ≡ take (most + 1) begun → IfSome before (λ all. (text : List ℕ) × (left ≡ Some text) × (lines_of all ≡ lines_from begun text))
        → ReadsLine most before found kept after
    by [] cut reads =
        let empty : kept ≡ [] = cut ∙ take-nil (most + 1) in
        let no : found ≡ false = is ∙ ap (λ (l : List ℕ). not (length l == 0)) empty in
        subst (λ (f : Bool). ReadsLine most before f kept after) (sym no) (at before reads)
      where
        at : (o : Option (List ℕ)) → IfSome o (λ all. (text : List ℕ) × (left ≡ Some text) × (lines_of all ≡ lines_from [] text)) → IfSome o (λ text. lines_of text ≡ [])
        at None h = tt
        at (Some all) (text, left_is, lines) = lines ∙ ap (lines_from []) (nothing text left left_is none)
    by (x ∷ xs) cut reads =
        let yes : found ≡ true = is ∙ some_kept (most + 1) kept x xs (omega arith) cut in
        subst (λ (f : Bool). ReadsLine most before f kept after) (sym yes) (x ∷ xs, cut, at before reads)
      where
        at : (o : Option (List ℕ)) → IfSome o (λ all. (text : List ℕ) × (left ≡ Some text) × (lines_of all ≡ lines_from (x ∷ xs) text))
            → IfSome o (λ all. (rest : List ℕ) × (lines_of all ≡ (x ∷ xs) ∷ lines_of rest) × (length (x ∷ xs) ≤ most → after ≡ Some rest))
        at None h = tt
        at (Some all) (text, left_is, lines) =
            let end : text ≡ [] = nothing text left left_is none in
            ([], lines ∙ ap (lines_from (x ∷ xs)) end, λ le. kept_known text left after left_is keeps ∙ ap Some end)

-- or nothing was read
pub reading-same : (most : ℕ) (before left after : Option (List ℕ)) (kept same : List ℕ) → IsReading most before kept left → (same ≡ kept) × Keeps left after → IsReading most before same after
reading-same most before left after kept same r (is, keeps) = record { begun = r.begun; cut = is ∙ r.cut; reads = by before r.reads }
  where
    by : (o : Option (List ℕ)) → IfSome o (λ all. (text : List ℕ) × (left ≡ Some text) × (lines_of all ≡ lines_from r.begun text))
        → IfSome o (λ all. (text : List ℕ) × (after ≡ Some text) × (lines_of all ≡ lines_from r.begun text))
    by None h = tt
    by (Some all) (text, left_is, lines) = (text, kept_known text left after left_is keeps, lines)

-- a line that is too long
pub reading-long : (most : ℕ) (before left : Option (List ℕ)) (kept : List ℕ) → IsReading most before kept left → most < length kept → ReadsLine most before true kept left
reading-long most before left kept r lt = at before r.reads
  where
    long : most < length (take (most + 1) r.begun)
    long = subst (λ (l : List ℕ). most < length l) r.cut lt

    alone : (begun : List ℕ) → most < length (take (most + 1) begun) → lines_from begun [] ≡ begun ∷ []
    alone [] lt = absurd (omega (arith, lt, length-take {A = ℕ} (most + 1) []))
    alone (x ∷ xs) lt = refl

    at : (o : Option (List ℕ)) → IfSome o (λ all. (text : List ℕ) × (left ≡ Some text) × (lines_of all ≡ lines_from r.begun text)) → ReadsLine most o true kept left
    at None h = (r.begun, r.cut, tt)
    at (Some all) ([], left_is, lines) = (r.begun, r.cut, ([], lines ∙ alone r.begun long, λ le. absurd (omega (arith, le, long, length-take {A = ℕ} (most + 1) r.begun))))
    at (Some all) (x ∷ text, left_is, lines) =
        let more = strip_last 10 (take_through 10 (x ∷ text)) in
        let l = long_kept most r.begun more long in
        (r.begun ++ more, r.cut ∙ sym l.0, (drop_through 10 (x ∷ text), lines ∙ lines_first r.begun x text, λ le. absurd (omega (arith, le, l.1))))
