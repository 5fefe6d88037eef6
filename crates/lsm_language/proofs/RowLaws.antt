-- Rows of an input.
use Rattle.std.proofs.Common.{◌≡◌, ◌∙◌, ◌+◌, ◌<◌, ◌≤◌, ℕ, Bool, true, false, List, ◌∷◌, length, nat_le, take, Option, Some, None, Result, if◌then◌else◌, refl, sym, ap, subst, arith}
use Rattle.std.specs.Prelude.{IfSome}
use Rattle.std.proofs.lemmas.Bool.Decides.{nat_tests}
use Rattle.std.specs.Str.{IsUtf8, is_utf8}
use Rattle.std.proofs.lemmas.Str.{is_utf8-from_IsUtf8}
use Rattle.lsm_codec.specs.Map.{Operation}
use Rattle.lsm_language.specs.declared.words.Unread.{Unread}
use Rattle.lsm_language.specs.Words.{Reads}
use Rattle.lsm_language.specs.Reading.{ReadsLine}
use Rattle.lsm_language.specs.Rows.{lines_of, most_row, row_in, row_said, utf8_row}
use Rattle.lsm_language.proofs.ReadingLaws.{kept_whole, take-short}
use Rattle.lsm_language.proofs.TextLaws.{is_utf8-not}

-- a line that is UTF-8 says what its words say
pub says_utf8 : (text line : List ℕ) (r : Result Operation Unread) → IsUtf8 text → line ≡ text → Reads (λ op. op) (row_in line) r
    → Reads (λ op. op) (utf8_row text) r
says_utf8 text line r u e h = rw (is_utf8-from_IsUtf8 text u) (rw (sym e) h)

-- and one that is not has no row
pub no_row : (text : List ℕ) → ¬ (IsUtf8 text) → utf8_row text ≡ None
no_row text n = rw (is_utf8-not text n) refl

-- ---- a row that is read has no more bytes than the most

within : (n most : ℕ) → nat_le n most ≡ true → n ≤ most
within n most is = grind (arith, nat_tests)

pub row_short : (line : List ℕ) (row : Operation) → row_said line ≡ Some row → length line ≤ most_row
row_short line row said = by (nat_le (length line) most_row) refl said
  where
    by : (t : Bool) → nat_le (length line) most_row ≡ t → (if t then utf8_row line else None) ≡ Some row → length line ≤ most_row
    by true is h = within (length line) most_row is
    by false is h = absurd (none_is h)
      where
        none_is : None ≡ Some row → ⊥
        none_is e = cc

-- so it was kept whole, and what comes after it is left
pub row_whole : (before after : Option (List ℕ)) (kept : List ℕ) (row : Operation) → ReadsLine most_row before true kept after → row_said kept ≡ Some row
    → IfSome before (λ text. (rest : List ℕ) × (after ≡ Some rest) × (lines_of text ≡ kept ∷ lines_of rest))
row_whole None after kept row reads said = tt
row_whole (Some text) after kept row (line, is, (rest, lines, left)) said =
    let w = kept_whole most_row line (subst (λ (l : List ℕ). length l ≤ most_row) is (row_short kept row said)) in
    (rest, left w.0, lines ∙ ap (λ (l : List ℕ). l ∷ lines_of rest) (sym (is ∙ w.1)))

-- and if none was kept, the line is no row
pub no_row_first : (before after : Option (List ℕ)) (kept : List ℕ) → ReadsLine most_row before true kept after → row_said kept ≡ None
    → IfSome before (λ text. (line : List ℕ) × (rest : List ℕ) × (lines_of text ≡ line ∷ lines_of rest) × (row_said line ≡ None))
no_row_first None after kept reads said = tt
no_row_first (Some text) after kept (line, is, (rest, lines, left)) said = (line, rest, lines, by (nat_le (length line) most_row) refl)
  where
    by : (t : Bool) → nat_le (length line) most_row ≡ t → row_said line ≡ None
    by true e =
        let same : kept ≡ line = is ∙ take-short (most_row + 1) line (omega (arith, within (length line) most_row e)) in subst (λ (l : List ℕ). row_said l ≡ None) same said
    by false e = rw e refl
