-- What a line asks for, by its text.
use Rattle.std.proofs.Common.{◌≡◌, ◌∙◌, ◌≤◌, sym, ℕ, false, List, Result, length, ap, subst, refl, le-ltb}
use Rattle.std.specs.Prelude.{nat_lt, IfOk}
use Rattle.std.specs.Str.{IsUtf8}
use Rattle.std.proofs.lemmas.Str.{is_utf8-from_IsUtf8}
use Rattle.lsm_language.proofs.TextLaws.{is_utf8-not}
use Rattle.lsm_serve.specs.declared.command.Command.{Command}
use Rattle.lsm_serve.specs.declared.command.Wrong.TheVariants.{Unreadable}
use Rattle.lsm_serve.specs.declared.mistake.Mistake.{Mistake}
use Rattle.lsm_serve.specs.Mistakes.{IsShown, mistake_text}
use Rattle.lsm_serve.specs.Asking.{IsSayable, Meaning, asked_by, asks_nothing, meaning_in, meaning_of, unreadable}
use Rattle.lsm_serve.specs.Reading.{most_bytes}
use Rattle.lsm_serve.specs.Tagging.{rest_of}

not_long : (line : List ℕ) → length line ≤ most_bytes → nat_lt most_bytes (length line) ≡ false
not_long line le = le-ltb most_bytes (length line) le

meaning_text : (line text : List ℕ) → length line ≤ most_bytes → IsUtf8 (rest_of line) → text ≡ rest_of line → meaning_in text ≡ meaning_of line
meaning_text line text le u is = rw (not_long line le, is_utf8-from_IsUtf8 (rest_of line) u) (ap meaning_in is)

pub asks_text : {E : Type 0} (line rest text : List ℕ) (r : Result Command E) → length line ≤ most_bytes → rest ≡ rest_of line → IsUtf8 rest → text ≡ rest
    → IfOk r (λ command. asked_by command ≡ meaning_in text) → IfOk r (λ command. asked_by command ≡ meaning_of line)
asks_text line rest text r le same u is asks =
    subst (λ (m : Meaning). IfOk r (λ command. asked_by command ≡ m)) (meaning_text line text le (subst IsUtf8 same u) (is ∙ same)) asks

pub asks_no_text : (line rest : List ℕ) → length line ≤ most_bytes → rest ≡ rest_of line → ¬ (IsUtf8 rest) → asks_nothing unreadable ≡ meaning_of line
asks_no_text line rest le same n = rw (not_long line le, is_utf8-not (rest_of line) (λ (u : IsUtf8 (rest_of line)). n (subst IsUtf8 (sym same) u))) refl

-- ---- what is said of a line that can't be read

pub sayable : (mistake : Mistake) → IsShown mistake → IsSayable (Unreadable mistake)
sayable mistake (part, is) = (mistake.expected, part, ap (mistake_text mistake.expected) is)
