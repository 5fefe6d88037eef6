-- Lines as text.
use Rattle.std.proofs.Common.{◌≡◌, ℕ, List, Result, sym}
use Rattle.std.specs.Str.{IsUtf8}
use Rattle.std.proofs.lemmas.Str.{is_utf8-from_IsUtf8}
use Rattle.lsm_language.specs.declared.line.Line.{Line}
use Rattle.lsm_language.specs.declared.words.Unread.{Unread}
use Rattle.lsm_language.specs.Words.{Reads}
use Rattle.lsm_language.specs.Lines.{line_said, means}
use Rattle.lsm_language.specs.Scripts.{utf8_said}

-- a line that is UTF-8 says what its words say
pub utf8_reads : (text line : List ℕ) (r : Result Line Unread) → IsUtf8 text → line ≡ text → Reads means (line_said line) r
    → Reads means (utf8_said text) r
utf8_reads text line r u e h = rw (is_utf8-from_IsUtf8 text u) (rw (sym e) h)
