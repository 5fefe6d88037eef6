-- What is said of a line that can't be read.
use Rattle.std.specs.Prelude.{◌≡◌, ◌&&◌, ℕ, List, ◌++◌, codes, map, nat_le, take, if◌then◌else◌, string_bytes}
use Rattle.lsm_serve.specs.declared.expected.Expected.{Expected}
use Rattle.lsm_serve.specs.declared.expected.Expected.TheVariants as expected
use Rattle.lsm_serve.specs.declared.mistake.Mistake.{Mistake}

-- what is said before it: the part of a line where something was expected
abbrev pub part_of : Expected → List ℕ
part_of expected.Name = codes "the first word is \""
part_of expected.Operation = codes "OP is \""
part_of expected.Guard = codes "GUARD is \""
part_of expected.Key = codes "KEY is \""
part_of expected.Value = codes "VALUE is \""
part_of expected.From = codes "FROM is \""
part_of expected.To = codes "TO is \""
part_of expected.Number = codes "the number is \""
part_of expected.Snapshot = codes "the snapshot is \""
part_of other = codes "the line is \""

-- and after it: what was expected there
abbrev pub form_of : Expected → List ℕ
form_of expected.Text = codes "\": expected UTF-8"
form_of expected.Name = codes "\": expected commit, if, sync, syncto, get, scan, snapshot, release, room, stat, compact"
form_of expected.Alone = codes "\": expected its first word alone"
form_of expected.Commit = codes "\": expected commit OP .., with one OP at least"
form_of expected.If = codes "\": expected if GUARD .. then OP .., with one OP at least"
form_of expected.Get = codes "\": expected get KEY, or get KEY @S"
form_of expected.Scan = codes "\": expected scan FROM TO LIMIT, or scan FROM TO LIMIT @S"
form_of expected.SyncTo = codes "\": expected syncto N"
form_of expected.Release = codes "\": expected release N"
form_of expected.Operation = codes "\": expected +KEY=VALUE or -KEY"
form_of expected.Guard = codes "\": expected ?KEY=VALUE or !KEY"
form_of expected.Key = codes "\": expected hex, two digits a byte, or empty for no bytes"
form_of expected.Value = codes "\": expected hex, two digits a byte, or empty for no bytes"
form_of expected.From = codes "\": expected hex, two digits a byte, or empty for no bytes"
form_of expected.To = codes "\": expected hex, two digits a byte, or empty for no bytes, or end"
form_of expected.Number = codes "\": expected a decimal number below 2^64"
form_of expected.Snapshot = codes "\": expected @ and the number of a snapshot"

-- a byte that is shown: itself where it is printable ASCII, and else `?`
abbrev pub printable : ℕ → ℕ
printable b = if nat_le 32 b && nat_le b 126 then b else 63

-- the first bytes of a part of a line, as they are shown
abbrev pub shown : List ℕ → List ℕ
shown part = map printable (take 80 part)

-- what is said of it
abbrev pub mistake_text : Expected → List ℕ → List ℕ
mistake_text wanted found = part_of wanted ++ (found ++ form_of wanted)

-- it shows a part of some line
abbrev pub IsShown : Mistake → Type 0
IsShown mistake = (part : List ℕ) × (string_bytes mistake.found ≡ shown part)
