-- What a line asks for.
use Rattle.std.specs.Prelude.{◌≡◌, ℕ, List, codes, length, nat_lt, Option, Some, None, if◌then◌else◌, string_bytes}
use Rattle.std.specs.Str.{bytes_eq, is_utf8}
use Rattle.lsm_device.specs.declared.refusal.Refusal.{Refusal}
use Rattle.lsm_lives.specs.Calls.{call_of}
use Rattle.lsm_language.specs.Lines.{Said, call, no_batch, line_said}
use Rattle.lsm_machine.specs.Calls.{Call, Rotate}
use Rattle.lsm_serve.specs.Mistakes.{mistake_text, shown}
use Rattle.lsm_serve.specs.Reading.{most_bytes}
use Rattle.lsm_serve.specs.Tagging.{rest_of}
use Rattle.lsm_serve.specs.declared.expected.Expected.{Expected}
use Rattle.lsm_serve.specs.declared.command.Wrong.{Wrong}
use Rattle.lsm_serve.specs.declared.command.Wrong.TheVariants.{TooLong, Unreadable, NoCall}
use Rattle.lsm_serve.specs.declared.command.Command.{Command}
use Rattle.lsm_serve.specs.declared.command.Command.TheVariants as command

-- what is wrong with a line: it is too long, it can't be read, or it is no call
pub data Flaw : Type 0 where
  too_long : Flaw
  unreadable : Flaw
  no_call : Flaw

-- what a line asks for: a call, a commit whose batch can't be formed, the numbers of the store, those after a compaction, or nothing
pub data Meaning : Type 0 where
  asks_call : Call → Meaning
  asks_no_batch : Refusal → Meaning
  asks_numbers : Meaning
  asks_compaction : Meaning
  asks_nothing : Flaw → Meaning

-- of the calls a rotation is not served
abbrev pub meaning_called : Call → Meaning
meaning_called Rotate = asks_nothing no_call
meaning_called other = asks_call other

-- a line of a script
abbrev pub meaning_said : Said → Meaning
meaning_said (call c) = meaning_called c
meaning_said (no_batch refusal) = asks_no_batch refusal
meaning_said other = asks_nothing no_call

abbrev pub meaning_read : Option Said → Meaning
meaning_read None = asks_nothing unreadable
meaning_read (Some said) = meaning_said said

-- a text: `stat`, `compact`, or a line of a script
abbrev pub meaning_in : List ℕ → Meaning
meaning_in text = if bytes_eq text (codes "stat") then asks_numbers else if bytes_eq text (codes "compact") then asks_compaction else meaning_read (line_said text)

-- a line, which may not be too long, and has to be UTF-8 after its tag
abbrev pub meaning_of : List ℕ → Meaning
meaning_of line = if nat_lt most_bytes (length line) then asks_nothing too_long else if is_utf8 (rest_of line) then meaning_in (rest_of line) else asks_nothing unreadable

-- what is said of a flaw: where a line can't be read, what was expected first that isn't there, and what stands in its place
abbrev pub Says : Flaw → List ℕ → Type 0
Says too_long text = text ≡ codes "a line has at most 300000 bytes"
Says unreadable text = (expected : Expected) × (part : List ℕ) × (text ≡ mistake_text expected (shown part))
Says no_call text = text ≡ codes "the line is no call"

-- in words
abbrev pub wrong_text : Wrong → List ℕ
wrong_text TooLong = codes "a line has at most 300000 bytes"
wrong_text (Unreadable mistake) = mistake_text mistake.expected (string_bytes mistake.found)
wrong_text NoCall = codes "the line is no call"

-- as values
abbrev pub flaw_of : Wrong → Flaw
flaw_of TooLong = too_long
flaw_of (Unreadable mistake) = unreadable
flaw_of NoCall = no_call

abbrev pub asked_by : Command → Meaning
asked_by (command.Call given) = asks_call (call_of given)
asked_by (command.NoBatch refusal) = asks_no_batch refusal
asked_by command.Numbers = asks_numbers
asked_by command.Compaction = asks_compaction
asked_by (command.Nothing wrong) = asks_nothing (flaw_of wrong)

-- what is wrong is said
abbrev pub IsSayable : Wrong → Type 0
IsSayable wrong = Says (flaw_of wrong) (wrong_text wrong)

abbrev pub IsAskable : Command → Type 0
IsAskable (command.Nothing wrong) = IsSayable wrong
IsAskable other = Unit {0}
