-- What a script says: its lines, each of which has to be one that may stand there.
use Rattle.std.specs.Prelude.{◌≡◌, ◌⊎◌, ℕ, ◌==◌, ◌-◌, Bool, true, false, List, [], ◌∷◌, ◌++◌, length, take, get_or, nat_le, Option, Some, None, option_and_then, Result, MatchResult, if◌then◌else◌}
use Rattle.std.specs.List.{slice_split}
use Rattle.std.specs.Str.{is_utf8}
use Rattle.lsm_device.specs.declared.refusal.Refusal.TheVariants.{NoMemory}
use Rattle.lsm_language.specs.Faults.{reason_of, mistake, refusal}
use Rattle.lsm_language.specs.Lines.{Said, fuse, crash, crash_all, line_said}
use Rattle.lsm_language.specs.declared.program_error.ProgramError.{ProgramError}
use Rattle.lsm_language.specs.declared.script.Kind.{Kind}
use Rattle.lsm_language.specs.declared.script.Kind.TheVariants.{Steps, Lives}

-- how many bytes more may be read of the line that an input goes on with, after one of them
abbrev pub room_behind : ℕ → ℕ → ℕ
room_behind room b = if b == 10 then 300001 else room - 1

-- What is read of an input where `room` bytes of its line may be. It is all, unless a line has more than 300,000 bytes: of that one byte
-- more is read, and nothing after it.
abbrev pub read_within : ℕ → List ℕ → List ℕ
read_within room [] = []
read_within room (b ∷ bs) = if room == 0 then [] else b ∷ read_within (room_behind room b) bs

-- a text without the newline at its end
abbrev pub without_newline : List ℕ → List ℕ
without_newline text = if get_or text (length text - 1) 0 == 10 then take (length text - 1) text else text

-- the lines of a text: a newline ends each, and may be missing after the last
abbrev pub lines_in : List ℕ → List (List ℕ)
lines_in text = if length text == 0 then [] else slice_split (λ b. b == 10) (without_newline text)

-- a line ends a life
abbrev pub ends_life : Said → Bool
ends_life crash_all = true
ends_life (crash places) = true
ends_life _ = false

-- a line may stand where a life begins, or after its first line
abbrev pub may_stand : Kind → Bool → Said → Bool
may_stand Steps begins (fuse number) = false
may_stand Steps begins crash_all = false
may_stand Steps begins (crash places) = false
may_stand Lives begins (fuse number) = begins
may_stand _ _ _ = true

abbrev pub if_may_stand : Kind → Bool → Said → Option Said
if_may_stand kind begins said = if may_stand kind begins said then Some said else None

-- the most bytes of a line of a script
abbrev pub most_line : ℕ
most_line = 300000

-- what a line says that is UTF-8
abbrev pub utf8_said : List ℕ → Option Said
utf8_said line = if is_utf8 line then line_said line else None

-- what a line says, if it isn't longer
abbrev pub text_said : List ℕ → Option Said
text_said line = if nat_le (length line) most_line then utf8_said line else None

-- what a line says that may stand there
abbrev pub next_said : Kind → Bool → List ℕ → Option Said
next_said kind begins line = option_and_then (if_may_stand kind begins) (text_said line)

-- what the lines say, after those that were read
abbrev pub script_from : Kind → Bool → List Said → List (List ℕ) → Option (List Said)
script_from kind begins done [] = Some done
script_from kind begins done (line ∷ lines) = option_and_then (λ said. script_from kind (ends_life said) (done ++ said ∷ []) lines)
    (next_said kind begins line)

-- what a script says, if each line may stand where it does
abbrev pub script_said : Kind → List ℕ → Option (List Said)
script_said kind text = script_from kind true [] (lines_in text)

-- a reading is exact: it gives what the text says, and fails only where that is nothing, by a mistake, or for memory
abbrev pub ReadsText : {X S : Type 0} → (X → S) → Option S → Result X ProgramError → Type 0
ReadsText view said result = MatchResult result (λ x. said ≡ Some (view x))
    (λ e. ((reason_of e ≡ mistake) × (said ≡ None)) ⊎ (reason_of e ≡ refusal NoMemory))
