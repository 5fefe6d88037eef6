-- Lines of an input, as they come.
use Rattle.std.specs.Prelude.{◌≡◌, ◌≢◌, ◌⊎◌, ℕ, Bool, true, false, List, [], ◌∷◌, ◌++◌, All, take, Option, IfSome}
use Rattle.std.specs.Io.KnownBytes.{Consumes, Keeps}
use Rattle.lsm_device.specs.declared.refusal.Refusal.TheVariants.{NoMemory}
use Rattle.lsm_language.specs.Faults.{Reason, refusal, unread}
use Rattle.lsm_serve.specs.declared.reading.Taken.{Taken}
use Rattle.lsm_serve.specs.declared.reading.Taken.TheVariants.{Line, Part, Nothing, End}

-- the most bytes that a line may have, and how many of one are kept, by which it is seen that it is too long
abbrev pub most_bytes : ℕ
most_bytes = 300000

abbrev pub most_kept : ℕ
most_kept = 300001

-- no newline
abbrev pub HasNoNewline : List ℕ → Type 0
HasNoNewline part = All (λ b. b ≢ 10) part

-- One look at an input took a part of a line, and its newline where that was there; or it took nothing.
abbrev pub Takes : Option (List ℕ) → List ℕ → Taken → List ℕ → Option (List ℕ) → Type 0
Takes before line (Line ahead) kept after = (part : List ℕ) × HasNoNewline part × (kept ≡ take most_kept (line ++ part)) × Consumes before after (part ++ 10 ∷ [])
Takes before line Part kept after = (part : List ℕ) × HasNoNewline part × (kept ≡ take most_kept (line ++ part)) × Consumes before after part
Takes before line Nothing kept after = (kept ≡ line) × Keeps before after
Takes before line End kept after = (kept ≡ line) × IfSome before (λ text. text ≡ []) × Keeps before after

-- A line was found, of which the first bytes were kept: it was the first of what the input had left, as far as that is known, with
-- the newline that ends it. Or nothing was left.
abbrev pub TakesLine : Option (List ℕ) → Bool → List ℕ → Option (List ℕ) → Type 0
TakesLine before true kept after = (line : List ℕ) × HasNoNewline line × (kept ≡ take most_kept line) × Consumes before after (line ++ 10 ∷ [])
TakesLine before false kept after = IfSome before (λ text. text ≡ [])

-- the text of lines: a newline ends each
abbrev pub lines_text : List (List ℕ) → List ℕ
lines_text [] = []
lines_text (line ∷ lines) = line ++ 10 ∷ lines_text lines

-- a fault of a reading: it failed, or there was no memory for what it read
abbrev pub IsInputFault : Reason → Type 0
IsInputFault reason = (reason ≡ unread) ⊎ (reason ≡ refusal NoMemory)
