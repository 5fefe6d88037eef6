-- Lines of an input, as they come, of which no more is kept than the most, and a byte.
use Rattle.std.specs.Prelude.{◌≡◌, ◌≢◌, ◌⊎◌, ◌≤◌, ℕ, ◌+◌, Bool, true, false, List, [], ◌∷◌, ◌++◌, All, length, take, Option, Some, None, IfSome}
use Rattle.std.specs.Io.KnownBytes.{Consumes, Keeps}
use Rattle.lsm_language.specs.Rows.{lines_of}
use Rattle.lsm_language.specs.Scripts.{read_within}
use Rattle.lsm_language.specs.declared.reading.Taken.{Taken}
use Rattle.lsm_language.specs.declared.reading.Taken.TheVariants.{Line, Part, Nothing, End}

-- no newline
abbrev pub HasNoNewline : List ℕ → Type 0
HasNoNewline part = All (λ b. b ≢ 10) part

-- One look at an input took a part of a line, and its newline where that was there; or it took nothing.
abbrev pub Takes : ℕ → Option (List ℕ) → List ℕ → Taken → List ℕ → Option (List ℕ) → Type 0
Takes most before line Line kept after = (part : List ℕ) × HasNoNewline part × (kept ≡ take (most + 1) (line ++ part)) × Consumes before after (part ++ 10 ∷ [])
Takes most before line Part kept after = (part : List ℕ) × HasNoNewline part × (kept ≡ take (most + 1) (line ++ part)) × Consumes before after part
Takes most before line Nothing kept after = (kept ≡ line) × Keeps before after
Takes most before line End kept after = (kept ≡ line) × IfSome before (λ text. text ≡ []) × Keeps before after

-- A line was found, the first of what the input had left, as far as that is known. It was kept, and what is left comes after it; or it is
-- longer than the most, and its first bytes were kept, one more than the most. Or none was left.
abbrev pub ReadsLine : ℕ → Option (List ℕ) → Bool → List ℕ → Option (List ℕ) → Type 0
ReadsLine most before true kept after = (line : List ℕ) × (kept ≡ take (most + 1) line)
    × IfSome before (λ text. (rest : List ℕ) × (lines_of text ≡ line ∷ lines_of rest) × (length line ≤ most → after ≡ Some rest))
ReadsLine most before false kept after = IfSome before (λ text. lines_of text ≡ [])

-- ---- scripts

-- where `room` bytes of a line may be read, this part is, and `left` after it
abbrev pub PassesBy : ℕ → List ℕ → ℕ → Type 0
PassesBy room part left = (rest : List ℕ) → read_within room (part ++ rest) ≡ part ++ read_within left rest

-- One look at an input took a part of it, after which `left` bytes of a line may be read; or nothing more of it is.
abbrev pub TakesText : Option (List ℕ) → ℕ → List ℕ → Option ℕ → List ℕ → Option (List ℕ) → Type 0
TakesText before room text (Some left) longer after = (part : List ℕ) × PassesBy room part left × (longer ≡ text ++ part) × Consumes before after part
TakesText before room text None longer after = (longer ≡ text) × ((room ≡ 0) ⊎ IfSome before (λ rest. rest ≡ []))
