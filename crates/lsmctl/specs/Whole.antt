-- A script is read whole where no line is too long.
use Rattle.std.specs.Prelude.{◌≡◌, ◌≤◌, ℕ, ◌+◌, ◌-◌, ◌==◌, Bool, true, false, List, [], ◌∷◌, ◌++◌, length, if◌then◌else◌}
use Rattle.std.proofs.Common.{ne_eqb, refl, ap, arith, length-append}
use Rattle.lsm_language.specs.Rows.{line_begun, lines_from, lines_of}
use Rattle.lsm_language.specs.Scripts.{read_within, room_behind}

-- no line has more bytes than one of a script may have
abbrev pub AreShort : List (List ℕ) → Type 0
AreShort [] = Unit {0}
AreShort (line ∷ lines) = (length line ≤ 300000) × AreShort lines

begun_short : (line : List ℕ) → AreShort (line_begun line) → length line ≤ 300000
begun_short [] short = omega arith
begun_short (b ∷ bs) short = short.0

-- the beginning of a line is no longer than the line
first_when : (newline : Bool) (b : ℕ) (line : List ℕ) (behind longer : List (List ℕ)) → (AreShort longer → length (line ++ b ∷ []) ≤ 300000)
    → AreShort (if newline then line ∷ behind else longer) → length line ≤ 300000
first_when true b line behind longer more short = short.0
first_when false b line behind longer more short = omega (arith, more short, length-append line (b ∷ []))

first_short : (line text : List ℕ) → AreShort (lines_from line text) → length line ≤ 300000
first_short line [] short = begun_short line short
first_short line (b ∷ text) short =
    first_when (b == 10) b line (lines_from [] text) (lines_from (line ++ b ∷ []) text) (λ longer. first_short (line ++ b ∷ []) text longer) short

-- what is after a byte
behind_when : (newline : Bool) (b room : ℕ) (line text : List ℕ) → (AreShort (lines_from [] text) → read_within 300001 text ≡ text)
    → (AreShort (lines_from (line ++ b ∷ []) text) → read_within (room - 1) text ≡ text)
    → AreShort (if newline then line ∷ lines_from [] text else lines_from (line ++ b ∷ []) text) → read_within (if newline then 300001 else room - 1) text ≡ text
behind_when true b room line text ends goes short = ends short.1
behind_when false b room line text ends goes short = goes short

shorter : (room b : ℕ) (line : List ℕ) → room + length line ≡ 300001 → length line ≤ 300000 → room - 1 + length (line ++ b ∷ []) ≡ 300001
shorter room b line is short = omega (arith, length-append line (b ∷ []))

whole_from : (line text : List ℕ) (room : ℕ) → room + length line ≡ 300001 → AreShort (lines_from line text) → read_within room text ≡ text
whole_from line [] room is short = refl
whole_from line (b ∷ text) room is short =
    let first : length line ≤ 300000 = first_short line (b ∷ text) short in
    let behind : read_within (room_behind room b) text ≡ text =
    behind_when (b == 10) b room line text (λ lines. whole_from [] text 300001 (omega arith) lines)
    (λ lines. whole_from (line ++ b ∷ []) text (room - 1) (shorter room b line is first) lines) short in
    rw (ne_eqb room 0 (λ none. absurd (omega (arith, none)))) (ap (λ (l : List ℕ). b ∷ l) behind)

-- all of it
pub read-whole : (text : List ℕ) → AreShort (lines_of text) → read_within 300001 text ≡ text
read-whole text short = whole_from [] text 300001 (omega arith) short
