-- Rows of an input.
use Rattle.std.specs.Prelude.{◌≡◌, ℕ, ◌==◌, ◌&&◌, Bool, true, false, List, [], ◌∷◌, ◌++◌, length, Option, Some, None, is_some, nat_le, option_and_then, if◌then◌else◌}
use Rattle.std.specs.List.{position_or_len, before_first, after_first}
use Rattle.std.specs.Str.{is_utf8}
use Rattle.lsm_codec.specs.Map.{Operation}
use Rattle.lsm_language.specs.Changes.{put_said, first_refusal}

-- ---- lines

-- a line that was read so far, if there is something of it
abbrev pub line_begun : List ℕ → List (List ℕ)
line_begun [] = []
line_begun (b ∷ bs) = (b ∷ bs) ∷ []

-- the lines of a text after the beginning of one
abbrev pub lines_from : List ℕ → List ℕ → List (List ℕ)
lines_from line [] = line_begun line
lines_from line (b ∷ text) = if b == 10 then line ∷ lines_from [] text else lines_from (line ++ b ∷ []) text

-- the lines of a text: a newline ends each, and may be missing after the last
abbrev pub lines_of : List ℕ → List (List ℕ)
lines_of text = lines_from [] text

-- ---- rows

-- the two words around the first space
abbrev pub words_around : List ℕ → Option (List ℕ × List ℕ)
words_around line = if position_or_len (λ b. b == 32) line == length line then None
    else Some (before_first (λ b. b == 32) line, after_first (λ b. b == 32) line)

-- an operation that a store takes
abbrev pub within_limits : Operation → Option Operation
within_limits operation = if is_some (first_refusal operation) then None else Some operation

-- KEY VALUE puts
abbrev pub row_in : List ℕ → Option Operation
row_in line = option_and_then within_limits (option_and_then put_said (words_around line))

-- the longest line that is a row: a key of 255 bytes and a value of 2,048 in hex, and the space between them
abbrev pub most_row : ℕ
most_row = 4607

-- what a line says that is UTF-8
abbrev pub utf8_row : List ℕ → Option Operation
utf8_row line = if is_utf8 line then row_in line else None

-- what a line says, if it isn't longer
abbrev pub row_said : List ℕ → Option Operation
row_said line = if nat_le (length line) most_row then utf8_row line else None

-- a row before others, if there is one
abbrev pub with_row : Option Operation → List Operation → List Operation
with_row None rows = []
with_row (Some row) rows = row ∷ rows

-- the rows of lines, up to the first line that is no row
abbrev pub rows_of : List (List ℕ) → List Operation
rows_of [] = []
rows_of (line ∷ lines) = with_row (row_said line) (rows_of lines)

-- whether each line is a row
abbrev pub are_rows : List (List ℕ) → Bool
are_rows [] = true
are_rows (line ∷ lines) = is_some (row_said line) && are_rows lines
