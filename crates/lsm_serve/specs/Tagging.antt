-- Tags of lines.
use Rattle.std.specs.Prelude.{ℕ, ◌+◌, ◌==◌, ◌&&◌, Bool, false, nat_le, nat_lt, List, [], ◌∷◌, length, take, drop, Option, Some, None, if◌then◌else◌}
use Rattle.std.specs.Char.{is_ascii_digit}
use Rattle.std.specs.List.{list_all, position_from}

-- whether these are the digits of a tag, 1 to 20
abbrev pub are_digits : List ℕ → Bool
are_digits digits = nat_lt 0 (length digits) && (nat_le (length digits) 20 && list_all is_ascii_digit digits)

-- whether a word is that of a tag: `#`, and its digits
abbrev pub is_tag_word : List ℕ → Bool
is_tag_word [] = false
is_tag_word (mark ∷ digits) = (mark == 35) && are_digits digits

-- where the first space of a line stands
abbrev pub is_space : ℕ → Bool
is_space b = b == 32

abbrev pub first_space : List ℕ → Option ℕ
first_space line = position_from is_space 0 line

-- how many bytes a tag has with the space after it, which is there: what is before that has to be the word of one
abbrev pub size_at : List ℕ → Option ℕ → ℕ
size_at line None = 0
size_at line (Some place) = if is_tag_word (take place line) then place + 1 else 0

abbrev pub tag_size : List ℕ → ℕ
tag_size line = size_at line (first_space line)

-- the tag of a line with the space after it, empty where there is none; and the rest of the line
abbrev pub tag_in : List ℕ → List ℕ
tag_in line = take (tag_size line) line

abbrev pub rest_of : List ℕ → List ℕ
rest_of line = drop (tag_size line) line
