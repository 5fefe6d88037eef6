-- Numbers as words.
use Rattle.std.specs.Prelude.{ℕ, ◌^◌, ◌&&◌, nat_lt, List, length, Option, Some, None, if◌then◌else◌}
use Rattle.std.specs.List.{list_all}
use Rattle.std.specs.Char.{is_ascii_digit}
use Rattle.std.specs.Str.Parse.{digits_value}

-- the number that a word of decimal digits alone says, where it is below 2^64
abbrev pub number_said : List ℕ → Option ℕ
number_said word = if list_all is_ascii_digit word && (nat_lt 0 (length word) && nat_lt (digits_value 10 word) (2 ^ 64))
    then Some (digits_value 10 word) else None
