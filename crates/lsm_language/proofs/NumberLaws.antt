-- What `parse` answers at a word of digits alone.
use Rattle.std.proofs.Common.{◌≡◌, ℕ, ◌^◌, ◌<◌, ◌&&◌, true, false, nat_lt, List, [], ◌∷◌, length, Some, None, Result, Ok, Err, refl, sym, ap, ◌∙◌, arith, cond}
use Rattle.std.specs.List.{list_all}
use Rattle.std.specs.Char.{is_ascii_digit}
use Rattle.std.specs.Result.{OkIff, result_ok}
use Rattle.std.specs.Str.{all_ascii_digits}
use Rattle.std.specs.Str.Parse.{ParsesUnsigned, digits_value}
use Rattle.std.proofs.lemmas.Str.Parse.{numerals_by_value, tells_all_ascii_digits, parse_digits}
use Rattle.lsm_language.specs.Numbers.{number_said}

-- std's word for digits alone
digits_alone : (bs : List ℕ) → list_all is_ascii_digit bs ≡ all_ascii_digits bs
digits_alone [] = refl
digits_alone (c ∷ cs) = ap (λ t. is_ascii_digit c && t) (digits_alone cs)

-- what a numeral's two bounds decide
number_by : {E : Type 0} (n size v : ℕ) (r : Result ℕ E) → OkIff r ((0 < size) × (v < n)) v
    → result_ok r ≡ cond (nat_lt 0 size && nat_lt v n) (Some v) None
number_by n size v (Ok x) h = grind arith
number_by n size v (Err e) h = grind arith

-- a word that isn't digits alone says no number
pub number_said-other : (word : List ℕ) → list_all is_ascii_digit word ≡ false → number_said word ≡ None
number_said-other word e = rw e

-- `parse` gives the number that digits alone say
pub number_said-digits : {E : Type 0} (word : List ℕ) (r : Result ℕ E) → list_all is_ascii_digit word ≡ true
    → ParsesUnsigned 64 10 word r → result_ok r ≡ number_said word
number_said-digits word r e h = rw e (number_by (2 ^ 64) (length word) (digits_value 10 word) r
    (parse_digits (numerals_by_value _ tells_all_ascii_digits) 64 word r h (sym (digits_alone word) ∙ e)))
