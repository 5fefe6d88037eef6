-- The words of a line.
use Rattle.std.specs.Prelude.{◌≡◌, ◌⊎◌, ℕ, ◌==◌, List, [], ◌∷◌, ◌++◌, length, Option, Some, None, option_and_then, Result, MatchResult, if◌then◌else◌}
use Rattle.std.specs.List.{slice_split, position_or_len, before_first, after_first}
use Rattle.lsm_language.specs.declared.words.Unread.{Unread}
use Rattle.lsm_language.specs.declared.words.Unread.TheVariants.{Malformed, NoMemory}

-- the words of a line: one space stands between a word and the next
abbrev pub words_in : List ℕ → List (List ℕ)
words_in line = slice_split (λ b. b == 32) line

-- what follows a letter that a word begins with
abbrev pub after : ℕ → List ℕ → Option (List ℕ)
after letter [] = None
after letter (b ∷ bs) = if b == letter then Some bs else None

-- the two words around the first `=`
abbrev pub pair_in : List ℕ → Option (List ℕ × List ℕ)
pair_in word = if position_or_len (λ b. b == 61) word == length word then None
    else Some (before_first (λ b. b == 61) word, after_first (λ b. b == 61) word)

-- reads each of a list, after those that were read, unless one of them says nothing
abbrev pub read_all : {X Y : Type 0} → (X → Option Y) → List Y → List X → Option (List Y)
read_all said done [] = Some done
read_all said done (x ∷ xs) = option_and_then (λ y. read_all said (done ++ y ∷ []) xs) (said x)

-- a reading is exact: it gives what the words say, and fails only where they say nothing, or for memory
abbrev pub Reads : {X S : Type 0} → (X → S) → Option S → Result X Unread → Type 0
Reads view said result = MatchResult result (λ x. said ≡ Some (view x)) (λ e. ((e ≡ Malformed) × (said ≡ None)) ⊎ (e ≡ NoMemory))
