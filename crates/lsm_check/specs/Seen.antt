-- What a check keeps of the tables that it has seen.
use Rattle.std.specs.Prelude.{◌≡◌, ◌≤◌, ◌⊎◌, ℕ, List, [], ◌∷◌, length, map, min, Option, Some, None}
use Rattle.std.specs.List.{AllByRecursion}
use Rattle.std.specs.BTreeMap.{is_at}
use Rattle.std.specs.Map.{lookup}
use Rattle.std.specs.declared.vec.Vec.{Vec}
use Rattle.lsm_codec.specs.Keys.{Bytes, byte_order}
use Rattle.lsm_codec.specs.Versions.{Version}

-- keys, each with a number
abbrev pub Numbers : Type 0
Numbers = List (Bytes × ℕ)

-- what a map shows of its entries
abbrev pub plain : {Z : Type 0} → List (Vec ℕ Z × ℕ) → Numbers
plain entries = map (λ entry. (entry.0.items, entry.1)) entries

-- the number of a key, if it has one
abbrev pub number_of : Bytes → Numbers → Option ℕ
number_of key numbers = lookup (is_at (byte_order key)) numbers

-- the lesser of a number and another, if there is one
abbrev pub least_with : ℕ → Option ℕ → ℕ
least_with n None = n
least_with n (Some m) = min n m

-- the key of a version has a number that is no greater than the version's
abbrev pub IsCovered : Numbers → Version → Type 0
IsCovered numbers v = (n : ℕ) × (number_of v.key numbers ≡ Some n) × (n ≤ v.number)

-- one of these versions is of this key and number
abbrev pub HasVersion : Bytes → ℕ → List Version → Type 0
HasVersion key n [] = ⊥
HasVersion key n (v ∷ rest) = ((v.key ≡ key) × (v.number ≡ n)) ⊎ HasVersion key n rest

-- Each key of the versions has the least number of them, and no other key has one.
pub record AreLeast (numbers : Numbers) (versions : List Version) : Type 0 where
  pub covered : AllByRecursion (IsCovered numbers) versions
  pub had : (key : Bytes) (n : ℕ) → number_of key numbers ≡ Some n → HasVersion key n versions

-- What is kept of tables: of each key the least number of its versions, and how many versions there are.
pub record SeenView : Type 0 where
  pub least : Numbers
  pub entries : ℕ

-- It is kept of these versions.
pub record IsSeen (versions : List Version) (s : SeenView) : Type 0 where
  pub least : AreLeast s.least versions
  pub entries : s.entries ≡ length versions
