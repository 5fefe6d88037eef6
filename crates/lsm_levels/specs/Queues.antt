-- A queue of sources.
use Rattle.std.specs.Prelude.{◌≡◌, ◌≢◌, ◌∷◌, ◌++◌, [], ℕ, Bool, true, is_some, List, Option, Some, None}
use Rattle.std.specs.List.{AllByRecursion}
use Rattle.lsm_codec.specs.Versions.{Version}
use Rattle.lsm_levels.specs.Among.{IsAmong}
use Rattle.lsm_levels.specs.Sources.{head_at, comes_before}

-- sources by their places, each before those that stand in front of it
abbrev pub IsQueued : List (Option Version) → List ℕ → Type 0
IsQueued heads [] = Unit {0}
IsQueued heads (j ∷ rest) = AllByRecursion (λ i. comes_before heads i j ≡ true) rest × IsQueued heads rest

-- Of the sources that a test chooses, those that have a version left, the one that comes next last.
pub record IsQueue (heads : List (Option Version)) (is_in : ℕ → Bool) (places : List ℕ) : Type 0 where
  pub order : IsQueued heads places
  pub some : AllByRecursion (λ j. is_some (head_at heads j) ≡ true) places
  pub chosen : AllByRecursion (λ j. is_in j ≡ true) places
  pub has : (j : ℕ) (v : Version) → is_in j ≡ true → head_at heads j ≡ Some v → IsAmong j places

-- a place stands last
pub record EndsIn (i : ℕ) (places : List ℕ) : Type 0 where
  pub others : List ℕ
  pub is : places ≡ others ++ i ∷ []

-- no source has a version left
abbrev pub AreSpent : List (Option Version) → Type 0
AreSpent heads = AllByRecursion (λ head. head ≡ None) heads

-- what comes next of each source but that at one place is as it was
pub record OneGoesOn (i : ℕ) (heads next : List (Option Version)) : Type 0 where
  pub others : (j : ℕ) → j ≢ i → head_at next j ≡ head_at heads j
