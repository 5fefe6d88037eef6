-- The input of a merge, and what is kept of it.
use Rattle.std.specs.Prelude.{◌≡◌, ℕ, ◌≤◌, Bool, true, ◌&&◌, ltb, map, List, [], ◌∷◌, length}
use Rattle.std.specs.List.{AllByRecursion}
use Rattle.std.specs.declared.vec.Vec.{Vec}
use Rattle.lsm_codec.specs.Versions.{Version, AreOrdered}
use Rattle.lsm_mem.specs.Versions.{joined}
use Rattle.lsm_merge.specs.Keeping.{keep}

-- runs, the newer first; the counts at which the map is kept; and whether nothing older is below
pub record MergeInput : Type 0 where
  pub runs : List (List Version)
  pub cuts : List ℕ
  pub bottom : Bool

-- each run is in the order of entries, with no key and number twice
abbrev pub AreRuns : List (List Version) → Type 0
AreRuns runs = AllByRecursion AreOrdered runs

-- the lists that vectors hold
abbrev pub items_of : {X Z : Type 0} → List (Vec X Z) → List (List X)
items_of vectors = map (λ v. v.items) vectors

-- whether a count is below the first of these
abbrev pub is_below_first : ℕ → List ℕ → Bool
is_below_first n [] = true
is_below_first n (m ∷ rest) = ltb n m

-- whether each count is below the next
abbrev pub is_ascending : List ℕ → Bool
is_ascending [] = true
is_ascending (n ∷ rest) = is_below_first n rest && is_ascending rest

-- 1 to 33 counts, ascending
pub record IsCuts (cuts : List ℕ) : Type 0 where
  pub some : 1 ≤ length cuts
  pub at_most : length cuts ≤ 33
  pub ascending : is_ascending cuts ≡ true

-- the conditions of an input, which its type keeps
pub record IsMergeInput (input : MergeInput) : Type 0 where
  pub runs : AreRuns input.runs
  pub cuts : IsCuts input.cuts

-- what is kept of an input
abbrev pub kept_of : MergeInput → List Version
kept_of input = keep input.cuts input.bottom (joined input.runs)
