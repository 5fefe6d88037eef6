-- The order of versions: of one key the newer place has the greater number.
use Rattle.std.specs.Prelude.{◌≡◌, ◌<◌, List, [], ◌∷◌}
use Rattle.std.specs.List.{AllByRecursion}
use Rattle.lsm_codec.specs.Versions.{Version}

-- each version in the newer place has a greater number than each of its key in the older
abbrev pub IsNewerPlace : List Version → List Version → Type 0
IsNewerPlace newer older = AllByRecursion (λ v. AllByRecursion (λ w. v.key ≡ w.key → w.number < v.number) older) newer

-- the places, the newest first, are in the order of versions
abbrev pub IsVersionOrder : List (List Version) → Type 0
IsVersionOrder [] = Unit {0}
IsVersionOrder (place ∷ older) = AllByRecursion (IsNewerPlace place) older × IsVersionOrder older
