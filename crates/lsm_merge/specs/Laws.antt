-- What a merge keeps, in terms of the maps that versions stand for.
use Rattle.std.specs.Prelude.{◌≡◌, ◌⊎◌, ℕ, Bool, true, false, List, All, Contains}
use Rattle.lsm_codec.specs.Keys.{Bytes}
use Rattle.lsm_codec.specs.Versions.{Version, newest, AreOrdered}
use Rattle.lsm_mem.specs.Versions.{value_at, map_of, NumberedAtMost}
use Rattle.lsm_merge.specs.Keeping.{keep, is_newest_at_a_cut, deletes_nothing}

-- A count at which a merge keeps the map: a cut, or one that no version is above, where none is above some cut either.
pub record IsKeptAt (cuts : List ℕ) (versions : List Version) (n : ℕ) : Type 0 where
  pub cut : ℕ
  pub is_cut : Contains cuts cut
  pub at : (n ≡ cut) ⊎ (NumberedAtMost n versions × NumberedAtMost cut versions)

-- at a count these versions stand for the same map
pub record HaveSameMap (n : ℕ) (versions kept : List Version) : Type 0 where
  pub values : (key : Bytes) → value_at kept n key ≡ value_at versions n key
  pub maps : map_of kept n ≡ map_of versions n

-- A merge keeps the map of the versions alone at each such count, and without the bottom flag each newest version, a delete
-- too. What it keeps is in the order of entries and among the versions; each is the newest at a cut; and at the bottom is no
-- delete without an older put of its key.
pub record KeepsMaps (cuts : List ℕ) (versions : List Version) : Type 0 where
  pub same_map : (bottom : Bool) (n : ℕ) → IsKeptAt cuts versions n → HaveSameMap n versions (keep cuts bottom versions)
  pub same_newest : (n : ℕ) → IsKeptAt cuts versions n → (key : Bytes) → newest key n (keep cuts false versions) ≡ newest key n versions
  pub ordered : (bottom : Bool) → AreOrdered (keep cuts bottom versions)
  pub among : (bottom : Bool) → All (Contains versions) (keep cuts bottom versions)
  pub asked_for : (bottom : Bool) → All (λ v. is_newest_at_a_cut cuts versions v ≡ true) (keep cuts bottom versions)
  pub no_idle_delete : All (λ v. deletes_nothing (keep cuts true versions) v ≡ false) (keep cuts true versions)

abbrev pub KeepLaw : Type 0
KeepLaw = (cuts : List ℕ) (versions : List Version) → KeepsMaps cuts versions
