-- What tables may be put in the place of others, in versions alone.
use Rattle.std.specs.Prelude.{◌≡◌, ℕ, List, ◌++◌}
use Rattle.std.specs.List.{AllByRecursion}
use Rattle.lsm_codec.specs.Keys.{Bytes}
use Rattle.lsm_codec.specs.Versions.{Version, newest}
use Rattle.lsm_levels.specs.Among.{IsAmong}
use Rattle.lsm_table.specs.Division.{ShareNoKey}

-- at a count these have the same newest versions as those, deletes too
pub record HaveSameNewest (n : ℕ) (those these : List Version) : Type 0 where
  pub found : (key : Bytes) → newest key n these ≡ newest key n those

-- each of these versions is one of all
abbrev pub AreAmong : List Version → List Version → Type 0
AreAmong these all = AllByRecursion (λ v. IsAmong v all) these

-- Versions that a merge may put in the place of its inputs, which lie in an upper place and a lower one with others
-- between: the new ones are among the inputs, and what lies between shares no key with the upper inputs.
pub record MayReplace (upper between lower new : List Version) : Type 0 where
  pub among : AreAmong new (upper ++ lower)
  pub apart : ShareNoKey between upper
