-- When versions have the maps of a state.
use Rattle.std.specs.Prelude.{◌≡◌, ◌≤◌, ℕ, zero, suc, ◌-◌, List, [], ◌∷◌}
use Rattle.lsm_codec.specs.Map.{Map}
use Rattle.lsm_codec.specs.Versions.{Version}
use Rattle.lsm_mem.specs.Versions.{map_of}
use Rattle.lsm_levels.specs.Among.{IsAmong}
use Rattle.lsm_machine.specs.RecoveryPoints.{RecoveryPoints}
use Rattle.lsm_machine.specs.State.{State, LiveSnapshot}

-- the maps at n counts, from one on
abbrev pub maps_from : List Version → ℕ → ℕ → List Map
maps_from versions from zero = []
maps_from versions from (suc more) = map_of versions from ∷ maps_from versions (suc from) more

-- the recovery points of `count` batches, of which `synced` are synced
abbrev pub points_of : List Version → ℕ → ℕ → RecoveryPoints
points_of versions count synced = record { synced = synced; first = map_of versions synced; later = maps_from versions (suc synced) (count - synced) }

-- The versions have the maps of the state: those of its recovery points and of its live snapshots.
pub record HaveMaps (versions : List Version) (s : State) : Type 0 where
  pub count : ℕ
  pub synced : ℕ
  pub within : synced ≤ count
  pub points : s.points ≡ points_of versions count synced
  pub snapshots : (snapshot : LiveSnapshot) → IsAmong snapshot s.snapshots → (snapshot.point.count ≤ count) × (snapshot.point.map ≡ map_of versions snapshot.point.count)
