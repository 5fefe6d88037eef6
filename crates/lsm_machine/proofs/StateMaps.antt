-- The counts and the present map of a state that versions have the maps of.
use Rattle.std.proofs.Common.{◌≡◌, ℕ, suc, ◌-◌, List, [], ap, ◌∙◌, arith}
use Rattle.lsm_codec.specs.Map.{Map}
use Rattle.lsm_codec.specs.Versions.{Version}
use Rattle.lsm_mem.specs.Versions.{map_of}
use Rattle.lsm_machine.specs.RecoveryPoints.{RecoveryPoints, batch_count, present_map}
use Rattle.lsm_machine.specs.State.{State}
use Rattle.lsm_machine.specs.StateMaps.{maps_from, points_of, HaveMaps}
use Rattle.lsm_machine.proofs.Remembering.{batch_count-points_of, present_map-points_of}

module _ (vs : List Version) (s : State) (d : HaveMaps vs s) where
  pub count_is : batch_count s.points ≡ d.count
  count_is = ap batch_count d.points ∙ batch_count-points_of vs d.count d.synced d.within

  pub synced_is : s.points.synced ≡ d.synced
  synced_is = ap (λ (p : RecoveryPoints). p.synced) d.points

  pub present_is : present_map s.points ≡ map_of vs d.count
  present_is = ap present_map d.points ∙ present_map-points_of vs d.count d.synced d.within

-- ---- a store that was just opened

abbrev pub alone : ℕ → Map → RecoveryPoints
alone c x = record { synced = c; first = x; later = [] }

pub points_alone : (vs : List Version) (c : ℕ) → points_of vs c c ≡ alone c (map_of vs c)
points_alone vs c =
    let none : c - c ≡ 0 = omega arith in
    ap (λ (n : ℕ). let x : RecoveryPoints = record { synced = c; first = map_of vs c; later = maps_from vs (suc c) n } in x) none
