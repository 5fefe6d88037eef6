use Rattle.std.proofs.Common.{◌≡◌, map, take}
use Rattle.std.specs.Arc.{arc_value}
use Rattle.std.specs.List.{AllByRecursion}
use Rattle.lsm_codec.specs.Places.{version_at, IsPlaceIn}
use Rattle.lsm_codec.proofs.gathered.Gathered.into_entries.Given as goal

abbrev pub invariant-loop-place : goal.invariant-loop-place
invariant-loop-place g l = (l.entries.items ≡ map (version_at (arc_value l.bytes).items) (take l.place-index l.place-items)) × AllByRecursion (IsPlaceIn (arc_value l.bytes).items) l.place-items × (map (version_at (arc_value l.bytes).items) l.place-items ≡ l.fn.self)
