use Rattle.std.proofs.Common.{◌≡◌, ◌≤◌, ◌∷◌, ◌++◌, map, drop, length}
use Rattle.std.specs.FinMap as finite
use Rattle.lsm_codec.specs.Map.{Map}
use Rattle.lsm_machine.specs.Promise.{maps_after}
use Rattle.lsm_explore.specs.Plain.{AreRows, rows_of}
use Rattle.lsm_explore.proofs.expected.maps_after.Given as goal

-- the rows are those of a map, and the maps so far with it and those after the batches that are left are all
abbrev pub invariant-loop-batch : goal.invariant-loop-batch
invariant-loop-batch g l = record {
  within : l.batch-index ≤ length l.batches;
  leads : (m : Map) → AreRows l.fn.first.items m → (now : Map) × AreRows l.rows.items now
      × (map (λ rows. rows_of rows.items) l.maps.items ++ map finite.entries (now ∷ maps_after now (map (λ batch. batch.now) (drop l.batch-index l.batches)))
      ≡ map finite.entries (m ∷ maps_after m (map (λ batch. batch.now) l.batches)));
}
