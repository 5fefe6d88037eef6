use Rattle.std.proofs.Common.{◌≡◌, ◌≤◌, map, drop, length}
use Rattle.std.specs.FinMap as finite
use Rattle.lsm_codec.specs.Map.{Map, apply_all}
use Rattle.lsm_explore.specs.Plain.{AreRows}
use Rattle.lsm_explore.proofs.expected.map_after.Given as goal

-- the rows are those of a map, from which the batches that are left lead to the map at the end
abbrev pub invariant-loop-batch : goal.invariant-loop-batch
invariant-loop-batch g l = record {
  within : l.batch-index ≤ length l.batches;
  leads : (now : Map) × AreRows l.rows.items now × (apply_all now (map (λ batch. batch.now) (drop l.batch-index l.batches)) ≡ apply_all finite.empty (map (λ batch. batch.now) l.batches));
}
