use Rattle.std.proofs.Common.{List, [], ◌∷◌, ◌++◌, map, ap, sym, subst, ◌∙◌, arith}
use Rattle.std.proofs.lemmas.List.{map_push}
use Rattle.std.specs.FinMap as finite
use Rattle.lsm_codec.specs.Keys.{Bytes}
use Rattle.lsm_codec.specs.Map.{Operation, apply}
use Rattle.lsm_machine.specs.Promise.{maps_after}
use Rattle.lsm_mem.specs.declared.rows.RowRef.{RowRef}
use Rattle.lsm_explore.specs.Plain.{AreRows, rows_of}
use Rattle.lsm_explore.proofs.PlainMaps.{told_all, told_on}
use Rattle.lsm_explore.proofs.expected.maps_after.Goals as goal

pub loop-batch-init : goal.loop-batch-init
loop-batch-init g c = record {
  within = omega arith;
  leads = λ m rows. (m, rows, ap (λ l. map (λ rows. rows_of rows.items) l ++ map finite.entries (m ∷ maps_after m (map (λ batch. batch.now) c.args.batches.now))) c.new-maps.ensures.items);
}

pub loop-batch-preserved : goal.loop-batch-preserved
loop-batch-preserved g c = record {
  within = omega (arith, c.loop-batch-test.true);
  leads = λ m first.
      let before = c.loop-batch.invariant.leads m first in
      let batch = c.batch-item.result in
      let told : List (List (Bytes × Bytes)) = map (λ rows. rows_of rows.items) c.loop-batch.maps.items in
      let more : List (List (Bytes × Bytes)) = map (λ rows. rows_of rows.items) c.push.new.self.items in
      let rows = c.in_ok-next.ensures before.0 (subst (λ (l : List RowRef). AreRows l before.0) (sym c.deref.ensures.value) before.1) in (
        apply before.0 batch.now,
        subst (λ (o : List Operation). AreRows c.in_ok-next.next.items (apply before.0 o)) c.operations.ensures.same rows,
        told_on c.args.batches.now (λ b. b.now) c.loop-batch.batch-index batch c.loop-batch-test.true (sym c.batch-item.is) before.0 told more (map finite.entries (m ∷ maps_after m (map (λ batch. batch.now) c.args.batches.now)))
            (ap (map (λ rows. rows_of rows.items)) c.in_ok-push.ensures.items ∙ map_push (λ rows. rows_of rows.items) c.loop-batch.maps.items c.loop-batch.rows ∙ ap (λ (l : List (Bytes × Bytes)). told ++ l ∷ []) before.1) before.2,
      );
}

pub returns : goal.returns
returns g c = λ m first.
    let done = c.loop-batch.invariant.leads m first in
    let told : List (List (Bytes × Bytes)) = map (λ rows. rows_of rows.items) c.loop-batch.maps.items in
    told_all c.args.batches.now (λ b. b.now) c.loop-batch.batch-index (omega arith) done.0 told (map (λ rows. rows_of rows.items) c.push-2.new.self.items) (map finite.entries (m ∷ maps_after m (map (λ batch. batch.now) c.args.batches.now)))
    (ap (map (λ rows. rows_of rows.items)) c.in_ok-push-2.ensures.items ∙ map_push (λ rows. rows_of rows.items) c.loop-batch.maps.items c.loop-batch.rows ∙ ap (λ (l : List (Bytes × Bytes)). told ++ l ∷ []) done.1) done.2
