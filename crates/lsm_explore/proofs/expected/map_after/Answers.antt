use Rattle.std.proofs.Common.{List, map, refl, ap, sym, subst, ◌∙◌, arith}
use Rattle.std.specs.FinMap as finite
use Rattle.lsm_codec.specs.Map.{Map, Operation, apply, apply_all}
use Rattle.lsm_mem.specs.declared.rows.RowRef.{RowRef}
use Rattle.lsm_explore.specs.Plain.{AreRows, rows_of}
use Rattle.lsm_explore.proofs.PlainMaps.{entries_empty, leads_on, led_all}
use Rattle.lsm_explore.proofs.expected.map_after.Goals as goal

pub loop-batch-init : goal.loop-batch-init
loop-batch-init g c = record { within = omega arith; leads = (finite.empty, ap rows_of c.new-rows.ensures.items ∙ sym entries_empty, refl) }

pub loop-batch-preserved : goal.loop-batch-preserved
loop-batch-preserved g c =
    let before = c.loop-batch.invariant.leads in
    let batch = c.batch-item.result in
    let last = apply_all finite.empty (map (λ batch. batch.now) c.args.batches.now) in
    let rows = c.in_ok-rows.ensures before.0 (subst (λ (l : List RowRef). AreRows l before.0) (sym c.deref.ensures.value) before.1) in
    record {
      within = omega (arith, c.loop-batch-test.true);
      leads = (
        apply before.0 batch.now,
        subst (λ (o : List Operation). AreRows c.in_ok-rows.rows.items (apply before.0 o)) c.operations.ensures.same rows,
        leads_on c.args.batches.now (λ b. b.now) c.loop-batch.batch-index batch c.loop-batch-test.true (sym c.batch-item.is) before.0 last before.2,
      );
    }

pub returns : goal.returns
returns g c =
    let done = c.loop-batch.invariant.leads in
    let last = apply_all finite.empty (map (λ batch. batch.now) c.args.batches.now) in
    subst (λ (m : Map). AreRows c.loop-batch.rows.items m) (led_all c.args.batches.now (λ b. b.now) c.loop-batch.batch-index (omega arith) done.0 last done.2) done.1
