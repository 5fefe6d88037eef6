use Rattle.std.proofs.Common.{ap, sym, subst, ◌∙◌, List}
use Rattle.lsm_codec.specs.Keys.{Bytes}
use Rattle.lsm_codec.specs.Map.{Operation, apply, changed}
use Rattle.lsm_codec.specs.References.{shown_operation}
use Rattle.lsm_mem.specs.declared.rows.RowRef.{RowRef}
use Rattle.lsm_explore.specs.Plain.{AreRows, rows_of, with_row}
use Rattle.lsm_explore.proofs.PlainRows.{entries-changed}
use Rattle.lsm_explore.proofs.plain.applied.Goals as goal

pub loop-operation-init : goal.loop-operation-init
loop-operation-init g c = record {
  can = tt;
  finite = tt;
  leads = λ m rows. (m, subst (λ (l : List RowRef). AreRows l m) (sym c.in_ok-after.ensures.items) rows, ap (apply m) c.into_iter-operation-iterator.ensures.into_iter_gives);
}

pub loop-operation-preserved : goal.loop-operation-preserved
loop-operation-preserved g c =
    let operation : Operation = shown_operation c.in-Some.operation in
    record {
      can = tt;
      finite = tt;
      leads = λ m rows.
          let before = c.loop-operation.invariant.leads m rows in (
            changed before.0 operation.key operation.value,
            c.in_ok-after-2.ensures ∙ ap (λ (l : List RowRef). with_row (rows_of l) operation.key operation.value) c.deref.ensures.value
                ∙ ap (λ (l : List (Bytes × Bytes)). with_row l operation.key operation.value) before.1 ∙ sym (entries-changed before.0 operation.key operation.value),
            ap (λ (l : List Operation). apply before.0 l) (sym c.in-Some.ensures.steps) ∙ before.2,
          );
    }
