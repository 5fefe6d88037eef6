use Rattle.std.proofs.Common.{[], List, sym, ◌∙◌, subst}
use Rattle.std.specs.List.{AllByRecursion}
use Rattle.lsm_levels.specs.Tables.{Table, IsRun}
use Rattle.lsm_levels.specs.Pick.{Merge, is_bottom}
use Rattle.lsm_levels.specs.Held.{HasItsTables, IsWithin}
use Rattle.test_levels.proofs.Outputs.{one_output}
use Rattle.test_levels.proofs.levels.rewriting.rewrite.Goals as goal

pub replace-requires : goal.replace-requires
replace-requires c =
    let levels = c.args.levels.now in
    let above = c.in-Some.above in
    let tables = c.in-Some.tables.items in
    let new = c.in-Ok.outputs.items in
    record {
      merge = (
        is_bottom levels (Merge above [] tables),
        subst (λ (ts : List Table). HasItsTables levels (is_bottom levels (Merge above [] tables)) above [] ts) (sym c.deref-2.ensures.value) c.in-Some.ensures,
        subst (λ (ts : List Table). IsRun new × AllByRecursion (IsWithin ts) new) (c.deref.ensures.value ∙ sym c.deref-2.ensures.value)
            (one_output c.deref.result.now new c.old-item.result c.args.table c.lies_within.result c.in-len1.len_at_least c.old-item.is c.lies_within.ensures c.if-not-lies_within.false c.in-Ok.ensures),
      );
    }
