use Rattle.std.proofs.Common.{◌≡◌, List, get_or, sym, ◌∙◌, subst}
use Rattle.lsm_levels.specs.Tables.{Table}
use Rattle.lsm_machine.proofs.SharedLevels.{level_set}
use Rattle.lsm_store.proofs.next_levels.set_levels.Goals as goal

pub loop-below-preserved : goal.loop-below-preserved
loop-below-preserved g c =
    let i = c.loop-below.below in
    let run : List Table = c.in_ok-shared_run.field-0 in
    let run_is : run ≡ c.index-deeper-below.result = c.in_ok-shared_run.ensures ∙ c.tables.ensures.same in
    level_set c.loop-below.levels c.set_level.new.self c.args.levels.now.runs c.args.deeper.now c.args.levels.now.deeper i run c.loop-below.invariant c.set_level.ensures c.loop-below-test.true (c.requires.there ∙ sym c.requires.four)
    (subst (λ (r : List Table). r ≡ get_or c.args.deeper.now i r) (sym run_is) c.index-deeper-below.is)
