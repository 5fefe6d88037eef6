use Rattle.std.proofs.Common.{arith, sym, take}
use Rattle.lsm_extent.proofs.Searching.{end_of-got, end_within}
use Rattle.lsm_extent.proofs.gaps.end_before.Goals as goal

pub returns-in-Some : goal.returns-in-Some
returns-in-Some c = sym (end_of-got 0 c.in-Some.extent.now (take c.args.place c.args.held.now) (sym c.in-Some.ensures.value))

pub overflow_add-result : goal.overflow_add-result
overflow_add-result c = omega (arith, returns-in-Some c, end_within c.args.area c.args.place c.args.held.now c.requires.laid)
