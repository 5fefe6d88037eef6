use Rattle.std.proofs.Common.{◌≤◌, List, length, ap, arith}
use Rattle.std.proofs.lemmas.List.{length-append}
use Rattle.lsm_levels.specs.Tables.{Table}
use Rattle.lsm_jobs.proofs.Numbers.{all_added}
use Rattle.lsm_jobs.proofs.merge.MergeTables.new.Goals as goal

pub invariant_of-result : goal.invariant_of-result
invariant_of-result g c =
    let upper = c.args.upper in
    let some : c.len-uppers.result ≤ length c.add_handles.new.handles.items =
    omega (arith, c.len-uppers.ensures, upper.ok.0, ap (λ (ts : List Table). length ts) c.in_ok-add_handles.ensures, length-append upper.items c.args.lower.now) in
    (some, all_added c.new-numbers.result c.add_numbers.new.numbers c.add_handles.new.handles.items c.deref.result.now c.new-numbers.ensures.empty c.deref.ensures.value c.in_ok-add_numbers.ensures)
