use Rattle.std.proofs.Common.{rules, refl}
use Rattle.std.proofs.lemmas.Result.{err_from_is_err_and}
use Rattle.lsm_device.proofs.Counting.{none_made}
use Rattle.lsm_open.proofs.formatting.make_empty.Goals as goal

pub returns-in_err-root-clause-untouched : goal.returns-in_err-root-clause-untouched
returns-in_err-root-clause-untouched g c =
    let p = err_from_is_err_and c.from_residual.result c.from_residual.ensures.1 in
    rw (p.1, p.2) (λ none. refl)

pub returns-in_err-root-clause-counts : goal.returns-in_err-root-clause-counts
returns-in_err-root-clause-counts g c = none_made 0 _ 3 _

pub returns-in_err-root-clause-faults : goal.returns-in_err-root-clause-faults
returns-in_err-root-clause-faults g c =
    let p = err_from_is_err_and c.from_residual.result c.from_residual.ensures.1 in
    rw (p.1, p.2) (rw c.in_err-root.ensures.refused refl)

pub returns-in_err-write_empty-clause-counts : goal.returns-in_err-write_empty-clause-counts
returns-in_err-write_empty-clause-counts g c = c.write_empty.ensures.counts

pub returns-in_err-write_empty-clause-faults : goal.returns-in_err-write_empty-clause-faults
returns-in_err-write_empty-clause-faults g c = search rules

pub returns-clause-counts : goal.returns-clause-counts
returns-clause-counts g c = c.write_empty.ensures.counts

pub returns-clause-made : goal.returns-clause-made
returns-clause-made g c = c.in_ok-write_empty.ensures.made

pub returns-clause-faults : goal.returns-clause-faults
returns-clause-faults g c = c.in_ok-write_empty.ensures.faults
