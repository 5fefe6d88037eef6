use Rattle.test_lives.proofs.checks.whole.check_after_lives.Goals as goal

pub returns-in-Ok : goal.returns-in-Ok
returns-in-Ok g c = λ log before opened is leaves.
    let keeps = c.in-Ok.ensures.promise log before opened is leaves in
    c.checked.ensures log keeps.left keeps.device
