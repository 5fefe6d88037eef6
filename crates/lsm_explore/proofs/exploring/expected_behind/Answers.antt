use Rattle.std.proofs.Common.{List, map, subst}
use Rattle.lsm_lives.specs.Asked.{Told}
use Rattle.lsm_lives.specs.Calls.{asked_of}
use Rattle.lsm_explore.specs.Expected.{AreExpected, batches_in, least_in}
use Rattle.lsm_explore.proofs.Explorations.{behind_first}
use Rattle.lsm_explore.proofs.exploring.expected_behind.Goals as goal

pub returns : goal.returns
returns g c =
    let asked = map asked_of c.args.steps.now in
    subst (λ (told : List Told). AreExpected (least_in asked told) (batches_in asked told) c.in_ok-expected.expected) (behind_first c.args.replies.now) c.in_ok-expected.ensures
