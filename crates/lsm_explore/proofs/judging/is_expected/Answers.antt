use Rattle.std.proofs.Common.{subst}
use Rattle.lsm_device.specs.Medium.{Medium}
use Rattle.lsm_image.specs.Media.{medium_in}
use Rattle.lsm_lives.specs.Leading.{BeginsOn, FailsOn}
use Rattle.lsm_explore.proofs.MayLeave.{opened_found, judged_fairly, judged_right}
use Rattle.lsm_explore.proofs.judging.is_expected.Goals as goal

pub has_expected-requires : goal.has_expected-requires
has_expected-requires g c =
    let may = c.requires.may in
    record { found = (may.0, may.1, may.2, opened_found 0 may.0 may.1 c.args.left.now may.3 c.in-Ok.store (subst (λ (m : Medium). BeginsOn m c.in-Ok.store) c.in_ok-device.ensures c.in-Ok.ensures)) }

pub returns-clause-right : goal.returns-clause-right
returns-clause-right g c =
    let may = c.requires.may in
    let after = medium_in c.in-Err.field-0-1 in
    let fails = subst (λ (m : Medium). FailsOn m c.in-Err.refusal after) c.in_ok-device.ensures c.in-Err.ensures in
    judged_right c.in-Err.refusal c.in_ok-right-in-Err.right (judged_fairly 0 may.0 may.1 c.args.left.now may.3 c.in-Err.refusal after fails) c.in_ok-right-in-Err.ensures.wanting
