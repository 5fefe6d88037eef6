use Rattle.std.proofs.Common.{rules}
use Rattle.std.proofs.lemmas.Result.{err_from_is_err_and}
use Rattle.lsm_check.specs.Images.{IsCheckRefusal}
use Rattle.lsmctl.proofs.RefusedLaws.{file_unchecked, refused_wider, told_as}
use Rattle.lsmctl.proofs.calls.check.Goals as goal

pub returns-in-Ok-clause-gives : goal.returns-in-Ok-clause-gives
returns-in-Ok-clause-gives g c = record {
  file = c.in_ok-device.device;
  after = _;
  unused = search rules;
  checks = c.in-Ok.ensures.gives;
  hands = search rules;
}

pub returns-in_err-device-clause-refused : goal.returns-in_err-device-clause-refused
returns-in_err-device-clause-refused g c =
    let p = err_from_is_err_and c.from_residual.result c.from_residual.ensures.1 in
    rw (p.1, p.2) (refused_wider _ IsCheckRefusal _ file_unchecked c.in_err-device.ensures.refused)

pub returns-in-Err-clause-refused : goal.returns-in-Err-clause-refused
returns-in-Err-clause-refused g c = told_as IsCheckRefusal _ _ c.failed.ensures c.in-Err.ensures.refused
