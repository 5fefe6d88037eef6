use Rattle.std.proofs.Common.{subst}
use Rattle.corwaphi_c.proofs.Openings.{OpensSo, opens, refused_so}
use Rattle.corwaphi_c.proofs.making.open_on.Goals as goal

pub returns-in-Ok : goal.returns-in-Ok
returns-in-Ok g c =
    let e = c.open.ensures in
    subst (OpensSo g.D.Device.medium c.args.cache c.args.device) c.in-Ok.is
    (opens g.D.Device.medium c.args.cache c.args.device c.open.result e.cache e.size e.refusal e.refused e.called e.reopens e.blocks e.opens e.fails e.faults e.same_size e.same_lasting)

pub returns-in-Err : goal.returns-in-Err
returns-in-Err g c =
    let e = c.open.ensures in
    refused_so c.args.cache _ c.code.result _ _ c.code.ensures
    (subst (OpensSo g.D.Device.medium c.args.cache c.args.device) c.in-Err.is
    (opens g.D.Device.medium c.args.cache c.args.device c.open.result e.cache e.size e.refusal e.refused e.called e.reopens e.blocks e.opens e.fails e.faults e.same_size e.same_lasting))
