use Rattle.std.proofs.Common.{Ok, Err, refl}
use Rattle.corwaphi_c.proofs.Openings.{formats, formats_so}
use Rattle.corwaphi_c.proofs.making.format_on.Goals as goal

pub returns-in-Ok : goal.returns-in-Ok
returns-in-Ok g c =
    let e = c.format.ensures in
    formats_so g.D.Device.medium c.args.log_sectors c.args.device c.format.result (Ok c.in-Ok.device) 0 c.in-Ok.is refl
    (formats g.D.Device.medium c.args.log_sectors c.args.device c.format.result e.formatted e.leaves e.bad_geometry e.untouched e.refused e.counts e.made e.stops e.same_size e.same_lasting)

pub returns-in-Err : goal.returns-in-Err
returns-in-Err g c =
    let e = c.format.ensures in
    formats_so g.D.Device.medium c.args.log_sectors c.args.device c.format.result (Err (c.in-Err.refusal, c.in-Err.device)) c.code.result c.in-Err.is c.code.ensures
    (formats g.D.Device.medium c.args.log_sectors c.args.device c.format.result e.formatted e.leaves e.bad_geometry e.untouched e.refused e.counts e.made e.stops e.same_size e.same_lasting)
