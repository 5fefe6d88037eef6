use Rattle.std.proofs.Common.{subst}
use Rattle.lsm_mapped.specs.Devices.{medium_on}
use Rattle.lsm_mapped.specs.declared.mapped.MappedDevice.{MappedDevice}
use Rattle.corwaphi_c.specs.Making.{OpensOn}
use Rattle.corwaphi_c.proofs.Openings.{kept_on}
use Rattle.corwaphi_c.proofs.making.open_mapped.Goals as goal

pub returns-in-Ok : goal.returns-in-Ok
returns-in-Ok c = subst
    (λ (d : MappedDevice). OpensOn c.args.cache (medium_on d) (medium_on c.park.new.device) c.park.new.self.store)
    c.take.ensures.device
    (kept_on c.args.cache _ _ c.in-Ok.store _ c.in-Ok.ensures c.park.ensures.kept c.park.ensures.device)
