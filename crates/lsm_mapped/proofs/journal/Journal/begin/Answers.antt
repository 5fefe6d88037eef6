use Rattle.std.proofs.Common.{arith}
use Rattle.lsm_device.proofs.Kept.{fits_all}
use Rattle.lsm_mapped.proofs.Appending.{one_pushed}
use Rattle.lsm_mapped.proofs.journal.Journal.begin.Goals as goal

pub returns-clause-fills : goal.returns-clause-fills
returns-clause-fills c =
    let j = c.args.self.now in
    record {
      within = omega arith;
      laid = (one_pushed c.args.bytes.now c.args.sector.now c.lay.new.bytes j.used j.head j.first j.count c.args.at _ j.wrote c.requires.fills.within c.requires.fills.laid (omega arith)
          (record { size = c.told-sector; fits = fits_all c.args.sector.now c.fits-sector }) c.requires.wrote (omega arith) c.lay.ensures).1;
    }

pub returns-clause-written : goal.returns-clause-written
returns-clause-written c _ =
    let j = c.args.self.now in
    (one_pushed c.args.bytes.now c.args.sector.now c.lay.new.bytes j.used j.head j.first j.count c.args.at _ j.wrote c.requires.fills.within c.requires.fills.laid (omega arith)
    (record { size = c.told-sector; fits = fits_all c.args.sector.now c.fits-sector }) c.requires.wrote (omega arith) c.lay.ensures).0
