use Rattle.std.proofs.Common.{◌≤◌, ◌+◌, arith, length-take-le}
use Rattle.lsm_device.proofs.Kept.{fits_all}
use Rattle.lsm_mapped.proofs.Appending.{grown_in, head-within}
use Rattle.lsm_mapped.proofs.journal.Journal.grow.Goals as goal

pub lay_more-requires-clause-head : goal.lay_more-requires-clause-head
lay_more-requires-clause-head c =
    let j = c.args.self.now in
    omega (arith, head-within _ j.head j.first j.count j.wrote c.requires.fills.laid c.requires.goes_on.0, length-take-le j.used c.args.bytes.now c.requires.fills.within)

pub returns-clause-fills : goal.returns-clause-fills
returns-clause-fills c =
    let j = c.args.self.now in
    let inside : j.head + 8 ≤ j.used = omega (arith, head-within _ j.head j.first j.count j.wrote c.requires.fills.laid c.requires.goes_on.0, length-take-le j.used c.args.bytes.now c.requires.fills.within) in
    record {
      within = omega arith;
      laid = (grown_in c.args.bytes.now c.args.sector.now c.lay_more.new.bytes j.used j.head j.first j.count _ j.wrote c.requires.fills.within c.requires.fills.laid c.requires.goes_on.0 c.requires.goes_on.1 inside
          (record { size = c.told-sector; fits = fits_all c.args.sector.now c.fits-sector }) c.requires.wrote (omega arith) c.lay_more.ensures).1;
    }

pub returns-clause-written : goal.returns-clause-written
returns-clause-written c _ =
    let j = c.args.self.now in
    let inside : j.head + 8 ≤ j.used = omega (arith, head-within _ j.head j.first j.count j.wrote c.requires.fills.laid c.requires.goes_on.0, length-take-le j.used c.args.bytes.now c.requires.fills.within) in
    (grown_in c.args.bytes.now c.args.sector.now c.lay_more.new.bytes j.used j.head j.first j.count _ j.wrote c.requires.fills.within c.requires.fills.laid c.requires.goes_on.0 c.requires.goes_on.1 inside
    (record { size = c.told-sector; fits = fits_all c.args.sector.now c.fits-sector }) c.requires.wrote (omega arith) c.lay_more.ensures).0
