use Rattle.corwaphi_c.proofs.Openings.{kept_here, refused_here}
use Rattle.corwaphi_c.proofs.making.open_kept.Goals as goal

pub returns-in-Ok-opened : goal.returns-in-Ok-opened
returns-in-Ok-opened g c = kept_here c.args.sectors c.args.cache _ c.used.result g.past _ c.open_mapped-opened.new.device _ _ c.in-Ok-opened.ensures c.new-device.ensures.medium c.used.ensures.filled c.journal-1.given.1.1

pub returns-in-Err-opened : goal.returns-in-Err-opened
returns-in-Err-opened g c = refused_here c.args.sectors c.args.cache c.in-Err-opened.answer _ c.used.result g.past _ c.open_mapped-opened.new.device _ c.in-Err-opened.ensures c.new-device.ensures.medium c.used.ensures.filled c.journal-1.given.1.1
