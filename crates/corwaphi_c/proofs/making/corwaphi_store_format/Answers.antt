use Rattle.corwaphi_c.proofs.Openings.{formats_here}
use Rattle.corwaphi_c.proofs.making.corwaphi_store_format.Goals as goal

pub returns : goal.returns
returns g c = formats_here c.args.sectors c.args.log_sectors _ _ c.used.result g.past _ c.format_mapped-answer.new.device _ c.format_mapped-answer.ensures c.new-device.ensures.medium c.used.ensures.filled c.journal-1.given.1.1
