use Rattle.std.proofs.Common.{◌-◌, length, arith}
use Rattle.lsm_levels.proofs.RunHulls.{hull_by_ends}
use Rattle.lsm_levels.proofs.slices.ends.Goals as goal

pub returns-in-len2-up : goal.returns-in-len2-up
returns-in-len2-up g c = rw (c.first-in-len2-up.ensures, c.last-in-len2-up.ensures) (hull_by_ends c.args.run.now c.least-item.result c.greatest-item.result (length c.args.run.now - 1) c.requires (omega (arith, c.in-len2-up.len_at_least)) c.least-item.is c.greatest-item.is)
