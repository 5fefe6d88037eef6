use Rattle.std.proofs.Common.{arith}
use Rattle.lsm_jobs.proofs.Holding.{is_place, put_is}
use Rattle.lsm_jobs.proofs.slots.Slots.put.Goals as goal

pub index_mut-requires : goal.index_mut-requires
index_mut-requires g c =
    omega (arith, is_place c.self.inside.slots.items c.self.inside.next c.args.place c.args.self.now c.self.view_is c.requires.place c.args.job, c.self.inside.slots.ok.0)

pub returns-clause-held : goal.returns-clause-held
returns-clause-held g c = put_is c.self.inside.slots.items c.self.inside.next c.args.place c.args.self.now c.args.job c.self.view_is c.requires.place
