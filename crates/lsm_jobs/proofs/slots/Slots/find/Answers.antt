use Rattle.std.proofs.Common.{arith, refl}
use Rattle.lsm_jobs.proofs.Found.{none_told, place_inside, at_told, not_empty}
use Rattle.lsm_jobs.proofs.slots.Slots.find.Goals as goal

pub returns-in_default-clause-absent : goal.returns-in_default-clause-absent
returns-in_default-clause-absent g c = (refl, none_told c.args.job c.self.inside.next c.deref.result.now c.self.inside.slots.items c.args.self.now c.in_default.ensures c.deref.ensures.value c.self.view_is)

pub index-requires : goal.index-requires
index-requires g c = omega (arith, place_inside c.args.job c.in-Some.place c.deref.result.now c.self.inside.slots.items c.in-Some.ensures c.deref.ensures.value, c.self.inside.slots.ok.0)

pub returns-in-Some-index-clause-found : goal.returns-in-Some-index-clause-found
returns-in-Some-index-clause-found g c =
    at_told c.args.job c.in-Some.place c.self.inside.next c.deref.result.now c.self.inside.slots.items c.args.self.now c.index.result.now c.in-Some.ensures c.deref.ensures.value c.self.view_is c.index.ensures c.in-Some-index.held c.in-Some-index.is

pub returns-in-None-clause-absent : goal.returns-in-None-clause-absent
returns-in-None-clause-absent g c =
    absurd (not_empty c.args.job c.in-Some.place c.self.inside.next c.deref.result.now c.self.inside.slots.items c.args.self.now c.index.result.now c.in-Some.ensures c.deref.ensures.value c.self.view_is c.index.ensures c.in-None.is)
