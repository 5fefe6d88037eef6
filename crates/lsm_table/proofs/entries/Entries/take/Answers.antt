use Rattle.std.proofs.Common.{refl}
use Rattle.lsm_codec.specs.References.{shown}
use Rattle.lsm_table.proofs.Reading.{all_taken, bad_tail, takes_entry, takes_bad}
use Rattle.lsm_table.proofs.entries.Entries.take.Goals as goal

pub returns-then-is_zero : goal.returns-then-is_zero
returns-then-is_zero c =
    let none = all_taken c.self.inside.left c.self.inside.rest.now c.args.self.now c.is_zero.result c.self.view_is c.if-self-eq0.true c.is_zero.ensures c.if-is_zero.true in
    (none, none)

pub returns-then-self-eq0 : goal.returns-then-self-eq0
returns-then-self-eq0 c = bad_tail c.self.inside.left c.self.inside.rest.now _ c.args.self.now c.is_zero.result c.self.view_is c.if-self-eq0.true c.is_zero.ensures c.if-is_zero.false refl

pub returns-in-Some : goal.returns-in-Some
returns-in-Some c = takes_entry c.self.inside.left c.self.inside.rest.now c.in-Some.rest.now (shown c.in-Some.entry) c.args.self.now c.self.view_is c.if-self-eq0.false c.in-Some.ensures.read

pub returns-in-None : goal.returns-in-None
returns-in-None c = takes_bad c.self.inside.left c.self.inside.rest.now _ c.args.self.now c.self.view_is c.if-self-eq0.false c.in-None.ensures.read refl
