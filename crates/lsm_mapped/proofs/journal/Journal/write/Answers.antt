use Rattle.std.proofs.Common.{sym, ◌∙◌}
use Rattle.lsm_mapped.proofs.Appending.{going, laid-tried, room-for, size-grown, size-written, write-new, write-on}
use Rattle.lsm_mapped.proofs.journal.Journal.write.Goals as goal

pub returns-then-goes_on-clause-room : goal.returns-then-goes_on-clause-room
returns-then-goes_on-clause-room c =
    let j = c.args.self.now in
    let on = sym c.goes_on.ensures ∙ c.if-goes_on.true in
    let is = write-on c.args.at j.first j.count c.args.sector.now _ c.requires.laid.first_is c.requires.laid.count_is on in
    room-for _ _ _ _ (size-grown c.args.bytes.now c.args.sector.now j.used j.head j.first j.count j.wrote _ c.requires.within c.requires.laid (going c.args.at j.first j.count on).0 c.told-sector is) c.grow.ensures.room

pub returns-then-goes_on-clause-written : goal.returns-then-goes_on-clause-written
returns-then-goes_on-clause-written c t =
    let j = c.args.self.now in
    c.grow.ensures.written t ∙ sym (write-on c.args.at j.first j.count c.args.sector.now _ c.requires.laid.first_is c.requires.laid.count_is (sym c.goes_on.ensures ∙ c.if-goes_on.true))

pub returns-else-goes_on-clause-room : goal.returns-else-goes_on-clause-room
returns-else-goes_on-clause-room c =
    let j = c.args.self.now in
    let is = write-new c.args.at j.first j.count c.args.sector.now _ c.requires.laid.first_is c.requires.laid.count_is (sym c.goes_on.ensures ∙ c.if-goes_on.false) in
    room-for _ _ _ _ (size-written c.args.bytes.now c.args.sector.now j.used j.head j.first j.count c.args.at j.wrote _ c.requires.within c.requires.laid c.told-sector is) c.begin.ensures.room

pub returns-else-goes_on-clause-written : goal.returns-else-goes_on-clause-written
returns-else-goes_on-clause-written c t =
    let j = c.args.self.now in
    c.begin.ensures.written t ∙ sym (write-new c.args.at j.first j.count c.args.sector.now _ c.requires.laid.first_is c.requires.laid.count_is (sym c.goes_on.ensures ∙ c.if-goes_on.false))

pub begin-requires-clause-fills : goal.begin-requires-clause-fills
begin-requires-clause-fills c =
    let j = c.args.self.now in
    record { within = c.requires.within; laid = laid-tried _ j.head j.first j.count j.wrote c.requires.laid }

pub grow-requires-clause-fills : goal.grow-requires-clause-fills
grow-requires-clause-fills c =
    let j = c.args.self.now in
    record { within = c.requires.within; laid = laid-tried _ j.head j.first j.count j.wrote c.requires.laid }
