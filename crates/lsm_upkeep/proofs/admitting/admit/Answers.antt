use Rattle.std.proofs.Common.{◌≡◌, true}
use Rattle.std.proofs.lemmas.Result.{IfErr-weaker}
use Rattle.lsm_device.specs.declared.refusal.Refusal.TheVariants.{NoSpace}
use Rattle.lsm_upkeep.specs.Writing.{FindsNoRoom, LacksRoom, wants_room}
use Rattle.lsm_upkeep.proofs.FlushingLaws.{ready}
use Rattle.lsm_upkeep.proofs.RoomLaws.{begins-between}
use Rattle.lsm_upkeep.proofs.Upkept.{then}
use Rattle.lsm_upkeep.proofs.admitting.admit.Goals as goal

pub returns-then-admits-clause-upkept : goal.returns-then-admits-clause-upkept
returns-then-admits-clause-upkept g c = then c.args.store.now c.begin_write.new.store c.admits.new.store c.begin_write.ensures.upkept c.admits.ensures.upkept

pub returns-then-admits-clause-ready : goal.returns-then-admits-clause-ready
returns-then-admits-clause-ready g c = ready c.args.store.now c.begin_write.new.store c.admits.new.store c.begin_write.ensures.readies c.admits.ensures.upkept

pub returns-then-joins-clause-upkept : goal.returns-then-joins-clause-upkept
returns-then-joins-clause-upkept g c =
    then c.args.store.now c.begin_write.new.store c.push.new.store c.begin_write.ensures.upkept (then c.begin_write.new.store c.admits.new.store c.push.new.store c.admits.ensures.upkept c.push.ensures)

pub returns-then-joins-clause-ready : goal.returns-then-joins-clause-ready
returns-then-joins-clause-ready g c =
    ready c.args.store.now c.begin_write.new.store c.push.new.store c.begin_write.ensures.readies (then c.begin_write.new.store c.admits.new.store c.push.new.store c.admits.ensures.upkept c.push.ensures)

pub returns-clause-upkept : goal.returns-clause-upkept
returns-clause-upkept g c =
    then c.args.store.now c.begin_write.new.store c.make_room.new.store c.begin_write.ensures.upkept
    (then c.begin_write.new.store c.admits.new.store c.make_room.new.store c.admits.ensures.upkept (then c.admits.new.store c.change_log.new.store c.make_room.new.store c.change_log.ensures.upkept c.make_room.ensures.upkept))

pub returns-clause-ready : goal.returns-clause-ready
returns-clause-ready g c =
    ready c.args.store.now c.begin_write.new.store c.make_room.new.store c.begin_write.ensures.readies
    (then c.begin_write.new.store c.admits.new.store c.make_room.new.store c.admits.ensures.upkept (then c.admits.new.store c.change_log.new.store c.make_room.new.store c.change_log.ensures.upkept c.make_room.ensures.upkept))

pub returns-clause-refused : goal.returns-clause-refused
returns-clause-refused g c =
    let old = c.args.store.now in
    let batch = c.args.batch.now in
    let last = c.make_room.new.store in
    IfErr-weaker c.make_room.result (λ e. (e ≡ NoSpace) × (wants_room batch last.state ≡ true) × LacksRoom batch last) (λ e. (e ≡ NoSpace) × FindsNoRoom batch old last) (λ e refused. (
      refused.0,
      record {
        wants = refused.1;
        begins = begins-between old c.admits.new.store c.change_log.new.store last (then old c.begin_write.new.store c.admits.new.store c.begin_write.ensures.upkept c.admits.ensures.upkept)
            c.change_log.ensures.begins c.make_room.ensures.upkept;
        lacks = refused.2;
      },
    )) c.make_room.ensures.refused

pub returns-then-admits-clause-room : goal.returns-then-admits-clause-room
returns-then-admits-clause-room g c = λ runs wants. c.admits.ensures.room c.if-admits.true runs
