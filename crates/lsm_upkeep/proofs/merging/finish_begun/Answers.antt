use Rattle.std.proofs.Common.{refl}
use Rattle.lsm_upkeep.proofs.Upkept.{stays, then}
use Rattle.lsm_upkeep.proofs.merging.finish_begun.Goals as goal

pub loop-init : goal.loop-init
loop-init g c = stays c.args.store.now c.args.store.now refl

pub returns-in-Finished : goal.returns-in-Finished
returns-in-Finished g c = then c.args.store.now c.loop.store c.do_piece.new.store c.loop.invariant c.do_piece.ensures

pub returns-in-NoJob : goal.returns-in-NoJob
returns-in-NoJob g c = then c.args.store.now c.loop.store c.do_piece.new.store c.loop.invariant c.do_piece.ensures

pub loop-preserved : goal.loop-preserved
loop-preserved g c = then c.args.store.now c.loop.store c.do_piece.new.store c.loop.invariant c.do_piece.ensures
