use Rattle.std.proofs.Common.{refl}
use Rattle.lsm_upkeep.proofs.Upkept.{stays, then}
use Rattle.lsm_upkeep.proofs.merging.do_pieces.Goals as goal

pub loop-init : goal.loop-init
loop-init g c = stays c.args.store.now c.args.store.now refl

pub returns-then-not-matches : goal.returns-then-not-matches
returns-then-not-matches g c = then c.args.store.now c.loop.store c.do_piece-done.new.store c.loop.invariant c.do_piece-done.ensures

pub loop-preserved : goal.loop-preserved
loop-preserved g c = then c.args.store.now c.loop.store c.do_piece-done.new.store c.loop.invariant c.do_piece-done.ensures
