use Rattle.std.proofs.Common.{arith, ◌++◌, ◌∷◌, [], map}
use Rattle.std.proofs.lemmas.List.{length-map}
use Rattle.lsm_levels.specs.Cursors.{present}
use Rattle.lsm_levels.proofs.QueueLaws.{Settles, all_queued, none_queued, one_more}
use Rattle.lsm_levels.proofs.queue.Queue.of.Goals as goal

pub loop-place-init : goal.loop-place-init
loop-place-init g c = rw c.in_ok-places.ensures.items (none_queued (map present c.args.sources.now))

pub loop-place-preserved : goal.loop-place-preserved
loop-place-preserved g c =
    let heads = map present c.args.sources.now in
    let settles : Settles heads (c.loop-place.places.items ++ c.loop-place.place ∷ []) c.settle_last.new.places.items = rw (← c.in_ok-push.ensures.items) c.settle_last.ensures in
    one_more heads c.loop-place.place c.loop-place.places.items c.settle_last.new.places.items settles c.loop-place.invariant

pub returns : goal.returns
returns g c = all_queued (map present c.args.sources.now) c.loop-place.place c.loop-place.places.items (omega (arith, length-map c.args.sources.now present, c.loop-place-test.false)) c.loop-place.invariant
