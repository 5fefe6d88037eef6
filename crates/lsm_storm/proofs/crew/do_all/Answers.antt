use Rattle.lsm_storm.proofs.Crewing.{one_did}
use Rattle.lsm_storm.proofs.crew.do_all.Goals as goal

pub returns : goal.returns
returns g c = λ i d less.
    let one = (c.for_each_mut.ensures i d less).1 in
    one_did c.args.tasks one.argument.now one.after_call.now _ _ one.argument_is one.left one.call
