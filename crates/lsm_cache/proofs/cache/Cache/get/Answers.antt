use Rattle.std.proofs.lemmas.Result.{err_from_is_err_and}
use Rattle.lsm_device.specs.Disk.{seen}
use Rattle.lsm_device.specs.Medium.{disk}
use Rattle.lsm_cache.specs.Recency.{named_block}
use Rattle.lsm_cache.proofs.Kept.{given_fresh, given_still_fresh, still_below}
use Rattle.lsm_cache.proofs.Counts.{fault_is, refused_once, asked_reads}
use Rattle.lsm_cache.proofs.cache.Cache.get.Goals as goal

pub returns-in_err-ask-clause-faults : goal.returns-in_err-ask-clause-faults
returns-in_err-ask-clause-faults g c =
    let p = err_from_is_err_and c.from_residual.result c.from_residual.ensures.1 in
    rw (p.1, p.2) (refused_once _ 8 _ _ c.in_err-ask.ensures.refused c.in_err-ask.ensures.faulted)

pub returns-in_err-ask-clause-calls : goal.returns-in_err-ask-clause-calls
returns-in_err-ask-clause-calls g c = fault_is 8 _ _ c.in_err-ask.ensures.faulted

pub returns-clause-answers : goal.returns-clause-answers
returns-clause-answers g c = λ place stands t fresh.
    rw c.as_array.ensures (given_fresh place (seen (disk (g.D.Device.medium c.args.device.now))) (named_block c.args.table c.args.block) c.args.sector c.ask.new.out c.args.self.now stands fresh c.in_ok-ask.ensures.kept (c.in_ok-ask.ensures.read t))

pub returns-clause-fresh : goal.returns-clause-fresh
returns-clause-fresh g c = λ place stands t fresh.
    rw (c.in_ok-ask.ensures.unchanged t)
    (given_still_fresh place (seen (disk (g.D.Device.medium c.args.device.now))) (named_block c.args.table c.args.block) c.args.sector c.ask.new.out c.args.self.now stands fresh c.ask.new.self c.in_ok-ask.ensures.kept (c.in_ok-ask.ensures.read t) c.in_ok-ask.ensures.keeps)

pub returns-clause-numbered : goal.returns-clause-numbered
returns-clause-numbered g c = λ number low below.
    still_below number (named_block c.args.table c.args.block) c.ask.new.out c.args.self.now c.ask.new.self low below c.in_ok-ask.ensures.keeps

pub returns-clause-calls : goal.returns-clause-calls
returns-clause-calls g c = asked_reads _ _ _ c.in_ok-ask.ensures.counted
