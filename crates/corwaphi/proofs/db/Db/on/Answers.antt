use Rattle.std.proofs.Common.{true≢false, ap, sym, subst, is_ok}
use Rattle.lsm_store.specs.Backing.{StoreView}
use Rattle.corwaphi.specs.Opening.{OpensDb}
use Rattle.corwaphi.proofs.Opened.{opens_db}
use Rattle.corwaphi.proofs.db.Db.on.Goals as goal

pub returns-in-Ok-clause-opens : goal.returns-in-Ok-clause-opens
returns-in-Ok-clause-opens g c =
    subst (λ (s : StoreView). OpensDb c.args.options.cache (g.D.Device.medium c.args.device) s) (sym c.of.ensures)
    (opens_db c.args.options.cache (g.D.Device.medium c.args.device) c.in-Ok.store c.readied.result c.in-Ok.ensures.reopens
    (λ log_sectors left tells is. c.in-Ok.ensures.opens log_sectors left tells is) c.in-Ok.ensures.blocks c.in-Ok.ensures.faults c.in-Ok.ensures.calls c.in-Ok.ensures.same_size c.in-Ok.ensures.same_lasting
    c.readied.ensures.readied c.readied.ensures.upkept)

pub returns-in-Ok-clause-cache : goal.returns-in-Ok-clause-cache
returns-in-Ok-clause-cache g c = λ outside. absurd (true≢false (ap is_ok (c.in-Ok.ensures.cache outside)))

pub returns-in-Ok-clause-size : goal.returns-in-Ok-clause-size
returns-in-Ok-clause-size g c = λ fits other. absurd (true≢false (ap is_ok ((c.in-Ok.ensures.size fits).1 other)))
