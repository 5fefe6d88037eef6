use Rattle.std.proofs.Common.{Some, inr, refl}
use Rattle.std.proofs.lemmas.Result.{err_from_is_err_and}
use Rattle.lsm_device.specs.declared.refusal.Refusal.TheVariants.{NoMemory}
use Rattle.lsm_levels.specs.Asking.{Source}
use Rattle.lsm_levels.specs.Scans.{blocks_to_come}
use Rattle.lsm_levels.proofs.ScanAsking.{asks_nothing}
use Rattle.lsm_levels.proofs.PageLaws.{no_memory}
use Rattle.lsm_levels.proofs.scan.gather_all.Goals as goal

pub returns-in_err-clone-clause-asks : goal.returns-in_err-clone-clause-asks
returns-in_err-clone-clause-asks g c =
    let a : Source = record { cache = c.args.cache.now; medium = g.D.Device.medium c.args.device.now } in
    let p = err_from_is_err_and c.from_residual.result c.from_residual.ensures.1 in
    rw (p.1, p.2) (asks_nothing (blocks_to_come c.args.sources.now) (Some NoMemory) a refl)

pub returns-in_err-clone-clause-comes : goal.returns-in_err-clone-clause-comes
returns-in_err-clone-clause-comes g c = λ place sectors page h.
    let p = err_from_is_err_and c.from_residual.result c.from_residual.ensures.1 in
    rw (p.1, p.2) (inr refl)

pub returns-in_err-queue-clause-asks : goal.returns-in_err-queue-clause-asks
returns-in_err-queue-clause-asks g c =
    let a : Source = record { cache = c.args.cache.now; medium = g.D.Device.medium c.args.device.now } in
    let p = err_from_is_err_and c.from_residual-in_err-queue.result c.from_residual-in_err-queue.ensures.1 in
    rw (p.1, p.2) (asks_nothing (blocks_to_come c.args.sources.now) (Some NoMemory) a refl)

pub returns-in_err-queue-clause-comes : goal.returns-in_err-queue-clause-comes
returns-in_err-queue-clause-comes g c = λ place sectors page h.
    let p = err_from_is_err_and c.from_residual-in_err-queue.result c.from_residual-in_err-queue.ensures.1 in
    rw (p.1, p.2) (inr refl)

pub returns-in_err-gather-clause-asks : goal.returns-in_err-gather-clause-asks
returns-in_err-gather-clause-asks g c =
    let p = err_from_is_err_and c.from_residual-in_err-gather.result c.from_residual-in_err-gather.ensures.1 in
    rw (p.1, p.2) c.in_err-gather.ensures.asks

pub returns-in_err-gather-clause-comes : goal.returns-in_err-gather-clause-comes
returns-in_err-gather-clause-comes g c = λ place sectors page h.
    let p = err_from_is_err_and c.from_residual-in_err-gather.result c.from_residual-in_err-gather.ensures.1 in
    rw (p.1, p.2) (c.in_err-gather.ensures.comes place sectors page h)

pub returns-in_err-gather-clause-refused : goal.returns-in_err-gather-clause-refused
returns-in_err-gather-clause-refused g c =
    let p = err_from_is_err_and c.from_residual-in_err-gather.result c.from_residual-in_err-gather.ensures.1 in
    rw (p.1, p.2) c.in_err-gather.ensures.refused

pub returns-clause-asks : goal.returns-clause-asks
returns-clause-asks g c =
    c.in_ok-gather.ensures.asks

pub returns-clause-comes : goal.returns-clause-comes
returns-clause-comes g c =
    c.in_ok-gather.ensures.comes

pub gather-requires : goal.gather-requires
gather-requires g c =
    record { queued = c.in_ok-queue.ensures; going = c.requires.going; ready = c.requires.ready }

pub returns-in_err-clone-clause-gathers : goal.returns-in_err-clone-clause-gathers
returns-in_err-clone-clause-gathers g c =
    let old : Source = record { cache = c.args.cache.now; medium = g.D.Device.medium c.args.device.now } in
    let p = err_from_is_err_and c.from_residual.result c.from_residual.ensures.1 in
    rw (p.1, p.2) (no_memory c.args.builder.now c.args.sources.now old)

pub returns-in_err-queue-clause-gathers : goal.returns-in_err-queue-clause-gathers
returns-in_err-queue-clause-gathers g c =
    let old : Source = record { cache = c.args.cache.now; medium = g.D.Device.medium c.args.device.now } in
    let p = err_from_is_err_and c.from_residual-in_err-queue.result c.from_residual-in_err-queue.ensures.1 in
    rw (p.1, p.2) (no_memory c.args.builder.now c.args.sources.now old)

pub returns-in_err-gather-clause-gathers : goal.returns-in_err-gather-clause-gathers
returns-in_err-gather-clause-gathers g c =
    let p = err_from_is_err_and c.from_residual-in_err-gather.result c.from_residual-in_err-gather.ensures.1 in
    rw (p.1, p.2) c.in_err-gather.ensures.gathers

pub returns-clause-gathers : goal.returns-clause-gathers
returns-clause-gathers g c = c.in_ok-gather.ensures.gathers
