use Rattle.std.proofs.lemmas.Result.{err_from_is_err_and}
use Rattle.lsm_shared.proofs.AtWork.{brings, brings_not, parted}
use Rattle.lsm_shared.specs.Workers.{not_brought}
use Rattle.lsm_shared.proofs.worker.merge.Goals as goal

pub returns-in_err-_reply-clause-works : goal.returns-in_err-_reply-clause-works
returns-in_err-_reply-clause-works g c = brings_not _ _ _ _ _ _ c.in_err-_reply.ensures

pub returns-in_err-_reply-clause-delivers : goal.returns-in_err-_reply-clause-delivers
returns-in_err-_reply-clause-delivers g c =
    let p = err_from_is_err_and c.from_residual-in_err-_reply.result c.from_residual-in_err-_reply.ensures.1 in
    rw (p.1, p.2) (not_brought (parted c.args.parts c.in_ok-built.built c.in_ok-built.ensures.limit) _ (record { input_of = c.in_ok-built.ensures.input; tables = c.in_ok-built.ensures.tables }) c.in_err-_reply.ensures)

pub returns-clause-works : goal.returns-clause-works
returns-clause-works g c = brings _ _ _ _ _ _ c.in_ok-_reply.ensures

pub returns-clause-delivers : goal.returns-clause-delivers
returns-clause-delivers g c = record {
  within = parted c.args.parts c.in_ok-built.built c.in_ok-built.ensures.limit;
  made = _;
  merged = record { input_of = c.in_ok-built.ensures.input; tables = c.in_ok-built.ensures.tables };
  told = _;
  brings = c.in_ok-_reply.ensures;
}
