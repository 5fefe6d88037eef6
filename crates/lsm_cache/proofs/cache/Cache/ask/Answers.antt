use Rattle.std.proofs.Common.{inl, refl}
use Rattle.std.proofs.lemmas.Result.{err_from_is_err_and}
use Rattle.lsm_cache.proofs.Kept.{asked_new, kept_not_absent}
use Rattle.lsm_cache.proofs.cache.Cache.ask.Goals as goal

pub returns-then-find-clause-kept : goal.returns-then-find-clause-kept
returns-then-find-clause-kept g c = rw c.if-find.ensures.found refl

pub returns-then-find-clause-read : goal.returns-then-find-clause-read
returns-then-find-clause-read g c = λ t none. kept_not_absent _ c.find.new.out c.if-find.ensures.found none

pub returns-then-find-clause-keeps : goal.returns-then-find-clause-keeps
returns-then-find-clause-keeps g c = inl c.if-find.ensures.keeps

pub returns-then-find-clause-counted : goal.returns-then-find-clause-counted
returns-then-find-clause-counted g c = rw c.if-find.ensures.found refl

pub returns-in_err-read-clause-absent : goal.returns-in_err-read-clause-absent
returns-in_err-read-clause-absent g c =
    let p = err_from_is_err_and c.from_residual.result c.from_residual.ensures.1 in
    rw p.1 c.if-find.ensures.absent

pub returns-clause-kept : goal.returns-clause-kept
returns-clause-kept g c = rw c.if-find.ensures.absent tt

pub returns-clause-counted : goal.returns-clause-counted
returns-clause-counted g c = rw c.if-find.ensures.absent c.in_ok-read.ensures.counted

pub returns-clause-keeps : goal.returns-clause-keeps
returns-clause-keeps g c =
    asked_new c.args.name c.read.new.self c.find.new.self c.args.self.now c.keep.new.self c.if-find.ensures.stays (rw c.if-find.ensures.stays c.if-find.ensures.absent) c.keep.ensures
