use Rattle.std.proofs.Common.{refl}
use Rattle.std.specs.Prelude.{option_map}
use Rattle.std.proofs.lemmas.Result.{err_from_is_err_and}
use Rattle.lsmctl.proofs.RefusedLaws.{sync_refused, write_refused}
use Rattle.lsmctl.proofs.committing.commit.Goals as goal

pub returns-clause-gives : goal.returns-clause-gives
returns-clause-gives g c = record {
  number = c.in_ok-number.number;
  kept = c.keep.new.store;
  between = c.write.new.store;
  keeps = c.keep.ensures.keeps;
  writes = c.in_ok-number.ensures;
  syncs = c.in_ok-sync.ensures.serves;
  told = refl;
}

pub returns-in_err-number-clause-refused : goal.returns-in_err-number-clause-refused
returns-in_err-number-clause-refused g c =
    let p = err_from_is_err_and c.from_residual.result c.from_residual.ensures.1 in
    rw (p.1, p.2) (write_refused (option_map (λ g. g.now) c.args.guards) c.args.batch.now c.args.store.now c.keep.new.store c.write.new.store _ c.keep.ensures.keeps c.in_err-number.ensures)

pub returns-in_err-sync-clause-refused : goal.returns-in_err-sync-clause-refused
returns-in_err-sync-clause-refused g c =
    let p = err_from_is_err_and c.from_residual-in_err-sync.result c.from_residual-in_err-sync.ensures.1 in
    rw (p.1, p.2)
    (sync_refused (option_map (λ g. g.now) c.args.guards) c.args.batch.now c.args.store.now c.keep.new.store c.write.new.store _ c.in_ok-number.number _ c.keep.ensures.keeps c.in_ok-number.ensures
    c.in_err-sync.ensures.serves)
