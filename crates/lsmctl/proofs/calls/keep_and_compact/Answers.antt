use Rattle.std.proofs.Common.{◌∙◌, sym}
use Rattle.std.proofs.lemmas.Result.{err_from_is_err_and}
use Rattle.lsmctl.proofs.CommittingLaws.{compacted, compacts}
use Rattle.lsmctl.proofs.calls.keep_and_compact.Goals as goal

pub returns-then-is_whole-clause-gives : goal.returns-then-is_whole-clause-gives
returns-then-is_whole-clause-gives g c =
    compacted _ _ _ _ _ c.keep.ensures.keeps c.keep.ensures.upkept c.compact_all_showing-is_whole.ensures.flushes c.compact_all_showing-is_whole.ensures.upkept
    (sym c.if-is_whole.true ∙ c.compact_all_showing-is_whole.ensures.compacted) c.in_ok-numbers.ensures.gives

pub returns-clause-gives : goal.returns-clause-gives
returns-clause-gives g c =
    compacted _ _ _ _ _ c.keep.ensures.keeps c.keep.ensures.upkept c.compact_all_showing-is_whole.ensures.flushes c.compact_all_showing-is_whole.ensures.upkept
    (sym c.if-is_whole.false ∙ c.compact_all_showing-is_whole.ensures.compacted) (c.in_ok-numbers.ensures.gives, c.lack_of-lack.ensures)

pub returns-in_err-numbers-clause-refused : goal.returns-in_err-numbers-clause-refused
returns-in_err-numbers-clause-refused g c =
    let p = err_from_is_err_and c.from_residual.result c.from_residual.ensures.1 in
    rw (p.1, p.2) (record {
      after = c.compact_all_showing-is_whole.new.store;
      compacts = compacts _ _ _ c.keep.ensures.keeps c.keep.ensures.upkept c.compact_all_showing-is_whole.ensures.flushes c.compact_all_showing-is_whole.ensures.upkept;
      untold = c.in_err-numbers.ensures.refused;
    })
