use Rattle.std.proofs.Common.{refl}
use Rattle.std.proofs.lemmas.Result.{err_from_is_err_and}
use Rattle.lsm_shared.proofs.AtWork.{turns, no_turns, asks, no_nexts, stays, idle_found, did_ends, merge_ends, merge_ends_not, rests_then}
use Rattle.lsm_shared.specs.Workers.{turned, asked, not_turned, in_vain, not_chosen}
use Rattle.lsm_shared.proofs.worker.take_turn.Goals as goal

pub returns-in_err-turn_due-clause-works : goal.returns-in_err-turn_due-clause-works
returns-in_err-turn_due-clause-works g c = no_turns _ _ _ c.in_err-turn_due.ensures.taken

pub returns-in_err-turn_due-clause-takes : goal.returns-in_err-turn_due-clause-takes
returns-in_err-turn_due-clause-takes g c =
    let p = err_from_is_err_and c.from_residual.result c.from_residual.ensures.1 in
    rw (p.1, p.2) (not_turned c.in_err-turn_due.ensures.taken)

pub returns-in_err-busy-in-Idle-clause-works : goal.returns-in_err-busy-in-Idle-clause-works
returns-in_err-busy-in-Idle-clause-works g c = stays _ _ _ (turns _ _ _ c.in_ok-turn_due.ensures.taken) (no_nexts _ _ _ c.in_err-busy-in-Idle.ensures)

pub returns-in_err-busy-in-Idle-clause-takes : goal.returns-in_err-busy-in-Idle-clause-takes
returns-in_err-busy-in-Idle-clause-takes g c =
    let p = err_from_is_err_and c.from_residual-in_err-busy-in-Idle.result c.from_residual-in_err-busy-in-Idle.ensures.1 in
    rw (p.1, p.2) (not_chosen _ (idle_found _ _ _ c.in-Idle.is c.in_ok-turn_due.ensures.taken) c.in_err-busy-in-Idle.ensures)

pub returns-in-Idle-clause-works : goal.returns-in-Idle-clause-works
returns-in-Idle-clause-works g c = stays _ _ _ (turns _ _ _ c.in_ok-turn_due.ensures.taken) (asks _ _ _ c.in_ok-busy-in-Idle.ensures)

pub returns-in-Idle-clause-takes : goal.returns-in-Idle-clause-takes
returns-in-Idle-clause-takes g c = asked _ (idle_found _ _ _ c.in-Idle.is c.in_ok-turn_due.ensures.taken) c.in_ok-busy-in-Idle.ensures

pub returns-in-Idle-clause-rests : goal.returns-in-Idle-clause-rests
returns-in-Idle-clause-rests g c = λ none. rests_then _ _ _ _ (idle_found _ _ _ c.in-Idle.is c.in_ok-turn_due.ensures.taken) c.in_ok-busy-in-Idle.ensures none

pub returns-in-Did-clause-works : goal.returns-in-Did-clause-works
returns-in-Did-clause-works g c = turns _ _ _ c.in_ok-turn_due.ensures.taken

pub returns-in-Did-clause-takes : goal.returns-in-Did-clause-takes
returns-in-Did-clause-takes g c = turned refl _ _ c.in_ok-turn_due.ensures.taken (did_ends _ _ _ _ c.in-Did.is)

pub returns-in_err-merge-in-Merge-clause-works : goal.returns-in_err-merge-in-Merge-clause-works
returns-in_err-merge-in-Merge-clause-works g c = stays _ _ _ (turns _ _ _ c.in_ok-turn_due.ensures.taken) c.merge.ensures.works

pub returns-in_err-merge-in-Merge-clause-takes : goal.returns-in_err-merge-in-Merge-clause-takes
returns-in_err-merge-in-Merge-clause-takes g c =
    let p = err_from_is_err_and c.from_residual-in_err-merge-in-Merge.result c.from_residual-in_err-merge-in-Merge.ensures.1 in
    rw (p.1, p.2) (in_vain _ _ c.in_ok-turn_due.ensures.taken (merge_ends_not _ _ _ _ _ _ _ _ c.in-Merge.is c.in_err-merge-in-Merge.ensures.delivers))

pub returns-clause-works : goal.returns-clause-works
returns-clause-works g c = stays _ _ _ (turns _ _ _ c.in_ok-turn_due.ensures.taken) c.merge.ensures.works

pub returns-clause-takes : goal.returns-clause-takes
returns-clause-takes g c = turned refl _ _ c.in_ok-turn_due.ensures.taken (merge_ends _ _ _ _ _ _ _ c.in-Merge.is c.in_ok-merge-in-Merge.ensures.delivers)
