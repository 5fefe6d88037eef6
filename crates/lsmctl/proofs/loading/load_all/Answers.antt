use Rattle.std.proofs.Common.{◌∙◌, sym}
use Rattle.std.proofs.lemmas.Result.{err_from_is_err_and}
use Rattle.lsmctl.proofs.LoadingLaws.{put-if_refused, put-read, put-refused}
use Rattle.lsmctl.proofs.loading.load_all.Goals as goal

pub returns-in_err-commit_waiting : goal.returns-in_err-commit_waiting
returns-in_err-commit_waiting g c =
    let p = err_from_is_err_and c.from_residual.result c.from_residual.ensures.1 in
    rw p.1 (put-refused _ c.read_rows-read.result p.0 _ _ _ _ _ _ (sym c.is_refused.ensures ∙ c.if-is_refused.false) c.read_rows-read.ensures p.2 c.in_err-commit_waiting.ensures)

pub returns : goal.returns
returns g c = put-read _ c.read_rows-read.result _ _ _ _ _ (sym c.is_refused.ensures ∙ c.if-is_refused.false) c.read_rows-read.ensures c.in_ok-commit_waiting.ensures

pub returns-then-is_refused : goal.returns-then-is_refused
returns-then-is_refused g c = put-if_refused _ c.read_rows-read.result _ _ _ (sym c.is_refused.ensures ∙ c.if-is_refused.true) c.read_rows-read.ensures
