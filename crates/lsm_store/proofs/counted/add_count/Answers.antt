use Rattle.std.proofs.Common.{ℕ, List, [], ◌∷◌, ◌++◌, true, false, sym, ◌∙◌, ap}
use Rattle.lsm_store.specs.LiveMarks.{end_with}
use Rattle.lsm_store.proofs.Cuts.{once_added}
use Rattle.lsm_store.proofs.counted.add_count.Goals as goal

pub returns-then-is_last : goal.returns-then-is_last
returns-then-is_last g c = λ before is.
    is ∙ sym (once_added before c.args.count true (ap (end_with c.args.count) (sym is) ∙ ap (end_with c.args.count) (sym c.deref.ensures.value) ∙ sym c.is_last.ensures ∙ c.if-is_last.true))

pub returns : goal.returns
returns g c = λ before is.
    c.in_ok-push.ensures.items ∙ ap (λ (l : List ℕ). l ++ c.args.count ∷ []) is
    ∙ sym (once_added before c.args.count false (ap (end_with c.args.count) (sym is) ∙ ap (end_with c.args.count) (sym c.deref.ensures.value) ∙ sym c.is_last.ensures ∙ c.if-is_last.false))
