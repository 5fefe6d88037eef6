use Rattle.lsm_merge.proofs.Sameness.{other_flag, input_told}
use Rattle.lsm_merge.proofs.input.Input.is_same.Goals as goal

pub returns-then-not-are_same_flags : goal.returns-then-not-are_same_flags
returns-then-not-are_same_flags g c = rw (← c.self.view_is, ← c.other.view_is) (other_flag _ _ c.are_same_flags.result c.are_same_flags.ensures c.if-not-are_same_flags.true)

pub returns : goal.returns
returns g c =
    rw (← c.self.view_is, ← c.other.view_is) (input_told _ _ c.are_same_flags.result c.are_same_counts.result c.are_same_runs.result c.are_same_flags.ensures c.if-not-are_same_flags.false
    (rw (c.deref.ensures.value, c.deref-2.ensures.value) at c.are_same_counts.ensures) c.if-not-are_same_counts.false (rw (c.deref-3.ensures.value, c.deref-4.ensures.value) at c.are_same_runs.ensures))
