use Rattle.std.proofs.Common.{◌≡◌, is_ok, cond, sym, subst, ◌∙◌}
use Rattle.lsm_levels.specs.Tables.{IsRun, put_at}
use Rattle.lsm_levels.proofs.Searching.{counts_in_order}
use Rattle.lsm_levels.proofs.Placing.{either, spliced}
use Rattle.lsm_levels.proofs.run.Run.replace.Goals as goal

pub splice-replaced-requires-clause-order : goal.splice-replaced-requires-clause-order
splice-replaced-requires-clause-order g c =
    counts_in_order c.args.first.now c.args.last.now c.self.inside.tables.items c.count_before-start.result c.count_up_to-end.result c.self.invariant c.requires.range
    (rw c.deref.ensures.value at c.count_before-start.ensures.bound)
    (rw c.deref.ensures.value at c.count_before-start.ensures.passed)
    (rw c.deref-2.ensures.value at c.count_up_to-end.ensures.bound)
    (rw c.deref-2.ensures.value at c.count_up_to-end.ensures.passed)

pub returns-clause-replaced : goal.returns-clause-replaced
returns-clause-replaced g c =
    c.note_heads-self-inside.ensures ∙ spliced (is_ok c.splice-replaced.result) (record { first = c.args.first.now; last = c.args.last.now }) c.splice-replaced.new.tables.items c.self.inside.tables.items c.args.self.now c.args.new.now.items c.count_before-start.result c.count_up_to-end.result
    (rw c.deref.ensures.value at c.count_before-start.ensures.passed)
    (rw c.deref-2.ensures.value at c.count_up_to-end.ensures.left)
    c.self.view_is
    c.splice-replaced.ensures.items

pub returns-clause-stays : goal.returns-clause-stays
returns-clause-stays g c =
    let e : c.note_heads-self-inside.new.tables.items ≡ cond (is_ok c.splice-replaced.result) (put_at (record { first = c.args.first.now; last = c.args.last.now }) c.args.new.now.items c.args.self.now) c.args.self.now =
    c.note_heads-self-inside.ensures ∙ spliced (is_ok c.splice-replaced.result) (record { first = c.args.first.now; last = c.args.last.now }) c.splice-replaced.new.tables.items c.self.inside.tables.items c.args.self.now c.args.new.now.items c.count_before-start.result c.count_up_to-end.result
    (rw c.deref.ensures.value at c.count_before-start.ensures.passed)
    (rw c.deref-2.ensures.value at c.count_up_to-end.ensures.left)
    c.self.view_is
    c.splice-replaced.ensures.items in
    subst IsRun (sym e) (either (is_ok c.splice-replaced.result) (put_at (record { first = c.args.first.now; last = c.args.last.now }) c.args.new.now.items c.args.self.now) c.args.self.now c.requires.run (subst IsRun c.self.view_is c.self.invariant))

pub invariant_of-self : goal.invariant_of-self
invariant_of-self g c =
    let e : c.note_heads-self-inside.new.tables.items ≡ cond (is_ok c.splice-replaced.result) (put_at (record { first = c.args.first.now; last = c.args.last.now }) c.args.new.now.items c.args.self.now) c.args.self.now =
    c.note_heads-self-inside.ensures ∙ spliced (is_ok c.splice-replaced.result) (record { first = c.args.first.now; last = c.args.last.now }) c.splice-replaced.new.tables.items c.self.inside.tables.items c.args.self.now c.args.new.now.items c.count_before-start.result c.count_up_to-end.result
    (rw c.deref.ensures.value at c.count_before-start.ensures.passed)
    (rw c.deref-2.ensures.value at c.count_up_to-end.ensures.left)
    c.self.view_is
    c.splice-replaced.ensures.items in
    subst IsRun (sym e) (either (is_ok c.splice-replaced.result) (put_at (record { first = c.args.first.now; last = c.args.last.now }) c.args.new.now.items c.args.self.now) c.args.self.now c.requires.run (subst IsRun c.self.view_is c.self.invariant))
