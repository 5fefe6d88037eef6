use Rattle.std.proofs.Common.{◌≡◌, [], sym, subst, ◌∙◌}
use Rattle.lsm_levels.specs.Tables.{IsRun, KeyRange, put_at}
use Rattle.lsm_levels.proofs.Searching.{counts_in_order}
use Rattle.lsm_levels.proofs.Runs.{run_without}
use Rattle.lsm_levels.proofs.Placing.{removed}
use Rattle.lsm_levels.proofs.run.Run.remove.Goals as goal

pub cut-requires-clause-order : goal.cut-requires-clause-order
cut-requires-clause-order g c =
    counts_in_order c.args.first.now c.args.last.now c.self.inside.tables.items c.count_before-start.result c.count_up_to-end.result c.self.invariant c.requires
    (rw c.deref.ensures.value at c.count_before-start.ensures.bound)
    (rw c.deref.ensures.value at c.count_before-start.ensures.passed)
    (rw c.deref-2.ensures.value at c.count_up_to-end.ensures.bound)
    (rw c.deref-2.ensures.value at c.count_up_to-end.ensures.passed)

pub returns-clause-removed : goal.returns-clause-removed
returns-clause-removed g c =
    c.note_heads-self-inside.ensures ∙ removed (record { first = c.args.first.now; last = c.args.last.now }) c.cut.new.tables.items c.self.inside.tables.items c.args.self.now c.count_before-start.result c.count_up_to-end.result
    (rw c.deref.ensures.value at c.count_before-start.ensures.passed)
    (rw c.deref-2.ensures.value at c.count_up_to-end.ensures.left)
    c.self.view_is
    c.cut.ensures

pub returns-clause-stays : goal.returns-clause-stays
returns-clause-stays g c =
    let range : KeyRange = record { first = c.args.first.now; last = c.args.last.now } in
    let e : c.note_heads-self-inside.new.tables.items ≡ put_at range [] c.args.self.now =
    c.note_heads-self-inside.ensures ∙ removed range c.cut.new.tables.items c.self.inside.tables.items c.args.self.now c.count_before-start.result c.count_up_to-end.result
    (rw c.deref.ensures.value at c.count_before-start.ensures.passed)
    (rw c.deref-2.ensures.value at c.count_up_to-end.ensures.left)
    c.self.view_is
    c.cut.ensures in
    subst IsRun (sym e) (run_without range c.requires c.args.self.now (subst IsRun c.self.view_is c.self.invariant))

pub invariant_of-self : goal.invariant_of-self
invariant_of-self g c =
    let range : KeyRange = record { first = c.args.first.now; last = c.args.last.now } in
    let e : c.note_heads-self-inside.new.tables.items ≡ put_at range [] c.args.self.now =
    c.note_heads-self-inside.ensures ∙ removed range c.cut.new.tables.items c.self.inside.tables.items c.args.self.now c.count_before-start.result c.count_up_to-end.result
    (rw c.deref.ensures.value at c.count_before-start.ensures.passed)
    (rw c.deref-2.ensures.value at c.count_up_to-end.ensures.left)
    c.self.view_is
    c.cut.ensures in
    subst IsRun (sym e) (run_without range c.requires c.args.self.now (subst IsRun c.self.view_is c.self.invariant))
