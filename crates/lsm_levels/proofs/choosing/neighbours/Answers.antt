use Rattle.std.proofs.Common.{◌==◌, ap, sym, ◌∙◌, subst}
use Rattle.std.specs.List.{find}
use Rattle.std.specs.Option.{option_copied}
use Rattle.lsm_levels.specs.Tables.{meets, IsRun}
use Rattle.lsm_levels.proofs.ChoiceLaws.{from_both}
use Rattle.lsm_levels.proofs.Runs.{run_filter}
use Rattle.lsm_levels.proofs.choosing.neighbours.Goals as goal

pub returns-clause-same : goal.returns-clause-same
returns-clause-same g c =
    let tables = c.args.tables.now in
    c.meeting.ensures
    ∙ from_both tables (find (λ t. t.number == c.args.first) tables) (find (λ t. t.number == c.args.last) tables) c.in-Some.first.now c.in-Some-table_of.last.now c.first.result.now c.last.result.now
    (sym (ap option_copied c.in-Some.is) ∙ c.table_of.ensures ∙ ap (find (λ t. t.number == c.args.first)) c.tables.ensures.same)
    (sym (ap option_copied c.in-Some-table_of.is) ∙ c.table_of-2.ensures ∙ ap (find (λ t. t.number == c.args.last)) c.tables-2.ensures.same)
    c.first.ensures c.last.ensures

pub returns-clause-run : goal.returns-clause-run
returns-clause-run g c = subst IsRun (sym c.meeting.ensures) (run_filter (meets (record { first = c.first.result.now; last = c.last.result.now })) c.args.tables.now c.tables.ensures.run)
