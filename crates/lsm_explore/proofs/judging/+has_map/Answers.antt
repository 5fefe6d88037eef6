use Rattle.std.proofs.Common.{length, None, ap, sym, ◌∙◌, arith, rules}
use Rattle.lsm_mem.specs.Paging.{pairs_in}
use Rattle.lsm_machine.specs.RecoveryPoints.{present_map}
use Rattle.lsm_machine.specs.State.{State}
use Rattle.lsm_explore.specs.Plain.{rows_of}
use Rattle.lsm_lives.proofs.Listing.{scanned, is_not, too_few, others, some_rows, more, last, pairs_behind}
use Rattle.lsm_explore.proofs.ListedRows.{front_tells, back_tells, empty_tells, length-rows}
use Rattle.lsm_explore.proofs.judging.+has_map.Goals as goal

pub returns-then-count-rows-clause-same : goal.returns-then-count-rows-clause-same
returns-then-count-rows-clause-same g t c =
    let m = present_map c.args.store.now.state.points in
    let sc = scanned c.args.store.now c.scan.new.self c.args.from.now c.in_ok-page.page c.requires.backed c.in_ok-page.ensures.serves in
    is_not _ (too_few (pairs_in m c.args.from.now None) (rows_of c.args.rows.now) c.in_ok-page.page c.len-count.result sc.page_of_map (c.len-count.ensures ∙ ap length c.rows.ensures)
    (omega (arith, c.if-count-rows.true, length-rows c.args.rows.now)))

pub returns-then-not-has_rows-clause-same : goal.returns-then-not-has_rows-clause-same
returns-then-not-has_rows-clause-same g t c =
    let m = present_map c.args.store.now.state.points in
    let sc = scanned c.args.store.now c.scan.new.self c.args.from.now c.in_ok-page.page c.requires.backed c.in_ok-page.ensures.serves in
    is_not _ (others (pairs_in m c.args.from.now None) (rows_of c.args.rows.now) c.in_ok-page.page c.len-count.result sc.page_of_map (c.len-count.ensures ∙ ap length c.rows.ensures)
    c.has_rows.result c.if-not-has_rows.true (front_tells c.has_rows.result c.len-count.result c.args.rows.now _ c.has_rows.ensures))

pub returns-then-count-eq0-clause-same : goal.returns-then-count-eq0-clause-same
returns-then-count-eq0-clause-same g t c =
    let m = present_map c.args.store.now.state.points in
    let sc = scanned c.args.store.now c.scan.new.self c.args.from.now c.in_ok-page.page c.requires.backed c.in_ok-page.ensures.serves in
    absurd (some_rows (pairs_in m c.args.from.now None) (rows_of c.args.rows.now) c.in_ok-page.page c.len-count.result sc.page_of_map (c.len-count.ensures ∙ ap length c.rows.ensures)
    c.in-Some.key.now (sym c.in-Some.ensures) (search rules))

pub returns-in-Some-clause-same : goal.returns-in-Some-clause-same
returns-in-Some-clause-same g t c =
    let m = present_map c.args.store.now.state.points in
    let sc = scanned c.args.store.now c.scan.new.self c.args.from.now c.in_ok-page.page c.requires.backed c.in_ok-page.ensures.serves in
    let key = c.in-Some.key.now in
    more (pairs_in m c.args.from.now None) (rows_of c.args.rows.now) c.in_ok-page.page c.len-count.result sc.page_of_map (c.len-count.ensures ∙ ap length c.rows.ensures)
    key (sym c.in-Some.ensures) c.has_rows.result c.if-not-has_rows.false (front_tells c.has_rows.result c.len-count.result c.args.rows.now _ c.has_rows.ensures)
    (pairs_in (present_map c.scan.new.self.state.points) key None)
    (ap (λ (s : State). pairs_in (present_map s.points) key None) sc.same ∙ pairs_behind m c.args.from.now key c.in_ok-page.page sc.page_of_map (sym c.in-Some.ensures))
    c.in_ok-same-in-Some.same (back_tells c.in_ok-same-in-Some.same c.len-count.result c.args.rows.now _ c.in_ok-same-in-Some.ensures.same)

pub returns-clause-same : goal.returns-clause-same
returns-clause-same g t c =
    let m = present_map c.args.store.now.state.points in
    let sc = scanned c.args.store.now c.scan.new.self c.args.from.now c.in_ok-page.page c.requires.backed c.in_ok-page.ensures.serves in
    last (pairs_in m c.args.from.now None) (rows_of c.args.rows.now) c.in_ok-page.page c.len-count.result sc.page_of_map (c.len-count.ensures ∙ ap length c.rows.ensures)
    c.has_rows.result c.if-not-has_rows.false (front_tells c.has_rows.result c.len-count.result c.args.rows.now _ c.has_rows.ensures) (sym c.in-None.ensures)
    c.is_empty.result (empty_tells c.is_empty.result c.len-count.result c.args.rows.now c.is_empty.ensures)
