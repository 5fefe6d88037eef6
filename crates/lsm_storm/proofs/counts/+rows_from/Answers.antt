use Rattle.std.proofs.Common.{arith, ◌+◌, ◌∙◌, ap}
use Rattle.std.proofs.lemmas.Bool.Decides.{nat_tests}
use Rattle.lsm_lives.proofs.Listing.{scanned}
use Rattle.lsm_storm.proofs.Pages.{all_of_more, all_of_last, few_of_page}
use Rattle.lsm_storm.proofs.counts.+rows_from.Goals as goal

pub returns-in-Some-clause-rows : goal.returns-in-Some-clause-rows
returns-in-Some-clause-rows t c =
    let is = scanned c.args.store.now c.scan.new.self c.args.from.now c.in_ok-page.page c.requires c.in_ok-page.ensures.serves in
    ap (λ rows. rows + c.in_ok-rows_from-in-Some.field-0) c.len-rows.ensures
    ∙ all_of_more _ _ _ c.in-Some.key.now c.rows.result c.in_ok-page.page _ is c.rows.ensures c.in-Some.ensures c.in_ok-rows_from-in-Some.ensures.rows

pub returns-in-Some-clause-few : goal.returns-in-Some-clause-few
returns-in-Some-clause-few t c =
    let is = scanned c.args.store.now c.scan.new.self c.args.from.now c.in_ok-page.page c.requires c.in_ok-page.ensures.serves in
    let few = few_of_page _ _ _ c.rows.result c.in_ok-page.page is c.rows.ensures in
    let rows = c.len-rows.ensures in
    grind (arith, nat_tests)

pub returns-clause-rows : goal.returns-clause-rows
returns-clause-rows t c =
    let is = scanned c.args.store.now c.scan.new.self c.args.from.now c.in_ok-page.page c.requires c.in_ok-page.ensures.serves in
    c.len-rows.ensures ∙ all_of_last _ _ _ c.rows.result c.in_ok-page.page is c.rows.ensures c.in-None.ensures

pub returns-clause-few : goal.returns-clause-few
returns-clause-few t c =
    let is = scanned c.args.store.now c.scan.new.self c.args.from.now c.in_ok-page.page c.requires c.in_ok-page.ensures.serves in
    let few = few_of_page _ _ _ c.rows.result c.in_ok-page.page is c.rows.ensures in
    let rows = c.len-rows.ensures in
    grind (arith, nat_tests)
