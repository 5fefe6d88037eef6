use Rattle.std.proofs.Common.{Some, option_map, ap, sym, ◌∙◌}
use Rattle.lsm_codec.specs.Keys.{Bytes}
use Rattle.lsm_levels.specs.Tables.{least}
use Rattle.lsm_levels.specs.Hulls.{range_shown, hull_onto}
use Rattle.lsm_levels.proofs.RunHulls.{onto_by_ends, onto_empty, onto_none}
use Rattle.lsm_levels.proofs.hulls.run_hull_onto.Goals as goal

pub returns-in_default : goal.returns-in_default
returns-in_default g c = onto_empty c.args.run.now (option_map range_shown c.args.rest) c.in_default.ensures

pub returns-in-Some-rest : goal.returns-in-Some-rest
returns-in-Some-rest g c =
    let rest = range_shown c.in-Some-rest.rest in
    ap (λ (a : Bytes). Some (record { first = a; last = c.greatest.result.now })) c.least.ensures
    ∙ ap (λ (b : Bytes). Some (record { first = least c.in-Some.first.now rest.first; last = b })) c.greatest.ensures
    ∙ onto_by_ends c.args.run.now (record { first = c.in-Some.first.now; last = c.in-Some.last.now }) rest c.requires c.in-Some.ensures
    ∙ ap (λ o. hull_onto c.args.run.now (option_map range_shown o)) (sym c.in-Some-rest.is)

pub returns-in-None : goal.returns-in-None
returns-in-None g c =
    c.in-Some.ensures ∙ sym (onto_none c.args.run.now) ∙ ap (λ o. hull_onto c.args.run.now (option_map range_shown o)) (sym c.in-None.is)
