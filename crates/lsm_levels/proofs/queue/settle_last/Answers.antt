use Rattle.std.proofs.Common.{rules, map, take, drop, length, ◌++◌, sym, ap, ◌∙◌, option_map}
use Rattle.lsm_codec.specs.References.{shown}
use Rattle.lsm_levels.specs.Cursors.{present}
use Rattle.lsm_levels.proofs.QueueLaws.{settles_in, settles_out, whole_slice}
use Rattle.lsm_levels.proofs.queue.settle_last.Goals as goal

pub returns-in_default-current_at : goal.returns-in_default-current_at
returns-in_default-current_at g c =
    let here = sym (ap (option_map shown) c.in_default-current_at.is) ∙ c.current_at.ensures in
    settles_out (map present c.args.sources.now) c.args.places.now.items c.in-Some.others.now c.pop.new.self.items c.in-Some.last.now (search rules) c.args.places.now.len here (search rules) c.pop.ensures.rest

pub returns : goal.returns
returns g c =
    let here = sym (ap (option_map shown) c.in-Some-current_at.is) ∙ c.current_at.ensures in
    let old = c.args.places.now.items in
    let turned = c.turn_last.new.places in
    let whole = whole_slice c.args.places.now.len turned old (search rules) (search rules) in
    settles_in (map present c.args.sources.now) old c.in-Some.others.now (take c.args.places.now.len (turned ++ drop (length turned) old)) c.in-Some.last.now (search rules) (shown c.in-Some-current_at.version) c.count_later-at.result here
    c.count_later-at.ensures.later c.count_later-at.ensures.sooner (λ others i is. whole ∙ c.turn_last.ensures.turned others i (c.deref_mut.ensures.value ∙ is))
