use Rattle.std.proofs.Common.{List, map, ap, subst, ◌∙◌, arith, rules}
use Rattle.lsm_lives.specs.Asked.{Asked}
use Rattle.lsm_lives.specs.Calls.{asked_of}
use Rattle.lsm_explore.specs.Exploring.{IsWhole}
use Rattle.lsm_explore.proofs.Explorations.{all_openings, no_openings, openings_more}
use Rattle.lsm_explore.proofs.exploring.reopen_each.Goals as goal

pub loop-fuse-init : goal.loop-fuse-init
loop-fuse-init g c = no_openings c.args.left.now c.args.explored.now

pub reopen_one-requires : goal.reopen_one-requires
reopen_one-requires g c = (search rules, (search rules, (search rules, (search rules, c.requires.may))))

pub loop-fuse-preserved : goal.loop-fuse-preserved
loop-fuse-preserved g c = openings_more c.args.left.now c.loop-fuse.fuse c.args.explored.now c.loop-fuse.explored c.reopen_one.new.explored c.loop-fuse.invariant c.in_ok-reopen_one.ensures.adds

pub returns-clause-adds : goal.returns-clause-adds
returns-clause-adds g c =
    let whole = c.in_ok-count.ensures.whole in
    all_openings c.args.left.now c.loop-fuse.fuse c.args.explored.now c.loop-fuse.explored whole.0
    (subst (λ (l : List Asked). IsWhole c.args.left.now l whole.0) (ap (map asked_of) (c.deref.ensures.value ∙ c.new-steps.ensures.items)) whole.1) (omega (arith, whole.2)) c.loop-fuse.invariant
