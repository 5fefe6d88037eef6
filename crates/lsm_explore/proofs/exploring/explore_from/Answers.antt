use Rattle.std.proofs.Common.{map, refl, arith, rules}
use Rattle.lsm_lives.specs.Calls.{asked_of}
use Rattle.lsm_explore.proofs.Explorations.{all_lives, lives_more, no_lives}
use Rattle.lsm_explore.proofs.exploring.explore_from.Goals as goal

pub loop-fuse-init : goal.loop-fuse-init
loop-fuse-init g c = no_lives c.args.start.now (map asked_of c.args.steps.now) c.args.twice _ refl

pub explore_one-requires : goal.explore_one-requires
explore_one-requires g c = (search rules, (search rules, (search rules, (search rules, (c.requires.formatted, c.requires.few)))))

pub loop-fuse-preserved : goal.loop-fuse-preserved
loop-fuse-preserved g c = lives_more c.args.start.now (map asked_of c.args.steps.now) c.loop-fuse.fuse c.args.twice c.loop-fuse.explored c.explore_one.new.explored c.loop-fuse.invariant c.in_ok-explore_one.ensures.adds

pub returns-clause-right : goal.returns-clause-right
returns-clause-right g c = c.loop-fuse.invariant.wrong

pub returns-clause-lives : goal.returns-clause-lives
returns-clause-lives g c =
    let whole = c.in_ok-count.ensures.whole in
    all_lives c.args.start.now (map asked_of c.args.steps.now) c.loop-fuse.fuse c.args.twice c.loop-fuse.explored whole.0 whole.1 (omega (arith, whole.2)) c.loop-fuse.invariant
