use Rattle.lsm_merge.specs.Loops.{shown}
use Rattle.lsm_merge.proofs.JoinLaws.{ordered_newest, keeps_above, keeps_at_bottom}
use Rattle.lsm_merge.proofs.keeping.keep.Goals as goal

pub settled-requires : goal.settled-requires
settled-requires g c = ordered_newest c.args.entries.now c.in_ok-newest.newest.items _ c.requires c.in_ok-newest.ensures

pub returns-then-bottom : goal.returns-then-bottom
returns-then-bottom g c = keeps_at_bottom c.args.cuts.now c.args.bottom (shown c.args.entries.now) (shown c.in_ok-newest.newest.items) (shown c.in_ok-kept.kept.items) c.if-bottom.true c.in_ok-newest.ensures c.in_ok-kept.ensures

pub returns : goal.returns
returns g c = keeps_above c.args.cuts.now c.args.bottom (shown c.args.entries.now) (shown c.in_ok-newest.newest.items) c.if-bottom.false c.in_ok-newest.ensures
