use Rattle.std.proofs.Common.{◌≡◌, ◌++◌, ◌∷◌, [], rules}
use Rattle.lsm_explore.proofs.MaskLists.{second_more}
use Rattle.lsm_explore.proofs.masks.every_second.Goals as goal

pub loop-preserved : goal.loop-preserved
loop-preserved g c =
    let added : c.push.new.self.items ≡ c.loop.mask.items ++ c.loop.keep ∷ [] = search rules in
    second_more c.loop.keep c.args.pending c.loop.counter c.loop-test.true c.loop.mask.items c.push.new.self.items _ c.loop.invariant added
