use Rattle.std.proofs.Common.{ap}
use Rattle.lsm_open.specs.Layout.{Layout}
use Rattle.lsm_store.proofs.memory.Memory.rotated_regions.Goals as goal

pub returns-clause-regions : goal.returns-clause-regions
returns-clause-regions g c =
    let is = c.in_ok-next.ensures in
    record { new_log = is.new_log; least = is.least; layout = ap (λ (l : Layout). record l { next_table = c.args.self.now.next_table }) is.layout }
