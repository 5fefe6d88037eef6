use Rattle.std.proofs.Common.{map, length, ap, arith}
use Rattle.lsm_table.specs.Division.{entries_of}
use Rattle.lsm_table.proofs.Deletes.{few_deletes}
use Rattle.lsm_table.proofs.image.Image.deletes.Goals as goal

pub returns-clause-among : goal.returns-clause-among
returns-clause-among g c =
    let few = few_deletes (entries_of (map (λ b. b.items) c.self.inside.blocks.items)) in
    omega (arith, c.self.invariant.counted, few, ap (λ t. length (entries_of t)) c.self.view_is)
