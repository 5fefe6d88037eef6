use Rattle.std.proofs.Common.{arith}
use Rattle.std.proofs.lemmas.List.{length-map}
use Rattle.lsm_table.proofs.Outlines.{few_blocks}
use Rattle.lsm_table.proofs.image.Image.data_blocks.Goals as goal

pub returns-clause-low : goal.returns-clause-low
returns-clause-low g c = omega (arith, c.self.invariant.is.nonempty, length-map c.self.inside.blocks.items (λ b. b.items), c.len.ensures, c.self.inside.blocks.ok.0)

pub returns-clause-high : goal.returns-clause-high
returns-clause-high g c = omega (arith, few_blocks _ c.self.invariant.is, length-map c.self.inside.blocks.items (λ b. b.items), c.len.ensures, c.self.inside.blocks.ok.0)
