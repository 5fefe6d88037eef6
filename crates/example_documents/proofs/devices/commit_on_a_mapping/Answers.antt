use Rattle.std.proofs.Common.{arith}
use Rattle.std.proofs.lemmas.Grind.{get_or_default_zero}
use Rattle.lsm_mapped.specs.Sound.{rests}
use Rattle.example_documents.proofs.devices.commit_on_a_mapping.Goals as goal

pub new-requires : goal.new-requires
new-requires c = rests _ c.args.image.now (λ i d below. omega (arith, c.type_inv.image i, get_or_default_zero c.args.image.now i d below))
