use Rattle.std.proofs.Common.{[], ◌<◌, ◌^◌}
use Rattle.std.proofs.lemmas.List.Elements.{All-nil}
use Rattle.lsm_mapped.specs.Sound.{rests}
use Rattle.lsm_mapped.proofs.mapped.MappedDevice.take.Goals as goal

pub new-requires : goal.new-requires
new-requires c = rests 0 [] (All-nil (λ b. b < 2 ^ 8))
