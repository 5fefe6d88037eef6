use Rattle.std.proofs.Common.{[]}
use Rattle.lsm_open.proofs.NewestFound.{map_of_batches}
use Rattle.lsm_open.proofs.image_law.batches_apply_to_tables.Goals as goal

pub returns : goal.returns
returns c = λ base batches tables numbered. map_of_batches base batches [] tables tt numbered
