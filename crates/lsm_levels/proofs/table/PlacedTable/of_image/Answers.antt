use Rattle.std.proofs.Common.{subst, sym, ℕ}
use Rattle.lsm_levels.specs.Sizes.{AreAtMost}
use Rattle.lsm_levels.proofs.EntrySizes.{image_small}
use Rattle.lsm_table.specs.Division.{entries_of}
use Rattle.lsm_levels.proofs.table.PlacedTable.of_image.Goals as goal

pub open_image-requires : goal.open_image-requires
open_image-requires g c κs within = (within, (c.requires, subst (λ (n : ℕ). AreAtMost n (entries_of c.args.image.now)) (sym c.largest_entry-largest.ensures) (image_small (entries_of c.args.image.now))))
