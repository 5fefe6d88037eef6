use Rattle.std.specs.Prelude.{[], ◌∷◌}
use Rattle.lsm_device.specs.Disk.{at_rest}
use Rattle.lsm_mapped.specs.Disks.{mapped_sectors}
use Rattle.example_documents.proofs.devices.commit_on_a_mapping.Given as goal

abbrev pub ghost-new : goal.ghost-new
ghost-new a = at_rest (mapped_sectors a.sectors a.image.now) ∷ []
