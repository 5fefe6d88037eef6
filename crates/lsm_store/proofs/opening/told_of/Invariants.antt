use Rattle.std.specs.Arc.{arc_value}
use Rattle.std.specs.Prelude.{option_map}
use Rattle.lsm_mem.specs.Versions.{map_of}
use Rattle.lsm_open.specs.Layout.{layout_of}
use Rattle.lsm_store.specs.JustOpened.{just_opened}
use Rattle.lsm_store.specs.OpenedWork.{opened_versions}
use Rattle.lsm_store.proofs.opening.told_of.Given as goal

abbrev pub ghost-by_parts : goal.ghost-by_parts
ghost-by_parts g a = just_opened (layout_of a._regions.now) a._count (map_of (opened_versions (option_map arc_value a._sealed.now) a._levels.now) a._count)
