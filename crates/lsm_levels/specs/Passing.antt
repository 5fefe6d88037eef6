-- What a cursor over memory has passed.
use Rattle.std.specs.Prelude.{List, [], ◌∷◌, Option, Some, None}
use Rattle.lsm_codec.specs.Versions.{Version}
use Rattle.lsm_codec.specs.References.{shown}
use Rattle.lsm_codec.specs.declared.version.VersionRef.{VersionRef}

-- the versions that are left of a range, the present one first; empty past the last
abbrev pub versions_left : Option VersionRef → List Version → List Version
versions_left None rest = []
versions_left (Some v) rest = shown v ∷ rest
