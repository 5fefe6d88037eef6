-- What a cursor reads, as a cursor over a run.
use Rattle.std.specs.Prelude.{List, [], map, Ok}
use Rattle.lsm_codec.specs.Versions.{Version}
use Rattle.lsm_levels.specs.Cursors.{Cursor}
use Rattle.lsm_levels.specs.declared.source.Place.{Place}
use Rattle.lsm_levels.specs.declared.source.Place.TheVariants.{Memory, Run}

-- versions of memory stand in one block, and no other is to come
abbrev pub cursor_of_versions : List Version → Cursor
cursor_of_versions versions = record { items = map (λ v. Ok v) versions; blocks = [] }

-- the cursor over a place
abbrev pub cursor_in : {A : Type 0} → Place A → Cursor
cursor_in (Memory versions) = cursor_of_versions versions
cursor_in (Run cursor) = cursor
