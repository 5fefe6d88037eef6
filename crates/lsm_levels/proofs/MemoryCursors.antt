-- A cursor over memory as a cursor over a run.
use Rattle.std.proofs.Common.{◌≡◌, List, [], ◌∷◌, drop, slice_get, None, refl}
use Rattle.lsm_codec.specs.Versions.{Version}
use Rattle.lsm_levels.specs.Asking.{Source}
use Rattle.lsm_levels.specs.Cursors.{GoesOn, present}
use Rattle.lsm_levels.specs.SourceCursors.{cursor_of_versions}

pub first_present : (versions : List Version) → slice_get versions 0 ≡ present (cursor_of_versions versions)
first_present [] = refl
first_present (v ∷ rest) = refl

-- it goes on by passing one, and asks for no block
pub memory_goes_on : (versions : List Version) (s : Source) → GoesOn (drop 1 (cursor_of_versions versions).items) [] (cursor_of_versions (drop 1 versions)) None s s
memory_goes_on [] s = (record { stands = refl; refused = refl }, refl)
memory_goes_on (v ∷ []) s = (record { stands = refl; refused = refl }, refl)
memory_goes_on (v ∷ w ∷ rest) s = (record { stands = refl; refused = refl }, refl)
