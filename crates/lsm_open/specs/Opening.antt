-- When an opening is refused.
use Rattle.std.specs.Prelude.{ℕ, ◌+◌, ◌==◌, List, Option, Some, None, if◌then◌else◌}
use Rattle.lsm_codec.specs.Manifests.{Contents}
use Rattle.lsm_device.specs.declared.refusal.Refusal.{Refusal}
use Rattle.lsm_device.specs.declared.refusal.Refusal.TheVariants.{NoMemory, Io, Exhausted, NotAStore, BadSuper, BadManifest, BadGeometry}
use Rattle.lsm_root.specs.CrashState.{last_number}
use Rattle.lsm_open.specs.LogRegions.{follow_on}

-- the refusal of an opening for the regions and the generation of a manifest that stands
abbrev pub manifest_refusal : ℕ → List (List ℕ) → Contents → Option Refusal
manifest_refusal log_sectors sectors manifest = if follow_on log_sectors sectors (manifest.base + 1) manifest.logs
    then (if manifest.generation == last_number then Some Exhausted else None)
    else Some BadManifest

-- the refusals that an opening may answer besides BadTable, whatever the device holds
abbrev pub IsRefusalBesideBadTable : Refusal → Type 0
IsRefusalBesideBadTable NoMemory = Unit {0}
IsRefusalBesideBadTable Io = Unit {0}
IsRefusalBesideBadTable NotAStore = Unit {0}
IsRefusalBesideBadTable BadSuper = Unit {0}
IsRefusalBesideBadTable BadGeometry = Unit {0}
IsRefusalBesideBadTable BadManifest = Unit {0}
IsRefusalBesideBadTable Exhausted = Unit {0}
IsRefusalBesideBadTable other = ⊥
