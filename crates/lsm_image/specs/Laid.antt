-- Writes made on the sectors of an image.
use Rattle.std.specs.Prelude.{◌<◌, ◌^◌, ℕ, List, [], ◌∷◌, ◌==◌, All, length, map, Option, Some, if◌then◌else◌}
use Rattle.lsm_device.specs.declared.made.Made.{Made}
use Rattle.lsm_device.specs.Disk.{Write, IsSector, IsWrite, written}
use Rattle.lsm_image.specs.declared.laid.Laid.{Laid}

abbrev pub write_of : Laid → Write
write_of w = record { at = w.at; bytes = w.bytes }

-- as a device in memory keeps it
abbrev pub made_of : Laid → Made
made_of w = record { at = w.at; bytes = w.bytes; sync_followed = w.sync_followed }

-- the sectors once the writes are made on them
abbrev pub image_of : List (List ℕ) → List Laid → List (List ℕ)
image_of base laid = written base (map write_of laid)

-- and once the writes made since are too
abbrev pub now_of : List (List ℕ) → List Laid → List Laid → List (List ℕ)
now_of base laid made = written (image_of base laid) (map write_of made)

-- sectors of a device, and writes of them
pub record IsImage (base : List (List ℕ)) (laid : List Laid) : Type 0 where
  pub size_fits : length base < 2 ^ 32
  pub base_whole : All IsSector base
  pub laid_whole : All (IsWrite (length base)) (map write_of laid)

-- what a sector holds after these writes, where it held `before` before them
abbrev pub newest : Option (List ℕ) → List Write → ℕ → Option (List ℕ)
newest before [] at = before
newest before (w ∷ ws) at = newest (if w.at == at then Some w.bytes else before) ws at
