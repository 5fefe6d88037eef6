-- What an exploration counts.
use Rattle.std.specs.Prelude.{◌≡◌, ℕ, ◌+◌, Bool, true, false, List, [], ◌∷◌, ◌++◌, length, map, Some, None, if◌then◌else◌}
use Rattle.std.specs.List.{list_any}
use Rattle.lsm_device.specs.Disk.{image}
use Rattle.lsm_device.specs.Medium.{Medium, disk}
use Rattle.lsm_image.specs.Media.{begun}
use Rattle.lsm_root.specs.CrashState.{formatted as empty_store}
use Rattle.lsm_open.specs.Image.{StandFor}
use Rattle.lsm_device.specs.declared.refusal.Refusal.TheVariants.{NoMemory}
use Rattle.lsm_machine.specs.Calls.{Refused}
use Rattle.lsm_lives.specs.Asked.{Asked, Told, Replied}
use Rattle.lsm_lives.specs.Leading.{IsLed}
use Rattle.lsm_explore.specs.Masks.{masks_for, is_skipped}
use Rattle.lsm_explore.specs.declared.exploring.Explored.{Explored}

-- sectors of a device
abbrev pub Sectors : Type 0
Sectors = List (List ℕ)

-- whether this tells of want of memory
abbrev pub tells_no_memory : Told → Bool
tells_no_memory (Replied (Refused NoMemory)) = true
tells_no_memory told = false

-- whether an opening or a step was refused for want of memory
abbrev pub is_wanting : List Told → Bool
is_wanting told = list_any tells_no_memory told

-- A device at the end of a life of these steps that began on these sectors with this fuse. Nothing in it was refused for want of
-- memory, and just as many of its writes and syncs answered Ok as the fuse says.
pub record IsEnd (sectors : Sectors) (asked : List Asked) (fuse : ℕ) (end : Medium) : Type 0 where
  pub told : List Told
  pub led : IsLed (begun sectors (Some fuse)) asked told end
  pub memory : is_wanting told ≡ false
  pub passed : end.calls.passed ≡ fuse

-- one for each fuse from this one on, in order
abbrev pub AreEndsFrom : Sectors → List Asked → ℕ → List Medium → Type 0
AreEndsFrom sectors asked fuse [] = Unit {0}
AreEndsFrom sectors asked fuse (end ∷ ends) = IsEnd sectors asked fuse end × AreEndsFrom sectors asked (fuse + 1) ends

-- The end of such a life without a fuse, in which no call faulted, and nothing was refused for want of memory.
pub record IsWhole (sectors : Sectors) (asked : List Asked) (whole : Medium) : Type 0 where
  pub told : List Told
  pub led : IsLed (begun sectors None) asked told whole
  pub memory : is_wanting told ≡ false
  pub no_fault : whole.calls.faults ≡ 0

-- One for each fuse from 0 to the number of writes and syncs of such a life without a fuse.
pub record AreEnds (sectors : Sectors) (asked : List Asked) (ends : List Medium) : Type 0 where
  pub whole : Medium
  pub is_whole : IsWhole sectors asked whole
  pub each : AreEndsFrom sectors asked 0 ends
  pub count : length ends ≡ whole.calls.passed + 1

-- what crashes leave of a device, by each mask that is tried
abbrev pub left_of : Medium → List Sectors
left_of end = map (λ mask. image mask (disk end)) (masks_for (length (disk end).pending))

abbrev pub left_of_each : List Medium → List Sectors
left_of_each [] = []
left_of_each (end ∷ ends) = left_of end ++ left_of_each ends

-- of how many devices not each subset was tried
abbrev pub skips : Medium → ℕ
skips end = if is_skipped (length (disk end).pending) then 1 else 0

abbrev pub skipped_in : List Medium → ℕ
skipped_in [] = 0
skipped_in (end ∷ ends) = skips end + skipped_in ends

-- for each of these sectors the devices at the ends of openings, which make no step
abbrev pub AreReopened : List Sectors → List (List Medium) → Type 0
AreReopened [] [] = Unit {0}
AreReopened (sectors ∷ rest) (ends ∷ more) = AreEnds sectors [] ends × AreReopened rest more
AreReopened [] (ends ∷ more) = ⊥
AreReopened (sectors ∷ rest) [] = ⊥

abbrev pub left_again : List (List Medium) → ℕ
left_again [] = 0
left_again (ends ∷ more) = length (left_of_each ends) + left_again more

abbrev pub skipped_again : List (List Medium) → ℕ
skipped_again [] = 0
skipped_again (ends ∷ more) = skipped_in ends + skipped_again more

-- Just these are counted: the crashes of lives of these steps on these sectors, and those of the openings of what they left, where
-- these are explored too.
pub record IsExploredFrom (sectors : Sectors) (asked : List Asked) (twice : Bool) (explored : Explored) : Type 0 where
  pub ends : List Medium
  pub are_ends : AreEnds sectors asked ends
  pub again : List (List Medium)
  pub are_reopened : AreReopened (if twice then left_of_each ends else []) again
  pub first : explored.first ≡ length (left_of_each ends)
  pub second : explored.second ≡ left_again again
  pub skipped : explored.skipped ≡ skipped_in ends + skipped_again again

-- on the `size` sectors that a format left
pub record IsExplored (size log_sectors : ℕ) (asked : List Asked) (twice : Bool) (explored : Explored) : Type 0 where
  pub sectors : Sectors
  pub sized : length sectors ≡ size
  pub formatted : StandFor log_sectors empty_store sectors
  pub lives : IsExploredFrom sectors asked twice explored

-- ---- what one part of an exploration adds to the counts

-- an opening with one fuse on what may be left: its crashes
pub record AddsOpening (sectors : Sectors) (fuse : ℕ) (old new : Explored) : Type 0 where
  pub end : Medium
  pub is_end : IsEnd sectors [] fuse end
  pub first : new.first ≡ old.first
  pub second : new.second ≡ old.second + length (left_of end)
  pub skipped : new.skipped ≡ old.skipped + skips end
  pub wrong : new.wrong ≡ old.wrong

-- openings with each fuse
pub record AddsOpenings (sectors : Sectors) (old new : Explored) : Type 0 where
  pub ends : List Medium
  pub are_ends : AreEnds sectors [] ends
  pub first : new.first ≡ old.first
  pub second : new.second ≡ old.second + length (left_of_each ends)
  pub skipped : new.skipped ≡ old.skipped + skipped_in ends
  pub wrong : new.wrong ≡ old.wrong

-- crashes of a life that left these, and the openings after them, where these are explored too
pub record AddsCrashes (left : List Sectors) (twice : Bool) (old new : Explored) : Type 0 where
  pub again : List (List Medium)
  pub are_reopened : AreReopened (if twice then left else []) again
  pub first : new.first ≡ old.first + length left
  pub second : new.second ≡ old.second + left_again again
  pub skipped : new.skipped ≡ old.skipped + skipped_again again
  pub wrong : new.wrong ≡ old.wrong

-- a life with one fuse
pub record AddsLife (sectors : Sectors) (asked : List Asked) (fuse : ℕ) (twice : Bool) (old new : Explored) : Type 0 where
  pub end : Medium
  pub is_end : IsEnd sectors asked fuse end
  pub again : List (List Medium)
  pub are_reopened : AreReopened (if twice then left_of end else []) again
  pub first : new.first ≡ old.first + length (left_of end)
  pub second : new.second ≡ old.second + left_again again
  pub skipped : new.skipped ≡ old.skipped + skips end + skipped_again again
  pub wrong : new.wrong ≡ old.wrong
