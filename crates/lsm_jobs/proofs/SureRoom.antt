-- Images that surely find room are placed.
use Rattle.std.proofs.Common.{ℕ, ◌≡◌, ◌<◌, ◌≤◌, List, [], ◌∷◌, Option, map, refl, subst, arith, inl, inr}
use Rattle.std.specs.Prelude.{sum}
use Rattle.std.specs.List.{AllByRecursion}
use Rattle.std.proofs.lemmas.List.Sums.{sum_by-cons}
use Rattle.lsm_device.specs.declared.refusal.Refusal.TheVariants.{NoSpace}
use Rattle.lsm_extent.specs.Area.{Area, IsLowestFit, handed_out}
use Rattle.lsm_extent.specs.Gaps.{FindRoom}
use Rattle.lsm_table.specs.Division.{TableBlocks}
use Rattle.lsm_table.specs.Extents.{extent_size}
use Rattle.lsm_table.specs.BlockCounts.{extent_blocks}
use Rattle.lsm_merge.specs.Inputs.{MergeInput}
use Rattle.lsm_jobs.specs.Slots.{Slot}
use Rattle.lsm_jobs.specs.Placing.{FindNoRoom}
use Rattle.lsm_jobs.specs.Refusing.{RefusesResult}
use Rattle.lsm_jobs.specs.SureRoom.{HaveSureRoom, SureRoomLaw}

-- there is one lowest fit
one_lowest : (area : Area) (blocks a b : ℕ) → IsLowestFit area blocks a → IsLowestFit area blocks b → a ≡ b
one_lowest area blocks a b at_a at_b = omega (arith, at_a.lowest b at_b.fits, at_b.lowest a at_a.fits)

find_room : (area : Area) (images : List TableBlocks) → FindRoom area (map extent_size images) → FindNoRoom area images → ⊥
find_room area [] found none = none
find_room area (image ∷ images) found (inl none) = none.none found.0 found.1.fits
find_room area (image ∷ images) found (inr later) =
    let same : later.0 ≡ found.0 = one_lowest area (extent_size image) later.0 found.0 later.1 found.1 in
    let P : ℕ → Type 0 = λ start. FindNoRoom (handed_out (record { first = start; blocks = extent_size image }) area) images in
    find_room (handed_out (record { first = found.0; blocks = extent_size image }) area) images found.2 (subst P same later.2)

sizes_within : (largest : ℕ) (images : List TableBlocks) → AllByRecursion (λ image. extent_size image ≤ largest) images → AllByRecursion (λ n. (0 < n) × (n ≤ largest)) (map extent_size images)
sizes_within largest [] each = tt
sizes_within largest (image ∷ images) each = ((omega arith, each.0), sizes_within largest images each.1)

sizes_are : (images : List TableBlocks) → sum (map extent_size images) ≡ extent_blocks images
sizes_are [] = refl
sizes_are (image ∷ images) = omega (arith, sum_by-cons (λ (n : ℕ). n) (extent_size image) (map extent_size images), sizes_are images)

placed : (area : Area) (images : List TableBlocks) → HaveSureRoom area images → FindNoRoom area images → ⊥
placed area images sure none =
    find_room area images (sure.fit.find (map extent_size images) (sizes_within sure.largest images sure.each) (omega (arith, sizes_are images, sure.all))) none

accepted : (next_table : ℕ) (input : MergeInput) (images : List TableBlocks) (area : Area) (held : Option Slot) → HaveSureRoom area images → RefusesResult next_table input images area held NoSpace → ⊥
accepted next_table input images area held sure refused = placed area images sure refused.2

pub sure_room_law : SureRoomLaw
sure_room_law = record { placed = placed; accepted = accepted }
