-- What contracts see of a device that began on an image.
use Rattle.std.specs.Prelude.{◌≡◌, ◌<◌, ◌^◌, ℕ, nat_lt, Bool, true, List, [], ◌∷◌, length, map, All, Option, Some, None}
use Rattle.std.proofs.Common.{refl, subst}
use Rattle.std.proofs.lemmas.List.Elements.{All-nil, All-cons}
use Rattle.lsm_device.specs.Calls.{no_calls}
use Rattle.lsm_device.specs.Disk.{IsSector, IsWrite, IsDisk, at_rest}
use Rattle.lsm_device.specs.History.{IsHistory}
use Rattle.lsm_device.specs.Made.{history_of}
use Rattle.lsm_device.specs.Medium.{Medium, Lasting, Ended, KeepsFuse, KeepsFuses}
use Rattle.lsm_device.specs.Memory.{length-written, written-whole, history_from_sound}
use Rattle.lsm_image.specs.Laid.{made_of, image_of, IsImage, write_of as laid_write}
use Rattle.lsm_image.specs.declared.laid.Laid.{Laid}
use Rattle.lsm_image.specs.declared.device.ImageDevice.{ImageDevice}

-- of a device in memory that has never crashed, with a fuse where one is given
abbrev pub lasting_with : Option ℕ → Lasting
lasting_with fuse = record { tells = true; fuse_set = fuse; failure_set = None; times_set = 0; ended = [] }

-- a device that begins on these sectors, with a fuse where one is given
abbrev pub begun : List (List ℕ) → Option ℕ → Medium
begun sectors fuse = record { size = length sectors; lasting = lasting_with fuse; calls = no_calls; history = at_rest sectors ∷ [] }

-- whether a write or a sync answers Ok after `passed` that did
abbrev pub passes : Option ℕ → ℕ → Bool
passes None passed = true
passes (Some fuse) passed = nat_lt passed fuse

-- whether the next write or sync of a device does
abbrev pub goes_well : Medium → Bool
goes_well m = passes m.lasting.fuse_set m.calls.passed

abbrev pub medium_in : {A : Type 0} → ImageDevice A → Medium
medium_in d = record { size = length d.base.now; lasting = lasting_with d.fuse; calls = d.calls; history = history_of (image_of d.base.now d.laid.items) (map made_of d.made.items) }

-- an image has as many sectors as its base, and they are whole
pub length-image : (base : List (List ℕ)) (laid : List Laid) → length (image_of base laid) ≡ length base
length-image base laid = length-written (length base) base (map laid_write laid) refl

pub image_whole : (base : List (List ℕ)) (laid : List Laid) → IsImage base laid → All IsSector (image_of base laid)
image_whole base laid is = written-whole (length base) base (map laid_write laid) is.base_whole is.laid_whole

pub history_sound : {A : Type 0} (d : ImageDevice A) → IsHistory (length d.base.now) (history_of (image_of d.base.now d.laid.items) (map made_of d.made.items))
history_sound {A} d =
    let first = image_of d.base.now d.laid.items in
    let rest : IsDisk (length first) (at_rest first) = record { size = refl; sectors = image_whole d.base.now d.laid.items d.is_image; writes = All-nil (IsWrite (length first)) } in
    subst (λ (n : ℕ). IsHistory n (history_of first (map made_of d.made.items))) (length-image d.base.now d.laid.items)
    (history_from_sound (length first) (at_rest first ∷ []) (map made_of d.made.items) (record { now = rest; each = All-cons (IsDisk (length first)) (at_rest first) [] rest (All-nil (IsDisk (length first))) }) d.go_together.made_whole)

pub fuses_kept : {A : Type 0} (d : ImageDevice A) → KeepsFuses (medium_in d)
fuses_kept d = record { now = d.keeps_fuse; ended = All-nil (λ (e : Ended). KeepsFuse e.fuse_set e.calls) }

pub size_small : {A : Type 0} (d : ImageDevice A) → length d.base.now < 2 ^ 32
size_small d = d.is_image.size_fits
