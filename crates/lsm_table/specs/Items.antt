-- Entries that are lent out of a block, and places among them.
use Rattle.std.specs.Prelude.{◌≡◌, ℕ, List, [], ◌∷◌, drop, Option, Some, None, Result, Ok, Err}
use Rattle.lsm_device.specs.declared.refusal.Refusal.{Refusal}
use Rattle.lsm_codec.specs.declared.version.VersionRef.{VersionRef}
use Rattle.lsm_codec.specs.Versions.{Version}
use Rattle.lsm_codec.specs.Entries.{entries_from}
use Rattle.lsm_codec.specs.References.{shown}

-- an entry or a refusal, without the place of the entry
abbrev pub shown_item : Result VersionRef Refusal → Result Version Refusal
shown_item (Ok e) = Ok (shown e)
shown_item (Err e) = Err e

-- an item came off the front, or there was none
abbrev pub Takes : List (Result Version Refusal) → Option (Result VersionRef Refusal) → List (Result Version Refusal) → Type 0
Takes before None after = (before ≡ []) × (after ≡ [])
Takes before (Some item) after = before ≡ shown_item item ∷ after

-- a place among the entries of a block: how many are left, and at which byte they begin
pub record Place : Type 0 where
  pub left : ℕ
  pub offset : ℕ

-- the items of a block from a place on
abbrev pub items_at : Place → List ℕ → List (Result Version Refusal)
items_at p bytes = entries_from p.left (drop p.offset bytes)

-- the version among items that comes first, if one does
abbrev pub first_version : List (Result Version Refusal) → Option Version
first_version [] = None
first_version (Ok v ∷ rest) = Some v
first_version (Err refusal ∷ rest) = None
