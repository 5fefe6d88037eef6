-- What a call that commits one operation does.
use Rattle.std.specs.Prelude.{◌≡◌, ◌⊎◌, [], ◌∷◌, Option, Some, None}
use Rattle.lsm_codec.specs.Map.{Operation}
use Rattle.lsm_device.specs.declared.refusal.Refusal.{Refusal}
use Rattle.lsm_device.specs.declared.refusal.Refusal.TheVariants.{NoMemory}
use Rattle.lsm_store.specs.Backing.{StoreView}
use Rattle.lsm_machine.specs.Calls.{Reply, Refused}
use Rattle.lsm_upkeep.specs.Writing.{Writes}

-- One operation is committed, unless this refuses it, or memory for the batch is wanting: then nothing was done.
abbrev pub WritesOne : Option Refusal → Operation → StoreView → Reply → StoreView → Type 0
WritesOne (Some e) operation old told new = (told ≡ Refused e) × (new ≡ old)
WritesOne None operation old told new = Writes None (operation ∷ []) old told new ⊎ ((told ≡ Refused NoMemory) × (new ≡ old))
