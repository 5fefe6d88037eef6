-- What a look-up in a store that was just opened finds.
use Rattle.std.proofs.Common.{◌≡◌, Bool, true, false, Option, Some, None, ap, ◌∙◌, subst}
use Rattle.std.specs.FinMap as finite
use Rattle.std.specs.Prelude.{not, if◌then◌else◌}
use Rattle.lsm_codec.specs.BatchText.{is_key}
use Rattle.lsm_codec.specs.Keys.{Bytes}
use Rattle.lsm_device.specs.declared.refusal.Refusal.TheVariants.{BadKey}
use Rattle.lsm_root.specs.CrashState.{CrashState}
use Rattle.lsm_machine.specs.declared.asked.At.TheVariants.{Now}
use Rattle.lsm_store.specs.Backing.{StoreView, IsBacked}
use Rattle.lsm_machine.specs.Calls.{Reply}
use Rattle.lsm_machine.specs.Calls.{Get, Value}
use Rattle.lsm_machine.specs.Crash.{reopened}
use Rattle.lsm_machine.specs.Effects.{reply_by}
use Rattle.lsm_machine.specs.Run.{Allows}
use Rattle.lsm_store.specs.Serving.{Serves}
use Rattle.lsm_machine.specs.State.{State}

value_in : Reply → Option Bytes
value_in (Value found) = found
value_in other = None

-- a value that a reopened store answers is that of its map
found_in : (left : CrashState) (key : Bytes) (found : Option Bytes) → Allows (reopened 128 left) (Get Now key) (Value found) → found ≡ finite.get left.map key
unfolding value_in
found_in left key found allowed = by (is_key key) allowed
  where
    by : (b : Bool) → Value found ≡ reply_by (reopened 128 left) (Get Now key) (if not b then Some BadKey else None) → found ≡ finite.get left.map key
    by true e = ap value_in e
    by false e = cc

-- a look-up finds the value of the map, and the next one may rest on the same
pub found_by : (left : CrashState) (key value : Bytes) (found : Option Bytes) (old new : StoreView) → Serves old (Get Now key) (Value found) new → old.state ≡ reopened 128 left → IsBacked old
    → finite.get left.map key ≡ Some value → (found ≡ Some value) × (new.state ≡ reopened 128 left) × IsBacked new
found_by left key value found old new serves is backed has = (
  found_in left key found (subst (λ (s : State). Allows s (Get Now key) (Value found)) is (serves.allowed backed)) ∙ has,
  serves.state ∙ is,
  serves.backed backed,
)
