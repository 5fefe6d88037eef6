-- What a call does that is refused.
use Rattle.std.proofs.Common.{◌≡◌, ◌≢◌, true, Some, None, is_some, refl, ap}
use Rattle.lsm_device.specs.Refusals.{is_no_fault}
use Rattle.lsm_device.specs.declared.refusal.Refusal.{Refusal}
use Rattle.lsm_device.specs.declared.refusal.Refusal.TheVariants.{NoMemory, Io}
use Rattle.lsm_store.specs.Backing.{StoreView}
use Rattle.lsm_machine.specs.Calls.{Call}
use Rattle.lsm_machine.specs.Calls.{Refused}
use Rattle.lsm_machine.specs.Effects.{wants_memory}
use Rattle.lsm_machine.specs.Refusals.{refusal}
use Rattle.lsm_store.specs.Serving.{Serves}
use Rattle.lsm_store.proofs.Serving.{refused, refused_use, no_memory_use, serves_still}
use Rattle.lsm_machine.proofs.Unrefused.{refusal_decided}

no_fault_is : (e : Refusal) → e ≢ Io → is_no_fault e ≡ true
no_fault_is Io other = absurd (other refl)
no_fault_is e other = refl

-- a call that the state refuses
pub serves_refused : (v : StoreView) (call : Call) (e : Refusal) → refusal v.state call ≡ Some e → Serves v call (Refused e) v
serves_refused v call e is =
    let both = refused v.state call e is in
    serves_still v call (Refused e) both.0 both.1 (no_fault_is e (refusal_decided v.state call e is).no_fault) (refused_use v.state call (Refused e) e is) refl

-- a call that wants memory, and has none
pub serves_no_memory : (v : StoreView) (call : Call) → refusal v.state call ≡ None → wants_memory v.state call ≡ true → Serves v call (Refused NoMemory) v
serves_no_memory v call none wants = serves_still v call (Refused NoMemory) (ap is_some none, wants) refl refl (no_memory_use v.state call none) refl
