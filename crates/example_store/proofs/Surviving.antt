use Rattle.std.proofs.Common.{◌≡◌, ℕ, Bool, true, false, cond, List, [], ◌∷◌, Option, Some, None, ap, ◌∙◌}
use Rattle.std.proofs.Common.{◌≡◌, ℕ, Bool, true, false, cond, List, [], ◌∷◌, Option, Some, None, ap, ◌∙◌}
use Rattle.std.proofs.lemmas.Cmp.{nat_list_cmp_total, tied_itself}
use Rattle.std.specs.FinMap as finite
use Rattle.std.specs.FinMap.{get-insert}
use Rattle.std.specs.Ordering.{is_eq}
use Rattle.std.specs.Prelude.{Contains, not, if◌then◌else◌}
use Rattle.lsm_codec.specs.BatchText.{is_key}
use Rattle.lsm_codec.specs.Keys.{Bytes, byte_order}
use Rattle.lsm_codec.specs.Map.{Operation, apply}
use Rattle.lsm_device.specs.declared.refusal.Refusal.TheVariants.{BadKey}
use Rattle.lsm_root.specs.CrashState.{CrashState, formatted}
use Rattle.lsm_machine.specs.declared.asked.At.TheVariants.{Now}
use Rattle.lsm_machine.specs.Calls.{Reply, Commit, Sync, Get, Number, Done, Value}
use Rattle.lsm_machine.specs.Crash.{may_leave, reopened}
use Rattle.lsm_machine.specs.Effects.{reply_by}
use Rattle.lsm_machine.specs.Run.{Allows, next}
use Rattle.lsm_machine.specs.State.{State}
use Rattle.lsm_machine.proofs.Membership.{one_in}

-- the state of a new store after a batch and a sync
abbrev pub synced_state : List Operation → ℕ → State
synced_state batch number = next (next (reopened 128 formatted) (Commit batch) (Number number)) Sync Done

-- a crash leaves the map after the batch, whatever it keeps
pub left_map : (batch : List Operation) (number : ℕ) (left : CrashState) → Contains (may_leave (synced_state batch number)) left → left.map ≡ apply finite.empty batch
left_map batch number left found = ap (λ (l : CrashState). l.map) (one_in (record { count = 1; map = apply finite.empty batch; closed = 1; generation = 2 }) left found)

value_in : Reply → Option Bytes
value_in (Value found) = found
value_in other = None

-- a value that a reopened store answers is that of its map
pub found_in : (left : CrashState) (key : Bytes) (found : Option Bytes) → Allows (reopened 128 left) (Get Now key) (Value found) → found ≡ finite.get left.map key
unfolding value_in
found_in left key found allowed = by (is_key key) allowed
  where
    by : (b : Bool) → Value found ≡ reply_by (reopened 128 left) (Get Now key) (if not b then Some BadKey else None) → found ≡ finite.get left.map key
    by true e = ap value_in e
    by false e = cc

-- the map after a batch that puts one value has it
pub get_put : (key value : Bytes) (batch : List Operation) → batch ≡ record { key = key; value = Some value } ∷ [] → finite.get (apply finite.empty batch) key ≡ Some value
get_put key value batch e = ap (λ (b : List Operation). finite.get (apply finite.empty b) key) e
    ∙ get-insert nat_list_cmp_total finite.empty key value key
    ∙ ap (λ (b : Bool). cond b (Some value) (finite.get (finite.empty {K = Bytes} {X = Bytes} {R = byte_order}) key)) (ap is_eq (tied_itself nat_list_cmp_total key))
