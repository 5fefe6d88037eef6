-- What is known of the device of a session: its faults are those that the replies tell.
use Rattle.std.proofs.Common.{◌≡◌, ℕ, Bool, true, false, is_some, List, [], ◌∷◌, ◌++◌, Some, None, refl, ap, sym, ◌∙◌, subst, if◌then◌else◌}
use Rattle.lsm_device.specs.Calls.{faults_after}
use Rattle.lsm_device.specs.Medium.{Medium}
use Rattle.lsm_device.specs.declared.refusal.Refusal.TheVariants.{NoMemory}
use Rattle.lsm_store.specs.Backing.{StoreView}
use Rattle.lsm_machine.specs.Calls.{Call, Reply}
use Rattle.lsm_machine.specs.Calls.{Release, Number, Done, Value, Rows, Given, Handed, Refused, Unread}
use Rattle.lsm_machine.specs.Effects.{Use, use_of, use_first}
use Rattle.lsm_machine.specs.Effects.{Untouched}
use Rattle.lsm_machine.specs.Machine.{Step, Called, Worked}
use Rattle.lsm_machine.specs.Refusals.{refusal}
use Rattle.lsm_store.specs.Serving.{is_faultless, use_before, IsUsed, Serves}
use Rattle.lsm_store.specs.Working.{ServesStep}
use Rattle.lsm_lives.specs.Replaying.{faults_told}
use Rattle.lsm_trail.specs.History.{Event, replies_of}
use Rattle.lsm_shared.specs.Sessions.{IsDeviceAfter, IsLost}

faults_more : (replies : List Reply) (reply : Reply) (n : ℕ) → faults_told (replies ++ reply ∷ []) n ≡ faults_after (is_faultless reply) (faults_told replies n)
faults_more [] reply n = refl
faults_more (x ∷ replies) reply n = faults_more replies reply (faults_after (is_faultless x) n)

replies_more : (log : List Event) (e : Event) → replies_of (log ++ e ∷ []) ≡ replies_of log ++ e.reply ∷ []
replies_more [] e = refl
replies_more (x ∷ log) e = ap (λ (l : List Reply). x.reply ∷ l) (replies_more log e)

-- ---- a device that was not used

pub device_unused : (before after : Medium) → after ≡ before → IsDeviceAfter before [] after
device_unused before after is = record {
  faults = ap (λ (m : Medium). m.calls.faults) is;
  same_size = ap (λ (m : Medium). m.size) is;
  same_lasting = ap (λ (m : Medium). m.lasting) is;
}

-- no use in either case
none_used : (call : Call) (reply : Reply) (b : Bool) (old new : Medium) → IsUsed call reply (if b then Untouched else Untouched) old new → new ≡ old
none_used call reply true old new used = used
none_used call reply false old new used = used

-- a call that uses no device leaves it as it was
pub leaves_device : (old new : StoreView) (call : Call) (reply : Reply) → use_of old.state call ≡ Untouched → Serves old call reply new → new.device ≡ old.device
leaves_device old new call reply is serves =
    let b = is_some (refusal old.state call) in
    none_used call reply b old.device new.device
    (subst (λ (u : Use). IsUsed call reply (if b then Untouched else use_before (use_first call) u reply) old.device new.device) is serves.used)

-- as the one that releases the base
pub device_released : (before : Medium) (replies : List Reply) (old new : StoreView) (base : ℕ) (reply : Reply) → Serves old (Release base) reply new → IsDeviceAfter before replies old.device → IsDeviceAfter before replies new.device
device_released before replies old new base reply serves was = subst (IsDeviceAfter before replies) (sym (leaves_device old new (Release base) reply refl serves)) was

-- ---- a step that a store served

served_device : (old : StoreView) (step : Step) (reply : Reply) (new : StoreView) → ServesStep old step reply new → IsDeviceAfter old.device (reply ∷ []) new.device
served_device old (Called call) reply new serves = record { faults = serves.fault; same_size = serves.same_size; same_lasting = serves.same_lasting }
served_device old (Worked piece) reply new works = record { faults = works.fault; same_size = works.same_size; same_lasting = works.same_lasting }

one_more : (before mid after : Medium) (replies : List Reply) (reply : Reply) → IsDeviceAfter before replies mid → IsDeviceAfter mid (reply ∷ []) after → IsDeviceAfter before (replies ++ reply ∷ []) after
one_more before mid after replies reply was one = record {
  faults = one.faults ∙ ap (faults_after (is_faultless reply)) was.faults ∙ sym (faults_more replies reply before.calls.faults);
  same_size = one.same_size ∙ was.same_size;
  same_lasting = one.same_lasting ∙ was.same_lasting;
}

-- which was entered
pub device_entered : (before : Medium) (old : StoreView) (log after : List Event) (step : Step) (reply : Reply) (new : StoreView) (e : Event) → IsDeviceAfter before (replies_of log) old.device
    → ServesStep old step reply new → e.reply ≡ reply → after ≡ log ++ e ∷ [] → IsDeviceAfter before (replies_of after) new.device
device_entered before old log after step reply new e was serves is behind =
    let replies : replies_of after ≡ replies_of log ++ reply ∷ [] = ap replies_of behind ∙ replies_more log e ∙ ap (λ (r : Reply). replies_of log ++ r ∷ []) is in
    subst (λ (l : List Reply). IsDeviceAfter before l new.device) (sym replies) (one_more before old.device new.device (replies_of log) reply was (served_device old step reply new serves))

-- a reply for which memory was short tells of no fault
lost_faultless : (reply : Reply) → IsLost reply → is_faultless reply ≡ true
lost_faultless (Refused NoMemory) short = refl
lost_faultless (Refused e) short = absurd short
lost_faultless (Number n) short = absurd short
lost_faultless Done short = absurd short
lost_faultless (Value None) short = absurd short
lost_faultless (Value (Some v)) short = refl
lost_faultless (Rows page) short = refl
lost_faultless (Given job) short = absurd short
lost_faultless (Handed input) short = absurd short
lost_faultless Unread short = absurd short

-- so a step that is no entry for want of memory is no use of the device either
pub device_kept : (before : Medium) (replies : List Reply) (old : StoreView) (step : Step) (reply : Reply) (new : StoreView) → IsDeviceAfter before replies old.device → ServesStep old step reply new → IsLost reply → IsDeviceAfter before replies new.device
device_kept before replies old step reply new was serves short =
    let one = served_device old step reply new serves in
    record {
      faults = one.faults ∙ ap (λ (b : Bool). faults_after b old.device.calls.faults) (lost_faultless reply short) ∙ was.faults;
      same_size = one.same_size ∙ was.same_size;
      same_lasting = one.same_lasting ∙ was.same_lasting;
    }
