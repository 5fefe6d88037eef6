-- What is told of a commit, and the maps that batches make.
use Rattle.std.proofs.Common.{◌≡◌, ℕ, Bool, true, false, true≢false, List, [], ◌∷◌, ◌++◌, refl, ap, sym}
use Rattle.lsm_codec.specs.Map.{Map, Operation, apply, changed}
use Rattle.lsm_device.specs.declared.refusal.Refusal.{Refusal}
use Rattle.lsm_device.specs.declared.refusal.Refusal.TheVariants.{LogFull}
use Rattle.lsm_machine.specs.Calls.{Reply, Number, Done, Value, Rows, Given, Handed, Refused, Unread}
use Rattle.lsm_machine.specs.RecoveryPoints.{last_map}
use Rattle.lsm_upkeep.specs.Writing.{without_log_full}

abbrev pub is_number : Reply → Bool
is_number (Number n) = true
is_number other = false

pub number_told : (reply : Reply) (number : ℕ) → Number number ≡ without_log_full reply → reply ≡ Number number
number_told (Number n) number is = sym is
number_told (Refused LogFull) number is = absurd (true≢false (ap is_number is))
number_told (Refused other) number is = absurd (true≢false (ap is_number is))
number_told Done number is = absurd (true≢false (ap is_number is))
number_told (Value v) number is = absurd (true≢false (ap is_number is))
number_told (Rows page) number is = absurd (true≢false (ap is_number is))
number_told (Given job) number is = absurd (true≢false (ap is_number is))
number_told (Handed input) number is = absurd (true≢false (ap is_number is))
number_told Unread number is = absurd (true≢false (ap is_number is))

abbrev is_refusal : Reply → Bool
is_refusal (Refused e) = true
is_refusal other = false

pub refusal_told : (reply : Reply) (e : Refusal) → Refused e ≡ without_log_full reply → (r : Refusal) × (reply ≡ Refused r)
refusal_told (Refused r) e is = (r, refl)
refusal_told (Number n) e is = absurd (true≢false (ap is_refusal is))
refusal_told Done e is = absurd (true≢false (ap is_refusal is))
refusal_told (Value v) e is = absurd (true≢false (ap is_refusal is))
refusal_told (Rows page) e is = absurd (true≢false (ap is_refusal is))
refusal_told (Given job) e is = absurd (true≢false (ap is_refusal is))
refusal_told (Handed input) e is = absurd (true≢false (ap is_refusal is))
refusal_told Unread e is = absurd (true≢false (ap is_refusal is))

pub last_map-append : (m : Map) (later : List Map) (last : Map) → last_map m (later ++ last ∷ []) ≡ last
last_map-append m [] last = refl
last_map-append m (next ∷ later) last = last_map-append next later last

pub apply-append : (m : Map) (first second : List Operation) → apply m (first ++ second) ≡ apply (apply m first) second
apply-append m [] second = refl
apply-append m (operation ∷ first) second = apply-append (changed m operation.key operation.value) first second
