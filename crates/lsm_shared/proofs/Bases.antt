-- The base is released at the end.
use Rattle.std.proofs.Common.{◌≡◌, ℕ, Bool, true, false, not, is_some, List, Some, None, Result, Ok, Err, refl, ap, sym, ◌∙◌, subst, if◌then◌else◌, arith}
use Rattle.lsm_device.specs.declared.refusal.Refusal.{Refusal}
use Rattle.lsm_device.specs.declared.refusal.Refusal.TheVariants.{NoMemory, Io, Stopped, NoSuchSnapshot, BadTable, GuardFailed}
use Rattle.std.specs.Prelude.{IsNone}
use Rattle.lsm_store.specs.Backing.{StoreView, machine_of}
use Rattle.lsm_machine.specs.Calls.{reply_of}
use Rattle.lsm_machine.specs.Calls.{Release, Done, Refused}
use Rattle.lsm_machine.specs.Effects.{after, reply_by}
use Rattle.lsm_machine.specs.Machine.{Machine}
use Rattle.lsm_machine.specs.Refusals.{refusal}
use Rattle.lsm_machine.specs.Run.{Admits, next}
use Rattle.lsm_store.specs.Serving.{Serves}
use Rattle.lsm_machine.specs.State.{State, snapshot_of}
use Rattle.lsm_machine.specs.WorkEffects.{work_by}
use Rattle.lsm_trail.specs.Begins.{Begin, base_of}
use Rattle.lsm_trail.specs.History.{Event, IsLegal, machine_after, state_after}
use Rattle.lsm_trail.proofs.Bases.{base_kept}
use Rattle.lsm_shared.specs.Sessions.{released, ended_state}

module _ (s : State) (number : ℕ) (live : is_some (snapshot_of s number) ≡ true) where
  -- only a stopped store refuses it
  refusal_is : (b : Bool) → is_some s.stopped ≡ b → refusal s (Release number) ≡ (if b then Some Stopped else None)
  refusal_is b is = ap (λ (t : Bool). if is_some s.stopped then Some Stopped else (if not t then Some NoSuchSnapshot else None)) live ∙ ap (λ (t : Bool). if t then Some Stopped else None) is

  released_is : (b : Bool) → is_some s.stopped ≡ b → released number s ≡ (if b then s else after s (Release number))
  released_is b is = ap (λ (t : Bool). if t then s else after s (Release number)) is

  refused_running : (e : Refusal) → is_some s.stopped ≡ false → Admits s (Release number) (Refused e) → ⊥
  refused_running NoMemory runs admitted = cc (admitted.1)
  refused_running Io runs admitted = admitted.1 refl
  refused_running BadTable runs admitted = cc (admitted.1)
  refused_running (GuardFailed place) runs admitted = absurd (omega (arith, admitted.1))
  refused_running e runs admitted = no (admitted ∙ ap (reply_by s (Release number)) (refusal_is false runs))
    where
      no : Refused e ≡ Done → ⊥
      no is = cc

  done_stopped : is_some s.stopped ≡ true → Admits s (Release number) Done → ⊥
  done_stopped stopped admitted = no (admitted ∙ ap (reply_by s (Release number)) (refusal_is true stopped))
    where
      no : Done ≡ Refused Stopped → ⊥
      no is = cc

  refused_still : (e : Refusal) → next s (Release number) (Refused e) ≡ s
  refused_still Io = refl
  refused_still e = refl

  pub releases : (res : Result (Unit {0}) Refusal) → Admits s (Release number) (reply_of (λ x. Done) res) → next s (Release number) (reply_of (λ x. Done) res) ≡ released number s
  releases (Ok x) admitted = by (is_some s.stopped) refl
    where
      by : (b : Bool) → is_some s.stopped ≡ b → after s (Release number) ≡ released number s
      by true stopped = absurd (done_stopped stopped admitted)
      by false runs = sym (released_is false runs)
  releases (Err e) admitted = by (is_some s.stopped) refl
    where
      by : (b : Bool) → is_some s.stopped ≡ b → next s (Release number) (Refused e) ≡ released number s
      by true stopped = refused_still e ∙ sym (released_is true stopped)
      by false runs = absurd (refused_running e runs admitted)

-- the store when its session has ended
pub ended_by : (b : Begin) (base : ℕ) (log : List Event) (old new : StoreView) (res : Result (Unit {0}) Refusal) → IsLegal b log → base ≡ base_of b → machine_of old ≡ machine_after b log
    → Serves old (Release base) (reply_of (λ x. Done) res) new → new.state ≡ ended_state b log
ended_by b base log old new res legal number machine serves =
    let s = state_after b log in
    let reply = reply_of (λ x. Done) res in
    let state : old.state ≡ s = ap (λ (m : Machine). m.state) machine in
    let admitted : Admits s (Release (base_of b)) reply = subst (λ (p : State × ℕ). Admits p.0 (Release p.1) reply) (λ i. (state i, number i)) serves.admitted in
    serves.state
    ∙ (λ i. next (state i) (Release (number i)) reply)
    ∙ releases s (base_of b) (ap is_some (base_kept b log legal)) res admitted

-- a release changes no place of versions
same_work : (m : Machine) (base : ℕ) (res : Result (Unit {0}) Refusal) → work_by m (Release base) (reply_of (λ x. Done) res) ≡ m.work
same_work m base (Ok x) = refl
same_work m base (Err e) = refl

pub work_ended : (b : Begin) (base : ℕ) (log : List Event) (old new : StoreView) (res : Result (Unit {0}) Refusal) → machine_of old ≡ machine_after b log
    → Serves old (Release base) (reply_of (λ x. Done) res) new → IsNone new.state.stopped → new.work ≡ (machine_after b log).work
work_ended b base log old new res machine serves running = serves.worked running ∙ same_work (machine_of old) base res ∙ ap (λ (m : Machine). m.work) machine
