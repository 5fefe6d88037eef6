-- What refuses a read of a store that its device backs, and the opening and the session of one that is fresh.
use Rattle.std.proofs.Common.{◌≡◌, ◌⊎◌, ◌≤◌, ◌+◌, ℕ, Bool, true, false, List, Option, Some, None, inl, inr, refl, sym, subst, ◌∙◌, arith}
use Rattle.std.specs.Prelude.{IsTrue, is_some, nat_lt, ◌==◌, ◌||◌, if◌then◌else◌}
use Rattle.std.proofs.lemmas.Bool.Decides.{nat_tests}
use Rattle.lsm_codec.specs.Keys.{Bytes}
use Rattle.lsm_device.specs.declared.refusal.Refusal.{Refusal}
use Rattle.lsm_device.specs.declared.refusal.Refusal.TheVariants.{NoMemory, Io, Stopped, Exhausted, BadGeometry}
use Rattle.lsm_language.specs.Limits.{is_load}
use Rattle.lsm_language.proofs.LoadLaws.{some_threads}
use Rattle.lsm_root.specs.CrashState.{formatted as empty_store, MayRefuseOpening}
use Rattle.lsm_store.specs.Backing.{StoreView}
use Rattle.lsm_machine.specs.Calls.{Call, Reply}
use Rattle.lsm_machine.specs.Calls.{Get, Scan, Value, Rows, Refused}
use Rattle.lsm_machine.specs.declared.asked.At.TheVariants.{Now}
use Rattle.lsm_machine.specs.Crash.{reopened}
use Rattle.lsm_machine.specs.Effects.{decided, reply_by, answer}
use Rattle.lsm_machine.specs.Run.{Allows}
use Rattle.lsm_machine.specs.State.{State}
use Rattle.lsm_shared.specs.Sessions.{begin_refusal}
use Rattle.lsm_storm.specs.Counters.{counter_key}
use Rattle.lsm_storm.specs.Storms.{IsFresh, IsSessionRefusal}

-- after the test whether the store is stopped there is no other
of_stopped : (s : State) (call : Call) (e : Refusal) (b : Bool) → ((r : Refusal) → Refused r ≡ answer s call → ⊥)
    → Refused e ≡ reply_by s call (if b then Some Stopped else None) → IsSessionRefusal e
of_stopped s call e true no_answer is = let same : e ≡ Stopped = cc in subst IsSessionRefusal (sym same) tt
of_stopped s call e false no_answer is = absurd (no_answer e is)

pub get_refuses : (s : State) (e : Refusal) → Allows s (Get Now counter_key) (Refused e) → IsSessionRefusal e
get_refuses s NoMemory allows = tt
get_refuses s Io allows = tt
get_refuses s e allows = of_stopped s (Get Now counter_key) e (is_some s.stopped) (λ r is. cc) allows

pub scan_refuses : (s : State) (from : Bytes) (e : Refusal) → Allows s (Scan Now from None 64) (Refused e) → IsSessionRefusal e
scan_refuses s from NoMemory allows = tt
scan_refuses s from Io allows = tt
scan_refuses s from e allows = of_stopped s (Scan Now from None 64) e (is_some s.stopped) (λ r is. cc) allows

-- ---- openings

pub format_refuses : (e : Refusal) → (e ≡ BadGeometry → ⊥) → (e ≡ BadGeometry) ⊎ ((e ≡ NoMemory) ⊎ (e ≡ Io)) → IsSessionRefusal e
format_refuses e fair (inl is) = absurd (fair is)
format_refuses e fair (inr (inl is)) = subst IsSessionRefusal (sym is) tt
format_refuses e fair (inr (inr is)) = subst IsSessionRefusal (sym is) tt

pub opening_refuses : (e : Refusal) → MayRefuseOpening empty_store e → IsSessionRefusal e
opening_refuses NoMemory fair = tt
opening_refuses Io fair = tt
opening_refuses Exhausted fair = absurd (omega (arith, fair))
opening_refuses e fair = absurd fair

-- ---- sessions

-- no number of clients and places that a storm has refuses a session on a fresh store
pub begin_unrefused : (s : State) (threads : ℕ) → s ≡ reopened 2048 empty_store → 1 ≤ threads → threads ≤ 64 → begin_refusal s threads 65536 ≡ None
begin_unrefused s threads is some few = subst (λ (t : State). begin_refusal t threads 65536 ≡ None) (sym is)
    (by (threads == 0) (nat_lt 64 threads) (grind (arith, nat_tests)) (grind (arith, nat_tests)))
  where
    by : (none many : Bool) → none ≡ false → many ≡ false → begin_refusal (reopened 2048 empty_store) threads 65536 ≡ None
    by none many e h = grind (arith, nat_tests)

-- so want of memory is all that may
pub refused_begin : (s : State) (threads : ℕ) (e : Refusal) → s ≡ reopened 2048 empty_store → 1 ≤ threads → threads ≤ 64
    → (begin_refusal s threads 65536 ≡ Some e) ⊎ ((begin_refusal s threads 65536 ≡ None) × (e ≡ NoMemory)) → IsSessionRefusal e
refused_begin s threads e is some few (inl refused) = absurd (not_some (sym (begin_unrefused s threads is some few) ∙ refused))
  where
    not_some : None ≡ Some e → ⊥
    not_some h = cc
refused_begin s threads e is some few (inr (none, short)) = subst IsSessionRefusal (sym short) tt

-- the threads of a storm are as many as a session may have
pub some_crew : (clients commits workers a b : ℕ) → IsTrue (is_load clients commits workers) → a ≡ clients → b ≡ workers → (1 ≤ a + b) × (a + b ≤ 64)
some_crew clients commits workers a b within is also =
    let load = some_threads clients commits workers within in (omega (arith, load.0, is), omega (arith, load.1, is, also))

-- and so are those of a tally
pub some_tally : (clients commits workers a : ℕ) → IsTrue (is_load clients commits workers) → a ≡ clients → (1 ≤ a) × (a ≤ 64)
some_tally clients commits workers a within is =
    let load = some_threads clients commits workers within in (omega (arith, load.0, is), omega (arith, load.1, is))
