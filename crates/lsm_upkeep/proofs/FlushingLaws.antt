-- A flush that is tried first.
use Rattle.std.proofs.Common.{◌≡◌, ◌∙◌, ◌⊎◌, ◌<◌, ◌&&◌, ℕ, Bool, true, false, not, is_some, true≢false, None, inl, inr, refl, sym, subst, arith}
use Rattle.lsm_store.specs.Backing.{StoreView}
use Rattle.lsm_machine.specs.Calls.{Reply, Rotate}
use Rattle.lsm_store.specs.Serving.{Serves}
use Rattle.lsm_upkeep.specs.Finishing.{IsFinished, IsUndone, Taken}
use Rattle.lsm_upkeep.specs.Flushing.{BeginsLog, FlushesFirst, IsIdle, IsMadeReady, OpensAnother, ReadiesLog, TriesNext}
use Rattle.lsm_upkeep.specs.Steps.{IsUpkept}
use Rattle.lsm_upkeep.proofs.Upkept.{one_less, one_more, rotates, stays, then}

-- ---- a store in which no flush waits

neither : (stopped waiting : Bool) → (not stopped && waiting) ≡ false → (stopped ≡ true) ⊎ (waiting ≡ false)
neither true waiting e = inl refl
neither false waiting e = inr e

pub idle-not_waiting : (s : StoreView) (b c : Bool) → b ≡ (not (is_some s.state.stopped) && c) → b ≡ false → (is_some s.state.stopped ≡ true) ⊎ (c ≡ false)
idle-not_waiting s b c is e = neither (is_some s.state.stopped) c (sym is ∙ e)

not_true : (b : Bool) → not b ≡ true → b ≡ false
not_true true e = absurd (true≢false (sym e))
not_true false e = refl

pub idle-not_true : (s : StoreView) (b c : Bool) → b ≡ (not (is_some s.state.stopped) && c) → not b ≡ true → (is_some s.state.stopped ≡ true) ⊎ (c ≡ false)
idle-not_true s b c is e = idle-not_waiting s b c is (not_true b e)

-- ---- the job that comes next

-- it was tried, between upkeep and upkeep
pub tries : (done : Bool) (old ready tried new : StoreView) → IsUpkept old ready → (done ≡ true → Taken IsFinished None ready tried) → (done ≡ false → IsUndone None ready tried) → IsUpkept tried new
    → TriesNext old new
tries true old ready tried new before finished failed behind = record { ready = ready; tried = tried; before = before; tries = inl (finished refl); behind = behind }
tries false old ready tried new before finished failed behind = record { ready = ready; tried = tried; before = before; tries = inr (failed refl); behind = behind }

pub tries-before : (old mid new : StoreView) → IsUpkept old mid → TriesNext mid new → TriesNext old new
tries-before old mid new u t = record { ready = t.ready; tried = t.tried; before = then old mid t.ready u t.before; tries = t.tries; behind = t.behind }

pub tries-behind : (old mid new : StoreView) → TriesNext old mid → IsUpkept mid new → TriesNext old new
tries-behind old mid new t u = record { ready = t.ready; tried = t.tried; before = t.before; tries = t.tries; behind = then t.tried mid new t.behind u }

-- that is upkeep
pub tries-upkept : (old new : StoreView) → TriesNext old new → IsUpkept old new
tries-upkept old new t = then old t.ready new t.before (then t.ready t.tried new (by t.tries) t.behind)
  where
    by : Taken IsFinished None t.ready t.tried ⊎ IsUndone None t.ready t.tried → IsUpkept t.ready t.tried
    by (inl finished) = one_more None t.ready t.tried finished
    by (inr failed) = one_less None t.ready t.tried failed

-- ---- a flush

-- it ended with none that waits, or one was tried
pub flushed : (done : Bool) (old new : StoreView) → (done ≡ true → IsIdle new) → (done ≡ false → TriesNext old new) → IsIdle new ⊎ TriesNext old new
flushed true old new finished tried = inl (finished refl)
flushed false old new finished tried = inr (tried refl)

pub first : (done : Bool) (old mid new : StoreView) → IsUpkept old mid → (done ≡ true → IsIdle mid) → (done ≡ false → TriesNext old mid) → IsUpkept mid new → FlushesFirst old new
first done old mid new u finished tried rest = record { flushed = mid; upkeep = u; flushes = flushed done old mid finished tried; rest = rest }

pub first-behind : (old mid new : StoreView) → FlushesFirst old mid → IsUpkept mid new → FlushesFirst old new
first-behind old mid new f u = record { flushed = f.flushed; upkeep = f.upkeep; flushes = f.flushes; rest = then f.flushed mid new f.rest u }

-- a flush after others is not the first, unless there were none before
pub first-again : (n : ℕ) (done : Bool) (old mid new : StoreView) → ((n ≡ 0) × (mid ≡ old)) ⊎ FlushesFirst old mid → IsUpkept mid new → (done ≡ true → IsIdle new) → (done ≡ false → TriesNext mid new)
    → FlushesFirst old new
first-again n done old mid new (inl (none, same)) u finished tried =
    subst (λ (s : StoreView). FlushesFirst s new) same (first done mid new new u finished tried (stays new new refl))
first-again n done old mid new (inr f) u finished tried = first-behind old mid new f u

-- some were before
pub first-some : (n : ℕ) (old new : StoreView) → 0 < n → ((n ≡ 0) × (new ≡ old)) ⊎ FlushesFirst old new → FlushesFirst old new
first-some n old new some (inl (none, same)) = absurd (omega (arith, some, none))
first-some n old new some (inr f) = f

-- ---- a log

pub begins : (old flushed rotated new : StoreView) (reply : Reply) → IsUpkept old flushed → IsIdle flushed → Serves flushed Rotate reply rotated → IsUpkept rotated new → BeginsLog old new
begins old flushed rotated new reply u idle serves behind =
    record { flushed = flushed; upkeep = u; opens = inl (record { idle = idle; rotated = rotated; reply = reply; rotates = serves; behind = behind }) }

pub begins-not : (old new : StoreView) → IsUpkept old new → TriesNext old new → BeginsLog old new
begins-not old new u tried = record { flushed = new; upkeep = u; opens = inr (tried, refl) }

pub begins-upkept : (old flushed rotated new : StoreView) (reply : Reply) → IsUpkept old flushed → Serves flushed Rotate reply rotated → IsUpkept rotated new → IsUpkept old new
begins-upkept old flushed rotated new reply u serves behind = then old flushed new u (then flushed rotated new (rotates flushed rotated reply serves) behind)

pub readies : (done : Bool) (old mid new : StoreView) → IsUpkept old mid → (done ≡ true → IsIdle mid) → (done ≡ false → TriesNext old mid) → OpensAnother mid new → ReadiesLog old new
readies done old mid new u finished tried opens = record { flushed = mid; upkeep = u; flushes = flushed done old mid finished tried; opens = opens }

pub readies-before : (old mid new : StoreView) → IsUpkept old mid → ReadiesLog mid new → ReadiesLog old new
readies-before old mid new u r = record { flushed = r.flushed; upkeep = then old mid r.flushed u r.upkeep; flushes = by r.flushes; opens = r.opens }
  where
    by : IsIdle r.flushed ⊎ TriesNext mid r.flushed → IsIdle r.flushed ⊎ TriesNext old r.flushed
    by (inl idle) = inl idle
    by (inr tried) = inr (tries-before old mid r.flushed u tried)

-- ---- a store that is made ready

pub ready : (old mid new : StoreView) → (made : StoreView) × ReadiesLog old made × IsUpkept made mid → IsUpkept mid new → IsMadeReady old new
ready old mid new (made, r, before) u = inr (made, r, then made mid new before u)
