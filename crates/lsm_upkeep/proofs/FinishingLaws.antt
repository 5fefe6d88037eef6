-- How a job goes on.
use Rattle.std.proofs.Common.{◌≡◌, ◌+◌, ◌<◌, ◌≤◌, ◌-◌, ℕ, suc, Option, Some, None, Result, Ok, Err, MatchResult, inl, inr, refl, subst, arith}
use Rattle.lsm_device.specs.declared.refusal.Refusal.{Refusal}
use Rattle.lsm_store.specs.Backing.{StoreView}
use Rattle.lsm_machine.specs.Calls.{Number, Done, Given, Refused, reply_of, taken_reply}
use Rattle.lsm_machine.specs.Work.{Work, Take, Write, Install}
use Rattle.lsm_store.specs.Working.{Works}
use Rattle.lsm_jobs.specs.declared.taking.TakenJob.{TakenJob}
use Rattle.lsm_levels.specs.declared.choosing.Choice.{Choice}
use Rattle.lsm_upkeep.specs.Finishing.{LeavesBlocksEachTime, HasLeft, GoesThrough, DoesNotGoThrough, IsReadWhole, IsOffered, IsFinished, IsStuck, Taken}
use Rattle.lsm_upkeep.specs.Upkeep.{AreDone}

-- ---- a piece that is done again and again

-- the first time
pub left-first : (piece : Work) (left : ℕ) (old new : StoreView) → Works old piece (Number left) new → HasLeft piece left old new
left-first piece left old new works = record { count = 0; last = old; some = refl; told = works }

-- each time so far it left some
left-some : (piece : Work) (left : ℕ) (old mid : StoreView) → 0 < left → (h : HasLeft piece left old mid) → LeavesBlocksEachTime piece (suc h.count) old mid
left-some piece left old mid some h = let one : left ≡ suc (left - 1) = omega (arith, some) in
    (h.last, h.some, left - 1, subst (λ (n : ℕ). Works h.last piece (Number n) mid) one h.told)

-- once more
pub left-again : (piece : Work) (left now : ℕ) (old mid new : StoreView) → 0 < left → HasLeft piece left old mid → Works mid piece (Number now) new → HasLeft piece now old new
left-again piece left now old mid new some h works = record { count = suc h.count; last = mid; some = left-some piece left old mid some h; told = works }

-- it was refused at once
pub held_up-first : (piece : Work) (e : Refusal) (old new : StoreView) → Works old piece (Refused e) new → DoesNotGoThrough piece old new
held_up-first piece e old new works = inl (0, old, refl, (e, works))

-- it was refused later
pub held_up-later : (piece : Work) (left : ℕ) (e : Refusal) (old mid new : StoreView) → 0 < left → HasLeft piece left old mid → Works mid piece (Refused e) new → DoesNotGoThrough piece old new
held_up-later piece left e old mid new some h works = inl (suc h.count, mid, left-some piece left old mid some h, (e, works))

-- it left no fewer
pub held_up-no_fewer : (piece : Work) (left now : ℕ) (old mid new : StoreView) → 0 < left → left ≤ now → HasLeft piece left old mid → Works mid piece (Number now) new → DoesNotGoThrough piece old new
held_up-no_fewer piece left now old mid new some most h works = let one : left ≡ suc (left - 1) = omega (arith, some) in
    inr (mid, left - 1, now, subst (λ (n : ℕ). HasLeft piece n old mid) one h, works, omega (arith, some, most))

-- it left none at last
pub none-left : (piece : Work) (left : ℕ) (old new : StoreView) → left ≤ 0 → HasLeft piece left old new → GoesThrough piece old new
none-left piece left old new none h = let zero_left : left ≡ 0 = omega (arith, none) in subst (λ (n : ℕ). HasLeft piece n old new) zero_left h

-- ---- the whole of a job

-- the install of a job that was written
pub finished-answered : (job : ℕ) (level : Option ℕ) (old whole merged written new : StoreView) (r : Result (Unit {0}) Refusal) → IsReadWhole job level old whole
    → IsOffered job Done whole merged → GoesThrough (Write job) merged written → Works written (Install job) (reply_of (λ _. Done) r) new
    → MatchResult r (λ _. IsFinished job level old new) (λ _. IsStuck job level old new)
finished-answered job level old whole merged written new (Ok done) reads merges writes works = record { whole = whole; merged = merged; written = written; reads = reads; merges = merges; writes = writes; installs = works }
finished-answered job level old whole merged written new (Err e) reads merges writes works = inr (whole, reads, inr (merged, merges, inr (written, writes, (e, works))))

-- what holds where something was refused
pub refused-holds : {X E : Type 0} (Y Z : Type 0) (r : Result X E) (e : E) → r ≡ Err e → Z → MatchResult r (λ _. Y) (λ _. Z)
refused-holds Y Z r e is z = rw is z

-- ---- the job that is asked for

-- what was told of a job that was given
pub given-job : (asked : Option Choice) (old new : StoreView) (taken : Option TakenJob) (t : TakenJob) → taken ≡ Some t → Works old (Take asked) (taken_reply taken) new
    → Works old (Take asked) (Given (Some (t.number, t.level))) new
given-job asked old new taken t is works = subst (λ (j : Option TakenJob). Works old (Take asked) (taken_reply j) new) is works

-- ---- jobs, one after another

-- one more was done
pub are_done-more : (n : ℕ) (old mid new : StoreView) → AreDone n old mid → Taken IsFinished None mid new → AreDone (n + 1) old new
are_done-more n old mid new before next = let one : suc n ≡ n + 1 = grind arith in
    subst (λ (k : ℕ). AreDone k old new) one (mid, before, next)
