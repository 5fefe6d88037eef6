-- When a store tells that there is no job to take.
use Rattle.std.proofs.Common.{◌≡◌, ◌≢◌, ℕ, ◌&&◌, ◌||◌, nat_le, ◌==◌, Bool, true, false, not, is_some, List, [], ◌∷◌, Option, Some, None, option_map, slice_index_or, Result, Ok, Err, refl, ap, sym, ◌∙◌, subst, if◌then◌else◌}
use Rattle.std.specs.Prelude.{MatchBool, is_err, nat_lt}
use Rattle.lsm_device.specs.declared.refusal.Refusal.{Refusal}
use Rattle.lsm_device.specs.declared.refusal.Refusal.TheVariants.{Stopped, Exhausted}
use Rattle.lsm_jobs.specs.Slots.{Stage, Reading, Frozen, Writing, Slot}
use Rattle.lsm_jobs.specs.Taking.{level_of}
use Rattle.lsm_levels.specs.Pick.{Job}
use Rattle.lsm_levels.specs.declared.choosing.Choice.{Choice}
use Rattle.lsm_root.specs.CrashState.{last_number}
use Rattle.lsm_store.specs.Backing.{StoreView, machine_of}
use Rattle.lsm_machine.specs.Calls.{Call, Reply}
use Rattle.lsm_machine.specs.Calls.{Commit, CommitIf, Sync, SyncTo, Get, Scan, Snapshot, Release, Rotate, LogRoom, Number, Done, Given, Refused}
use Rattle.lsm_machine.specs.Effects.{answer, reply_by}
use Rattle.lsm_machine.specs.Machine.{Machine}
use Rattle.lsm_machine.specs.Pieces.{piece_of_job, piece_of_slot, piece_at}
use Rattle.lsm_machine.specs.Refusals.{first_refusal, refusal}
use Rattle.lsm_machine.specs.Run.{Admits}
use Rattle.lsm_store.specs.Serving.{Serves}
use Rattle.lsm_machine.specs.State.{State}
use Rattle.lsm_store.specs.Stats.{stat_of, stat_answer}
use Rattle.lsm_store.specs.declared.stat.Stat.{Stat}
use Rattle.lsm_machine.specs.Work.{Work, Take, Read, Ask, Accept, Write, Install, Drop}
use Rattle.lsm_machine.specs.WorkEffects.{work_answer}
use Rattle.lsm_machine.specs.WorkRefusals.{job_given, running_refusal, work_refusal}
use Rattle.lsm_machine.specs.WorkReplies.{work_reply_by, work_decided, WorkAdmits}
use Rattle.lsm_store.specs.Working.{Works}
use Rattle.lsm_merge.specs.Results.{MergeResult}
use Rattle.lsm_shared.specs.Turns.{Gives}

-- ---- calls

answer_no_job : (s : State) (call : Call) (job : Option (ℕ × Option ℕ)) → Given job ≡ answer s call → ⊥
answer_no_job s (Commit batch) job is = cc
answer_no_job s (CommitIf guards batch) job is = cc
answer_no_job s Sync job is = cc
answer_no_job s (SyncTo number) job is = cc
answer_no_job s (Get at key) job is = cc
answer_no_job s (Scan at from to limit) job is = cc
answer_no_job s Snapshot job is = cc
answer_no_job s (Release number) job is = cc
answer_no_job s Rotate job is = cc
answer_no_job s LogRoom job is = cc

call_no_job : (s : State) (call : Call) (job : Option (ℕ × Option ℕ)) (o : Option Refusal) → Given job ≡ reply_by s call o → ⊥
call_no_job s call job None is = answer_no_job s call job is
call_no_job s call job (Some e) is = cc

-- no call is told of a taking
pub calls_take_none : (old : StoreView) (call : Call) (reply : Reply) (new : StoreView) → Serves old call reply new → reply ≢ Given None
calls_take_none old call reply new serves is = call_no_job old.state call None (refusal old.state call) (subst (λ (r : Reply). Admits old.state call r) is serves.admitted)

-- ---- pieces of work

-- a piece that gives something is not told that there is no job
pub work_gives : (old : StoreView) (piece : Work) (reply : Reply) (new : StoreView) → Works old piece reply new → Gives (machine_of old) piece → reply ≢ Given None
work_gives old piece reply new works gives is = gives (sym (subst (λ (r : Reply). WorkAdmits (machine_of old) piece r) is works.admitted))

told_gives : (m : Machine) (piece : Work) (o : Option Refusal) → work_answer m piece ≢ Given None → work_reply_by m piece o ≢ Given None
told_gives m piece None other = other
told_gives m piece (Some e) other = λ is. cc

pub read_gives : (m : Machine) (job : ℕ) → Gives m (Read job)
read_gives m job = told_gives m (Read job) (work_refusal m (Read job)) (λ is. cc)

pub write_gives : (m : Machine) (job : ℕ) → Gives m (Write job)
write_gives m job = told_gives m (Write job) (work_refusal m (Write job)) (λ is. cc)

pub install_gives : (m : Machine) (job : ℕ) → Gives m (Install job)
install_gives m job = told_gives m (Install job) (work_refusal m (Install job)) (λ is. cc)

pub drop_gives : (m : Machine) (job : ℕ) → Gives m (Drop job)
drop_gives m job = told_gives m (Drop job) (work_refusal m (Drop job)) (λ is. cc)

pub accept_gives : (m : Machine) (job : ℕ) (made : Option MergeResult) → Gives m (Accept job made)
accept_gives m job made = told_gives m (Accept job made) (work_refusal m (Accept job made)) (λ is. cc)

some_given : (f : Job → ℕ × Option ℕ) (o : Option Job) → is_some o ≡ true → Given (option_map f o) ≢ Given None
some_given f None some = absurd (cc some)
some_given f (Some job) some = λ is. cc

-- so is the taking of a job that is given
pub take_gives : (m : Machine) (asked : Option Choice) → is_some (job_given m asked) ≡ true → Gives m (Take asked)
take_gives m asked some = told_gives m (Take asked) (work_refusal m (Take asked)) (some_given (λ job. (m.work.jobs.next, level_of job)) (job_given m asked) some)

-- ---- what a slot waits for

no_take : (job : ℕ) (stage : Stage) → piece_of_job job stage ≡ Take None → ⊥
no_take job (Reading left) is = cc
no_take job Frozen is = cc
no_take job (Writing tables left) is = by (left == 0) is
  where
    by : (b : Bool) → (if b then Install job else Write job) ≡ Take None → ⊥
    by true is = cc
    by false is = cc

same_work : (a b : Work) → Some a ≡ Some b → a ≡ b
same_work a b is = cc

waits_for_take : (m : Machine) (o : Option Slot) → piece_of_slot m o ≡ Some (Take None) → is_some (job_given m None) ≡ true
waits_for_take m (Some slot) is = absurd (no_take slot.number slot.stage (same_work (piece_of_job slot.number slot.stage) (Take None) is))
waits_for_take m None is = by (is_some (job_given m None)) refl is
  where
    by : (b : Bool) → is_some (job_given m None) ≡ b → (if b then Some (Take None) else None) ≡ Some (Take None) → is_some (job_given m None) ≡ true
    by true some is = some
    by false none is = absurd (cc is)

-- a slot that waits for a taking waits for one that gives a job
pub next_gives : (m : Machine) (place : ℕ) → Some (Take None) ≡ piece_at m place → Gives m (Take None)
next_gives m place at = take_gives m None (by (is_some m.state.stopped || nat_le 4 place) (sym at))
  where
    by : (b : Bool) → (if b then None else piece_of_slot m (slice_index_or m.work.jobs.slots place None)) ≡ Some (Take None) → is_some (job_given m None) ≡ true
    by true is = absurd (cc is)
    by false is = waits_for_take m (slice_index_or m.work.jobs.slots place None) is

-- ---- whether there is a job of a choice

-- a stopped store refuses each piece
pub stopped_gives : (m : Machine) (piece : Work) → is_some m.state.stopped ≡ true → Gives m piece
stopped_gives m piece stopped = subst (λ (b : Bool). work_reply_by m piece (if b then Some Stopped else running_refusal m piece) ≢ Given None) (sym stopped) (λ is. cc)

-- whether a store is stopped, as its numbers tell
pub stat_tells : (m : Machine) (numbers : Result Stat Refusal) (err : Bool) → numbers ≡ stat_answer m → err ≡ is_err numbers → is_some m.state.stopped ≡ err
stat_tells m numbers err told is = sym (is ∙ ap is_err told ∙ by (is_some m.state.stopped))
  where
    by : (b : Bool) → is_err (if b then Err Stopped else Ok (stat_of m)) ≡ b
    by true = refl
    by false = refl

none_of : (o : Option Job) → is_some o ≡ false → o ≡ None
none_of None none = refl
none_of (Some job) none = absurd (cc none)

-- where there is no job, a running store tells so
no_job_told : (m : Machine) (asked : Option Choice) → is_some m.state.stopped ≡ false → is_some (job_given m asked) ≡ false → work_decided m (Take asked) ≡ Given None
no_job_told m asked running none =
    let job = none_of (job_given m asked) none in
    let free : work_refusal m (Take asked) ≡ None =
    ap (λ (b : Bool). if b then Some Stopped else running_refusal m (Take asked)) running ∙ ap (λ (o : Option Job). first_refusal ((is_some o && nat_lt last_number m.work.jobs.next, Exhausted) ∷ [])) job in
    ap (work_reply_by m (Take asked)) free ∙ ap (λ (o : Option Job). Given (option_map (λ job. (m.work.jobs.next, level_of job)) o)) job

-- the answer of a running store
pub told_by : (m : Machine) (asked : Option Choice) (given : Bool) → is_some m.state.stopped ≡ false → given ≡ is_some (job_given m asked) → MatchBool (not given) (work_decided m (Take asked) ≡ Given None) (Gives m (Take asked))
told_by m asked true running is = take_gives m asked (sym is)
told_by m asked false running is = no_job_told m asked running (sym is)
