-- Calls of a store that were refused.
use Rattle.std.proofs.Common.{◌≡◌, ◌⊎◌, ℕ, Bool, true, false, List, Option, Result, Ok, Err, refl, sym, ap, subst, inl, inr}
use Rattle.std.specs.Prelude.{IfErr, IfOk, is_some, if◌then◌else◌}
use Rattle.lsm_codec.specs.Guards.{Condition}
use Rattle.lsm_codec.specs.Map.{Operation}
use Rattle.lsm_device.specs.declared.refusal.Refusal.{Refusal}
use Rattle.lsm_device.specs.declared.refusal.Refusal.TheVariants.{NoMemory, Io, Stopped}
use Rattle.lsm_open.specs.Recovering.{IsOpeningRefusal}
use Rattle.lsm_store.specs.Backing.{StoreView, machine_of}
use Rattle.lsm_machine.specs.Calls.{Call, Sync, Number, Refused}
use Rattle.lsm_store.specs.Serving.{Serves}
use Rattle.lsm_machine.specs.State.{State}
use Rattle.lsm_store.specs.Stats.{stat_answer, stat_of}
use Rattle.lsm_upkeep.specs.Writing.{Writes}
use Rattle.lsm_check.specs.Images.{IsCheckRefusal}
use Rattle.lsm_language.specs.declared.program_error.ProgramError.{ProgramError}
use Rattle.lsm_language.specs.Faults.{IsRefusalBy, Reason, mistake, refusal, unopened, unread, unwritten, reason_of}
use Rattle.lsmctl.specs.declared.answer.Answer.{Answer}
use Rattle.lsmctl.specs.declared.answer.Output.{Output}
use Rattle.lsmctl.specs.Answers.{Hands, IsRefusedOpened, OfOpened, WasOpened}
use Rattle.lsmctl.specs.Commits.{IsKeptUp, Refuses}
use Rattle.lsmctl.specs.Refusing.{RefusesToCommit, RefusesToTell}

-- a call whose refusal is told as it is
pub refuses : (call : Call) (before after : StoreView) (e : Refusal) → Serves before call (Refused e) after → Refuses call before e
refuses call before after e serves = record { reply = Refused e; after = after; serves = serves; told = refl }

-- one that reads
pub tell_refused : (call : Call) (before after : StoreView) (e : Refusal) → Serves before call (Refused e) after → RefusesToTell call before e
tell_refused call before after e serves = inr (refuses call before after e serves)

-- a batch was refused after upkeep
pub write_refused : (guards : Option (List Condition)) (batch : List Operation) (before kept after : StoreView) (e : Refusal) → IsKeptUp before kept → Writes guards batch kept (Refused e) after
    → RefusesToCommit guards batch before e
write_refused guards batch before kept after e keeps writes = record { kept = kept; keeps = keeps; refused = inl (after, writes) }

-- or the sync after it
pub sync_refused : (guards : Option (List Condition)) (batch : List Operation) (before kept between after : StoreView) (number : ℕ) (e : Refusal) → IsKeptUp before kept
    → Writes guards batch kept (Number number) between → Serves between Sync (Refused e) after → RefusesToCommit guards batch before e
sync_refused guards batch before kept between after number e keeps writes refused = record {
  kept = kept;
  keeps = keeps;
  refused = inr record { number = number; between = between; writes = writes; refused = refuses Sync between after e refused };
}

-- ---- a store that was opened

-- a store that was opened was refused so
pub opened_refused : (RefusesSo : StoreView → Refusal → Type 0) (store : StoreView) (e : Refusal) → WasOpened store → RefusesSo store e → IsRefusedOpened RefusesSo e
opened_refused RefusesSo store e opened refused = inr record { store = store; opened = opened; refused = refused }

-- ---- openings

-- want of memory is what an opening may be refused with too
pub memory_opening : (e : Refusal) → e ≡ NoMemory → IsOpeningRefusal e
memory_opening e is = subst IsOpeningRefusal (sym is) (inr tt)

-- a store that was just opened tells its numbers
numbers_unrefused : (store : StoreView) (e : Refusal) → WasOpened store → stat_answer (machine_of store) ≡ Err e → ⊥
numbers_unrefused store e opened = by (is_some store.state.stopped) (ap (λ (s : State). is_some s.stopped) opened.opened.state)
  where
    by : (b : Bool) → b ≡ false → (if b then Err Stopped else Ok (stat_of (machine_of store))) ≡ Err e → ⊥
    by true is h = cc
    by false is h = cc

pub numbers_refused : (store : StoreView) (e : Refusal) → WasOpened store → (e ≡ NoMemory) ⊎ (stat_answer (machine_of store) ≡ Err e) → IsOpeningRefusal e
numbers_refused store e opened (inl short) = memory_opening e short
numbers_refused store e opened (inr is) = absurd (numbers_unrefused store e opened is)

-- ---- what comes of calls on a store that was opened

-- they were answered
pub closed_answers : (Tells : StoreView → StoreView → Output → Type 0) (store after : StoreView) (done : Result Output Refusal) (result : Result Answer ProgramError) → WasOpened store
    → IfOk done (Tells store after) → IfOk result (λ answer. (done ≡ Ok answer.output) × Hands answer.file after.device) → IfOk result (OfOpened Tells)
closed_answers Tells store after done (Err fault) opened tells closed = tt
closed_answers Tells store after done (Ok answer) opened tells (is, hands) = record {
  store = store;
  after = after;
  opened = opened;
  tells = subst (λ (d : Result Output Refusal). IfOk d (Tells store after)) is tells;
  hands = hands;
}

-- or refused
pub closed_refuses : (RefusesSo : Refusal → Type 0) (done : Result Output Refusal) (result : Result Answer ProgramError) → IfErr done RefusesSo
    → IfErr result (λ e. (reason : Refusal) × (done ≡ Err reason) × (reason_of e ≡ refusal reason)) → IfErr result (λ e. IsRefusalBy RefusesSo (reason_of e))
closed_refuses RefusesSo done (Ok answer) refuses closed = tt
closed_refuses RefusesSo done (Err fault) refuses (reason, is, told) =
    subst (IsRefusalBy RefusesSo) (sym told) (subst (λ (d : Result Output Refusal). IfErr d RefusesSo) is refuses)

opened_when : (RefusesSo : StoreView → Refusal → Type 0) (store : StoreView) (done : Result Output Refusal) → WasOpened store → IfErr done (RefusesSo store)
    → IfErr done (IsRefusedOpened RefusesSo)
opened_when RefusesSo store (Ok output) opened refuses = tt
opened_when RefusesSo store (Err e) opened refuses = opened_refused RefusesSo store e opened refuses

pub opened_refuses : (RefusesSo : StoreView → Refusal → Type 0) (store : StoreView) (done : Result Output Refusal) (result : Result Answer ProgramError) → WasOpened store
    → IfErr done (RefusesSo store) → IfErr result (λ e. (reason : Refusal) × (done ≡ Err reason) × (reason_of e ≡ refusal reason))
    → IfErr result (λ e. IsRefusalBy (IsRefusedOpened RefusesSo) (reason_of e))
opened_refuses RefusesSo store done result opened refuses closed =
    closed_refuses (IsRefusedOpened RefusesSo) done result (opened_when RefusesSo store done opened refuses) closed

-- a refusal of one kind is one of a wider kind
pub refused_wider : (Is May : Refusal → Type 0) (reason : Reason) → ((e : Refusal) → Is e → May e) → IsRefusalBy Is reason → IsRefusalBy May reason
refused_wider Is May mistake wider is = absurd is
refused_wider Is May (refusal e) wider is = wider e is
refused_wider Is May (unopened cause) wider is = wider Io is
refused_wider Is May unread wider is = absurd is
refused_wider Is May unwritten wider is = absurd is

-- no store was opened
pub not_opened : (RefusesSo : StoreView → Refusal → Type 0) (reason : Reason) → IsRefusalBy IsOpeningRefusal reason → IsRefusalBy (IsRefusedOpened RefusesSo) reason
not_opened RefusesSo reason is = refused_wider IsOpeningRefusal (IsRefusedOpened RefusesSo) reason (λ e may. inl may) is

-- want of memory, and a fault, are what an opening may be refused with, and a check
pub file_refused : (e : Refusal) → (e ≡ NoMemory) ⊎ (e ≡ Io) → IsOpeningRefusal e
file_refused e (inl is) = memory_opening e is
file_refused e (inr is) = subst IsOpeningRefusal (sym is) (inr tt)

pub file_unchecked : (e : Refusal) → (e ≡ NoMemory) ⊎ (e ≡ Io) → IsCheckRefusal e
file_unchecked e (inl is) = subst IsCheckRefusal (sym is) tt
file_unchecked e (inr is) = subst IsCheckRefusal (sym is) tt

-- a refusal as it is told
pub told_as : (Is : Refusal → Type 0) (e : Refusal) (reason : Reason) → reason ≡ refusal e → Is e → IsRefusalBy Is reason
told_as Is e reason told is = subst (IsRefusalBy Is) (sym told) is

-- the numbers of a store that was just opened, and steps that want memory
pub numbers_refuse : (store : StoreView) (done : Result Output Refusal) → WasOpened store → IfErr done (λ e. (e ≡ NoMemory) ⊎ (stat_answer (machine_of store) ≡ Err e))
    → IfErr done IsOpeningRefusal
numbers_refuse store (Ok output) opened refused = tt
numbers_refuse store (Err e) opened refused = numbers_refused store e opened refused

pub memory_refuses : (done : Result Output Refusal) → IfErr done (λ e. e ≡ NoMemory) → IfErr done IsOpeningRefusal
memory_refuses (Ok output) refused = tt
memory_refuses (Err e) refused = memory_opening e refused
