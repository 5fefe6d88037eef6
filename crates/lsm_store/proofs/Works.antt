-- What pieces of work do that leave the device as it was, or only read it.
use Rattle.std.proofs.Common.{◌≡◌, ℕ, ◌≢◌, Bool, true, false, cond, [], ◌∷◌, Some, None, is_some, refl, sym, ◌∙◌, ap, subst, IsTrue}
use Rattle.std.specs.Prelude.{Option, IsNone}
use Rattle.std.proofs.lemmas.List.Elements.{Contains-append_left}
use Rattle.lsm_cache.specs.Fresh.{IsFresh}
use Rattle.lsm_device.specs.Calls.{faults_after}
use Rattle.lsm_device.specs.Disk.{Disk, seen}
use Rattle.lsm_device.specs.History.{present}
use Rattle.lsm_device.specs.Medium.{Lasting, Medium, disk}
use Rattle.lsm_device.specs.Outcomes.{Leaves}
use Rattle.lsm_device.specs.declared.refusal.Refusal.{Refusal}
use Rattle.lsm_device.specs.declared.refusal.Refusal.TheVariants.{NoMemory, Io, BadTable, Stopped}
use Rattle.lsm_device.proofs.Counting.{none_made}
use Rattle.lsm_device.proofs.Moments.{unchanged}
use Rattle.lsm_extent.specs.Area.{Area}
use Rattle.lsm_jobs.specs.Slots.{JobSlots}
use Rattle.lsm_levels.specs.Levels.{places}
use Rattle.lsm_levels.specs.Stored.{AreStored}
use Rattle.lsm_open.specs.Image.{StandFor}
use Rattle.lsm_open.specs.Recovering.{StandForOne}
use Rattle.lsm_machine.specs.Accounts.{outputs_in}
use Rattle.lsm_store.specs.Backing.{StoreView, HasNoneOf, IsRunOn, IsBacked, placement_of, data_start, machine_of}
use Rattle.lsm_machine.specs.Calls.{Refused, Reply}
use Rattle.lsm_machine.specs.Crash.{may_leave, last_crash_state}
use Rattle.lsm_machine.specs.Effects.{Use}
use Rattle.lsm_machine.specs.Effects.{Untouched, Reads, Changes}
use Rattle.lsm_store.specs.InstalledJobs.{AreSealedIn, AreLoggedIn, placed_by}
use Rattle.lsm_machine.specs.Refusals.{first_refusal}
use Rattle.lsm_store.specs.StoredTables.{IsStoredWithJobs}
use Rattle.lsm_machine.specs.Work.{Work}
use Rattle.lsm_machine.specs.WorkEffects.{work_after, state_after, work_use}
use Rattle.lsm_machine.specs.WorkRefusals.{running_refusal, work_refusal}
use Rattle.lsm_machine.specs.WorkSound.{IsSound}
use Rattle.lsm_store.specs.Working.{work_use_before, work_use_by, IsWorkUsed, Works, WorksTo}
use Rattle.lsm_machine.specs.Machine.{Machine}
use Rattle.lsm_store.specs.Serving.{is_faultless}
use Rattle.lsm_machine.specs.WorkReplies.{work_reply_by, WorkAllows, WorkAdmits, work_left_inside, next_worked}
use Rattle.lsm_store.proofs.Backed.{place_in}
use Rattle.lsm_machine.proofs.Running.{IsDecided}
use Rattle.lsm_machine.proofs.WorkReplies.{work_decided_so}
use Rattle.lsm_store.proofs.Serving.{untouched_no_change}

-- ---- refusals

none_some : (e : Refusal) → None ≡ Some e → ⊥
none_some e is = cc

some_none : (e : Refusal) → Some e ≡ None → ⊥
some_none e is = cc

-- a stopped store refuses each piece
pub stopped_refuses : (m : Machine) (piece : Work) (e : Refusal) → first_refusal ((is_some m.state.stopped, Stopped) ∷ []) ≡ Some e → work_refusal m piece ≡ Some e
stopped_refuses m piece e = by (is_some m.state.stopped)
  where
    by : (b : Bool) → cond b (Some Stopped) None ≡ Some e → cond b (Some Stopped) (running_refusal m piece) ≡ Some e
    by true is = is
    by false is = absurd (none_some e is)

-- one that runs refuses what its work does
pub runs_then : (m : Machine) → first_refusal ((is_some m.state.stopped, Stopped) ∷ []) ≡ None → IsNone m.state.stopped
runs_then m = by (is_some m.state.stopped)
  where
    by : (b : Bool) → cond b (Some Stopped) None ≡ None → b ≡ false
    by true is = absurd (some_none Stopped is)
    by false is = refl

pub running_refuses : (m : Machine) (piece : Work) → IsNone m.state.stopped → work_refusal m piece ≡ running_refusal m piece
running_refuses m piece running = ap (λ (b : Bool). cond b (Some Stopped) (running_refusal m piece)) running

-- what is known of a reply that changes nothing
pub record IsStill (m : Machine) (piece : Work) (reply : Reply) : Type 0 where
  pub admitted : WorkAdmits m piece reply
  pub next : next_worked m piece reply ≡ m
  pub faultless : is_faultless reply ≡ true
  pub unchanging : work_use_by m piece reply ≢ Changes

-- and is allowed
pub record IsAllowedStill (m : Machine) (piece : Work) (reply : Reply) : Type 0 where
  pub allowed : WorkAllows m piece reply
  pub still : IsStill m piece reply

refused_by : (m : Machine) (piece : Work) (e : Refusal) → IsDecided (Some e) → work_refusal m piece ≡ Some e → (work_use_by m piece (Refused e) ≢ Changes) → IsAllowedStill m piece (Refused e)
refused_by m piece NoMemory d is unchanging = absurd d
refused_by m piece Io d is unchanging = absurd d
refused_by m piece BadTable d is unchanging = absurd d
refused_by m piece e d is unchanging =
    let same = sym (ap (work_reply_by m piece) is) in
    record { allowed = same; still = record { admitted = same; next = refl; faultless = refl; unchanging = unchanging } }

-- a refusal that the machine decides
pub refused_still : (m : Machine) (piece : Work) (e : Refusal) → work_refusal m piece ≡ Some e → IsAllowedStill m piece (Refused e)
refused_still m piece e is =
    refused_by m piece e (subst IsDecided is (work_decided_so m piece)) is
    (λ changes. untouched_no_change (sym (ap (λ (o : Option Refusal). cond (is_some o) Untouched (work_use_before (work_use m piece) (Refused e))) is) ∙ changes))

wanting : (u : Use) → work_use_before u (Refused NoMemory) ≢ Changes
wanting Untouched e = cc
wanting Reads e = cc
wanting Changes e = cc

want_by : (m : Machine) (piece : Work) (b : Bool) → cond b Untouched (work_use_before (work_use m piece) (Refused NoMemory)) ≢ Changes
want_by m piece true changes = untouched_no_change changes
want_by m piece false changes = wanting (work_use m piece) changes

-- want of memory
pub want_still : (m : Machine) (piece : Work) → WorkAllows m piece (Refused NoMemory) → IsAllowedStill m piece (Refused NoMemory)
want_still m piece may = record { allowed = may; still = record { admitted = may; next = refl; faultless = refl; unchanging = want_by m piece (is_some (work_refusal m piece)) } }

-- ---- the store with other jobs

module _ (v : StoreView) (js : JobSlots) (number : ℕ) (area : Area) where
  -- and another number of the next table
  abbrev pub moved_on : Medium → StoreView
  moved_on new = record v { device = new; work = record v.work { jobs = js; next_table = number; area = area } }

  -- What a running store asks of that: it is sound, its device carries what these jobs have placed, and its cache has no block
  -- of a table that is still to come.
  pub record GoesOn : Type 0 where
    pub sound : IsSound (machine_of (moved_on v.device))
    pub stored : IsStoredWithJobs (placement_of v) (placed_by js.slots) v.state (disk v.device)
    pub unasked : HasNoneOf number (outputs_in js.slots) v.cache

  module _ (new : Medium) (same : IsTrue v.device.lasting.tells → new.history ≡ v.device.history) (lasting : new.lasting ≡ v.device.lasting) where
    same_disk : IsTrue v.device.lasting.tells → disk v.device ≡ disk new
    same_disk tells = sym (ap present (same tells))

    runs_moved : IsTrue v.device.lasting.tells → GoesOn → IsRunOn v → IsRunOn (moved_on new)
    runs_moved tells goes runs = record {
      stored = subst (λ (d : Disk). IsStoredWithJobs (placement_of v) (placed_by js.slots) v.state d) (same_disk tells) goes.stored;
      sound = goes.sound;
      sealed = subst (λ (d : Disk). AreSealedIn (placement_of v) (seen d) v.work.sealed) (same_disk tells) runs.sealed;
      logged = subst (λ (d : Disk). AreLoggedIn (placement_of v) (seen d) v.work.memory) (same_disk tells) runs.logged;
      tables = subst (λ (d : Disk). AreStored (seen d) (data_start v) (places v.work.levels)) (same_disk tells) runs.tables;
      apart = runs.apart;
      fresh = subst (λ (d : Disk). IsFresh (place_in v) (seen d) v.cache) (same_disk tells) runs.fresh;
      unasked = goes.unasked;
    }

    pub backed_moved : (IsTrue v.device.lasting.tells → IsRunOn v → GoesOn) → IsBacked v → IsBacked (moved_on new)
    backed_moved goes backed = record {
      tells = subst (λ (l : Lasting). IsTrue l.tells) (sym lasting) backed.tells;
      crashes = subst (λ (d : Disk). Leaves (StandForOne v.state.log_sectors (may_leave v.state)) d) (same_disk backed.tells) backed.crashes;
      reads = λ running. subst (λ (d : Disk). StandFor v.state.log_sectors (last_crash_state v.state) (seen d)) (same_disk backed.tells) (backed.reads running);
      runs = λ running. let runs = backed.runs running in runs_moved backed.tells (goes backed.tells runs) runs;
    }

-- with other jobs alone
abbrev pub worked_on : StoreView → JobSlots → Area → Medium → StoreView
worked_on v js area new = moved_on v js v.work.next_table area new

-- ---- one piece

pub now_within : (v : StoreView) (piece : Work) → IsBacked v → Leaves (StandForOne v.state.log_sectors (work_left_inside (machine_of v) piece)) (disk v.device)
now_within v piece backed mask = let one = backed.crashes mask in (one.0, Contains-append_left (may_leave v.state) _ one.0 one.1, one.2)

unused : (piece : Work) (used : Use) (m : Medium) → used ≢ Changes → IsWorkUsed piece used m m
unused piece Untouched m other = refl
unused piece Reads m other = (record { no_write = refl; no_sync = refl; same_history = λ tells. refl }, none_made 64 0 0 m.calls)
unused piece Changes m other = absurd (other refl)

module _ (v : StoreView) (piece : Work) where
  abbrev m : Machine
  m = machine_of v

  -- one that leaves the store as it was
  pub works_still : (reply : Reply) → IsStill m piece reply → WorksTo reply v piece v.work → (IsBacked v → WorkAllows m piece reply) → Works v piece reply v
  works_still reply still worked allowed = record {
    admitted = still.admitted;
    allowed = allowed;
    state = ap (λ (x : Machine). x.state) (sym still.next);
    worked = worked;
    same_cache = refl;
    used = unused piece (work_use_by m piece reply) v.device still.unchanging;
    fault = ap (λ (b : Bool). faults_after b v.device.calls.faults) (sym still.faultless);
    same_size = refl;
    same_lasting = refl;
    crash = λ backed. unchanged (Leaves (StandForOne v.state.log_sectors (work_left_inside m piece))) v.device.history v.device.history refl (now_within v piece backed);
    backed = λ backed. backed;
  }

  pub works_refused : (e : Refusal) → work_refusal m piece ≡ Some e → Works v piece (Refused e) v
  works_refused e is = let goes = refused_still m piece e is in works_still (Refused e) goes.still (ap (λ (x : Machine). x.work) (sym goes.still.next)) (λ backed. goes.allowed)

  pub works_want : WorkAllows m piece (Refused NoMemory) → Works v piece (Refused NoMemory) v
  works_want may = let goes = want_still m piece may in works_still (Refused NoMemory) goes.still refl (λ backed. goes.allowed)

-- What is known of an answer to a piece that nothing refuses, and that has no hand on the device.
pub record IsAnsweredAlone (m : Machine) (piece : Work) (reply : Reply) : Type 0 where
  pub allowed : WorkAllows m piece reply
  pub admitted : WorkAdmits m piece reply
  pub next : next_worked m piece reply ≡ record { state = state_after m piece; work = work_after m piece }
  pub faultless : is_faultless reply ≡ true
  pub state : state_after m piece ≡ m.state
  pub alone : work_use m piece ≡ Untouched

pub none_used : (b : Bool) (reply : Reply) → cond b Untouched (work_use_before Untouched reply) ≢ Changes
none_used true reply changes = untouched_no_change changes
none_used false reply changes = untouched_no_change changes

module _ (v : StoreView) (piece : Work) (js : JobSlots) (number : ℕ) (area : Area) (reply : Reply) (answer : IsAnsweredAlone (machine_of v) piece reply)
    (is : record v.work { jobs = js; next_table = number; area = area } ≡ work_after (machine_of v) piece) where
  none_changed : work_use_by (machine_of v) piece reply ≢ Changes
  none_changed changes =
      none_used (is_some (work_refusal (machine_of v) piece)) reply
      (sym (ap (λ (u : Use). cond (is_some (work_refusal (machine_of v) piece)) Untouched (work_use_before u reply)) answer.alone) ∙ changes)

  -- one that changes the jobs alone
  pub works_moved : WorksTo reply v piece (record v.work { jobs = js; next_table = number; area = area }) → (IsTrue v.device.lasting.tells → IsRunOn v → GoesOn v js number area) → Works v piece reply (moved_on v js number area v.device)
  works_moved worked goes = record {
    admitted = answer.admitted;
    allowed = λ backed. answer.allowed;
    state = sym answer.state ∙ sym (ap (λ (x : Machine). x.state) answer.next);
    worked = worked;
    same_cache = refl;
    used = unused piece (work_use_by (machine_of v) piece reply) v.device none_changed;
    fault = ap (λ (b : Bool). faults_after b v.device.calls.faults) (sym answer.faultless);
    same_size = refl;
    same_lasting = refl;
    crash = λ backed. unchanged (Leaves (StandForOne v.state.log_sectors (work_left_inside (machine_of v) piece))) v.device.history v.device.history refl (now_within v piece backed);
    backed = backed_moved v js number area v.device (λ tells. refl) refl goes;
  }

  -- the machine then is that after the piece
  pub sound_moved : IsSound (record { state = state_after (machine_of v) piece; work = work_after (machine_of v) piece }) → IsSound (machine_of (moved_on v js number area v.device))
  sound_moved sound = subst IsSound (λ i. record { state = answer.state i; work = sym is i }) sound
