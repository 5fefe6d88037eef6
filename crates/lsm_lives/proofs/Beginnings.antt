-- Lives that keep the promise, in the words of batches alone.
use Rattle.std.proofs.Common.{◌≡◌, ⊎_elim, inl, inr, ℕ, ◌+◌, Bool, false, List, [], ◌∷◌, ◌++◌, length, map, Option, Some, None, is_none, is_some, refl, ap, sym, subst, ◌∙◌}
use Rattle.std.specs.Prelude.{IsNone}
use Rattle.std.specs.declared.vec.Vec.{Vec}
use Rattle.std.proofs.lemmas.Bool.{false≢true}
use Rattle.lsm_codec.specs.Map.{Operation}
use Rattle.lsm_device.specs.Disk.{Disk}
use Rattle.lsm_device.specs.Outcomes.{Leaves}
use Rattle.lsm_device.specs.declared.refusal.Refusal.{Refusal}
use Rattle.lsm_device.specs.declared.refusal.Refusal.TheVariants.{NoMemory, Io, BadLimit, Stopped}
use Rattle.lsm_jobs.specs.Slots.{Slot}
use Rattle.lsm_levels.specs.Pick.{is_flush}
use Rattle.lsm_merge.specs.Inputs.{MergeInput}
use Rattle.lsm_merge.specs.Results.{MergeResult}
use Rattle.lsm_root.specs.CrashState.{CrashState}
use Rattle.lsm_open.specs.Image.{StandFor}
use Rattle.lsm_machine.specs.Calls.{Call, Reply}
use Rattle.lsm_machine.specs.Calls.{Commit, CommitIf, Sync, SyncTo, Rotate, Number, Done, Value, Rows, Given, Handed, Refused, Unread, as_told}
use Rattle.lsm_machine.specs.Crash.{last_crash_state}
use Rattle.lsm_machine.specs.Effects.{Use, installed}
use Rattle.lsm_machine.specs.Effects.{Untouched, Reads, Changes}
use Rattle.lsm_machine.specs.Lives.{KeepsLife, KeepsLives, all_stopped, IsAfter, IsPrefixFrom}
use Rattle.lsm_machine.specs.Machine.{Machine, Step, Called, Worked}
use Rattle.lsm_machine.specs.Promise.{accepted_by, accepted, acknowledged_by, acknowledged_from, in_flight}
use Rattle.lsm_machine.specs.Run.{Allows, next, AllowsStep, next_machine, Run, last_machine}
use Rattle.lsm_machine.specs.State.{State}
use Rattle.lsm_machine.specs.Work.{Work, Take, Read, Ask, Accept, Write, Install, Drop}
use Rattle.lsm_machine.specs.WorkEffects.{state_after, work_use}
use Rattle.lsm_machine.specs.WorkRefusals.{held, of_slot, work_refusals, running_refusal, work_refusal}
use Rattle.lsm_machine.specs.WorkReplies.{WorkAllows, work_decided, work_left_besides, after_work_fault, next_worked}
use Rattle.lsm_machine.proofs.Accounts.{first_not}
use Rattle.lsm_machine.proofs.CrashStates.{IsAnswer}
use Rattle.lsm_machine.proofs.Unrefused.{none_taken}
use Rattle.lsm_machine.proofs.WorkReplies.{answered_unrefused, never_unread}
use Rattle.lsm_lives.specs.Asked.{Asked, Told, Own, Build, AcceptBuilt, Replied, Built, result_of, step_in, HasNoResult, IsTold, AreTold}
use Rattle.lsm_lives.specs.Batches.{Act, Calls, Installs, Works, GoesByWork, Goes, taken_by, taken, synced_by, synced_from, flying, KeepsOn, KeepsBatches, act_of, acts_by, replies_by, act_asked, reply_told, acts_asked, replies_told}
use Rattle.lsm_lives.specs.Calls.{asked_of, reply_of, told_of}
use Rattle.lsm_lives.specs.Devices.{KeepsBatchesOn}
use Rattle.lsm_lives.specs.Living.{IsLifeTold, AreLivesTold, asked_by, told_by, KeepPromise}
use Rattle.lsm_lives.specs.declared.calls.Reply.{Reply as GivenReply}
use Rattle.lsm_lives.specs.declared.calls.Reply.TheVariants as reply
use Rattle.lsm_lives.specs.declared.calls.Step.{Step as GivenStep}
use Rattle.lsm_lives.specs.declared.calls.Step.TheVariants as step
use Rattle.lsm_lives.specs.declared.calls.Work.TheVariants as work
use Rattle.lsm_lives.specs.declared.living.Life.{Life as GivenLife}

-- ---- one step

-- the state goes so by an act that was answered so
abbrev GoesOne : State → Act → Reply → State → Type 0
GoesOne s (Calls call) reply to = Allows s call reply × (to ≡ next s call reply)
GoesOne s act reply to = GoesByWork s act reply to

goes_on : (s to last : State) (act : Act) (reply : Reply) (acts : List Act) (replies : List Reply) → GoesOne s act reply to → Goes to acts replies last → Goes s (act ∷ acts) (reply ∷ replies) last
goes_on s to last (Calls call) reply acts replies one more = (one.0, subst (λ (t : State). Goes t acts replies last) one.1 more)
goes_on s to last Installs reply acts replies one more = (to, one, more)
goes_on s to last Works reply acts replies one more = (to, one, more)

-- a step of the machine, as far as maps go
record IsHeard (m : Machine) (step : Step) (reply : Reply) (act : Act) (told : Reply) : Type 0 where
  pub made : Reply
  pub told_so : told ≡ as_told made
  pub goes : GoesOne m.state act made (next_machine m step reply).state
  pub taken : accepted_by step reply ≡ taken_by act made
  pub synced : (opened done known : ℕ) → acknowledged_by opened done known step reply ≡ synced_by opened done known act made
  pub flies : (steps : List Step) (replies : List Reply) (acts : List Act) (others : List Reply) → in_flight steps replies ≡ flying acts others
      → in_flight (step ∷ steps) (reply ∷ replies) ≡ flying (act ∷ acts) (made ∷ others)

call_taken : (call : Call) (reply : Reply) → accepted_by (Called call) reply ≡ taken_by (Calls call) reply
call_taken (Commit batch) (Number n) = refl
call_taken (Commit batch) reply = refl
call_taken (CommitIf guards batch) (Number n) = refl
call_taken (CommitIf guards batch) reply = refl
call_taken call reply = refl

call_synced : (call : Call) (reply : Reply) (opened done known : ℕ) → acknowledged_by opened done known (Called call) reply ≡ synced_by opened done known (Calls call) reply
call_synced Sync Done opened done known = refl
call_synced Sync reply opened done known = refl
call_synced (SyncTo number) Done opened done known = refl
call_synced (SyncTo number) reply opened done known = refl
call_synced Rotate Done opened done known = refl
call_synced Rotate reply opened done known = refl
call_synced call reply opened done known = refl

call_flies : (call : Call) (reply : Reply) (steps : List Step) (replies : List Reply) (acts : List Act) (others : List Reply) → in_flight steps replies ≡ flying acts others
    → in_flight (Called call ∷ steps) (reply ∷ replies) ≡ flying (Calls call ∷ acts) (reply ∷ others)
call_flies (Commit batch) (Refused Io) steps replies acts others same = refl
call_flies (Commit batch) reply steps replies acts others same = same
call_flies (CommitIf guards batch) (Refused Io) steps replies acts others same = refl
call_flies (CommitIf guards batch) reply steps replies acts others same = same
call_flies call reply steps replies acts others same = same

call_heard : (m : Machine) (call : Call) (reply told : Reply) → Allows m.state call reply → as_told reply ≡ told → IsHeard m (Called call) reply (Calls call) told
call_heard m call reply told allows is = record {
  made = reply;
  told_so = sym is;
  goes = (allows, refl);
  taken = call_taken call reply;
  synced = call_synced call reply;
  flies = call_flies call reply;
}

-- ---- pieces of work

unrefused_runs : (m : Machine) (piece : Work) → work_refusal m piece ≡ None → is_some m.state.stopped ≡ false
unrefused_runs m piece none = (none_taken (is_some m.state.stopped) Stopped (running_refusal m piece) none).0

none_is : {X : Type 0} (o : Option X) → IsNone o → o ≡ None
none_is None h = refl
none_is (Some x) h = absurd cc

-- a piece that is no install
module _ (m : Machine) (piece : Work) (kept : state_after m piece ≡ m.state) (besides : work_left_besides m piece ≡ []) where
  fault_goes : IsNone (work_refusal m piece) → GoesByWork m.state Works (Refused Io) (next_worked m piece (Refused Io)).state
  fault_goes none = by (work_use m piece)
    where
      by : (used : Use) → GoesByWork m.state Works (Refused Io) (after_work_fault m piece used).state
      by Untouched = inl refl
      by Reads = inl refl
      by Changes = inr (unrefused_runs m piece (none_is (work_refusal m piece) none), ap (λ (os : List CrashState). record m.state { stopped = Some os }) besides)

  work_goes : (reply : Reply) → WorkAllows m piece reply → GoesByWork m.state Works reply (next_worked m piece reply).state
  work_goes (Refused Io) may = fault_goes may.0
  work_goes (Refused e) may = refl
  work_goes (Number n) may = kept
  work_goes Done may = kept
  work_goes (Value v) may = kept
  work_goes (Rows page) may = kept
  work_goes (Given job) may = kept
  work_goes (Handed input) may = kept
  work_goes Unread may = absurd (never_unread m piece may)

  work_heard : ((opened done known : ℕ) (reply : Reply) → acknowledged_by opened done known (Worked piece) reply ≡ known) → (reply told : Reply) → WorkAllows m piece reply → as_told reply ≡ told → IsHeard m (Worked piece) reply Works told
  work_heard quiet reply told may is = record {
    made = reply;
    told_so = sym is;
    goes = work_goes reply may;
    taken = refl;
    synced = λ opened done known. quiet opened done known reply;
    flies = λ steps replies acts others same. same;
  }

-- an install
module _ (m : Machine) (job : ℕ) where
  installs : work_refusal m (Install job) ≡ None → (flush : Bool) × (state_after m (Install job) ≡ installed flush m.state)
  installs none = by (held m job) (first_not (work_refusals m (Install job)) (none_taken (is_some m.state.stopped) Stopped (running_refusal m (Install job)) none).1)
    where
      by : (o : Option Slot) → is_none o ≡ false → (flush : Bool) × (of_slot m.state (λ slot. installed (is_flush slot.job) m.state) o ≡ installed flush m.state)
      by None some = absurd (false≢true (sym some))
      by (Some slot) some = (is_flush slot.job, refl)

  none_but_done : (reply : Reply) → IsAnswer reply → reply ≡ work_decided m (Install job) → reply ≡ Done
  none_but_done reply answer is = (answered_unrefused m (Install job) reply answer is).1

  install_goes : (reply : Reply) → WorkAllows m (Install job) reply → GoesByWork m.state Installs reply (next_worked m (Install job) reply).state
  install_goes Done may =
      let none = (answered_unrefused m (Install job) Done tt may).0 in
      let to = installs none in
      (unrefused_runs m (Install job) none, to.0, to.1)
  install_goes (Refused Io) may =
      let none = none_is (work_refusal m (Install job)) may.0 in
      let to = installs none in
      (unrefused_runs m (Install job) none, to.0, ap (λ (s : State). record m.state { stopped = Some (last_crash_state s ∷ []) }) to.1)
  install_goes (Refused e) may = refl
  install_goes (Number n) may = let done = none_but_done (Number n) tt may in absurd cc
  install_goes (Value v) may = let done = none_but_done (Value v) tt may in absurd cc
  install_goes (Rows page) may = let done = none_but_done (Rows page) tt may in absurd cc
  install_goes (Given one) may = let done = none_but_done (Given one) tt may in absurd cc
  install_goes (Handed input) may = let done = none_but_done (Handed input) tt may in absurd cc
  install_goes Unread may = absurd (never_unread m (Install job) may)

  install_synced : (reply : Reply) (opened done known : ℕ) → acknowledged_by opened done known (Worked (Install job)) reply ≡ synced_by opened done known Installs reply
  install_synced Done opened done known = refl
  install_synced reply opened done known = refl

  install_heard : (reply told : Reply) → WorkAllows m (Install job) reply → as_told reply ≡ told → IsHeard m (Worked (Install job)) reply Installs told
  install_heard reply told may is = record {
    made = reply;
    told_so = sym is;
    goes = install_goes reply may;
    taken = refl;
    synced = install_synced reply;
    flies = λ steps replies acts others same. same;
  }

-- a build, of which something else is told than what the store replied
module _ (m : Machine) (job : ℕ) (input : MergeInput) (reply : Reply) (lent : reply ≡ Handed input) where
  build_heard : (told : Reply) → told ≡ as_told told → ((s : State) → GoesByWork s Works told s) → IsHeard m (Worked (Ask job)) reply Works told
  build_heard told is quiet = record {
    made = told;
    told_so = is;
    goes = subst (GoesByWork m.state Works told) (ap (λ (r : Reply). (next_worked m (Ask job) r).state) (sym lent)) (quiet m.state);
    taken = refl;
    synced = λ opened done known. refl;
    flies = λ steps replies acts others same. same;
  }

  refused_heard : (parts : ℕ) (e : Refusal) → HasNoResult parts e → IsHeard m (Worked (Ask job)) reply Works (Refused e)
  refused_heard parts BadLimit has = build_heard (Refused BadLimit) refl (λ s. refl)
  refused_heard parts NoMemory has = build_heard (Refused NoMemory) refl (λ s. refl)
  refused_heard parts e has = absurd has

own_heard : (m : Machine) (piece : Work) (reply told : Reply) → WorkAllows m piece reply → as_told reply ≡ told → IsHeard m (Worked piece) reply (act_asked (Own (Worked piece))) told
own_heard m (Take asked) reply told may is = work_heard m (Take asked) refl refl (λ opened done known r. refl) reply told may is
own_heard m (Read job) reply told may is = work_heard m (Read job) refl refl (λ opened done known r. refl) reply told may is
own_heard m (Ask job) reply told may is = work_heard m (Ask job) refl refl (λ opened done known r. refl) reply told may is
own_heard m (Accept job result) reply told may is = work_heard m (Accept job result) refl refl (λ opened done known r. refl) reply told may is
own_heard m (Write job) reply told may is = work_heard m (Write job) refl refl (λ opened done known r. refl) reply told may is
own_heard m (Install job) reply told may is = install_heard m job reply told may is
own_heard m (Drop job) reply told may is = work_heard m (Drop job) refl refl (λ opened done known r. refl) reply told may is

step_heard : (m : Machine) (results after : List MergeResult) (asked : Asked) (told : Told) (reply : Reply) → IsTold results asked told reply after → AllowsStep m (step_in results asked) reply
    → IsHeard m (step_in results asked) reply (act_asked asked) (reply_told told)
step_heard m results after (Own (Called call)) (Replied told) reply is may = call_heard m call reply told may is.1
step_heard m results after (Own (Worked piece)) (Replied told) reply is may = own_heard m piece reply told may is.1
step_heard m results after (Own step) (Built number tables) reply is may = absurd is
step_heard m results after (AcceptBuilt job number) (Replied told) reply is may = own_heard m (Accept job (result_of number results)) reply told may is.1
step_heard m results after (AcceptBuilt job number) (Built n tables) reply is may = absurd is
step_heard m results after (Build job parts) (Built number tables) reply is may = build_heard m job is.made.input reply is.lent (Number number) refl (λ s. refl)
step_heard m results after (Build job parts) (Replied (Refused e)) reply is may = ⊎_elim
    (λ same. own_heard m (Ask job) reply (Refused e) may (ap as_told same))
    (λ lent. refused_heard m job lent.0 reply lent.1 parts e lent.2)
    is.1
step_heard m results after (Build job parts) (Replied other) reply is may = absurd is

-- ---- steps one after another

record AreHeard (m : Machine) (steps : List Step) (replies : List Reply) (acts : List Act) (told : List Reply) : Type 0 where
  pub made : List Reply
  pub told_so : told ≡ map as_told made
  pub goes : Goes m.state acts made (last_machine m steps replies).state
  pub taken : accepted steps replies ≡ taken acts made
  pub synced : (opened done known : ℕ) → acknowledged_from opened done known steps replies ≡ synced_from opened done known acts made
  pub flies : in_flight steps replies ≡ flying acts made

heard_more : (m : Machine) (step : Step) (steps : List Step) (reply : Reply) (replies : List Reply) (act : Act) (acts : List Act) (told : Reply) (rest : List Reply)
    → IsHeard m step reply act told → AreHeard (next_machine m step reply) steps replies acts rest → AreHeard m (step ∷ steps) (reply ∷ replies) (act ∷ acts) (told ∷ rest)
heard_more m step steps reply replies act acts told rest one more = record {
  made = one.made ∷ more.made;
  told_so = ap (λ (r : Reply). r ∷ rest) one.told_so ∙ ap (λ (l : List Reply). as_told one.made ∷ l) more.told_so;
  goes = goes_on m.state (next_machine m step reply).state (last_machine (next_machine m step reply) steps replies).state act one.made acts more.made one.goes more.goes;
  taken = ap (λ (l : List (List Operation)). l ++ accepted steps replies) one.taken ∙ ap (λ (l : List (List Operation)). taken_by act one.made ++ l) more.taken;
  synced = λ opened done known.
      more.synced opened (done + length (accepted_by step reply)) (acknowledged_by opened done known step reply)
      ∙ ap (λ (l : List (List Operation)). synced_from opened (done + length l) (acknowledged_by opened done known step reply) acts more.made) one.taken
      ∙ ap (λ (n : ℕ). synced_from opened (done + length (taken_by act one.made)) n acts more.made) (one.synced opened done known);
  flies = one.flies steps replies acts more.made more.flies;
}

run_heard : (results : List MergeResult) (asked : List Asked) (told : List Told) (steps : List Step) (replies : List Reply) (m : Machine) → AreTold results asked told steps replies → Run m steps replies
    → AreHeard m steps replies (map act_asked asked) (map reply_told told)
run_heard results [] [] [] [] m is run = record { made = []; told_so = refl; goes = refl; taken = refl; synced = λ opened done known. refl; flies = refl }
run_heard results [] [] (step ∷ steps) replies m is run = let none = is.0 in absurd cc
run_heard results [] [] [] (reply ∷ replies) m is run = absurd run
run_heard results (asked ∷ more) (told ∷ rest) (step ∷ steps) (reply ∷ replies) m (same, (after, is, later)) run =
    heard_more m step steps reply replies (act_asked asked) (map act_asked more) (reply_told told) (map reply_told rest)
    (subst (λ (s : Step). IsHeard m s reply (act_asked asked) (reply_told told)) (sym same) (step_heard m results after asked told reply is (subst (λ (s : Step). AllowsStep m s reply) same run.0)))
    (run_heard after more rest steps replies (next_machine m step reply) later run.1)
run_heard results (asked ∷ more) (told ∷ rest) [] replies m is run = absurd is
run_heard results (asked ∷ more) (told ∷ rest) (step ∷ steps) [] m is run = absurd is
run_heard results [] (told ∷ rest) steps replies m is run = absurd is
run_heard results (asked ∷ more) [] steps replies m is run = absurd is

-- ---- steps of a life whose opening was refused

no_input : (input : MergeInput) → Refused Stopped ≡ Handed input → ⊥
no_input input is = cc

stopped_heard : (results after : List MergeResult) (asked : Asked) (told : Told) → IsTold results asked told (Refused Stopped) after → reply_told told ≡ Refused Stopped
stopped_heard results after (Own step) (Replied told) is = sym is.1
stopped_heard results after (Own step) (Built number tables) is = absurd is
stopped_heard results after (AcceptBuilt job number) (Replied told) is = sym is.1
stopped_heard results after (AcceptBuilt job number) (Built n tables) is = absurd is
stopped_heard results after (Build job parts) (Built number tables) is = absurd (no_input is.made.input is.lent)
stopped_heard results after (Build job parts) (Replied (Refused e)) is = ⊎_elim (λ same. sym same) (λ lent. absurd (no_input lent.0 lent.1)) is.1
stopped_heard results after (Build job parts) (Replied other) is = absurd is

abbrev stopped_acts : List Act → List Reply
stopped_acts acts = map (λ _. Refused Stopped) acts

all_stopped_heard : (results : List MergeResult) (asked : List Asked) (told : List Told) (steps : List Step) → AreTold results asked told steps (all_stopped steps)
    → map reply_told told ≡ map as_told (stopped_acts (map act_asked asked))
all_stopped_heard results [] [] steps is = refl
all_stopped_heard results (asked ∷ more) (told ∷ rest) (step ∷ steps) (same, (after, is, later)) =
    ap (λ (r : Reply). r ∷ map reply_told rest) (stopped_heard results after asked told is)
    ∙ ap (λ (l : List Reply). Refused Stopped ∷ l) (all_stopped_heard after more rest steps later)
all_stopped_heard results (asked ∷ more) (told ∷ rest) [] is = absurd is
all_stopped_heard results [] (told ∷ rest) steps is = absurd is
all_stopped_heard results (asked ∷ more) [] steps is = absurd is

-- ---- lives

module _ (log_sectors : ℕ) (before : List (List Operation)) (opened : CrashState) (after : List (List Operation)) (left : CrashState) where
  life_opened : (asked : List Asked) (told : List Told) (steps : List Step) (n : ℕ) (replies : List Reply) → AreTold [] asked told steps replies
      → KeepsLife log_sectors before opened steps (Number n ∷ replies) after left → KeepsOn log_sectors before opened (map act_asked asked) (Number n ∷ map reply_told told) after left
  life_opened asked told steps n replies is kept =
      let life = kept.life in
      let acts = map act_asked asked in
      let last = (last_machine life.machine steps replies).state in
      let heard = run_heard [] asked told steps replies life.machine is life.answered.3 in
      let made = heard.made in
      let known = synced_from (length before) 0 0 acts made in
      record {
        opens = kept.opens;
        replies = Number n ∷ made;
        told_so = ap (λ (l : List Reply). Number n ∷ l) heard.told_so;
        life = (life.answered.0, life.answered.1, last, subst (λ (s : State). Goes s acts made last) life.answered.2.state heard.goes, life.crash);
        keeps = subst (λ (l : List (List Operation)). IsPrefixFrom (length before + known) (before ++ (taken acts made ++ l)) after) heard.flies
            (subst (λ (l : List (List Operation)). IsPrefixFrom (length before + known) (before ++ (l ++ in_flight steps replies)) after) heard.taken
            (subst (λ (k : ℕ). IsPrefixFrom (length before + k) (before ++ (accepted steps replies ++ in_flight steps replies)) after) (heard.synced (length before) 0 0) kept.keeps));
      }

  life_refused : (asked : List Asked) (told : List Told) (steps : List Step) (e : Refusal) (replies : List Reply) → AreTold [] asked told steps replies
      → KeepsLife log_sectors before opened steps (Refused e ∷ replies) after left → KeepsOn log_sectors before opened (map act_asked asked) (Refused e ∷ map reply_told told) after left
  life_refused asked told steps e replies is kept =
      let life = kept.life in
      let acts = map act_asked asked in
      record {
        opens = kept.opens;
        replies = Refused e ∷ stopped_acts acts;
        told_so = ap (λ (l : List Reply). Refused e ∷ l) (all_stopped_heard [] asked told steps (subst (λ (l : List Reply). AreTold [] asked told steps l) life.answered.1 is));
        life = (life.answered.0, refl, life.crash);
        keeps = kept.keeps;
      }

  life_kept : (asked : List Asked) (told : List Told) (steps : List Step) (first reply : Reply) (replies : List Reply) → reply ≡ first → AreTold [] asked told steps replies
      → KeepsLife log_sectors before opened steps (reply ∷ replies) after left → KeepsOn log_sectors before opened (map act_asked asked) (first ∷ map reply_told told) after left
  life_kept asked told steps first reply replies same is kept = by first (subst (λ (r : Reply). KeepsLife log_sectors before opened steps (r ∷ replies) after left) same kept)
    where
      by : (r : Reply) → KeepsLife log_sectors before opened steps (r ∷ replies) after left → KeepsOn log_sectors before opened (map act_asked asked) (r ∷ map reply_told told) after left
      by (Number n) kept = life_opened asked told steps n replies is kept
      by (Refused e) kept = life_refused asked told steps e replies is kept
      by Done kept = absurd kept.life.answered
      by (Value v) kept = absurd kept.life.answered
      by (Rows page) kept = absurd kept.life.answered
      by (Given job) kept = absurd kept.life.answered
      by (Handed input) kept = absurd kept.life.answered
      by Unread kept = absurd kept.life.answered

  life_told : (asked : List Asked) (told : List Told) (steps : List Step) (replies : List Reply) → IsLifeTold asked told steps replies
      → KeepsLife log_sectors before opened steps replies after left → KeepsOn log_sectors before opened (map act_asked asked) (map reply_told told) after left
  life_told asked (Replied first ∷ told) steps (reply ∷ replies) is kept = life_kept asked told steps first reply replies is.0 is.1 kept
  life_told asked (Replied first ∷ told) steps [] is kept = absurd is
  life_told asked (Built number tables ∷ told) steps replies is kept = absurd is
  life_told asked [] steps replies is kept = absurd is

lives_kept : (log_sectors : ℕ) (before : List (List Operation)) (opened : CrashState) (lives : List (List Asked)) (told : List (List Told)) (steps : List (List Step)) (replies : List (List Reply)) (after : List (List Operation)) (left : CrashState) (d : Disk)
    → AreLivesTold lives told steps replies → KeepsLives log_sectors before opened steps replies after left → Leaves (StandFor log_sectors left) d → KeepsBatchesOn log_sectors before opened (acts_asked lives) (replies_told told) d
lives_kept log_sectors before opened [] [] [] [] after left d is (same, as_left, kept) holds =
    (subst (λ (bs : List (List Operation)). IsAfter bs opened) same (subst (IsAfter after) as_left kept), subst (λ (o : CrashState). Leaves (StandFor log_sectors o) d) as_left holds)
lives_kept log_sectors before opened (asked ∷ lives) (told ∷ rest) (steps ∷ each) (replies ∷ all) after left d is (kept, mid, life, more) holds =
    (kept, mid, life_told log_sectors before opened kept mid asked told steps replies is.0 life, lives_kept log_sectors kept mid lives rest each all after left d is.1 more holds)
lives_kept log_sectors before opened lives told steps replies after left d is kept holds = absurd is

pub kept_on : (log_sectors : ℕ) (before : List (List Operation)) (opened : CrashState) (lives : List (List Asked)) (answers : List (List Told)) (d : Disk)
    → KeepPromise log_sectors before opened lives answers d → KeepsBatchesOn log_sectors before opened (acts_asked lives) (replies_told answers) d
kept_on log_sectors before opened lives answers d kept = lives_kept log_sectors before opened lives answers kept.steps kept.replies kept.batches kept.left d kept.told kept.keeps kept.device

-- whatever the device holds
off_device : (log_sectors : ℕ) (before : List (List Operation)) (opened : CrashState) (lives : List (List Act)) (told : List (List Reply)) (d : Disk)
    → KeepsBatchesOn log_sectors before opened lives told d → KeepsBatches log_sectors before opened lives told
off_device log_sectors before opened [] [] d kept = kept.0
off_device log_sectors before opened (acts ∷ lives) (told ∷ rest) d (after, left, life, more) = (after, left, life, off_device log_sectors after left lives rest d more)
off_device log_sectors before opened [] (told ∷ rest) d kept = absurd kept
off_device log_sectors before opened (acts ∷ lives) [] d kept = absurd kept

pub kept_batches : (log_sectors : ℕ) (before : List (List Operation)) (opened : CrashState) (lives : List (List Asked)) (answers : List (List Told)) (d : Disk)
    → KeepPromise log_sectors before opened lives answers d → KeepsBatches log_sectors before opened (acts_asked lives) (replies_told answers)
kept_batches log_sectors before opened lives answers d kept = off_device log_sectors before opened (acts_asked lives) (replies_told answers) d (kept_on log_sectors before opened lives answers d kept)

-- ---- values

act_of_value : {A : Type 0} (step : GivenStep A) → act_asked (asked_of step) ≡ act_of step
act_of_value (step.Call call) = refl
act_of_value (step.Work work.Take) = refl
act_of_value (step.Work (work.TakeOf choice)) = refl
act_of_value (step.Work (work.Read job)) = refl
act_of_value (step.Work (work.Build job parts)) = refl
act_of_value (step.Work (work.Accept job result)) = refl
act_of_value (step.Work (work.Write job)) = refl
act_of_value (step.Work (work.Install job)) = refl
act_of_value (step.Work (work.Drop job)) = refl

reply_of_value : {A : Type 0} (reply : GivenReply A) → reply_told (told_of reply) ≡ reply_of reply
reply_of_value (reply.Number n) = refl
reply_of_value reply.Done = refl
reply_of_value (reply.Value value) = refl
reply_of_value (reply.Page page) = refl
reply_of_value (reply.Taken job) = refl
reply_of_value (reply.Built result tables) = refl
reply_of_value (reply.Refused e) = refl

acts_of_values : {A : Type 0} (steps : List (GivenStep A)) → map act_asked (map asked_of steps) ≡ map act_of steps
acts_of_values [] = refl
acts_of_values (step ∷ steps) = ap (λ (a : Act). a ∷ map act_asked (map asked_of steps)) (act_of_value step) ∙ ap (λ (l : List Act). act_of step ∷ l) (acts_of_values steps)

replies_of_values : {A : Type 0} (replies : List (GivenReply A)) → map reply_told (map told_of replies) ≡ map reply_of replies
replies_of_values [] = refl
replies_of_values (reply ∷ replies) = ap (λ (r : Reply). r ∷ map reply_told (map told_of replies)) (reply_of_value reply) ∙ ap (λ (l : List Reply). reply_of reply ∷ l) (replies_of_values replies)

acts_of_lives : {A : Type 0} (lives : List (GivenLife A)) → acts_asked (asked_by lives) ≡ acts_by lives
acts_of_lives [] = refl
acts_of_lives (life ∷ lives) = ap (λ (l : List Act). l ∷ acts_asked (asked_by lives)) (acts_of_values life.steps.items) ∙ ap (λ (l : List (List Act)). map act_of life.steps.items ∷ l) (acts_of_lives lives)

replies_of_lives : {A : Type 0} (answers : List (Vec (GivenReply A) A)) → replies_told (told_by answers) ≡ replies_by answers
replies_of_lives [] = refl
replies_of_lives (replies ∷ answers) = ap (λ (l : List Reply). l ∷ replies_told (told_by answers)) (replies_of_values replies.items) ∙ ap (λ (l : List (List Reply)). map reply_of replies.items ∷ l) (replies_of_lives answers)

-- lives that were led keep the batches
pub lives_keep_on : {A : Type 0} (log_sectors : ℕ) (before : List (List Operation)) (opened : CrashState) (lives : List (GivenLife A)) (answers : List (Vec (GivenReply A) A)) (d : Disk)
    → KeepPromise log_sectors before opened (asked_by lives) (told_by answers) d → KeepsBatchesOn log_sectors before opened (acts_by lives) (replies_by answers) d
lives_keep_on {A} log_sectors before opened lives answers d kept =
    subst (λ (acts : List (List Act)). KeepsBatchesOn log_sectors before opened acts (replies_by answers) d) (acts_of_lives lives)
    (subst (λ (told : List (List Reply)). KeepsBatchesOn log_sectors before opened (acts_asked (asked_by lives)) told d) (replies_of_lives answers)
    (kept_on log_sectors before opened (asked_by lives) (told_by answers) d kept))

pub lives_keep_batches : {A : Type 0} (log_sectors : ℕ) (before : List (List Operation)) (opened : CrashState) (lives : List (GivenLife A)) (answers : List (Vec (GivenReply A) A)) (d : Disk)
    → KeepPromise log_sectors before opened (asked_by lives) (told_by answers) d → KeepsBatches log_sectors before opened (acts_by lives) (replies_by answers)
lives_keep_batches log_sectors before opened lives answers d kept = off_device log_sectors before opened (acts_by lives) (replies_by answers) d (lives_keep_on log_sectors before opened lives answers d kept)
