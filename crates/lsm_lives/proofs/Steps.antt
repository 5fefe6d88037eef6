-- Steps one after another.
use Rattle.std.proofs.Common.{◌≡◌, ◌<◌, ℕ, ◌+◌, Bool, true, false, Option, Some, None, is_some, List, [], ◌∷◌, ◌++◌, length, map, get_or, drop, refl, ap, sym, subst, ◌∙◌}
use Rattle.std.specs.Prelude.{Contains, IsNone, IsSome}
use Rattle.std.proofs.lemmas.List.{drop_more, map_push}
use Rattle.std.proofs.lemmas.List.Elements.{Contains-append_left, Contains-append_right}
use Rattle.lsm_device.specs.Disk.{Disk, image}
use Rattle.lsm_device.specs.Calls.{faults_after}
use Rattle.lsm_device.specs.History.{EachSince}
use Rattle.lsm_device.specs.Medium.{disk}
use Rattle.lsm_device.specs.Outcomes.{Leaves}
use Rattle.lsm_device.proofs.Moments.{started, joined, weaker, ended}
use Rattle.lsm_root.specs.CrashState.{CrashState}
use Rattle.lsm_open.specs.Recovering.{StandForOne}
use Rattle.lsm_open.proofs.OneMeaning.{one_meaning}
use Rattle.lsm_store.specs.Backing.{StoreView, IsBacked, machine_of}
use Rattle.lsm_machine.specs.Calls.{Reply}
use Rattle.lsm_machine.specs.Crash.{may_leave}
use Rattle.lsm_machine.specs.Machine.{Machine, Step, Called, Worked}
use Rattle.lsm_machine.specs.Run.{AdmitsStep, AllowsStep, next_machine, left_in_step, GoesTo, Run, last_machine, left_in_run}
use Rattle.lsm_store.specs.Serving.{is_faultless}
use Rattle.lsm_machine.specs.State.{State}
use Rattle.lsm_store.specs.Working.{ServesStep}
use Rattle.lsm_store.proofs.ServedSteps.{served_goes, served_work}
use Rattle.lsm_machine.proofs.Steps.{left_now, stopped_run, stopped_last, stopped_left}
use Rattle.lsm_merge.specs.Results.{MergeResult}
use Rattle.lsm_lives.specs.Asked.{Asked, Told, step_in}
use Rattle.lsm_lives.specs.Calls.{asked_of, told_of}
use Rattle.lsm_lives.specs.declared.calls.Step.{Step as GivenStep}
use Rattle.lsm_lives.specs.declared.calls.Reply.{Reply as GivenReply}
use Rattle.lsm_lives.specs.Replaying.{MakesEach, AreReplayed, Replays, GoOn, faults_told}

-- sectors are an image in one format alone
same_format : (a b : ℕ) (xs ys : List CrashState) (sectors : List (List ℕ)) → StandForOne a xs sectors → StandForOne b ys sectors → a ≡ b
same_format a b xs ys sectors (left, in_xs, p) (other, in_ys, q) = (one_meaning a b left other sectors p q).0

-- so it is of a disk of which each crash leaves some of one format, and some of another
pub one_format : (a b : ℕ) (xs ys : List CrashState) (d : Disk) → Leaves (StandForOne a xs) d → Leaves (StandForOne b ys) d → a ≡ b
one_format a b xs ys d p q = same_format a b xs ys (image [] d) (p []) (q [])

-- where one of some is left, one of more is left
pub more_left : (n : ℕ) (xs ys : List CrashState) → ((left : CrashState) → Contains xs left → Contains ys left) → (d : Disk) → Leaves (StandForOne n xs) d → Leaves (StandForOne n ys) d
more_left n xs ys among d leaves = λ mask. let found = leaves mask in (found.0, among found.0 found.1, found.2)

-- ---- replies as values

-- a reply was added
pub reply_added : {A : Type 0} (done after : List (GivenReply A)) (reply : GivenReply A) → after ≡ done ++ reply ∷ [] → map told_of after ≡ map told_of done ++ told_of reply ∷ []
reply_added {A} done after reply is = ap (λ (all : List (GivenReply A)). map told_of all) is ∙ map_push told_of done reply

-- the first reply
pub reply_first : {A : Type 0} (done after : List (GivenReply A)) (reply : GivenReply A) → done ≡ [] → after ≡ done ++ reply ∷ [] → map told_of after ≡ told_of reply ∷ []
reply_first {A} done after reply none is = ap (λ (all : List (GivenReply A)). map told_of all) (is ∙ ap (λ (all : List (GivenReply A)). all ++ reply ∷ []) none)

-- the next step of a list
pub next_step : {A : Type 0} (steps : List (GivenStep A)) (i : ℕ) (step : GivenStep A) → i < length steps → step ≡ get_or steps i step → map asked_of (drop i steps) ≡ asked_of step ∷ map asked_of (drop (i + 1) steps)
next_step {A} steps i step within is =
    ap (λ (all : List (GivenStep A)). map asked_of all) (drop_more steps i step within ∙ ap (λ (c : GivenStep A). c ∷ drop (i + 1) steps) (sym is))

-- what was asked of a store and told are steps that it made, and its replies
pub replayed : (results : List MergeResult) (old : StoreView) (asked : List Asked) (told : List Told) (new : StoreView) → MakesEach results old asked told new → AreReplayed results old asked told new
replayed results old [] [] new same = record { steps = []; replies = []; told = (refl, refl); replays = same }
replayed results old (asked ∷ more) (told ∷ rest) new (after, mid, makes, each) =
    let behind = replayed after mid more rest new each in
    record {
      steps = step_in results asked ∷ behind.steps;
      replies = makes.reply ∷ behind.replies;
      told = (refl, (after, makes.told, behind.told));
      replays = (mid, makes.serves, behind.replays);
    }
replayed results old [] (told ∷ rest) new h = absurd h
replayed results old (asked ∷ more) [] new h = absurd h

-- ---- steps one after another

-- What one step comes to, as it is read here.
record StepsTo (old : StoreView) (step : Step) (reply : Reply) (new : StoreView) : Type 0 where
  course : AdmitsStep (machine_of old) step reply
  goes : GoesTo (machine_of old) step reply (machine_of new)
  run : IsBacked old → AllowsStep (machine_of old) step reply
  work : IsBacked old → IsNone new.state.stopped → new.work ≡ (next_machine (machine_of old) step reply).work
  faults : new.device.calls.faults ≡ faults_after (is_faultless reply) old.device.calls.faults
  same_size : new.device.size ≡ old.device.size
  same_lasting : new.device.lasting ≡ old.device.lasting
  crash : IsBacked old → EachSince (Leaves (StandForOne old.state.log_sectors (left_in_step (machine_of old) step))) old.device.history new.device.history
  backed : IsBacked old → IsBacked new

of_step : (old : StoreView) (step : Step) (reply : Reply) (new : StoreView) → ServesStep old step reply new → StepsTo old step reply new
of_step old (Called call) reply new serves = record {
  course = serves.admitted;
  goes = served_goes old (Called call) reply new serves;
  run = serves.allowed;
  work = served_work old (Called call) reply new serves;
  faults = serves.fault;
  same_size = serves.same_size;
  same_lasting = serves.same_lasting;
  crash = serves.crash;
  backed = serves.backed;
}
of_step old (Worked piece) reply new works = record {
  course = works.admitted;
  goes = served_goes old (Worked piece) reply new works;
  run = works.allowed;
  work = served_work old (Worked piece) reply new works;
  faults = works.fault;
  same_size = works.same_size;
  same_lasting = works.same_lasting;
  crash = works.crash;
  backed = works.backed;
}

-- no step
no_step : (s : StoreView) → GoOn s [] [] s
no_step s = record {
  course = refl;
  run = λ backed. tt;
  state = λ backed. refl;
  work = λ backed running. refl;
  faults = refl;
  same_size = refl;
  same_lasting = refl;
  crash = λ backed. started (Leaves (StandForOne s.state.log_sectors (may_leave s.state))) s.device.history backed.crashes;
  backed = λ backed. backed;
}

-- ---- machines that go on alike

-- What two machines have in common at steps: where the one gives replies, so does the other, and what may be left of the one may
-- be left of the other.
record GoAlike (m n : Machine) (steps : List Step) (replies : List Reply) : Type 0 where
  run : Run n steps replies
  state : (last_machine m steps replies).state ≡ (last_machine n steps replies).state
  work : IsNone (last_machine m steps replies).state.stopped → (last_machine m steps replies).work ≡ (last_machine n steps replies).work
  left : (left : CrashState) → Contains (left_in_run m steps replies) left → Contains (left_in_run n steps replies) left

pub not_some : {X : Type 0} (o : Option X) → IsSome o → IsNone o → ⊥
not_some (Some x) is none = cc
not_some None is none = cc

-- so are two in one state, with one work while it runs
alike : (m n : Machine) → m.state ≡ n.state → (IsNone m.state.stopped → m.work ≡ n.work) → (steps : List Step) (replies : List Reply) → Run m steps replies → GoAlike m n steps replies
alike m n same work steps replies run = by (is_some m.state.stopped) refl
  where
    by : (b : Bool) → is_some m.state.stopped ≡ b → GoAlike m n steps replies
    by false none =
        let is : m ≡ n = λ i. record { state = same i; work = work none i } in
        subst (λ (x : Machine). GoAlike m x steps replies) is (record { run = run; state = refl; work = λ running. refl; left = λ left found. found })
    by true some =
        let too = ap (λ (s : State). is_some s.stopped) (sym same) ∙ some in
        let here = stopped_run m n some too steps replies run in
        let last = stopped_last m some steps replies run in
        record {
          run = here;
          state = ap (λ (x : Machine). x.state) last ∙ same ∙ sym (ap (λ (x : Machine). x.state) (stopped_last n too steps replies here));
          work = λ running. absurd (not_some m.state.stopped some (ap (λ (x : Machine). is_some x.state.stopped) (sym last) ∙ running));
          left = λ left found. left_now left n steps replies (subst (λ (s : State). Contains (may_leave s) left) same (stopped_left left m some steps replies run found));
        }

-- one step, and others after it
module _ (old mid new : StoreView) (step : Step) (reply : Reply) (one : StepsTo old step reply mid) (steps : List Step) (replies : List Reply) (rest : GoOn mid steps replies new) where
  format : IsBacked old → mid.state.log_sectors ≡ old.state.log_sectors
  format backed = one_format mid.state.log_sectors old.state.log_sectors (may_leave mid.state) (left_in_step (machine_of old) step) (disk mid.device) (one.backed backed).crashes
      (ended (Leaves (StandForOne old.state.log_sectors (left_in_step (machine_of old) step))) old.device.history mid.device.history (one.crash backed))

  -- where the device backs the state, the machine that the reply gives goes on as the store does
  goes : IsBacked old → GoAlike (machine_of mid) (next_machine (machine_of old) step reply) steps replies
  goes backed = alike (machine_of mid) (next_machine (machine_of old) step reply) one.goes.state (one.work backed) steps replies (rest.run (one.backed backed))

  in_rest : IsBacked old → EachSince (Leaves (StandForOne old.state.log_sectors (left_in_run (next_machine (machine_of old) step reply) steps replies))) mid.device.history new.device.history
  in_rest backed =
      let n = old.state.log_sectors in
      let here = left_in_run (machine_of mid) steps replies in
      let there = left_in_run (next_machine (machine_of old) step reply) steps replies in
      weaker (Leaves (StandForOne n here)) (Leaves (StandForOne n there)) mid.device.history new.device.history (more_left n here there (goes backed).left)
      (subst (λ (k : ℕ). EachSince (Leaves (StandForOne k here)) mid.device.history new.device.history) (format backed) (rest.crash (one.backed backed)))

  step_first : GoOn old (step ∷ steps) (reply ∷ replies) new
  step_first = record {
    course = (one.course, machine_of mid, one.goes, rest.course);
    run = λ backed. (one.run backed, (goes backed).run);
    state = λ backed. rest.state (one.backed backed) ∙ (goes backed).state;
    work = λ backed running.
        let own = rest.work (one.backed backed) running in
        own ∙ (goes backed).work (subst (λ (s : State). IsNone s.stopped) (rest.state (one.backed backed)) running);
    faults = rest.faults ∙ ap (faults_told replies) one.faults;
    same_size = rest.same_size ∙ one.same_size;
    same_lasting = rest.same_lasting ∙ one.same_lasting;
    crash = λ backed.
        let n = old.state.log_sectors in
        let inside = left_in_step (machine_of old) step in
        let behind = left_in_run (next_machine (machine_of old) step reply) steps replies in
        let all = Leaves (StandForOne n (inside ++ behind)) in
        joined all old.device.history mid.device.history new.device.history
        (weaker (Leaves (StandForOne n inside)) all old.device.history mid.device.history (more_left n inside (inside ++ behind) (λ left found. Contains-append_left inside behind left found)) (one.crash backed))
        (weaker (Leaves (StandForOne n behind)) all mid.device.history new.device.history (more_left n behind (inside ++ behind) (λ left found. Contains-append_right inside behind left found)) (in_rest backed));
    backed = λ backed. rest.backed (one.backed backed);
  }

-- what steps one after another come to
pub go_on : (old : StoreView) (steps : List Step) (replies : List Reply) (new : StoreView) → Replays old steps replies new → GoOn old steps replies new
go_on old [] [] new same = subst (GoOn old [] []) (sym same) (no_step old)
go_on old (step ∷ steps) (reply ∷ replies) new (mid, serves, rest) = step_first old mid new step reply (of_step old step reply mid serves) steps replies (go_on mid steps replies new rest)
go_on old [] (reply ∷ replies) new h = absurd h
go_on old (step ∷ steps) [] new h = absurd h
