-- A life on a device that held what a crash left.
use Rattle.std.proofs.Common.{◌≡◌, ◌⊎◌, inl, inr, ℕ, Bool, List, [], ◌∷◌, ◌++◌, map, Option, None, Some, refl, ap, sym, subst, ◌∙◌}
use Rattle.std.proofs.Math.Nat.{add-zero}
use Rattle.std.proofs.lemmas.List.Elements.{Contains-append_left, Contains-append_right}
use Rattle.lsm_device.specs.declared.refusal.Refusal.{Refusal}
use Rattle.lsm_device.specs.Disk.{Disk, image, at_rest}
use Rattle.lsm_device.specs.History.{present}
use Rattle.lsm_device.specs.Medium.{Medium, disk}
use Rattle.lsm_device.specs.Outcomes.{Leaves}
use Rattle.lsm_device.proofs.Moments.{ended}
use Rattle.lsm_root.specs.CrashState.{CrashState, left_by_opening}
use Rattle.lsm_open.specs.Image.{StandFor}
use Rattle.lsm_open.specs.Recovering.{StandForOne, FailsToOpen, CrashesWhileOpening}
use Rattle.lsm_root.proofs.Openings.{same_again}
use Rattle.lsm_store.specs.Backing.{StoreView, machine_of}
use Rattle.lsm_machine.specs.Calls.{Reply}
use Rattle.lsm_machine.specs.Calls.{Number, Done, Value, Rows, Given, Handed, Refused, Unread}
use Rattle.lsm_machine.specs.Crash.{reopened, may_leave}
use Rattle.lsm_machine.specs.Lives.{all_stopped, IsAnswered, left_by_life}
use Rattle.lsm_machine.specs.Machine.{Machine, Step}
use Rattle.lsm_machine.specs.RecoveryPoints.{batch_count}
use Rattle.lsm_machine.specs.Run.{last_machine, left_in_run}
use Rattle.lsm_store.specs.Serving.{OpensTo, ReopensTo}
use Rattle.lsm_machine.specs.State.{State}
use Rattle.lsm_machine.specs.Work.{no_work}
use Rattle.lsm_store.proofs.OpenedMachines.{opened as store_opened}
use Rattle.lsm_lives.specs.Leading.{LifeView, IsLed, LeadsTo, with_fuse}
use Rattle.lsm_lives.specs.Asked.{Asked, Told, Own, Build, AcceptBuilt, Replied, Built, step_in, AreTold, told_stopped}
use Rattle.lsm_lives.specs.Living.{IsLifeTold, Holds, AfterCrash}
use Rattle.lsm_lives.specs.Replaying.{GoOn}
use Rattle.lsm_lives.proofs.Steps.{one_format, replayed, go_on}

-- a fuse is no change of the disk
disk-with_fuse : (fuse : Option ℕ) (m : Medium) → disk (with_fuse fuse m) ≡ disk m
disk-with_fuse None m = refl
disk-with_fuse (Some n) m = refl

-- So a life was answered, and each crash at its end leaves what it may.
record Ends (log_sectors : ℕ) (opened : CrashState) (others : List CrashState) (asked : List Asked) (answers : List Told) (d : Disk) : Type 0 where
  steps : List Step
  replies : List Reply
  told : IsLifeTold asked answers steps replies
  machine : Machine
  answered : IsAnswered log_sectors opened machine steps replies
  crashes : Leaves (StandForOne log_sectors (left_by_life opened others machine steps replies)) d

-- where the opening was refused no result was built, and each step is refused
stopped_told : (asked : List Asked) → AreTold [] asked (told_stopped asked) (map (step_in []) asked) (all_stopped (map (step_in []) asked))
stopped_told [] = (refl, refl)
stopped_told (Own step ∷ more) = (refl, ([], (refl, refl), stopped_told more))
stopped_told (Build job parts ∷ more) = (refl, ([], (refl, inl refl), stopped_told more))
stopped_told (AcceptBuilt job number ∷ more) = (refl, ([], (refl, refl), stopped_told more))

module _ (log_sectors : ℕ) (opened : CrashState) (others : List CrashState) where
  abbrev IsLeft : List (List ℕ) → Type 0
  IsLeft sectors = StandForOne log_sectors (others ++ left_by_opening opened) sectors

  -- what the device held may be left
  of_held : (sectors : List (List ℕ)) → StandFor log_sectors opened sectors ⊎ StandForOne log_sectors others sectors → IsLeft sectors
  of_held sectors (inl same) = (opened, Contains-append_right others (left_by_opening opened) opened (same_again opened), same)
  of_held sectors (inr (left, found, is)) = (left, Contains-append_left others (left_by_opening opened) left found, is)

  -- a device whose opening was refused
  refused : (before after : Medium) (refusal : Refusal) → Holds log_sectors opened others (disk before) → FailsToOpen before log_sectors opened refusal after → Leaves IsLeft (disk after)
  refused before after refusal holds fails = by fails.crash
    where
      untouched : Leaves IsLeft (disk before)
      untouched = λ mask. of_held (image mask (disk before)) (holds.crashes mask)

      by : (after.history ≡ before.history) ⊎ CrashesWhileOpening before log_sectors opened after → Leaves IsLeft (disk after)
      by (inl same) = subst (λ (h : List Disk). Leaves IsLeft (present h)) (sym same) untouched
      by (inr crashes) = λ mask.
          let found = ended (Leaves (StandForOne log_sectors (left_by_opening opened))) crashes.synced_history after.history crashes.crash mask in
          (found.0, Contains-append_right others (left_by_opening opened) found.0 found.1, found.2)

  -- at the end of a life whose opening answered this store
  module _ (before : Medium) (s new : StoreView) (opens : OpensTo before log_sectors opened s) (reopens : ReopensTo before s) (steps : List Step) (more : List Reply) (runs : GoOn s steps more new) where
    Left : ℕ → State → Type 0
    Left n t = Leaves (StandForOne n (may_leave t)) (disk new.device)

    same_sectors : new.state.log_sectors ≡ log_sectors
    same_sectors =
        one_format new.state.log_sectors s.state.log_sectors (may_leave new.state) (left_in_run (machine_of s) steps more) (disk new.device) (runs.backed opens.backed).crashes
        (ended (Leaves (StandForOne s.state.log_sectors (left_in_run (machine_of s) steps more))) s.device.history new.device.history (runs.crash opens.backed))
        ∙ ap (λ (t : State). t.log_sectors) opens.state

    left : Left log_sectors (last_machine (machine_of s) steps more).state
    unfolding Left
    left = subst (Left log_sectors) (runs.state opens.backed) (subst (λ (n : ℕ). Left n new.state) same_sectors (runs.backed opens.backed).crashes)

    ends_opened : (asked : List Asked) (answers : List Told) (n : ℕ) → n ≡ batch_count s.state.points → AreTold [] asked answers steps more → Ends log_sectors opened others asked (Replied (Number n) ∷ answers) (disk new.device)
    unfolding Left
    ends_opened asked answers n counted told = record {
      steps = steps;
      replies = Number n ∷ more;
      told = (refl, told);
      machine = machine_of s;
      answered = (opens.fair, counted ∙ ap (λ (t : State). batch_count t.points) opens.state ∙ add-zero opened.count, store_opened before log_sectors opened s opens reopens, runs.run opens.backed);
      crashes = left;
    }

  -- at the end of a life that was led
  at_end : (before : Medium) (asked : List Asked) (told : List Told) (after : Medium) → IsLed before asked told after → Holds log_sectors opened others (disk before) → Ends log_sectors opened others asked told (disk after)
  at_end before asked (Replied (Number n) ∷ more) after (s, begins, counted, end, makes, into) holds =
      let run = replayed [] s asked more end makes in
      subst (λ (m : Medium). Ends log_sectors opened others asked (Replied (Number n) ∷ more) (disk m)) (sym into)
      (ends_opened before s end (begins.opens log_sectors opened holds.reads) begins.reopens run.steps run.replies (go_on s run.steps run.replies end run.replays) asked more n counted run.told)
  at_end before asked (Replied (Refused e) ∷ more) after (refuses, stopped) holds =
      let fails = refuses.fails log_sectors opened holds.reads in
      let steps = map (step_in []) asked in
      record {
        steps = steps;
        replies = Refused e ∷ all_stopped steps;
        told = (refl, subst (λ (l : List Told). AreTold [] asked l steps (all_stopped steps)) (sym stopped) (stopped_told asked));
        machine = record { state = reopened log_sectors opened; work = no_work };
        answered = (fails.fair, refl);
        crashes = refused before after e holds fails;
      }
  at_end before asked (Replied Done ∷ more) after led holds = absurd led
  at_end before asked (Replied (Value v) ∷ more) after led holds = absurd led
  at_end before asked (Replied (Rows page) ∷ more) after led holds = absurd led
  at_end before asked (Replied (Given job) ∷ more) after led holds = absurd led
  at_end before asked (Replied (Handed input) ∷ more) after led holds = absurd led
  at_end before asked (Replied Unread ∷ more) after led holds = absurd led
  at_end before asked (Built number tables ∷ more) after led holds = absurd led
  at_end before asked [] after led holds = absurd led

  -- after the crash
  crash_ends : (asked : List Asked) (told : List Told) (mask : List Bool) (d : Disk) → Ends log_sectors opened others asked told d → AfterCrash log_sectors opened others asked told (at_rest (image mask d))
  crash_ends asked told mask d before =
      let found = before.crashes mask in
      record {
        steps = before.steps;
        replies = before.replies;
        told = before.told;
        left = found.0;
        life = record { machine = before.machine; answered = before.answered; crash = found.1 };
        holds = record { reads = found.2; crashes = λ keep. inl found.2 };
      }

  -- a whole life
  pub life_led : (life : LifeView) (before : Medium) (told : List Told) (after : Medium) → LeadsTo life before told after → Holds log_sectors opened others (disk before)
      → AfterCrash log_sectors opened others life.steps told (disk after)
  life_led life before told after leads holds =
      let starts = subst (λ (d : Disk). Holds log_sectors opened others d) (sym (disk-with_fuse life.fuse before)) holds in
      subst (λ (m : Medium). AfterCrash log_sectors opened others life.steps told (disk m)) (sym leads.crash)
      (crash_ends life.steps told life.mask (disk leads.end) (at_end (with_fuse life.fuse before) life.steps told leads.end leads.led starts))
