-- Each piece of work keeps it that just the extents of the tables in levels and of placed outputs are handed out.
use Rattle.std.proofs.Common.{◌≡◌, ℕ, zero, suc, ◌+◌, ◌-◌, ◌≤◌, Bool, true, false, cond, List, [], ◌∷◌, ◌++◌, length, filter, Option, Some, None, is_none, refl, sym, ap, ◌∙◌, subst, arith}
use Rattle.std.specs.Prelude.{◌==◌}
use Rattle.std.proofs.lemmas.Bool.{not-false, false≢true}
use Rattle.lsm_device.specs.declared.refusal.Refusal.{Refusal}
use Rattle.lsm_extent.specs.declared.extent.Extent.{Extent}
use Rattle.lsm_extent.specs.Area.{Area, IsPartition}
use Rattle.lsm_merge.specs.Results.{MergeResult}
use Rattle.lsm_levels.specs.Held.{AreRuns, IsHeld}
use Rattle.lsm_levels.specs.Levels.{Levels, all_tables, places}
use Rattle.lsm_levels.specs.Pick.{Job, Flush, Merge, inputs, installed_levels}
use Rattle.lsm_levels.specs.Tables.{Table}
use Rattle.lsm_levels.proofs.Moving.{moving_law}
use Rattle.lsm_jobs.specs.Keeping.{AreKept}
use Rattle.lsm_jobs.specs.Outputs.{placed_blocks}
use Rattle.lsm_jobs.specs.Placing.{extent_of, all_handed_out, all_given_back, AreHandedOut}
use Rattle.lsm_jobs.specs.Reading.{stage_with}
use Rattle.lsm_jobs.specs.Slots.{Stage, Reading, Frozen, Writing, Slot, Slots, slot_of, with_slot, with_held, is_reading, is_frozen, is_not_at, left_at, less_left, outputs_at, outputs_of, inputs_of}
use Rattle.lsm_jobs.specs.Taking.{first_stage, slot_for, with_taken}
use Rattle.lsm_jobs.proofs.Found.{found_there}
use Rattle.lsm_machine.specs.Accounts.{is_same_extent, extents_like, tables_like, outputs_in, tables_placed, AreAccounted, AccountsLaw}
use Rattle.lsm_machine.specs.Calls.{Call, Commit, CommitIf, Sync, SyncTo, Get, Scan, Snapshot, Release, Rotate, LogRoom}
use Rattle.lsm_machine.specs.Refusals.{first_refusal}
use Rattle.lsm_machine.specs.Work.{WorkView, Work, Take, Read, Ask, Accept, Write, Install, Drop, cuts_of}
use Rattle.lsm_machine.specs.WorkEffects.{with_slot_of, staged, with_placed, with_installed, without_job, work_after, work_called}
use Rattle.lsm_machine.specs.WorkRefusals.{job_given, held, of_slot, placing, work_refusals, running_refusal}
use Rattle.lsm_machine.specs.Machine.{Machine}
use Rattle.lsm_machine.proofs.ExtentCounts.{count_append, all_out_like, BeginApart, StandAmong, all_back_like, stand_out, partition_apart, placed_in}
use Rattle.lsm_machine.proofs.Unrefused.{none_taken}

no_slot : (slot : Slot) → None ≡ Some slot → ⊥
no_slot slot e = cc

some_slot : (a b : Slot) → Some a ≡ Some b → a ≡ b
some_slot a b e = cc

-- ---- the outputs in slots

joined : (e : Extent) (xs ys : List Table) → tables_like e (xs ++ ys) ≡ tables_like e xs + tables_like e ys
joined e xs ys = count_append (λ (t : Table). is_same_extent e (extent_of t)) xs ys

pub taken_outputs : (new : Slot) (slots : Slots) → outputs_at new.stage ≡ [] → outputs_in (with_slot new slots) ≡ outputs_in slots
taken_outputs new [] none = refl
taken_outputs new (None ∷ rest) none = ap (λ (ts : List Table). ts ++ outputs_in rest) none
taken_outputs new (Some one ∷ rest) none = ap (λ (ts : List Table). outputs_at one.stage ++ ts) (taken_outputs new rest none)

-- where no slot has a number, the slots stay
pub unheld : (number : ℕ) (now : Option Slot) (slots : Slots) → slot_of number slots ≡ None → with_held number now slots ≡ slots
unheld number now [] none = refl
unheld number now (None ∷ rest) none = ap (λ (l : Slots). None ∷ l) (unheld number now rest none)
unheld number now (Some one ∷ rest) none = by (unheld number now rest) (one.number == number) none
  where
    by : (slot_of number rest ≡ None → with_held number now rest ≡ rest) → (b : Bool) → cond b (Some one) (slot_of number rest) ≡ None → cond b (now ∷ rest) (Some one ∷ with_held number now rest) ≡ Some one ∷ rest
    by more true f = absurd (no_slot one (sym f))
    by more false f = ap (λ (l : Slots). Some one ∷ l) (more f)

-- The outputs of one job are gone, and those of what comes in its place are there, counted by any test.
module _ (p : Table → Bool) where
  abbrev counted : List Table → ℕ
  counted tables = length (filter p tables)

  pub held_counted : (number : ℕ) (now : Option Slot) (slots : Slots) (old : Slot) → slot_of number slots ≡ Some old
      → length (filter p (outputs_in (with_held number now slots))) + length (filter p (outputs_at old.stage)) ≡ length (filter p (outputs_in slots)) + length (filter p (outputs_of now))
  held_counted number now [] old is = absurd (no_slot old is)
  held_counted number now (None ∷ rest) old is = held_counted number now rest old is
  held_counted number now (Some one ∷ rest) old is = by (held_counted number now rest old) (one.number == number) is
    where
      by : (slot_of number rest ≡ Some old → counted (outputs_in (with_held number now rest)) + counted (outputs_at old.stage) ≡ counted (outputs_in rest) + counted (outputs_of now))
          → (b : Bool) → cond b (Some one) (slot_of number rest) ≡ Some old → counted (outputs_in (cond b (now ∷ rest) (Some one ∷ with_held number now rest))) + counted (outputs_at old.stage)
          ≡ counted (outputs_at one.stage ++ outputs_in rest) + counted (outputs_of now)
      by more true f = omega (arith, count_append p (outputs_of now) (outputs_in rest), count_append p (outputs_at one.stage) (outputs_in rest), ap (λ (s : Slot). counted (outputs_at s.stage)) (some_slot one old f))
      by more false f = omega (arith, count_append p (outputs_at one.stage) (outputs_in (with_held number now rest)), count_append p (outputs_at one.stage) (outputs_in rest), more f)

-- so it is of those at an extent
held_outputs : (e : Extent) (number : ℕ) (now : Option Slot) (slots : Slots) (old : Slot) → slot_of number slots ≡ Some old
    → tables_like e (outputs_in (with_held number now slots)) + tables_like e (outputs_at old.stage) ≡ tables_like e (outputs_in slots) + tables_like e (outputs_of now)
held_outputs e number now slots old is = held_counted (λ (t : Table). is_same_extent e (extent_of t)) number now slots old is

-- those of one job are among them
one_outputs : (e : Extent) (number : ℕ) (slots : Slots) → tables_like e (outputs_of (slot_of number slots)) ≤ tables_like e (outputs_in slots)
one_outputs e number [] = omega arith
one_outputs e number (None ∷ rest) = one_outputs e number rest
one_outputs e number (Some one ∷ rest) = by (one_outputs e number rest) (one.number == number)
  where
    by : tables_like e (outputs_of (slot_of number rest)) ≤ tables_like e (outputs_in rest) → (b : Bool) → tables_like e (outputs_of (cond b (Some one) (slot_of number rest))) ≤ tables_like e (outputs_at one.stage ++ outputs_in rest)
    by more true = omega (arith, joined e (outputs_at one.stage) (outputs_in rest))
    by more false = omega (arith, joined e (outputs_at one.stage) (outputs_in rest), more)

-- ---- stages

pub read_none : (n : ℕ) → outputs_at (stage_with n) ≡ []
read_none zero = refl
read_none (suc n) = refl

pub first_none : (job : Job) → outputs_at (first_stage job) ≡ []
first_none Flush = refl
first_none (Merge i upper lower) = refl

pub same_outputs : (n : ℕ) (stage : Stage) → outputs_at (less_left n stage) ≡ outputs_at stage
same_outputs n (Reading left) = refl
same_outputs n Frozen = refl
same_outputs n (Writing tables left) = refl

pub reading_none : (stage : Stage) → is_reading stage ≡ true → outputs_at stage ≡ []
reading_none (Reading left) is = refl
reading_none Frozen is = refl
reading_none (Writing tables left) is = absurd (false≢true is)

frozen_none : (stage : Stage) → is_frozen stage ≡ true → outputs_at stage ≡ []
frozen_none (Reading left) is = refl
frozen_none Frozen is = refl
frozen_none (Writing tables left) is = absurd (false≢true is)

-- ---- a job's slot is another, and the area goes with it

module _ (w : WorkView) (accounts : AreAccounted w) where
  split : (e : Extent) → extents_like e w.area.held ≡ tables_like e (all_tables (places w.levels)) + tables_like e (outputs_in w.jobs.slots)
  split e = accounts.each e ∙ joined e (all_tables (places w.levels)) (outputs_in w.jobs.slots)

  -- the area has more or less just by the tables that are more or less
  abbrev Moves : Extent → Levels → Area → Slot → Option Slot → Type 0
  Moves e levels area old now = extents_like e area.held + (tables_like e (all_tables (places w.levels)) + tables_like e (outputs_at old.stage)) ≡ extents_like e w.area.held + (tables_like e (all_tables (places levels)) + tables_like e (outputs_of now))

  moved : (job : ℕ) (old : Slot) (now : Option Slot) (levels : Levels) (area : Area) → slot_of job w.jobs.slots ≡ Some old → ((e : Extent) → Moves e levels area old now)
      → (e : Extent) → extents_like e area.held ≡ tables_like e (all_tables (places levels) ++ outputs_in (with_held job now w.jobs.slots))
  moved job old now levels area is all e =
      omega (arith, split e, all e, held_outputs e job now w.jobs.slots old is, joined e (all_tables (places levels)) (outputs_in (with_held job now w.jobs.slots)))

  -- a slot that has the same outputs comes in its place
  pub held_accounts : (job : ℕ) (old now : Slot) → slot_of job w.jobs.slots ≡ Some old → outputs_at now.stage ≡ outputs_at old.stage → AreAccounted (with_slot_of w job (Some now))
  held_accounts job old now is same = record {
    each = moved job old (Some now) w.levels w.area is (λ e. omega (arith, ap (tables_like e) same));
  }

  staged_accounts : (job : ℕ) (old : Slot) (stage : Stage) → slot_of job w.jobs.slots ≡ Some old → outputs_at stage ≡ outputs_at old.stage → AreAccounted (staged w job stage old)
  staged_accounts job old stage is same = held_accounts job old (record old { stage = stage }) is same

  pub placed_accounts : (job : ℕ) (old : Slot) (o : Option (List Table)) → slot_of job w.jobs.slots ≡ Some old → outputs_at old.stage ≡ [] → AreAccounted (with_placed w job o old)
  placed_accounts job old None is none = accounts
  placed_accounts job old (Some tables) is none = record {
    each = moved job old (Some (record old { stage = Writing tables (length (placed_blocks tables)) })) w.levels (all_handed_out tables w.area) is (λ e. omega (arith, all_out_like e tables w.area, ap (tables_like e) none));
  }

  module _ (whole : IsPartition w.area) where
    apart : BeginApart w.area.held
    apart = partition_apart w.area whole

    outputs_stand : (job : ℕ) → StandAmong (outputs_of (slot_of job w.jobs.slots)) w.area.held
    outputs_stand job = λ e. omega (arith, split e, one_outputs e job w.jobs.slots)

    pub outputs_out : (job : ℕ) → AreHandedOut (outputs_of (slot_of job w.jobs.slots)) w.area
    outputs_out job = stand_out (outputs_of (slot_of job w.jobs.slots)) w.area apart (outputs_stand job)

    pub dropped_accounts : (job : ℕ) (old : Slot) → slot_of job w.jobs.slots ≡ Some old → AreAccounted (without_job w job (Some old))
    dropped_accounts job old is = record {
      each = moved job old None w.levels (all_given_back (outputs_at old.stage) w.area) is
          (λ e. omega (arith, (all_back_like (outputs_at old.stage) w.area apart (subst (λ (o : Option Slot). StandAmong (outputs_of o) w.area.held) is (outputs_stand job))).0 e));
    }

    module _ (runs : AreRuns w.levels) (job : Job) (bottom : Bool) (has : IsHeld w.levels bottom job) where
      test : Extent → Table → Bool
      test e t = is_same_extent e (extent_of t)

      inputs_stand : StandAmong (inputs job) w.area.held
      inputs_stand e = let none = (moving_law w.levels bottom job [] runs has).passed (λ (t : Table). is_same_extent e (extent_of t)) in omega (arith, none, split e)

      pub inputs_out : AreHandedOut (inputs job) w.area
      inputs_out = stand_out (inputs job) w.area apart inputs_stand

      left_by : (new : List Table) (e : Extent) → extents_like e (all_given_back (inputs job) w.area).held + (tables_like e (all_tables (places w.levels)) + tables_like e new) ≡ extents_like e w.area.held + (tables_like e (all_tables (places (installed_levels w.levels job new))) + 0)
      left_by new e =
          omega (arith, (all_back_like (inputs job) w.area apart inputs_stand).0 e, (moving_law w.levels bottom job new runs has).passed (λ (t : Table). is_same_extent e (extent_of t)))

    pub installed_accounts : AreRuns w.levels → (number : ℕ) (old : Slot) → slot_of number w.jobs.slots ≡ Some old → IsHeld w.levels old.input.bottom old.job → AreAccounted (with_installed w number old)
    installed_accounts runs number old is has = record {
      each = moved number old None (installed_levels w.levels old.job (outputs_at old.stage)) (all_given_back (inputs old.job) w.area) is (left_by runs old.job old.input.bottom has (outputs_at old.stage));
    }

pub accounts_law : AccountsLaw
accounts_law = record {
  placed = λ w accounts whole. placed_in w.area whole (tables_placed w) accounts.each;
  outputs = λ w job accounts whole. outputs_out w accounts whole job;
  inputs = λ w job accounts whole runs kept. by w job accounts whole runs kept (slot_of job w.jobs.slots) refl;
}
  where
    by : (w : WorkView) (job : ℕ) → AreAccounted w → IsPartition w.area → AreRuns w.levels → AreKept w.levels w.jobs.next w.jobs.slots → (o : Option Slot) → slot_of job w.jobs.slots ≡ o → AreHandedOut (inputs_of o) w.area
    by w job accounts whole runs kept None is = tt
    by w job accounts whole runs kept (Some slot) is = inputs_out w accounts whole runs slot.job slot.input.bottom (kept.held slot (found_there job w.jobs.slots slot is))

-- ---- what is not refused

abbrev pub first_of : List (Bool × Refusal) → Bool
first_of [] = false
first_of (test ∷ rest) = test.0

-- the tests after the first n
abbrev pub tests_behind : ℕ → List (Bool × Refusal) → List (Bool × Refusal)
tests_behind zero tests = tests
tests_behind (suc n) [] = []
tests_behind (suc n) (test ∷ rest) = tests_behind n rest

pub first_not : (tests : List (Bool × Refusal)) → first_refusal tests ≡ None → first_of tests ≡ false
first_not [] none = refl
first_not (test ∷ rest) none = (none_taken test.0 test.1 (first_refusal rest) none).0

pub behind_not : (n : ℕ) (tests : List (Bool × Refusal)) → first_refusal tests ≡ None → first_refusal (tests_behind n tests) ≡ None
behind_not zero tests none = none
behind_not (suc n) [] none = none
behind_not (suc n) (test ∷ rest) none = behind_not n rest (none_taken test.0 test.1 (first_refusal rest) none).1

-- ---- each piece of work

module _ (m : Machine) (accounts : AreAccounted m.work) where
  taken_accounts : (o : Option Job) → AreAccounted (record m.work { jobs = with_taken m.work.sealed (cuts_of m.state) m.work.levels o m.work.jobs })
  taken_accounts None = record { each = accounts.each }
  taken_accounts (Some job) = record {
    each = λ e. accounts.each e ∙ ap (λ (ts : List Table). tables_like e (all_tables (places m.work.levels) ++ ts))
        (sym (taken_outputs (slot_for m.work.jobs.next m.work.sealed (cuts_of m.state) m.work.levels job) m.work.jobs.slots (first_none job)));
  }

  -- a job that nothing refuses is at the stage that is asked for
  at_stage : (test : Stage → Bool) (slot : Slot) (o : Option Slot) → is_not_at test o ≡ false → o ≡ Some slot → test slot.stage ≡ true
  at_stage test slot o not is = not-false (test slot.stage) (sym (ap (is_not_at test) is) ∙ not)

  read_accounts : (job : ℕ) → running_refusal m (Read job) ≡ None → AreAccounted (work_after m (Read job))
  read_accounts job none = by (held m job) refl
    where
      not_at : is_not_at is_reading (held m job) ≡ false
      not_at = first_not (tests_behind 1 (work_refusals m (Read job))) (behind_not 1 (work_refusals m (Read job)) none)

      by : (o : Option Slot) → held m job ≡ o → AreAccounted (of_slot m.work (λ slot. staged m.work job (stage_with (left_at slot.stage - 8)) slot) o)
      by None is = accounts
      by (Some slot) is = staged_accounts m.work accounts job slot (stage_with (left_at slot.stage - 8)) is (read_none (left_at slot.stage - 8) ∙ sym (reading_none slot.stage (at_stage is_reading slot (held m job) not_at is)))

  write_accounts : (job : ℕ) → AreAccounted (work_after m (Write job))
  write_accounts job = by (held m job) refl
    where
      by : (o : Option Slot) → held m job ≡ o → AreAccounted (of_slot m.work (λ slot. staged m.work job (less_left 8 slot.stage) slot) o)
      by None is = accounts
      by (Some slot) is = staged_accounts m.work accounts job slot (less_left 8 slot.stage) is (same_outputs 8 slot.stage)

  accept_accounts : (job : ℕ) (result : Option MergeResult) → running_refusal m (Accept job result) ≡ None → AreAccounted (work_after m (Accept job result))
  accept_accounts job result none = by (held m job) refl
    where
      not_at : is_not_at is_frozen (held m job) ≡ false
      not_at = first_not (tests_behind 1 (work_refusals m (Accept job result))) (behind_not 1 (work_refusals m (Accept job result)) none)

      by : (o : Option Slot) → held m job ≡ o → AreAccounted (of_slot m.work (with_placed m.work job (placing m.work result)) o)
      by None is = accounts
      by (Some slot) is = placed_accounts m.work accounts job slot (placing m.work result) is (frozen_none slot.stage (at_stage is_frozen slot (held m job) not_at is))

  module _ (whole : IsPartition m.work.area) where
    install_accounts : AreRuns m.work.levels → AreKept m.work.levels m.work.jobs.next m.work.jobs.slots → (job : ℕ) → AreAccounted (work_after m (Install job))
    install_accounts runs kept job = by (held m job) refl
      where
        by : (o : Option Slot) → held m job ≡ o → AreAccounted (of_slot m.work (with_installed m.work job) o)
        by None is = accounts
        by (Some slot) is = installed_accounts m.work accounts whole runs job slot is (kept.held slot (found_there job m.work.jobs.slots slot is))

    drop_accounts : (job : ℕ) → running_refusal m (Drop job) ≡ None → AreAccounted (work_after m (Drop job))
    drop_accounts job none = by (held m job) refl
      where
        there : is_none (held m job) ≡ false
        there = first_not (work_refusals m (Drop job)) none

        by : (o : Option Slot) → held m job ≡ o → AreAccounted (without_job m.work job o)
        by None is = absurd (false≢true (sym there ∙ ap (λ (o : Option Slot). is_none o) is))
        by (Some slot) is = dropped_accounts m.work accounts whole job slot is

pub worked_accounts : (m : Machine) (work : Work) → AreAccounted m.work → IsPartition m.work.area → AreRuns m.work.levels → AreKept m.work.levels m.work.jobs.next m.work.jobs.slots → running_refusal m work ≡ None → AreAccounted (work_after m work)
worked_accounts m (Take asked) accounts whole runs kept none = taken_accounts m accounts (job_given m asked)
worked_accounts m (Read job) accounts whole runs kept none = read_accounts m accounts job none
worked_accounts m (Ask job) accounts whole runs kept none = accounts
worked_accounts m (Accept job result) accounts whole runs kept none = accept_accounts m accounts job result none
worked_accounts m (Write job) accounts whole runs kept none = write_accounts m accounts job
worked_accounts m (Install job) accounts whole runs kept none = install_accounts m accounts whole runs kept job
worked_accounts m (Drop job) accounts whole runs kept none = drop_accounts m accounts whole job none

pub called_accounts : (m : Machine) (call : Call) → AreAccounted m.work → AreAccounted (work_called m call)
called_accounts m (Commit batch) accounts = record { each = accounts.each }
called_accounts m (CommitIf guards batch) accounts = record { each = accounts.each }
called_accounts m Sync accounts = accounts
called_accounts m (SyncTo number) accounts = accounts
called_accounts m (Get at key) accounts = accounts
called_accounts m (Scan at from to limit) accounts = accounts
called_accounts m Snapshot accounts = accounts
called_accounts m (Release number) accounts = accounts
called_accounts m Rotate accounts = record { each = accounts.each }
called_accounts m LogRoom accounts = accounts
