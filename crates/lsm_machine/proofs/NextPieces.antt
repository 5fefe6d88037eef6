-- What a store's slots wait for, and what comes next of them.
use Rattle.std.proofs.Common.{◌≡◌, ◌≢◌, ◌⊎◌, ⊎_elim, ℕ, ◌<◌, ◌≤◌, nat_le, ◌==◌, ◌||◌, Bool, true, false, cond, List, [], ◌∷◌, Option, Some, None, is_some, option_map, slice_index_or, refl, sym, ◌∙◌, ap, subst}
use Rattle.std.specs.Prelude.{IsNone}
use Rattle.std.proofs.lemmas.Bool.{le-leb, lt-leb}
use Rattle.lsm_device.specs.declared.refusal.Refusal.{Refusal}
use Rattle.lsm_device.specs.declared.refusal.Refusal.TheVariants.{NoMemory, Io, BadTable, TooManyRuns, TooManyTables}
use Rattle.lsm_jobs.specs.Slots.{Stage, Reading, Frozen, Writing, Slot}
use Rattle.lsm_jobs.specs.Turns.{piece_at as next_at, turn_of}
use Rattle.lsm_jobs.specs.declared.turns.JobTurn.{JobTurn}
use Rattle.lsm_jobs.specs.declared.turns.NextPiece.{NextPiece}
use Rattle.lsm_jobs.specs.declared.turns.NextPiece.TheVariants as next
use Rattle.lsm_machine.specs.Calls.{Reply, Refused}
use Rattle.lsm_machine.specs.Machine.{Machine}
use Rattle.lsm_machine.specs.Pieces.{work_of_piece, piece_of_job, piece_of_slot, piece_at, is_of_full_levels, is_put_off, unless_put_off, next_among}
use Rattle.lsm_machine.specs.Work.{Work, Read, Ask, Write, Install}
use Rattle.lsm_machine.specs.WorkRefusals.{work_refusal}
use Rattle.lsm_machine.specs.WorkReplies.{work_reply_by, WorkAdmits}
use Rattle.lsm_machine.specs.declared.piece.Piece.{Piece}

-- ---- what a slot waits for

-- what the job of a turn waits for
abbrev pub work_of_turn : ℕ → NextPiece → Work
work_of_turn job next.Read = Read job
work_of_turn job next.Build = Ask job
work_of_turn job next.Write = Write job
work_of_turn job next.Install = Install job

by_stage : (job : ℕ) (stage : Stage) → work_of_turn job (next_at stage) ≡ piece_of_job job stage
by_stage job (Reading left) = refl
by_stage job Frozen = refl
by_stage job (Writing tables left) = by (left == 0)
  where
    by : (b : Bool) → work_of_turn job (cond b next.Install next.Write) ≡ cond b (Install job) (Write job)
    by true = refl
    by false = refl

pub turn_told : (turn : JobTurn) (slot : Slot) → turn ≡ turn_of slot → work_of_turn turn.job turn.piece ≡ piece_of_job slot.number slot.stage
turn_told turn slot is = ap (λ (t : JobTurn). work_of_turn t.job t.piece) is ∙ by_stage slot.number slot.stage

some_same : (a b : JobTurn) → Some a ≡ Some b → a ≡ b
some_same a b is = cc

some_none : (a : JobTurn) → Some a ≡ None → ⊥
some_none a is = cc

-- a slot that is held
pub held_told : (m : Machine) (o : Option Slot) (turn : JobTurn) (piece : Piece) → Some turn ≡ option_map turn_of o
    → ((slot : Slot) → turn ≡ turn_of slot → work_of_piece piece ≡ piece_of_job slot.number slot.stage) → Some (work_of_piece piece) ≡ piece_of_slot m o
held_told m (Some slot) turn piece is told = ap (λ (w : Work). Some w) (told slot (some_same turn (turn_of slot) is))
held_told m None turn piece is told = absurd (some_none turn is)

-- a free one
pub free_told : (m : Machine) (o : Option Slot) (piece : Option Work) → None ≡ option_map turn_of o → piece ≡ piece_of_slot m None → piece ≡ piece_of_slot m o
free_told m (Some slot) piece is told = absurd (some_none (turn_of slot) (sym is))
free_told m None piece is told = told

module _ (m : Machine) (place : ℕ) where
  abbrev waits : Option Work
  waits = piece_of_slot m (slice_index_or m.work.jobs.slots place None)

  pub told_beyond : 4 ≤ place → None ≡ piece_at m place
  told_beyond beyond = by (is_some m.state.stopped) (nat_le 4 place) (le-leb 4 place beyond)
    where
      by : (stopped far : Bool) → far ≡ true → None ≡ cond (stopped || far) None waits
      by true far is = refl
      by false far is = sym (ap (λ (b : Bool). cond b None waits) is)

  pub told_stopped : is_some m.state.stopped ≡ true → None ≡ piece_at m place
  told_stopped is = sym (ap (λ (b : Bool). cond (b || nat_le 4 place) None waits) is)

  pub told_running : (told : Option Work) → told ≡ waits → is_some m.state.stopped ≡ false → place < 4 → told ≡ piece_at m place
  told_running told so is within =
      so ∙ sym (ap (λ (b : Bool). cond (b || nat_le 4 place) None waits) is ∙ ap (λ (b : Bool). cond b None waits) (lt-leb 4 place within))

-- ---- what comes next

module _ (m : Machine) where
  -- of no place nothing
  pub next_of_none : next_among m [] ≡ None
  next_of_none = refl

  module _ (place : ℕ) (rest : List ℕ) where
    -- past a slot that waits for nothing
    pub next_past_none : piece_at m place ≡ None → next_among m (place ∷ rest) ≡ next_among m rest
    next_past_none is = ap (λ (o : Option Work). unless_put_off m o (next_among m rest)) is

    module _ (work : Work) (is : piece_at m place ≡ Some work) where
      by_piece : next_among m (place ∷ rest) ≡ cond (is_put_off m work) (next_among m rest) (Some work)
      by_piece = ap (λ (o : Option Work). unless_put_off m o (next_among m rest)) is

      -- past one that waits for what is put off
      pub next_past_put_off : is_put_off m work ≡ true → next_among m (place ∷ rest) ≡ next_among m rest
      next_past_put_off off = by_piece ∙ ap (λ (b : Bool). cond b (next_among m rest) (Some work)) off

      -- and else what it waits for
      pub next_is_first : is_put_off m work ≡ false → next_among m (place ∷ rest) ≡ Some work
      next_is_first on = by_piece ∙ ap (λ (b : Bool). cond b (next_among m rest) (Some work)) on

-- ---- what the reply to an install tells

refused_same : (a b : Refusal) → Refused a ≡ Refused b → a ≡ b
refused_same a b is = cc

pub none_not_full : (o : Option Refusal) → IsNone o → is_of_full_levels o ≡ false
none_not_full None none = refl
none_not_full (Some e) none = absurd cc

module _ (m : Machine) (job : ℕ) where
  full_by : (e : Refusal) → is_of_full_levels (Some e) ≡ true → Refused e ≡ work_reply_by m (Install job) (work_refusal m (Install job)) → is_put_off m (Install job) ≡ true
  full_by e full = by (work_refusal m (Install job))
    where
      by : (o : Option Refusal) → Refused e ≡ work_reply_by m (Install job) o → is_of_full_levels o ≡ true
      by None is = absurd cc
      by (Some x) is = ap (λ (r : Refusal). is_of_full_levels (Some r)) (sym (refused_same e x is)) ∙ full

  -- one that tells that the levels are full is given only where the install is put off
  pub put_off_by_reply : (reply : Reply) → WorkAdmits m (Install job) reply → (reply ≡ Refused TooManyRuns) ⊎ (reply ≡ Refused TooManyTables) → is_put_off m (Install job) ≡ true
  put_off_by_reply reply may full = ⊎_elim
      (λ runs. full_by TooManyRuns refl (subst (WorkAdmits m (Install job)) runs may))
      (λ tables. full_by TooManyTables refl (subst (WorkAdmits m (Install job)) tables may))
      full

  not_full_by : (reply : Reply) → reply ≢ Refused TooManyRuns → reply ≢ Refused TooManyTables → (o : Option Refusal) → reply ≡ work_reply_by m (Install job) o → is_of_full_levels o ≡ false
  not_full_by reply runs tables None is = refl
  not_full_by reply runs tables (Some TooManyRuns) is = absurd (runs is)
  not_full_by reply runs tables (Some TooManyTables) is = absurd (tables is)
  not_full_by reply runs tables (Some e) is = refl

  -- and each other one only where it is not
  pub not_put_off_by_reply : (reply : Reply) → WorkAdmits m (Install job) reply → reply ≢ Refused TooManyRuns → reply ≢ Refused TooManyTables → is_put_off m (Install job) ≡ false
  not_put_off_by_reply (Refused NoMemory) may runs tables = none_not_full (work_refusal m (Install job)) may
  not_put_off_by_reply (Refused Io) may runs tables = none_not_full (work_refusal m (Install job)) may.0
  not_put_off_by_reply (Refused BadTable) may runs tables = none_not_full (work_refusal m (Install job)) may.0
  not_put_off_by_reply reply may runs tables = not_full_by reply runs tables (work_refusal m (Install job)) may
