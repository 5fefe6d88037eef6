-- Ring 1 of the theorem: what lives on a device come to in the words of calls, replies, batches and maps alone. Of pieces of work
-- it says only that they change no map, and that an install makes all batches outlast a crash.
use Rattle.std.specs.Prelude.{◌≡◌, ◌≢◌, ◌⊎◌, ℕ, ◌+◌, nat_le, Bool, List, [], ◌∷◌, ◌++◌, length, map, Some, IsNone, Contains, if◌then◌else◌}
use Rattle.std.specs.declared.vec.Vec.{Vec}
use Rattle.lsm_codec.specs.Map.{Operation}
use Rattle.lsm_device.specs.declared.refusal.Refusal.TheVariants.{Io, Stopped}
use Rattle.lsm_root.specs.CrashState.{CrashState, last_number, MayRefuseOpening, left_by_opening}
use Rattle.lsm_machine.specs.Calls.{Call, Reply}
use Rattle.lsm_machine.specs.Calls.{Commit, CommitIf, Sync, SyncTo, Rotate, Number, Done, Refused, as_told}
use Rattle.lsm_machine.specs.Crash.{may_leave, last_crash_state, reopened}
use Rattle.lsm_machine.specs.Lives.{IsAfter, IsPrefixFrom}
use Rattle.lsm_machine.specs.Machine.{Called, Worked}
use Rattle.lsm_machine.specs.Run.{Allows, next}
use Rattle.lsm_machine.specs.State.{State}
use Rattle.lsm_machine.specs.Work.{Install}
use Rattle.lsm_machine.specs.Effects.{installed}
use Rattle.lsm_lives.specs.Asked.{Asked, Told, Own, Replied, Built}
use Rattle.lsm_lives.specs.Calls.{call_of, reply_of}
use Rattle.lsm_lives.specs.declared.calls.Reply.{Reply as GivenReply}
use Rattle.lsm_lives.specs.declared.calls.Step.{Step as GivenStep}
use Rattle.lsm_lives.specs.declared.calls.Step.TheVariants as step
use Rattle.lsm_lives.specs.declared.calls.Work.TheVariants as work
use Rattle.lsm_lives.specs.declared.living.Life.{Life as Given}

-- a step of a life, as far as maps go
pub data Act : Type 0 where
  Calls : Call → Act
  -- an install of a job's outputs
  Installs : Act
  -- any other piece of work on a job
  Works : Act

-- ---- what is asked for and told

-- what a step is
abbrev pub act_of : {A : Type 0} → GivenStep A → Act
act_of (step.Call call) = Calls (call_of call)
act_of (step.Work (work.Install job)) = Installs
act_of (step.Work other) = Works

-- the steps of each life
abbrev pub acts_by : {A : Type 0} → List (Given A) → List (List Act)
acts_by lives = map (λ life. map act_of life.steps.items) lives

-- the replies of each life, of which the first is what its opening answered
abbrev pub replies_by : {A : Type 0} → List (Vec (GivenReply A) A) → List (List Reply)
replies_by answers = map (λ replies. map reply_of replies.items) answers

-- ---- a run

-- The state after a piece of work. After an install that is done all batches outlast a crash, and after a flush no closed log is waited
-- for; a fault stops the store, and a crash may then find it done. A fault of any other piece may stop the store. Nothing else changes
-- the state, and nothing changes its map.
abbrev pub GoesByWork : State → Act → Reply → State → Type 0
GoesByWork s Installs Done to = IsNone s.stopped × (flush : Bool) × (to ≡ installed flush s)
GoesByWork s Installs (Refused Io) to = IsNone s.stopped × (flush : Bool) × (to ≡ record s { stopped = Some (last_crash_state (installed flush s) ∷ []) })
GoesByWork s Works (Refused Io) to = (to ≡ s) ⊎ (IsNone s.stopped × (to ≡ record s { stopped = Some [] }))
GoesByWork s act other to = to ≡ s

-- These replies may be made one after another, and leave this state: the state allows each reply to a call, with its refusals.
abbrev pub Goes : State → List Act → List Reply → State → Type 0
Goes s [] [] last = last ≡ s
Goes s (Calls call ∷ acts) (reply ∷ replies) last = Allows s call reply × Goes (next s call reply) acts replies last
Goes s (act ∷ acts) (reply ∷ replies) last = (to : State) × GoesByWork s act reply to × Goes to acts replies last
Goes s acts replies last = ⊥

-- ---- batches

-- the batch of a commit that was answered with its number
abbrev pub taken_by : Act → Reply → List (List Operation)
taken_by (Calls (Commit batch)) (Number n) = batch ∷ []
taken_by (Calls (CommitIf guards batch)) (Number n) = batch ∷ []
taken_by act reply = []

-- the batches that were accepted, in order
abbrev pub taken : List Act → List Reply → List (List Operation)
taken (act ∷ acts) (reply ∷ replies) = taken_by act reply ++ taken acts replies
taken acts replies = []

-- How many of the accepted batches are acknowledged as synced after a step, where `done` were accepted before it, `known` of
-- them acknowledged, and the store was opened with `opened` batches.
abbrev pub synced_by : ℕ → ℕ → ℕ → Act → Reply → ℕ
synced_by opened done known (Calls Sync) Done = done
synced_by opened done known (Calls (SyncTo number)) Done = if nat_le number (opened + known) then known else done
synced_by opened done known (Calls Rotate) Done = done
synced_by opened done known Installs Done = done
synced_by opened done known act reply = known

-- how many are acknowledged as synced after these steps
abbrev pub synced_from : ℕ → ℕ → ℕ → List Act → List Reply → ℕ
synced_from opened done known (act ∷ acts) (reply ∷ replies) = synced_from opened (done + length (taken_by act reply)) (synced_by opened done known act reply) acts replies
synced_from opened done known acts replies = known

-- the batch in flight, if there is one: of the commit a write of which failed
abbrev pub flying : List Act → List Reply → List (List Operation)
flying (Calls (Commit batch) ∷ acts) (Refused Io ∷ replies) = batch ∷ []
flying (Calls (CommitIf guards batch) ∷ acts) (Refused Io ∷ replies) = batch ∷ []
flying (act ∷ acts) (reply ∷ replies) = flying acts replies
flying acts replies = []

-- ---- lives

-- A life, at whose end a crash leaves this. Its opening answers the count of batches that were left, and the replies go on from
-- the map that was left; or it is refused fairly, and each step is answered that the store is stopped.
abbrev pub IsLife : ℕ → CrashState → List Act → List Reply → CrashState → Type 0
IsLife log_sectors opened acts (Number n ∷ replies) left = (opened.generation ≢ last_number) × (n ≡ opened.count) × (last : State) × Goes (reopened log_sectors opened) acts replies last × Contains (may_leave last) left
IsLife log_sectors opened acts (Refused e ∷ replies) left = MayRefuseOpening opened e × (replies ≡ map (λ _. Refused Stopped) acts) × Contains (left_by_opening opened) left
IsLife log_sectors opened acts replies left = ⊥

-- The batches that are kept of a life: a beginning of those from before, of the accepted ones and of the one in flight, with
-- all from before and every acknowledged one.
abbrev pub AreKept : List (List Operation) → List Act → List Reply → List (List Operation) → Type 0
AreKept before acts (Number n ∷ replies) after =
    IsPrefixFrom (length before + synced_from (length before) 0 0 acts replies) (before ++ (taken acts replies ++ flying acts replies)) after
AreKept before acts replies after = after ≡ before

-- A life that begins with the map after some batches, and keeps these.
pub record KeepsOn (log_sectors : ℕ) (before : List (List Operation)) (opened : CrashState) (acts : List Act) (told : List Reply) (after : List (List Operation)) (left : CrashState) : Type 0 where
  pub opens : IsAfter before opened
  -- the replies, as they were told
  pub replies : List Reply
  pub told_so : told ≡ map as_told replies
  pub life : IsLife log_sectors opened acts replies left
  pub keeps : AreKept before acts replies after

-- Lives one after another, each on what the crash before it left: every one begins with the map after the batches that are kept
-- of the one before it, and so would the next.
abbrev pub KeepsBatches : ℕ → List (List Operation) → CrashState → List (List Act) → List (List Reply) → Type 0
KeepsBatches log_sectors before opened [] [] = IsAfter before opened
KeepsBatches log_sectors before opened (acts ∷ lives) (told ∷ rest) = (after : List (List Operation)) × (left : CrashState)
    × KeepsOn log_sectors before opened acts told after left × KeepsBatches log_sectors after left lives rest
KeepsBatches log_sectors before opened lives told = ⊥

-- ---- what is asked for and told in the words of pieces of work

-- what was asked for, and what was told, in the words of ring 1
abbrev pub act_asked : Asked → Act
act_asked (Own (Called call)) = Calls call
act_asked (Own (Worked (Install job))) = Installs
act_asked other = Works

abbrev pub reply_told : Told → Reply
reply_told (Replied reply) = reply
reply_told (Built number tables) = Number number

abbrev pub acts_asked : List (List Asked) → List (List Act)
acts_asked lives = map (λ asked. map act_asked asked) lives

abbrev pub replies_told : List (List Told) → List (List Reply)
replies_told lives = map (λ told. map reply_told told) lives
