-- Ring 1 of the theorem for a `Db`: lives of its store keep the batches, and what was asked of it and told is what is left of them when
-- upkeep is put aside.
use Rattle.std.specs.Prelude.{◌≡◌, ◌⊎◌, ◌||◌, ◌==◌, ℕ, not, true, nat_lt, List, [], ◌∷◌, ◌++◌, length, map, filter, Option, Some, None}
use Rattle.lsm_device.specs.declared.refusal.Refusal.TheVariants.{NoSpace, Stopped}
use Rattle.lsm_root.specs.CrashState.{formatted}
use Rattle.lsm_machine.specs.Calls.{Call, Reply}
use Rattle.lsm_machine.specs.Calls.{Commit, CommitIf, Snapshot, Release, Rotate, Number, Done, Refused}
use Rattle.lsm_upkeep.specs.Writing.{has_puts, without_log_full}
use Rattle.lsm_lives.specs.Batches.{Act, Calls, KeepsBatches}

-- ---- what is put aside

-- The calls among acts, with their replies. Upkeep is put aside, which is all pieces of work, and rotations.
abbrev pub served_in : List Act → List Reply → List (Call × Reply)
served_in (Calls Rotate ∷ acts) (reply ∷ replies) = served_in acts replies
served_in (Calls call ∷ acts) (reply ∷ replies) = (call, reply) ∷ served_in acts replies
served_in (other ∷ acts) (reply ∷ replies) = served_in acts replies
served_in acts replies = []

-- ---- what is told

-- the numbers of the snapshots that are live after a call, where these were before: those that were taken, and not released
abbrev pub live_after : List ℕ → Call → Reply → List ℕ
live_after live Snapshot (Number taken) = live ++ taken ∷ []
live_after live (Release number) Done = filter (λ taken. not (taken == number)) live
live_after live call reply = live

-- a call that may be refused for want of room in tables: its batch puts a value, or a snapshot is live, which keeps what it deletes
abbrev pub MayWantRoom : List ℕ → Call → Type 0
MayWantRoom live (Commit batch) = (has_puts batch || nat_lt 0 (length live)) ≡ true
MayWantRoom live (CommitIf guards batch) = (has_puts batch || nat_lt 0 (length live)) ≡ true
MayWantRoom live other = ⊥

-- What was told of calls of a `Db`, one after another, where these snapshots were live before, and these calls were served with these replies.
-- A compact is done, and is no call of the machine. Any other call was served, and its reply is told, but NoSpace in place of LogFull; or it
-- was not served, since there was no room for its batch in tables, and that is told.
abbrev pub AreTold : List ℕ → List (Call × Reply) → List (Option Call) → List Reply → Type 0
AreTold live served [] [] = served ≡ []
AreTold live served (None ∷ asked) (told ∷ rest) = (told ≡ Done) × AreTold live served asked rest
AreTold live served (Some call ∷ asked) (told ∷ rest) =
    ((reply : Reply) × (others : List (Call × Reply)) × (served ≡ (call, reply) ∷ others) × (told ≡ without_log_full reply) × AreTold (live_after live call reply) others asked rest)
    ⊎ ((told ≡ Refused NoSpace) × MayWantRoom live call × AreTold live served asked rest)
AreTold live served asked told = ⊥

-- ---- lives

-- A life of a `Db`, which made these acts, with these replies. First is told what the opening replied: the count of batches that it found,
-- or its refusal, and then each call is told that the store is stopped.
abbrev pub IsLifeTold : List Act → List Reply → List (Option Call) → List Reply → Type 0
IsLifeTold acts (Number found ∷ replies) asked (Number n ∷ told) = (n ≡ found) × AreTold [] (served_in acts replies) asked told
IsLifeTold acts (Refused reason ∷ replies) asked (Refused e ∷ told) = (e ≡ reason) × (told ≡ map (λ _. Refused Stopped) asked)
IsLifeTold acts replies asked told = ⊥

-- so it is of each life
abbrev pub AreLivesTold : List (List Act) → List (List Reply) → List (List (Option Call)) → List (List Reply) → Type 0
AreLivesTold [] [] [] [] = Unit {0}
AreLivesTold (acts ∷ each) (replies ∷ all) (asked ∷ lives) (told ∷ rest) = IsLifeTold acts replies asked told × AreLivesTold each all lives rest
AreLivesTold acts replies lives told = ⊥

-- Lives of a `Db` from a format on. Its store made acts that keep the batches, as ring 1 says it, and what was asked of the `Db` and told
-- is what is left of these when upkeep is put aside.
pub record KeepsDbBatches (log_sectors : ℕ) (lives : List (List (Option Call))) (told : List (List Reply)) : Type 0 where
  pub acts : List (List Act)
  pub replies : List (List Reply)
  pub keeps : KeepsBatches log_sectors [] formatted acts replies
  pub told_so : AreLivesTold acts replies lives told
