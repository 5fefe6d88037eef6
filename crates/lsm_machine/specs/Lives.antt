-- Lives of a store on one device, each from an opening to a crash.
use Rattle.std.specs.Prelude.{◌≡◌, ◌≤◌, ℕ, ◌+◌, List, [], ◌∷◌, ◌++◌, length, take, map, Contains}
use Rattle.std.specs.FinMap as finite
use Rattle.lsm_codec.specs.Map.{Operation, apply_all}
use Rattle.lsm_device.specs.declared.refusal.Refusal.TheVariants.{Stopped}
use Rattle.lsm_root.specs.CrashState.{CrashState, MayOpen, MayRefuseOpening, left_by_opening}
use Rattle.lsm_machine.specs.Calls.{Reply}
use Rattle.lsm_machine.specs.Calls.{Number, Refused}
use Rattle.lsm_machine.specs.Crash.{may_leave}
use Rattle.lsm_machine.specs.Machine.{Machine, Step}
use Rattle.lsm_machine.specs.Run.{Run, last_machine}
use Rattle.lsm_machine.specs.Promise.{accepted, acknowledged, in_flight, IsOpened}

-- each step is answered that the store is stopped
abbrev pub all_stopped : List Step → List Reply
all_stopped steps = map (λ _. Refused Stopped) steps

-- The replies of a life, which begins with an opening of what a crash left. That is answered with its count of batches,
-- and the steps are a run from there; or it is refused, and each step is answered that the store is stopped.
abbrev pub IsAnswered : ℕ → CrashState → Machine → List Step → List Reply → Type 0
IsAnswered log_sectors opened m steps (Number n ∷ replies) = MayOpen opened × (n ≡ opened.count) × IsOpened log_sectors opened m × Run m steps replies
IsAnswered log_sectors opened m steps (Refused e ∷ replies) = MayRefuseOpening opened e × (replies ≡ all_stopped steps)
IsAnswered log_sectors opened m steps replies = ⊥

-- What a crash at the end of a life may leave. Where writes pend before the opening, a crash may leave others there too;
-- and it may still, where the opening was refused.
abbrev pub left_by_life : CrashState → List CrashState → Machine → List Step → List Reply → List CrashState
left_by_life opened others m steps (Number n ∷ replies) = may_leave (last_machine m steps replies).state
left_by_life opened others m steps replies = others ++ left_by_opening opened

-- a life, at whose end a crash leaves this
pub record Life (log_sectors : ℕ) (opened : CrashState) (others : List CrashState) (steps : List Step) (replies : List Reply) (left : CrashState) : Type 0 where
  -- the machine that its opening answers
  pub machine : Machine
  pub answered : IsAnswered log_sectors opened machine steps replies
  pub crash : Contains (left_by_life opened others machine steps replies) left

-- Lives one after another, each on what the crash before it left. The first is on a device of which a crash may leave
-- others too.
abbrev pub Lives : ℕ → CrashState → List CrashState → List (List Step) → List (List Reply) → CrashState → Type 0
Lives log_sectors opened others [] [] left = left ≡ opened
Lives log_sectors opened others (steps ∷ lives) (replies ∷ rest) left = (mid : CrashState) × Life log_sectors opened others steps replies mid × Lives log_sectors mid [] lives rest left
Lives log_sectors opened others [] (replies ∷ rest) left = ⊥
Lives log_sectors opened others (steps ∷ lives) [] left = ⊥

-- a beginning of these batches that holds at least `least`
pub record IsPrefixFrom (least : ℕ) (batches kept : List (List Operation)) : Type 0 where
  pub holds : ℕ
  pub at_least : least ≤ holds
  pub among : holds ≤ length batches
  pub is : kept ≡ take holds batches

-- The batches that a life keeps of those that were kept before it: a beginning of these, of those accepted since and of
-- the one in flight, that holds all that were kept before and every one acknowledged since.
abbrev pub KeptByLife : List (List Operation) → List Step → List Reply → List (List Operation) → Type 0
KeptByLife before steps (Number n ∷ replies) after =
    IsPrefixFrom (length before + acknowledged (length before) steps replies) (before ++ (accepted steps replies ++ in_flight steps replies)) after
KeptByLife before steps replies after = after ≡ before

-- a crash state after just these batches
pub record IsAfter (batches : List (List Operation)) (left : CrashState) : Type 0 where
  pub count : left.count ≡ length batches
  pub same_map : left.map ≡ apply_all finite.empty batches

-- A life on what a crash left, in the words of batches.
pub record KeepsLife (log_sectors : ℕ) (before : List (List Operation)) (opened : CrashState) (steps : List Step) (replies : List Reply) (after : List (List Operation)) (left : CrashState) : Type 0 where
  -- it begins with the map after the batches that were kept before it
  pub opens : IsAfter before opened
  -- its replies are those of the machine, and a crash leaves what it may
  pub life : Life log_sectors opened [] steps replies left
  -- and it keeps these batches
  pub keeps : KeptByLife before steps replies after

-- So are lives one after another. The last crash leaves the map after the batches that were kept at last.
abbrev pub KeepsLives : ℕ → List (List Operation) → CrashState → List (List Step) → List (List Reply) → List (List Operation) → CrashState → Type 0
KeepsLives log_sectors before opened [] [] after left = (after ≡ before) × (left ≡ opened) × IsAfter after left
KeepsLives log_sectors before opened (steps ∷ lives) (replies ∷ rest) after left = (kept : List (List Operation)) × (mid : CrashState)
    × KeepsLife log_sectors before opened steps replies kept mid × KeepsLives log_sectors kept mid lives rest after left
KeepsLives log_sectors before opened [] (replies ∷ rest) after left = ⊥
KeepsLives log_sectors before opened (steps ∷ lives) [] after left = ⊥

-- However often a device is stopped, lives that begin with the map after some batches go on so.
abbrev pub PromiseOverLives : Type 0
PromiseOverLives = (log_sectors : ℕ) (before : List (List Operation)) (opened : CrashState) (lives : List (List Step)) (replies : List (List Reply)) (left : CrashState)
    → IsAfter before opened → Lives log_sectors opened [] lives replies left → (after : List (List Operation)) × KeepsLives log_sectors before opened lives replies after left
