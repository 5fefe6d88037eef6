-- Lives on a device that holds what a crash left, and the promise over crashes.
use Rattle.std.specs.Prelude.{◌≡◌, ◌⊎◌, ◌≤◌, ℕ, ◌+◌, List, [], ◌∷◌, map, vec_len, vec_capacity}
use Rattle.std.specs.declared.vec.Vec.{Vec}
use Rattle.lsm_codec.specs.Map.{Operation}
use Rattle.lsm_device.specs.Disk.{Disk, seen}
use Rattle.lsm_device.specs.Outcomes.{Leaves}
use Rattle.lsm_root.specs.CrashState.{CrashState}
use Rattle.lsm_open.specs.Image.{StandFor}
use Rattle.lsm_open.specs.Recovering.{StandForOne}
use Rattle.lsm_machine.specs.Calls.{Reply}
use Rattle.lsm_machine.specs.Lives.{Life, Lives, KeepsLives}
use Rattle.lsm_machine.specs.Machine.{Step}
use Rattle.lsm_lives.specs.Asked.{Asked, Told, Replied, AreTold}
use Rattle.lsm_lives.specs.Calls.{asked_of, told_of}
use Rattle.lsm_lives.specs.Leading.{LifeView}
use Rattle.lsm_lives.specs.declared.calls.Reply.{Reply as GivenReply}
use Rattle.lsm_lives.specs.declared.living.Life.{Life as Given}

-- what is asked for in each life
abbrev pub asked_in : List LifeView → List (List Asked)
asked_in lives = map (λ life. life.steps) lives

abbrev pub asked_by : {A : Type 0} → List (Given A) → List (List Asked)
asked_by lives = map (λ life. map asked_of life.steps.items) lives

-- what is told of each life
abbrev pub told_by : {A : Type 0} → List (Vec (GivenReply A) A) → List (List Told)
told_by answers = map (λ replies. map told_of replies.items) answers

-- What is asked for in a life and told, as steps and replies of the machine: the first is what its opening answered.
abbrev pub IsLifeTold : List Asked → List Told → List Step → List Reply → Type 0
IsLifeTold asked (Replied first ∷ told) steps (reply ∷ replies) = (reply ≡ first) × AreTold [] asked told steps replies
IsLifeTold asked told steps replies = ⊥

-- the same of lives
abbrev pub AreLivesTold : List (List Asked) → List (List Told) → List (List Step) → List (List Reply) → Type 0
AreLivesTold [] [] [] [] = Unit {0}
AreLivesTold (asked ∷ lives) (told ∷ rest) (steps ∷ each) (replies ∷ all) = IsLifeTold asked told steps replies × AreLivesTold lives rest each all
AreLivesTold lives told steps replies = ⊥

-- there is a place for each reply of each life, and none is taken
abbrev pub HavePlaces : {A : Type 0} → List (Given A) → List (Vec (GivenReply A) A) → Type 0
HavePlaces [] [] = Unit {0}
HavePlaces (life ∷ lives) (place ∷ places) = (place.items ≡ []) × (vec_len life.steps + 1 ≤ vec_capacity place) × HavePlaces lives places
HavePlaces [] (place ∷ places) = ⊥
HavePlaces (life ∷ lives) [] = ⊥

-- Reads of a disk give the image of what a crash left. A crash of it as it is leaves that, or one of these others, where
-- writes pend.
pub record Holds (log_sectors : ℕ) (left : CrashState) (others : List CrashState) (d : Disk) : Type 0 where
  pub reads : StandFor log_sectors left (seen d)
  pub crashes : Leaves (λ image. StandFor log_sectors left image ⊎ StandForOne log_sectors others image) d

-- a life on such a disk, after its crash
pub record AfterCrash (log_sectors : ℕ) (opened : CrashState) (others : List CrashState) (asked : List Asked) (answers : List Told) (d : Disk) : Type 0 where
  pub steps : List Step
  pub replies : List Reply
  pub told : IsLifeTold asked answers steps replies
  pub left : CrashState
  pub life : Life log_sectors opened others steps replies left
  pub holds : Holds log_sectors left [] d

-- once there was a life, a crash leaves no others
abbrev pub others_after : List CrashState → List (List Asked) → List CrashState
others_after others [] = others
others_after others (asked ∷ lives) = []

-- Lives on a device that held what a crash left were told so, and left it as this disk.
pub record AreLived (log_sectors : ℕ) (opened : CrashState) (others : List CrashState) (lives : List (List Asked)) (answers : List (List Told)) (d : Disk) : Type 0 where
  pub steps : List (List Step)
  pub replies : List (List Reply)
  pub told : AreLivesTold lives answers steps replies
  pub left : CrashState
  -- each life is an opening of what the crash before it left, a run of the machine, and a crash
  pub are : Lives log_sectors opened others steps replies left
  -- the disk holds what the last crash left
  pub holds : Holds log_sectors left (others_after others lives) d

-- The same in the words of batches, of a device that held the map after some, with nothing else to be left of it.
pub record KeepPromise (log_sectors : ℕ) (before : List (List Operation)) (opened : CrashState) (lives : List (List Asked)) (answers : List (List Told)) (d : Disk) : Type 0 where
  -- what was asked for and told are these steps and replies of the machine
  pub steps : List (List Step)
  pub replies : List (List Reply)
  pub told : AreLivesTold lives answers steps replies
  -- the batches that are kept at last, and what the last crash left
  pub batches : List (List Operation)
  pub left : CrashState
  -- Each life begins with the map after the batches kept before it, its replies are those of the machine, and it keeps a
  -- beginning of these, of those accepted in it and of the one in flight, with every acknowledged one.
  pub keeps : KeepsLives log_sectors before opened steps replies batches left
  -- the device holds that, and a crash of it leaves the same
  pub device : Leaves (StandFor log_sectors left) d
