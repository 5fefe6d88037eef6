-- What turns of clients do, and results that they bring.
use Rattle.std.specs.Prelude.{◌≡◌, ◌≢◌, ℕ, ◌<◌, Bool, true, false, List, [], ◌∷◌, ◌++◌, length, map, Contains, Option, Some, None, is_some, if◌then◌else◌}
use Rattle.std.specs.Arc.{arc_value}
use Rattle.lsm_device.specs.declared.refusal.Refusal.{Refusal}
use Rattle.lsm_device.specs.declared.refusal.Refusal.TheVariants.{NoMemory, NoSpace, TrailFull}
use Rattle.lsm_jobs.specs.Slots.{held_jobs}
use Rattle.lsm_levels.specs.Choices.{chosen}
use Rattle.lsm_levels.specs.declared.choosing.Choice.{Choice}
use Rattle.lsm_merge.specs.Inputs.{MergeInput}
use Rattle.lsm_merge.specs.Results.{MergeResult}
use Rattle.lsm_machine.specs.Calls.{Reply}
use Rattle.lsm_machine.specs.Calls.{Given, Refused}
use Rattle.lsm_machine.specs.Machine.{Machine, Step, Worked}
use Rattle.lsm_machine.specs.Pieces.{piece_at, is_of_full_levels, is_put_off, next_among, next_piece, places_from}
use Rattle.lsm_machine.specs.Work.{Work, Take, Ask, Accept, Drop}
use Rattle.lsm_machine.specs.WorkReplies.{WorkAdmits, work_decided}
use Rattle.lsm_lives.specs.Asked.{Told, Replied}
use Rattle.lsm_lives.specs.Calls.{told_of}
use Rattle.lsm_trail.specs.Begins.{Begin}
use Rattle.lsm_trail.specs.History.{Event, worked, lent_to, accepted, steps_of, machine_after}
use Rattle.lsm_trail.specs.Knowledge.{Known, Sees}
use Rattle.lsm_shared.specs.Clients.{Adds}
use Rattle.lsm_shared.specs.Due.{places_due, next_due, MayMerge}
use Rattle.lsm_shared.specs.declared.turn.Turn.{Turn}
use Rattle.lsm_shared.specs.declared.turn.Turn.TheVariants as turn

-- whether it is told that the levels have no room for now, and that there is no room for a result
abbrev pub tells_full_levels : Told → Bool
tells_full_levels (Replied (Refused e)) = is_of_full_levels (Some e)
tells_full_levels other = false

abbrev pub tells_no_space : Told → Bool
tells_no_space (Replied (Refused NoSpace)) = true
tells_no_space other = false

-- ---- the pieces of a turn

-- what a slot waits for, and after an install that is put off what comes next
abbrev pub with_piece : Machine → Option Work → List Work → List Work
with_piece m None later = later
with_piece m (Some work) later = work ∷ (if is_put_off m work then later else [])

-- The pieces of a turn over the slots at these places, asked in this order: installs that are put off are passed over, and the
-- first other piece is the last.
abbrev pub pieces_among : Machine → List ℕ → List Work
pieces_among m [] = []
pieces_among m (place ∷ rest) = with_piece m (piece_at m place) (pieces_among m rest)

abbrev pub as_steps : List Work → List Step
as_steps pieces = map Worked pieces

-- These entries are just the pieces of a turn over the places, whose last is the next piece there, if there is one.
pub record AreOfTurn (m : Machine) (places : List ℕ) (next : Option Work) (entries : List Event) : Type 0 where
  pub steps : steps_of entries ≡ as_steps (pieces_among m places)
  pub ends : next_among m places ≡ next

-- A client of this number took a turn over the places: with no piece next it was idle; else it did the next piece, and was told
-- its reply, or was lent the input of a job.
abbrev pub IsTurn : {A : Type 0} → Machine → List ℕ → ℕ → Turn A → List Event → Type 0
IsTurn m places number turn.Idle entries = AreOfTurn m places None entries
IsTurn m places number (turn.Did reply) entries =
    (passed : List Event) × (work : Work) × (answer : Reply) × (behind : Machine) × (told_of reply ≡ Replied answer) × (entries ≡ passed ++ worked number work answer behind ∷ []) × AreOfTurn m places (Some work) entries
IsTurn m places number (turn.Merge job result input) entries =
    (passed : List Event) × (behind : Machine) × (entries ≡ passed ++ lent_to number job (arc_value input) result behind ∷ []) × AreOfTurn m places (Some (Ask job)) entries

-- An idle client has seen a history after which nothing is left for it to do.
abbrev pub MayRest : {A : Type 0} → Turn A → Known → Type 0
MayRest turn.Idle d = next_piece (machine_after d.begin d.seen) d.number ≡ None
MayRest (turn.Did reply) d = Unit {0}
MayRest (turn.Merge job result input) d = Unit {0}

-- A client took a turn, from its own place among the slots on, after all that it had seen and what others did since.
pub record TakesTurn {A : Type 0} (c : Known) (turn : Turn A) (d : Known) : Type 0 where
  pub others : List Event
  pub entries : List Event
  pub adds : Adds c others entries d
  pub takes : IsTurn (machine_after d.begin (c.seen ++ others)) (places_from c.number) c.number turn entries
  pub rests : MayRest turn d

-- ---- a turn that ends before its last piece

-- Why a piece of work is no entry after a history: the trail is full; or it has a place, and there was no memory for a piece that
-- takes some and that nothing refuses.
abbrev pub DeniesWork : Begin → List Event → Work → Refusal → Type 0
DeniesWork b log work TrailFull = length log ≡ b.limit
DeniesWork b log work NoMemory = (length log < b.limit) × WorkAdmits (machine_after b log) work (Refused NoMemory)
DeniesWork b log work other = ⊥

-- These entries are the first pieces of a turn over the places, and this one comes next.
pub record StopsBefore (m : Machine) (places : List ℕ) (entries : List Event) (left : Work) : Type 0 where
  pub more : List Work
  pub steps : steps_of entries ++ as_steps (left ∷ more) ≡ as_steps (pieces_among m places)

-- A client took no whole turn: what it did stands, and then came a piece that is no entry.
pub record IsNoTurn (c : Known) (e : Refusal) (d : Known) : Type 0 where
  pub others : List Event
  pub entries : List Event
  pub adds : Adds c others entries d
  pub left : Work
  pub stops : StopsBefore (machine_after d.begin (c.seen ++ others)) (places_from c.number) entries left
  pub denied : DeniesWork d.begin d.seen left e

-- ---- turns over the places that are due

-- An idle client has seen a history after which nothing is left for it to do at the places that are due: no job that is held, but
-- for installs that are put off, and no flush for which a slot is free.
abbrev pub MayPause : {A : Type 0} → Turn A → Known → Type 0
MayPause turn.Idle d = next_due (machine_after d.begin d.seen) d.number ≡ None
MayPause (turn.Did reply) d = Unit {0}
MayPause (turn.Merge job result input) d = Unit {0}

-- A client took a turn over the places that are due after all that it had seen and what others did since.
pub record TakesDue {A : Type 0} (c : Known) (turn : Turn A) (d : Known) : Type 0 where
  pub others : List Event
  pub entries : List Event
  pub adds : Adds c others entries d
  pub takes : IsTurn (machine_after d.begin (c.seen ++ others)) (places_due (machine_after d.begin (c.seen ++ others)) c.number) c.number turn entries
  pub rests : MayPause turn d

-- It took no whole one: what it did stands, and then came a piece that is no entry.
pub record IsNotDue (c : Known) (e : Refusal) (d : Known) : Type 0 where
  pub others : List Event
  pub entries : List Event
  pub adds : Adds c others entries d
  pub left : Work
  pub stops : StopsBefore (machine_after d.begin (c.seen ++ others)) (places_due (machine_after d.begin (c.seen ++ others)) c.number) entries left
  pub denied : DeniesWork d.begin d.seen left e

-- ---- one piece

-- A client did one piece of work, which the store does by itself, after all that it had seen and what others did since, and was
-- told its reply.
pub record MakesPiece (c : Known) (work : Work) (answer : Told) (d : Known) : Type 0 where
  pub reply : Reply
  pub told : answer ≡ Replied reply
  pub others : List Event
  pub behind : Machine
  pub adds : Adds c others (worked c.number work reply behind ∷ []) d

-- It could not: the piece is no entry after the history that the client has seen then.
pub record IsNoPiece (c : Known) (work : Work) (e : Refusal) (d : Known) : Type 0 where
  pub others : List Event
  pub adds : Adds c others [] d
  pub denied : DeniesWork d.begin d.seen work e

-- a machine doesn't tell of this piece of work that there is no job to take
abbrev pub Gives : Machine → Work → Type 0
Gives m work = work_decided m work ≢ Given None

-- A client took the job of this choice and was told the reply; or there was none, and it saw the history.
abbrev pub TakesOf : Known → Choice → Option Told → Known → Type 0
TakesOf c choice None d = Sees c d × (work_decided (machine_after d.begin d.seen) (Take (Some choice)) ≡ Given None)
TakesOf c choice (Some answer) d = MakesPiece c (Take (Some choice)) answer d

-- It could not: there is one, and its taking is no entry after the history that the client has seen then.
pub record IsNotTaken (c : Known) (choice : Choice) (e : Refusal) (d : Known) : Type 0 where
  pub piece : IsNoPiece c (Take (Some choice)) e d
  pub gives : Gives (machine_after d.begin d.seen) (Take (Some choice))

-- a choice whose job may be taken along with the jobs that are held
abbrev pub MayChoose : Machine → Choice → Type 0
MayChoose m choice = is_some (chosen m.work.levels (held_jobs m.work.jobs.slots) choice) ≡ true

-- A client took the job of some choice that could be taken after all that it had seen and what others did since, where no flush was
-- to be taken first and no merge was held.
pub record TakesSome (c : Known) (answer : Told) (d : Known) : Type 0 where
  pub choice : Choice
  pub piece : MakesPiece c (Take (Some choice)) answer d
  pub may : MayChoose (machine_after d.begin (c.seen ++ piece.others)) choice
  pub next : MayMerge (machine_after d.begin (c.seen ++ piece.others))

-- It took such a job and was told the reply, or took none and saw the history.
abbrev pub TakesNext : Known → Option Told → Known → Type 0
TakesNext c None d = Sees c d
TakesNext c (Some answer) d = TakesSome c answer d

-- It could not take the job of some choice.
abbrev pub IsNoNext : Known → Refusal → Known → Type 0
IsNoNext c e d = (choice : Choice) × IsNotTaken c choice e d

-- ---- results

-- One of these entries lent this input to a build for the job, whose result has this number.
pub record WasLent (entries : List Event) (job result : ℕ) (input : MergeInput) : Type 0 where
  pub client : ℕ
  pub machine : Machine
  pub among : Contains entries (lent_to client job input result machine)

-- A client that was handed out an input has an entry that lent it.
abbrev pub HasLent : {A : Type 0} → Turn A → Known → Type 0
HasLent turn.Idle d = Unit {0}
HasLent (turn.Did reply) d = Unit {0}
HasLent (turn.Merge job result input) d = WasLent d.mine job result (arc_value input)

-- A result was brought: it was accepted with this reply, and where there was no room for it the job was given up.
abbrev pub IsBrought : ℕ → ℕ → ℕ → MergeResult → Reply → List Event → Type 0
IsBrought number job result made (Refused NoSpace) entries =
    (mid : Machine) × (answer : Reply) × (behind : Machine) × (entries ≡ accepted number job result made (Refused NoSpace) mid ∷ worked number (Drop job) answer behind ∷ [])
IsBrought number job result made reply entries = (behind : Machine) × (entries ≡ accepted number job result made reply behind ∷ [])

-- A client brought a result, and was told this: the reply to the accept.
pub record Brings (c : Known) (job result : ℕ) (made : MergeResult) (answer : Told) (d : Known) : Type 0 where
  pub reply : Reply
  pub told : answer ≡ Replied reply
  pub others : List Event
  pub entries : List Event
  pub adds : Adds c others entries d
  pub brought : IsBrought c.number job result made reply entries

-- After these entries this piece is left of bringing a result: the accept, or after one that found no room the giving up of
-- the job.
abbrev pub IsLeftOfBringing : ℕ → ℕ → ℕ → MergeResult → List Event → Work → Type 0
IsLeftOfBringing number job result made [] left = left ≡ Accept job (Some made)
IsLeftOfBringing number job result made (e ∷ []) left = (left ≡ Drop job) × ((behind : Machine) × (e ≡ accepted number job result made (Refused NoSpace) behind))
IsLeftOfBringing number job result made (e ∷ f ∷ more) left = ⊥

-- A client could not bring a result wholly: what it did stands, and then came a piece that is no entry.
pub record IsNotBrought (c : Known) (job result : ℕ) (made : MergeResult) (e : Refusal) (d : Known) : Type 0 where
  pub others : List Event
  pub entries : List Event
  pub adds : Adds c others entries d
  pub left : Work
  pub behind : IsLeftOfBringing c.number job result made entries left
  pub denied : DeniesWork d.begin d.seen left e
