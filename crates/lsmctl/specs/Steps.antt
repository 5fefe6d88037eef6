-- The steps of a script, and how the replies to them are told.
use Rattle.std.specs.Prelude.{ℕ, ◌+◌, ◌*◌, ◌^◌, ◌-◌, min, List, [], ◌∷◌, ◌++◌, length, map, replicate, slice_get, Bool, true, false, Option, Some, None, if◌then◌else◌}
use Rattle.std.specs.Global.{Global}
use Rattle.lsm_machine.specs.Calls.{Call}
use Rattle.lsm_lives.specs.declared.calls.Step.{Step as GivenStep}
use Rattle.lsm_lives.specs.declared.calls.Step.TheVariants as step
use Rattle.lsm_lives.specs.declared.living.Life.{Life}
use Rattle.lsm_lives.specs.Calls.{call_of, asked_of}
use Rattle.lsm_lives.specs.Leading.{LifeView}
use Rattle.lsm_language.specs.declared.line.Line.{Line}
use Rattle.lsm_language.specs.declared.line.Line.TheVariants as line
use Rattle.lsm_language.specs.declared.line.Kept.{Kept}
use Rattle.lsm_language.specs.declared.line.Kept.TheVariants.{All, Places}
use Rattle.lsm_language.specs.Replies.{counted_by}
use Rattle.lsm_language.specs.declared.counted.Counted.TheVariants as counted
use Rattle.lsmctl.specs.declared.steps.ReplyFormat.{ReplyFormat}
use Rattle.lsmctl.specs.declared.steps.ReplyFormat.TheVariants as reply_format

-- how a call and a piece of work are told, by their replies; a number of such a piece is of blocks that are left
abbrev pub told_of_call : Call → ReplyFormat
told_of_call call = reply_format.Reply (counted_by call)

abbrev pub told_of_piece : ReplyFormat
told_of_piece = reply_format.Reply counted.Left

-- ---- steps alone, each after those before it

-- the steps that are made
abbrev pub steps_after : List (GivenStep Global) → List Line → List (GivenStep Global)
steps_after steps [] = steps
steps_after steps (line.Call call ∷ lines) = steps_after (steps ++ step.Call call ∷ []) lines
steps_after steps (line.Work piece ∷ lines) = steps_after (steps ++ step.Work piece ∷ []) lines
steps_after steps (_ ∷ lines) = steps_after steps lines

-- how each step is told
abbrev pub told_after : List ReplyFormat → List Line → List ReplyFormat
told_after steps [] = steps
told_after steps (line.Call call ∷ lines) = told_after (steps ++ told_of_call (call_of call) ∷ []) lines
told_after steps (line.Work piece ∷ lines) = told_after (steps ++ told_of_piece ∷ []) lines
told_after steps (line.NoBatch refusal ∷ lines) = told_after (steps ++ reply_format.NoBatch refusal ∷ []) lines
told_after steps (_ ∷ lines) = told_after steps lines

-- ---- lives, each after those before it

-- the end of a script ends its last life, unless a crash did
abbrev pub is_crash : Line → Bool
is_crash (line.Crash kept) = true
is_crash _ = false

abbrev pub ended : List Line → List Line
ended lines = by_last (slice_get lines (length lines - 1))
  where
    by_last : Option Line → List Line
    by_last None = lines ++ line.Crash All ∷ []
    by_last (Some last) = if is_crash last then lines else lines ++ line.Crash All ∷ []

-- a life makes at most 42 writes in its opening and 128 in each step, so that a mask of as many places keeps all that pend
abbrev pub mask_said : Kept → ℕ → List Bool
mask_said All steps = replicate (min (42 + min (128 * steps) (2 ^ 64 - 1)) (2 ^ 64 - 1)) true
mask_said (Places places) steps = places.items

-- a life by its fuse, its steps and its mask
abbrev pub life_of : Life Global → Option ℕ × List (GivenStep Global) × List Bool
life_of life = (life.fuse, life.steps.items, life.mask.items)

-- a line `crash` makes a life of the lines since the one before it
abbrev pub lives_after : List (Option ℕ × List (GivenStep Global) × List Bool) → Option ℕ → List (GivenStep Global) → List Line
    → List (Option ℕ × List (GivenStep Global) × List Bool)
lives_after lives fuse steps [] = lives
lives_after lives fuse steps (line.Call call ∷ lines) = lives_after lives fuse (steps ++ step.Call call ∷ []) lines
lives_after lives fuse steps (line.Work piece ∷ lines) = lives_after lives fuse (steps ++ step.Work piece ∷ []) lines
lives_after lives fuse steps (line.NoBatch refusal ∷ lines) = lives_after lives fuse steps lines
lives_after lives fuse steps (line.Fuse number ∷ lines) = lives_after lives (Some number) steps lines
lives_after lives fuse steps (line.Crash kept ∷ lines) = lives_after (lives ++ (fuse, steps, mask_said kept (length steps)) ∷ []) None [] lines

-- as what a life of a store is asked to be
abbrev pub view_of : Option ℕ × List (GivenStep Global) × List Bool → LifeView
view_of (fuse, steps, mask) = record { fuse = fuse; steps = map asked_of steps; mask = mask }

-- the lives of a script
abbrev pub lives_said : List Line → List LifeView
lives_said lines = map view_of (lives_after [] None [] (ended lines))

-- a life is told by its opening and its steps
abbrev pub opened : List ReplyFormat
opened = reply_format.Reply counted.Opened ∷ []

abbrev pub told_lives_after : List (List ReplyFormat) → List ReplyFormat → List Line → List (List ReplyFormat)
told_lives_after lives steps [] = lives
told_lives_after lives steps (line.Call call ∷ lines) = told_lives_after lives (steps ++ told_of_call (call_of call) ∷ []) lines
told_lives_after lives steps (line.Work piece ∷ lines) = told_lives_after lives (steps ++ told_of_piece ∷ []) lines
told_lives_after lives steps (line.NoBatch refusal ∷ lines) = told_lives_after lives (steps ++ reply_format.NoBatch refusal ∷ []) lines
told_lives_after lives steps (line.Fuse number ∷ lines) = told_lives_after lives steps lines
told_lives_after lives steps (line.Crash kept ∷ lines) = told_lives_after (lives ++ steps ∷ []) opened lines

-- how the lives of a script are told
abbrev pub told_lives : List Line → List (List ReplyFormat)
told_lives lines = told_lives_after [] opened (ended lines)
