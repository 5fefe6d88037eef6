-- Upkeep between lines, as lists of steps and replies.
use Rattle.std.proofs.Common.{ℕ, zero, suc, List, [], ◌∷◌, ◌++◌, subst}
use Rattle.lsm_lives.specs.Replaying.{Replays}
use Rattle.lsm_store.specs.Backing.{StoreView}
use Rattle.lsm_machine.specs.Calls.{Reply}
use Rattle.lsm_machine.specs.Machine.{Step}
use Rattle.lsm_upkeep.specs.Steps.{IsUpkept, UpkeepSteps}
use Rattle.lsm_serve.specs.Course.{AreUpkeep}

-- Steps of upkeep, one after another.
pub record Passes (old new : StoreView) : Type 0 where
  pub steps : List Step
  pub replies : List Reply
  pub upkeep : AreUpkeep steps replies
  pub replays : Replays old steps replies new

pub replays-append : (steps : List Step) (replies : List Reply) (old mid new : StoreView) (more : List Step) (rest : List Reply)
    → Replays old steps replies mid → Replays mid more rest new → Replays old (steps ++ more) (replies ++ rest) new
replays-append [] [] old mid new more rest first second = subst (λ (s : StoreView). Replays s more rest new) first second
replays-append (step ∷ steps) (reply ∷ replies) old mid new more rest (next, serves, first) second = (next, serves, replays-append steps replies next mid new more rest first second)
replays-append [] (reply ∷ replies) old mid new more rest first second = absurd first
replays-append (step ∷ steps) [] old mid new more rest first second = absurd first

steps_pass : (n : ℕ) (old new : StoreView) → UpkeepSteps n old new → Passes old new
steps_pass zero old new e = record { steps = []; replies = []; upkeep = tt; replays = e }
steps_pass (suc n) old new (mid, step, reply, is, serves, rest) =
    let p = steps_pass n mid new rest in
    record { steps = step ∷ p.steps; replies = reply ∷ p.replies; upkeep = (is, p.upkeep); replays = (mid, serves, p.replays) }

-- upkeep is such steps
pub passes : (old new : StoreView) → IsUpkept old new → Passes old new
passes old new u = steps_pass u.count old new u.steps
