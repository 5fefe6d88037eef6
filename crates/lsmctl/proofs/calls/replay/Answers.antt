use Rattle.std.proofs.Common.{◌≡◌, List, [], map, Result, subst}
use Rattle.std.specs.Global.{Global}
use Rattle.std.specs.Prelude.{IfOk}
use Rattle.lsm_device.specs.declared.refusal.Refusal.{Refusal}
use Rattle.lsm_language.specs.declared.line.Line.{Line}
use Rattle.lsm_lives.specs.Calls.{asked_of}
use Rattle.lsm_lives.specs.declared.calls.Step.{Step as GivenStep}
use Rattle.lsm_open.specs.Recovering.{IsOpeningRefusal}
use Rattle.lsm_store.specs.Backing.{StoreView}
use Rattle.lsmctl.specs.declared.answer.Output.{Output}
use Rattle.lsmctl.specs.declared.steps.ReplyFormat.{ReplyFormat}
use Rattle.lsmctl.specs.Answers.{HasReplies}
use Rattle.lsmctl.specs.Steps.{steps_after, told_after}
use Rattle.lsmctl.proofs.RefusedLaws.{closed_answers, closed_refuses, memory_refuses}
use Rattle.lsmctl.proofs.calls.replay.Goals as goal

-- the steps are those of the script
script_replied : (steps : List (GivenStep Global)) (told : List ReplyFormat) (script : List Line) (before after : StoreView) (done : Result Output Refusal) → steps ≡ steps_after [] script
    → told ≡ told_after [] script → IfOk done (HasReplies (map asked_of steps) told before after)
    → IfOk done (HasReplies (map asked_of (steps_after [] script)) (told_after [] script) before after)
script_replied steps told script before after done same told_so replies =
    subst (λ (made : List (GivenStep Global)). IfOk done (HasReplies (map asked_of made) (told_after [] script) before after)) same
    (subst (λ (said : List ReplyFormat). IfOk done (HasReplies (map asked_of steps) said before after)) told_so replies)

pub returns-clause-gives : goal.returns-clause-gives
returns-clause-gives g c =
    let script = c.args.script.items in
    let steps = c.in_ok-steps.steps in
    closed_answers (HasReplies (map asked_of (steps_after [] script)) (told_after [] script)) c.in_ok-store.store c.replay-done.new.store _ _ c.in_ok-store.ensures.opened
    (script_replied steps.steps.items steps.told.items script c.in_ok-store.store c.replay-done.new.store c.replay-done.result c.in_ok-steps.ensures.steps c.in_ok-steps.ensures.told c.replay-done.ensures.tells)
    c.closed.ensures.answer

pub returns-clause-refused : goal.returns-clause-refused
returns-clause-refused g c = closed_refuses IsOpeningRefusal _ _ (memory_refuses _ c.replay-done.ensures.refused) c.closed.ensures.refused
