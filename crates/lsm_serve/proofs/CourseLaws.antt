-- Answers to lines are a run.
use Rattle.std.proofs.Common.{◌≡◌, ◌∙◌, ℕ, Bool, true, false, List, [], ◌∷◌, ◌++◌, Option, Some, None, inl, inr, refl, sym, ap, subst}
use Rattle.std.specs.Prelude.{is_some, if◌then◌else◌}
use Rattle.lsm_codec.specs.Guards.{Condition}
use Rattle.lsm_codec.specs.Map.{Operation}
use Rattle.lsm_device.specs.declared.refusal.Refusal.TheVariants.{Io, LogFull, NoSpace}
use Rattle.lsm_lives.specs.Replaying.{GoOn, Replays}
use Rattle.lsm_language.specs.Replies.{counted_by}
use Rattle.lsm_store.specs.Backing.{StoreView}
use Rattle.lsm_machine.specs.Calls.{Call, Reply, Commit, CommitIf, Sync, SyncTo, Get, Scan, Snapshot, Release, Rotate, LogRoom, Number, Done, Value, Rows, Given, Handed, Refused, Unread, as_told}
use Rattle.lsm_machine.specs.Machine.{Step, Called}
use Rattle.lsm_store.specs.Serving.{Serves, reply_in}
use Rattle.lsm_machine.specs.State.{State}
use Rattle.lsm_upkeep.specs.Writing.{EndsWith, commit_of, without_log_full}
use Rattle.lsm_serve.specs.Asking.{Meaning, asks_call, asks_no_batch, asks_numbers, asks_compaction, asks_nothing, meaning_of}
use Rattle.lsm_serve.specs.Committing.{MakesCall, ServesTold, WritesTold}
use Rattle.lsm_serve.specs.Answering.{Answered, Answers, AnswersLine, AnswersLines, Outcome, tells}
use Rattle.lsm_serve.specs.Course.{AreFor, AreForLine, AreForLines, IsCourse, told_as}
use Rattle.lsm_serve.proofs.Passing.{Passes, passes, replays-append}

-- the steps of one line
record IsLine (Of : List Step → List Reply → Type 0) (before after : StoreView) : Type 0 where
  steps : List Step
  replies : List Reply
  of_line : Of steps replies
  replays : Replays before steps replies after

-- ---- a call

module _ (call : Call) (told : Reply) (outcome : Outcome) (tell : outcome ≡ tells (counted_by call) told) where
  called : (before kept after : StoreView) → Passes before kept → (reply : Reply) → Serves kept call reply after → told ≡ told_as call reply → IsLine (AreFor (asks_call call) outcome) before after
  called before kept after p reply serves is = record {
    steps = p.steps ++ Called call ∷ [];
    replies = p.replies ++ reply ∷ [];
    of_line = inl (record {
      before = p.steps;
      earlier = p.replies;
      reply = reply;
      all = refl;
      replied = refl;
      upkeep = p.upkeep;
      told = tell ∙ ap (tells (counted_by call)) is;
    });
    replays = replays-append p.steps p.replies before kept after (Called call ∷ []) (reply ∷ []) p.replays (after, serves, refl);
  }

  not_called : (before kept after : StoreView) → Passes before kept → told ≡ Refused NoSpace → after ≡ kept → IsLine (AreFor (asks_call call) outcome) before after
  not_called before kept after p so same = record {
    steps = p.steps;
    replies = p.replies;
    of_line = inr (p.upkeep, tell ∙ ap (tells (counted_by call)) so);
    replays = subst (λ (s : StoreView). Replays before p.steps p.replies s) (sym same) p.replays;
  }

  -- with no upkeep before
  served : (before after : StoreView) (s : ServesTold call before told after) → told_as call s.reply ≡ as_told s.reply → IsLine (AreFor (asks_call call) outcome) before after
  served before after s plain = called before before after (record { steps = []; replies = []; upkeep = tt; replays = refl }) s.reply s.serves (s.is ∙ sym plain)

-- ---- a commit

-- what is told of a commit is told of its reply
told_full : (reply : Reply) → as_told (without_log_full reply) ≡ without_log_full (as_told reply)
told_full (Refused LogFull) = refl
told_full (Refused other) = refl
told_full (Number n) = refl
told_full Done = refl
told_full (Value v) = refl
told_full (Rows page) = refl
told_full (Given job) = refl
told_full (Handed input) = refl
told_full Unread = refl

told_unread : (guards : List Condition) (batch : List Operation) (s : State) (reply : Reply) → as_told (reply_in (CommitIf guards batch) s reply) ≡ as_told reply
told_unread guards batch s (Refused Io) = by (is_some s.stopped)
  where
    by : (b : Bool) → as_told (if b then Refused Io else Unread) ≡ Refused Io
    by true = refl
    by false = refl
told_unread guards batch s (Refused other) = refl
told_unread guards batch s (Number n) = refl
told_unread guards batch s Done = refl
told_unread guards batch s (Value v) = refl
told_unread guards batch s (Rows page) = refl
told_unread guards batch s (Given job) = refl
told_unread guards batch s (Handed input) = refl
told_unread guards batch s Unread = refl

told_commit : (guards : Option (List Condition)) (batch : List Operation) (s : State) (reply : Reply)
    → as_told (without_log_full reply) ≡ told_as (commit_of guards batch) (reply_in (commit_of guards batch) s reply)
told_commit None batch s reply = told_full reply
told_commit (Some guards) batch s reply = told_full reply ∙ ap without_log_full (sym (told_unread guards batch s reply))

written : (guards : Option (List Condition)) (batch : List Operation) (told : Reply) (outcome : Outcome) → outcome ≡ tells (counted_by (commit_of guards batch)) told → (before after : StoreView)
    → WritesTold guards batch before told after → IsLine (AreFor (asks_call (commit_of guards batch)) outcome) before after
written guards batch told outcome tell before after w = by w.writes.ends
  where
    upkeep : Passes before w.writes.kept
    upkeep = passes before w.writes.kept w.writes.upkeep

    by : EndsWith guards batch before w.writes.kept w.reply after → IsLine (AreFor (asks_call (commit_of guards batch)) outcome) before after
    by (inl (reply, serves, is)) =
        called (commit_of guards batch) told outcome tell before w.writes.kept after upkeep (reply_in (commit_of guards batch) after.state reply) serves
        (w.is ∙ ap as_told is ∙ told_commit guards batch after.state reply)
    by (inr (so, wants, same)) = not_called (commit_of guards batch) told outcome tell before w.writes.kept after upkeep (w.is ∙ ap as_told so) same

made : (call : Call) (told : Reply) (outcome : Outcome) → outcome ≡ tells (counted_by call) told → (before after : StoreView) → MakesCall call before told after
    → IsLine (AreFor (asks_call call) outcome) before after
made (Commit batch) told outcome tell before after w = written None batch told outcome tell before after w
made (CommitIf guards batch) told outcome tell before after w = written (Some guards) batch told outcome tell before after w
made Sync told outcome tell before after s = served Sync told outcome tell before after s refl
made (SyncTo number) told outcome tell before after s = served (SyncTo number) told outcome tell before after s refl
made (Get at key) told outcome tell before after s = served (Get at key) told outcome tell before after s refl
made (Scan at from to limit) told outcome tell before after s = served (Scan at from to limit) told outcome tell before after s refl
made Snapshot told outcome tell before after s = served Snapshot told outcome tell before after s refl
made (Release number) told outcome tell before after s = served (Release number) told outcome tell before after s refl
made Rotate told outcome tell before after s = served Rotate told outcome tell before after s refl
made LogRoom told outcome tell before after s = served LogRoom told outcome tell before after s refl

-- ---- a line

nothing_made : (Of : List Step → List Reply → Type 0) (before after : StoreView) → Of [] [] → after ≡ before → IsLine Of before after
nothing_made Of before after none same = record { steps = []; replies = []; of_line = none; replays = same }

answered_for : (m : Meaning) (before : StoreView) (outcome : Outcome) (after : StoreView) → Answers m before outcome after → IsLine (AreFor m outcome) before after
answered_for (asks_call call) before outcome after (told, makes, tell) = made call told outcome tell before after makes
answered_for (asks_no_batch refusal) before outcome after (tell, same) = nothing_made (AreFor (asks_no_batch refusal) outcome) before after (refl, refl) same
answered_for asks_numbers before outcome after (tell, same) = nothing_made (AreFor asks_numbers outcome) before after (refl, refl) same
answered_for asks_compaction before outcome after (whole, tell) =
    let p = passes before after whole.upkeep in
    record { steps = p.steps; replies = p.replies; of_line = p.upkeep; replays = p.replays }
answered_for (asks_nothing flaw) before outcome after (text, says, tell, same) = nothing_made (AreFor (asks_nothing flaw) outcome) before after (refl, refl) same

line_for : (before : StoreView) (line : List ℕ) (answered : Answered) (after : StoreView) → AnswersLine before line answered after → IsLine (AreForLine line answered) before after
line_for before line answered after (tag, inl answers) =
    let l = answered_for (meaning_of line) before answered.outcome after answers in
    record { steps = l.steps; replies = l.replies; of_line = inl l.of_line; replays = l.replays }
line_for before line answered after (tag, inr (none, same)) = nothing_made (AreForLine line answered) before after (inr (none, refl, refl)) same

-- ---- lines

lines_for : (lines : List (List ℕ)) (answers : List Answered) (before after : StoreView) → AnswersLines before lines answers after → IsLine (AreForLines lines answers) before after
lines_for [] [] before after same = nothing_made (AreForLines [] []) before after (refl, refl) same
lines_for (line ∷ lines) (answered ∷ answers) before after (mid, is, rest) =
    let l = line_for before line answered mid is in
    let r = lines_for lines answers mid after rest in
    record {
      steps = l.steps ++ r.steps;
      replies = l.replies ++ r.replies;
      of_line = (l.steps, r.steps, l.replies, r.replies, refl, refl, l.of_line, r.of_line);
      replays = replays-append l.steps l.replies before mid after r.steps r.replies l.replays r.replays;
    }
lines_for [] (answered ∷ answers) before after none = absurd none
lines_for (line ∷ lines) [] before after none = absurd none

-- where steps one after another go on
pub course : ((old : StoreView) (steps : List Step) (replies : List Reply) (new : StoreView) → Replays old steps replies new → GoOn old steps replies new)
    → (before : StoreView) (lines : List (List ℕ)) (answers : List Answered) (after : StoreView) → AnswersLines before lines answers after → IsCourse before lines answers after
course goes before lines answers after a =
    let l = lines_for lines answers before after a in
    record { steps = l.steps; replies = l.replies; for_lines = l.of_line; replays = l.replays; go_on = goes before l.steps l.replies after l.replays }
