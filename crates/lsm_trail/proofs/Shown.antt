-- What an entry shows.
use Rattle.std.proofs.Common.{◌≡◌, ℕ, Bool, true, false, cond, is_some, refl, sym, ◌∙◌}
use Rattle.std.specs.Prelude.{◌&&◌, []}
use Rattle.lsm_lives.specs.Asked.{Asked, Told, Own, Build, AcceptBuilt, Replied, Built}
use Rattle.lsm_lives.specs.Calls.{reply_of, told_of}
use Rattle.lsm_lives.specs.declared.calls.Reply.{Reply as GivenReply}
use Rattle.lsm_lives.specs.declared.calls.Reply.TheVariants as reply
use Rattle.lsm_merge.specs.Inputs.{MergeInput}
use Rattle.lsm_merge.specs.Results.{MergeResult}
use Rattle.lsm_machine.specs.Calls.{Reply}
use Rattle.lsm_device.specs.declared.refusal.Refusal.TheVariants.{Io}
use Rattle.lsm_lives.proofs.Made.{called_told}
use Rattle.lsm_machine.specs.Calls.{Commit, CommitIf, Sync, SyncTo, Get, Scan, Snapshot, Release, Rotate, LogRoom, Number, Done, Value, Rows, Given, Handed, Refused, Unread, as_told}
use Rattle.lsm_machine.specs.Machine.{Step, Called, Worked}
use Rattle.lsm_store.specs.Serving.{reply_in}
use Rattle.lsm_machine.specs.State.{State}
use Rattle.lsm_trail.specs.Entries.{Beside, reply_behind, event_shown, is_build, is_number, MayBeEntered, IsOfStep, told_in}
use Rattle.lsm_trail.specs.History.{is_lent}

-- an input with no tables, and none at all
abbrev pub lent : MergeInput → MergeResult
lent input = record { input = input; divisions = []; images = [] }

abbrev pub no_result : MergeResult
no_result = lent (record { runs = []; cuts = []; bottom = false })

pub shown_client : (client : ℕ) (asked : Asked) (told : Reply) (b : Beside) → (event_shown client asked told b).client ≡ client
shown_client client (Own step) told b = refl
shown_client client (Build job parts) (Number n) b = refl
shown_client client (Build job parts) Done b = refl
shown_client client (Build job parts) (Value v) b = refl
shown_client client (Build job parts) (Rows page) b = refl
shown_client client (Build job parts) (Given taken) b = refl
shown_client client (Build job parts) (Handed input) b = refl
shown_client client (Build job parts) (Refused e) b = refl
shown_client client (Build job parts) Unread b = refl
shown_client client (AcceptBuilt job result) told b = refl

-- a build that may be entered is in 4 parts
parts_are : (job parts : ℕ) (told : Told) → MayBeEntered (Build job parts) told → parts ≡ 4
parts_are job parts (Replied reply) may = may
parts_are job parts (Built result tables) may = absurd may

pub shown_step : (client : ℕ) (asked : Asked) (reply : Reply) (b : Beside) (told : Told) → MayBeEntered asked told → IsOfStep (event_shown client asked reply b) asked
shown_step client (Own step) reply b told may = refl
shown_step client (Build job parts) (Number n) b told may = (parts_are job parts told may, refl)
shown_step client (Build job parts) Done b told may = (parts_are job parts told may, refl)
shown_step client (Build job parts) (Value v) b told may = (parts_are job parts told may, refl)
shown_step client (Build job parts) (Rows page) b told may = (parts_are job parts told may, refl)
shown_step client (Build job parts) (Given taken) b told may = (parts_are job parts told may, refl)
shown_step client (Build job parts) (Handed input) b told may = (parts_are job parts told may, refl)
shown_step client (Build job parts) (Refused e) b told may = (parts_are job parts told may, refl)
shown_step client (Build job parts) Unread b told may = (parts_are job parts told may, refl)
shown_step client (AcceptBuilt job result) reply b told may = (refl, (b.made, refl))

-- no reply as a value lends an input
none_lent : {A : Type 0} (told : GivenReply A) → is_lent (reply_of told) ≡ false
none_lent (reply.Number n) = refl
none_lent reply.Done = refl
none_lent (reply.Value v) = refl
none_lent (reply.Page page) = refl
none_lent (reply.Taken job) = refl
none_lent (reply.Built result tables) = refl
none_lent (reply.Refused e) = refl

-- and so it is of the reply of which that was told
behind_lent : (step : Step) (s : State) (told : Reply) → is_lent told ≡ false → is_lent (reply_behind step s told) ≡ false
behind_lent (Worked piece) s told none = none
behind_lent (Called (CommitIf guards batch)) s (Refused Io) none = by (is_some s.stopped)
  where
    by : (b : Bool) → is_lent (cond b (Refused Io) Unread) ≡ false
    by true = refl
    by false = refl
behind_lent (Called (CommitIf guards batch)) s (Refused e) none = none
behind_lent (Called (CommitIf guards batch)) s (Number n) none = none
behind_lent (Called (CommitIf guards batch)) s Done none = none
behind_lent (Called (CommitIf guards batch)) s (Value v) none = none
behind_lent (Called (CommitIf guards batch)) s (Rows page) none = none
behind_lent (Called (CommitIf guards batch)) s (Given job) none = none
behind_lent (Called (CommitIf guards batch)) s (Handed input) none = none
behind_lent (Called (CommitIf guards batch)) s Unread none = none
behind_lent (Called (Commit batch)) s told none = none
behind_lent (Called Sync) s told none = none
behind_lent (Called (SyncTo number)) s told none = none
behind_lent (Called (Get at key)) s told none = none
behind_lent (Called (Scan at from to limit)) s told none = none
behind_lent (Called Snapshot) s told none = none
behind_lent (Called (Release number)) s told none = none
behind_lent (Called Rotate) s told none = none
behind_lent (Called LogRoom) s told none = none

pub shown_lent : {A : Type 0} (client : ℕ) (asked : Asked) (told : GivenReply A) (b : Beside) → MayBeEntered asked (told_of told) → (is_build asked && is_number (told_of told)) ≡ is_lent (event_shown client asked (reply_of told) b).reply
shown_lent client (Own step) told b may = sym (behind_lent step b.machine.state (reply_of told) (none_lent told))
shown_lent client (Build job parts) (reply.Number n) b may = refl
shown_lent client (Build job parts) reply.Done b may = refl
shown_lent client (Build job parts) (reply.Value v) b may = refl
shown_lent client (Build job parts) (reply.Page page) b may = refl
shown_lent client (Build job parts) (reply.Taken job') b may = refl
shown_lent client (Build job parts) (reply.Built result tables) b may = absurd may
shown_lent client (Build job parts) (reply.Refused e) b may = refl
shown_lent client (AcceptBuilt job result) told b may = sym (none_lent told)

-- what is told of a step other than a build that was lent an input is its reply
told_so : {A : Type 0} (asked : Asked) (told : GivenReply A) (result : ℕ) → MayBeEntered asked (told_of told) → told_of told ≡ told_in (reply_of told) result
told_so asked (reply.Number n) result may = refl
told_so asked reply.Done result may = refl
told_so asked (reply.Value v) result may = refl
told_so asked (reply.Page page) result may = refl
told_so asked (reply.Taken job) result may = refl
told_so (Own step) (reply.Built n tables) result may = absurd may
told_so (Build job parts) (reply.Built n tables) result may = absurd may
told_so (AcceptBuilt job of) (reply.Built n tables) result may = absurd may
told_so asked (reply.Refused e) result may = refl

-- what is told of no build is its reply
is_reply : {A : Type 0} (step : Step) (told : GivenReply A) → MayBeEntered (Own step) (told_of told) → told_of told ≡ Replied (reply_of told)
is_reply step (reply.Number n) may = refl
is_reply step reply.Done may = refl
is_reply step (reply.Value v) may = refl
is_reply step (reply.Page page) may = refl
is_reply step (reply.Taken job) may = refl
is_reply step (reply.Built n tables) may = absurd may
is_reply step (reply.Refused e) may = refl

-- a reply that lends nothing is told so
told_plainly : (reply : Reply) (result : ℕ) → is_lent reply ≡ false → Replied (as_told reply) ≡ told_in reply result
told_plainly (Number n) result none = refl
told_plainly Done result none = refl
told_plainly (Value v) result none = refl
told_plainly (Rows page) result none = refl
told_plainly (Given taken) result none = refl
told_plainly (Handed input) result none = absurd (cc none)
told_plainly (Refused e) result none = refl
told_plainly Unread result none = refl

pub shown_told : {A : Type 0} (client : ℕ) (asked : Asked) (told : GivenReply A) (b : Beside) → MayBeEntered asked (told_of told)
    → told_of told ≡ told_in (event_shown client asked (reply_of told) b).reply (event_shown client asked (reply_of told) b).result
shown_told client (Own (Called call)) told b may =
    let behind = reply_in call b.machine.state (reply_of told) in
    called_told told call b.machine.state (is_reply (Called call) told may) ∙ told_plainly behind 0 (behind_lent (Called call) b.machine.state (reply_of told) (none_lent told))
shown_told client (Own (Worked piece)) told b may = told_so (Own (Worked piece)) told 0 may
shown_told client (Build job parts) (reply.Number n) b may = refl
shown_told client (Build job parts) reply.Done b may = refl
shown_told client (Build job parts) (reply.Value v) b may = refl
shown_told client (Build job parts) (reply.Page page) b may = refl
shown_told client (Build job parts) (reply.Taken job') b may = refl
shown_told client (Build job parts) (reply.Built result tables) b may = absurd may
shown_told client (Build job parts) (reply.Refused e) b may = refl
shown_told client (AcceptBuilt job result) told b may = told_so (AcceptBuilt job result) told result may
