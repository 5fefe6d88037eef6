-- What a `Db` does, as steps of the machine, of which those of upkeep are put aside.
use Rattle.std.proofs.Common.{◌≡◌, inl, inr, ℕ, zero, suc, Bool, true, false, ◌||◌, nat_lt, List, [], ◌∷◌, map, length, cond, Option, Some, None, is_some, refl, ap, sym, subst, ◌∙◌}
use Rattle.std.specs.List.{AllByRecursion}
use Rattle.lsm_codec.specs.Guards.{Condition}
use Rattle.lsm_codec.specs.Map.{Operation}
use Rattle.lsm_device.specs.declared.refusal.Refusal.TheVariants.{Io, NoSpace}
use Rattle.lsm_store.specs.Backing.{StoreView}
use Rattle.lsm_machine.specs.Calls.{Call, Reply}
use Rattle.lsm_machine.specs.Calls.{Commit, CommitIf, Sync, SyncTo, Get, Scan, Snapshot, Release, Rotate, LogRoom, Number, Done, Value, Rows, Given, Handed, Refused, Unread, as_told}
use Rattle.lsm_machine.specs.Machine.{Step, Called, Worked}
use Rattle.lsm_store.specs.Serving.{Serves, reply_in}
use Rattle.lsm_machine.specs.State.{State, LiveSnapshot}
use Rattle.lsm_machine.specs.Work.{Take, Read, Ask, Accept, Write, Install, Drop}
use Rattle.lsm_upkeep.specs.Steps.{IsUpkeepStep, IsUpkept, UpkeepSteps}
use Rattle.lsm_upkeep.specs.Writing.{Writes, EndsWith, commit_of, has_puts, wants_room, without_log_full}
use Rattle.lsm_lives.specs.Asked.{Asked, Told, Own, Replied}
use Rattle.lsm_lives.specs.Batches.{act_asked, reply_told}
use Rattle.lsm_lives.specs.Replaying.{Replays, MakesEach}
use Rattle.corwaphi_lives.specs.Batches.{served_in, live_after, MayWantRoom, AreTold}
use Rattle.corwaphi_lives.specs.Leading.{DoesEach}
use Rattle.corwaphi_lives.proofs.Replies.{numbers, numbers_after, IsRead, told_as_replied}

-- ---- steps of the store's own

abbrev pub owned : List Step → List Asked
owned steps = map (λ step. Own step) steps

abbrev pub told_of_each : List Reply → List Told
told_of_each replies = map (λ reply. Replied (as_told reply)) replies

-- the calls among them, with their replies
abbrev pub served_by : List Step → List Reply → List (Call × Reply)
served_by steps replies = served_in (map act_asked (owned steps)) (map reply_told (told_of_each replies))

pub makes_each : (old : StoreView) (steps : List Step) (replies : List Reply) (new : StoreView) → Replays old steps replies new → MakesEach [] old (owned steps) (told_of_each replies) new
makes_each old [] [] new same = same
makes_each old (step ∷ steps) (reply ∷ replies) new (mid, serves, more) =
    ([], mid, record { reply = reply; serves = serves; told = (refl, refl) }, makes_each mid steps replies new more)
makes_each old [] (reply ∷ replies) new is = absurd is
makes_each old (step ∷ steps) [] new is = absurd is

-- one of upkeep is put aside
put_aside : (step : Step) (reply : Reply) → IsUpkeepStep step reply → (steps : List Step) (replies : List Reply) → served_by (step ∷ steps) (reply ∷ replies) ≡ served_by steps replies
put_aside (Called Rotate) reply is steps replies = refl
put_aside (Called other) reply is steps replies = absurd is
put_aside (Worked (Take asked)) reply is steps replies = refl
put_aside (Worked (Read job)) reply is steps replies = refl
put_aside (Worked (Ask job)) reply is steps replies = refl
put_aside (Worked (Accept job result)) reply is steps replies = refl
put_aside (Worked (Write job)) reply is steps replies = refl
put_aside (Worked (Install job)) reply is steps replies = refl
put_aside (Worked (Drop job)) reply is steps replies = refl

-- a call of a `Db` is not of upkeep
abbrev IsNoRotation : Call → Type 0
IsNoRotation Rotate = ⊥
IsNoRotation other = Unit {0}

stays_there : (call : Call) → IsNoRotation call → (reply : Reply) (steps : List Step) (replies : List Reply)
    → served_by (Called call ∷ steps) (reply ∷ replies) ≡ (call, as_told reply) ∷ served_by steps replies
stays_there Rotate is reply steps replies = absurd is
stays_there (Commit batch) is reply steps replies = refl
stays_there (CommitIf guards batch) is reply steps replies = refl
stays_there Sync is reply steps replies = refl
stays_there (SyncTo number) is reply steps replies = refl
stays_there (Get at key) is reply steps replies = refl
stays_there (Scan at from to limit) is reply steps replies = refl
stays_there Snapshot is reply steps replies = refl
stays_there (Release number) is reply steps replies = refl
stays_there LogRoom is reply steps replies = refl

-- Calls of a `Db` were told so, and came to these steps.
pub record AreSteps (live : List ℕ) (old : StoreView) (asked : List (Option Call)) (told : List Reply) (new : StoreView) : Type 0 where
  pub steps : List Step
  pub replies : List Reply
  pub replays : Replays old steps replies new
  pub told_so : AreTold live (served_by steps replies) asked told

-- after upkeep
pub behind_upkeep : (n : ℕ) (live : List ℕ) (old mid new : StoreView) (asked : List (Option Call)) (told : List Reply) → UpkeepSteps n old mid → AreSteps live mid asked told new → AreSteps live old asked told new
behind_upkeep zero live old mid new asked told same more = subst (λ (s : StoreView). AreSteps live s asked told new) same more
behind_upkeep (suc n) live old mid new asked told (next, step, reply, is, serves, first) more =
    let r = behind_upkeep n live next mid new asked told first more in
    record {
      steps = step ∷ r.steps;
      replies = reply ∷ r.replies;
      replays = (next, serves, r.replays);
      told_so = subst (λ (l : List (Call × Reply)). AreTold live l asked told) (sym (put_aside step reply is r.steps r.replies)) r.told_so;
    }

-- ---- snapshots

-- these are live
abbrev pub HasLive : List ℕ → StoreView → Type 0
HasLive live s = numbers s.state.snapshots ≡ live

pub upkept_live : (live : List ℕ) (old new : StoreView) → IsUpkept old new → HasLive live old → HasLive live new
upkept_live live old new upkept has = ap numbers upkept.keeps.snapshots ∙ has

called_live : (live : List ℕ) (old new : StoreView) (call : Call) (reply : Reply) → Serves old call reply new → HasLive live old → HasLive (live_after live call (as_told reply)) new
called_live live old new call reply serves has =
    ap (λ (s : State). numbers s.snapshots) serves.state ∙ numbers_after old.state call reply serves.admitted ∙ ap (λ (l : List ℕ). live_after l call (as_told reply)) has

-- ---- one call

-- what is told is no read of guards
abbrev pub IsPlain : Reply → Type 0
IsPlain reply = as_told reply ≡ reply

module _ (asked : List (Option Call)) (rest : List Reply) (mid new : StoreView) where
  -- how the calls after this one go on, whatever snapshots are live
  abbrev GoOn : Type 0
  GoOn = (live : List ℕ) → HasLive live mid → AreSteps live mid asked rest new

  -- a call that was served
  served : (live : List ℕ) (call : Call) → IsNoRotation call → (old : StoreView) (reply told : Reply) → Serves old call reply mid → told ≡ without_log_full (as_told reply)
      → HasLive live old → GoOn → AreSteps live old (Some call ∷ asked) (told ∷ rest) new
  served live call is old reply told serves so has more =
      let r = more (live_after live call (as_told reply)) (called_live live old mid call reply serves has) in
      record {
        steps = Called call ∷ r.steps;
        replies = reply ∷ r.replies;
        replays = (mid, serves, r.replays);
        told_so = inl (as_told reply, served_by r.steps r.replies, stays_there call is reply r.steps r.replies, so, r.told_so);
      }

  -- one that is no write
  read : (live : List ℕ) (call : Call) → IsRead call → IsNoRotation call → (old : StoreView) (told : Reply) → IsPlain told → Serves old call told mid
      → HasLive live old → GoOn → AreSteps live old (Some call ∷ asked) (told ∷ rest) new
  read live call is still old told plain serves has more =
      served live call still old told told serves (sym (ap without_log_full plain ∙ told_as_replied old.state call is told serves.admitted)) has more

  -- a batch that was not served
  unserved : (live : List ℕ) (call : Call) (told : Reply) → told ≡ Refused NoSpace → MayWantRoom live call → HasLive live mid → GoOn → AreSteps live mid (Some call ∷ asked) (told ∷ rest) new
  unserved live call told so wants has more =
      let r = more live has in
      record { steps = r.steps; replies = r.replies; replays = r.replays; told_so = inr (so, wants, r.told_so) }

  compacted : (live : List ℕ) (old : StoreView) (told : Reply) → IsUpkept old mid → told ≡ Done → HasLive live old → GoOn → AreSteps live old (None ∷ asked) (told ∷ rest) new
  compacted live old told upkept done has more =
      let r = more live (upkept_live live old mid upkept has) in
      behind_upkeep upkept.count live old mid new (None ∷ asked) (told ∷ rest) upkept.steps
      (record { steps = r.steps; replies = r.replies; replays = r.replays; told_so = (done, r.told_so) })

-- ---- a write

-- the reply of which this is told is no read of guards either
plain_reply : (reply told : Reply) → told ≡ without_log_full reply → IsPlain told → IsPlain reply
plain_reply Unread told so plain = absurd (none (subst IsPlain so plain))
  where
    none : IsPlain Unread → ⊥
    none is = cc
plain_reply (Refused e) told so plain = refl
plain_reply (Number n) told so plain = refl
plain_reply Done told so plain = refl
plain_reply (Value v) told so plain = refl
plain_reply (Rows page) told so plain = refl
plain_reply (Given job) told so plain = refl
plain_reply (Handed input) told so plain = refl

-- and what is told of the reply to the commit is that
told_in : (guards : Option (List Condition)) (batch : List Operation) (s : State) (reply : Reply) → IsPlain reply → as_told (reply_in (commit_of guards batch) s reply) ≡ reply
told_in None batch s reply plain = plain
told_in (Some guards) batch s (Refused Io) plain = by (is_some s.stopped)
  where
    by : (b : Bool) → as_told (cond b (Refused Io) Unread) ≡ Refused Io
    by true = refl
    by false = refl
told_in (Some guards) batch s (Refused e) plain = plain
told_in (Some guards) batch s (Number n) plain = plain
told_in (Some guards) batch s Done plain = plain
told_in (Some guards) batch s (Value v) plain = plain
told_in (Some guards) batch s (Rows page) plain = plain
told_in (Some guards) batch s (Given job) plain = plain
told_in (Some guards) batch s (Handed input) plain = plain
told_in (Some guards) batch s Unread plain = plain

no_rotation : (guards : Option (List Condition)) (batch : List Operation) → IsNoRotation (commit_of guards batch)
no_rotation None batch = tt
no_rotation (Some guards) batch = tt

length-numbers : (snapshots : List LiveSnapshot) → length (numbers snapshots) ≡ length snapshots
length-numbers [] = refl
length-numbers (snapshot ∷ rest) = ap suc (length-numbers rest)

may_want : (guards : Option (List Condition)) (batch : List Operation) (live : List ℕ) (s : StoreView) → wants_room batch s.state ≡ true → HasLive live s → MayWantRoom live (commit_of guards batch)
may_want guards batch live s wants has = by guards
  where
    wanted : (has_puts batch || nat_lt 0 (length live)) ≡ true
    wanted = ap (λ (n : ℕ). has_puts batch || nat_lt 0 n) (sym (ap (λ (l : List ℕ). length l) has) ∙ length-numbers s.state.snapshots) ∙ wants

    by : (g : Option (List Condition)) → MayWantRoom live (commit_of g batch)
    by None = wanted
    by (Some g) = wanted

written : (guards : Option (List Condition)) (batch : List Operation) (live : List ℕ) (asked : List (Option Call)) (rest : List Reply) (old mid new : StoreView) (told : Reply) → IsPlain told
    → Writes guards batch old told mid → HasLive live old → ((live : List ℕ) → HasLive live mid → AreSteps live mid asked rest new)
    → AreSteps live old (Some (commit_of guards batch) ∷ asked) (told ∷ rest) new
written guards batch live asked rest old mid new told plain writes has more =
    behind_upkeep writes.upkeep.count live old writes.kept new (Some (commit_of guards batch) ∷ asked) (told ∷ rest) writes.upkeep.steps (by writes.ends)
  where
    kept_has : HasLive live writes.kept
    kept_has = upkept_live live old writes.kept writes.upkeep has

    by : EndsWith guards batch old writes.kept told mid → AreSteps live writes.kept (Some (commit_of guards batch) ∷ asked) (told ∷ rest) new
    by (inl (reply, serves, so)) =
        served asked rest mid new live (commit_of guards batch) (no_rotation guards batch) writes.kept (reply_in (commit_of guards batch) mid.state reply) told serves
        (so ∙ ap without_log_full (sym (told_in guards batch mid.state reply (plain_reply reply told so plain)))) kept_has more
    by (inr (so, none, same)) =
        subst (λ (s : StoreView). AreSteps live s (Some (commit_of guards batch) ∷ asked) (told ∷ rest) new) same
        (unserved asked rest mid new live (commit_of guards batch) told so
        (may_want guards batch live writes.kept none.wants kept_has) (subst (HasLive live) (sym same) kept_has) more)

-- ---- calls one after another

abbrev pub ArePlain : List Reply → Type 0
ArePlain told = AllByRecursion IsPlain told

pub steps_of : (live : List ℕ) (asked : List (Option Call)) (told : List Reply) (old new : StoreView) → ArePlain told → HasLive live old → DoesEach old asked told new → AreSteps live old asked told new
steps_of live [] [] old new plain has same = record { steps = []; replies = []; replays = same; told_so = refl }
steps_of live (None ∷ asked) (told ∷ rest) old new plain has (mid, (upkept, done), more) = compacted asked rest mid new live old told upkept done has (λ l h. steps_of l asked rest mid new plain.1 h more)
steps_of live (Some (Commit batch) ∷ asked) (told ∷ rest) old new plain has (mid, writes, more) =
    written None batch live asked rest old mid new told plain.0 writes has (λ l h. steps_of l asked rest mid new plain.1 h more)
steps_of live (Some (CommitIf guards batch) ∷ asked) (told ∷ rest) old new plain has (mid, writes, more) =
    written (Some guards) batch live asked rest old mid new told plain.0 writes has (λ l h. steps_of l asked rest mid new plain.1 h more)
steps_of live (Some Rotate ∷ asked) (told ∷ rest) old new plain has (mid, none, more) = absurd none
steps_of live (Some Sync ∷ asked) (told ∷ rest) old new plain has (mid, serves, more) = read asked rest mid new live Sync tt tt old told plain.0 serves has (λ l h. steps_of l asked rest mid new plain.1 h more)
steps_of live (Some (SyncTo number) ∷ asked) (told ∷ rest) old new plain has (mid, serves, more) =
    read asked rest mid new live (SyncTo number) tt tt old told plain.0 serves has (λ l h. steps_of l asked rest mid new plain.1 h more)
steps_of live (Some (Get at key) ∷ asked) (told ∷ rest) old new plain has (mid, serves, more) =
    read asked rest mid new live (Get at key) tt tt old told plain.0 serves has (λ l h. steps_of l asked rest mid new plain.1 h more)
steps_of live (Some (Scan at from to limit) ∷ asked) (told ∷ rest) old new plain has (mid, serves, more) =
    read asked rest mid new live (Scan at from to limit) tt tt old told plain.0 serves has (λ l h. steps_of l asked rest mid new plain.1 h more)
steps_of live (Some Snapshot ∷ asked) (told ∷ rest) old new plain has (mid, serves, more) =
    read asked rest mid new live Snapshot tt tt old told plain.0 serves has (λ l h. steps_of l asked rest mid new plain.1 h more)
steps_of live (Some (Release number) ∷ asked) (told ∷ rest) old new plain has (mid, serves, more) =
    read asked rest mid new live (Release number) tt tt old told plain.0 serves has (λ l h. steps_of l asked rest mid new plain.1 h more)
steps_of live (Some LogRoom ∷ asked) (told ∷ rest) old new plain has (mid, serves, more) =
    read asked rest mid new live LogRoom tt tt old told plain.0 serves has (λ l h. steps_of l asked rest mid new plain.1 h more)
steps_of live [] (told ∷ rest) old new plain has is = absurd is
steps_of live (call ∷ asked) [] old new plain has is = absurd is
