-- A counter that is only raised under guards is the number of commits that were answered with a number.
use Rattle.std.proofs.Common.{◌≡◌, ◌<◌, ◌^◌, ℕ, zero, suc, ◌+◌, ◌==◌, Bool, true, false, cond, not, ◌&&◌, List, [], ◌∷◌, ◌++◌, length, Option, Some, None, refl, sym, ap, subst, ◌∙◌, arith, append-nil}
use Rattle.std.specs.Prelude.{is_some, nat_lt, if◌then◌else◌}
use Rattle.std.specs.Cmp.Lexicographic.{nat_list_cmp_total}
use Rattle.std.specs.FinMap as finite
use Rattle.std.specs.FinMap.{get-empty, get-insert}
use Rattle.byteorder.specs.Endian.{big_number, big_bytes}
use Rattle.byteorder.specs.Numbers.{big_number-reads_back}
use Rattle.lsm_codec.specs.Guards.{Condition, is_met}
use Rattle.lsm_codec.specs.Keys.{Bytes, byte_order}
use Rattle.lsm_codec.specs.Map.{Map, Operation, apply}
use Rattle.lsm_codec.specs.Versions.{is_same_key}
use Rattle.lsm_codec.proofs.KeyOrder.{key_itself}
use Rattle.lsm_device.specs.declared.refusal.Refusal.{Refusal}
use Rattle.lsm_device.specs.declared.refusal.Refusal.TheVariants.{Io, Stopped, TooManyGuards, Exhausted, LogFull, GuardFailed}
use Rattle.lsm_machine.specs.Calls.{Call, Reply}
use Rattle.lsm_machine.specs.Calls.{CommitIf, Get, Release, Number, Done, Value, Rows, Given, Handed, Refused, Unread}
use Rattle.lsm_machine.specs.Effects.{after, answer, decided, reply_by}
use Rattle.lsm_machine.specs.Machine.{Machine, Step, Called}
use Rattle.lsm_root.specs.CrashState.{formatted as empty_store, last_number}
use Rattle.lsm_machine.specs.Crash.{reopened}
use Rattle.lsm_machine.specs.RecoveryPoints.{batch_count, last_map, present_map}
use Rattle.lsm_machine.specs.Refusals.{first_refusal, full_refusal, most_guards}
use Rattle.lsm_machine.specs.Run.{Allows, AllowsStep, Run, last_machine, next, next_machine}
use Rattle.lsm_machine.specs.State.{State, fits}
use Rattle.lsm_trail.specs.Entries.{is_number, told_in}
use Rattle.lsm_store.specs.Backing.{StoreView}
use Rattle.lsm_trail.specs.Begins.{Begin, base_of, first_machine}
use Rattle.lsm_trail.specs.History.{Event, TrailView, machine_behind, replies_of, steps_of}
use Rattle.lsm_trail.specs.Knowledge.{Known}
use Rattle.lsm_shared.specs.Sessions.{IsEnded, released}
use Rattle.lsm_storm.specs.Counters.{AreCounting, IsCountingStep, Raises, count_said, counted_in, counter_key, next_count, unchanged}
use Rattle.lsm_storm.specs.Storms.{IsFresh, accepted_in, is_commit}
use Rattle.lsm_machine.proofs.AnsweredWork.{values_same}

-- the counter of a state
abbrev pub counter : State → ℕ
counter s = counted_in (present_map s.points)

none_more : (n : ℕ) → n ≡ 0 + n
none_more n = omega arith

-- ---- the counter of a map

-- what eight bytes say
said_back : (count : ℕ) → count < 2 ^ 64 → count_said (Some (big_bytes 8 count)) ≡ count
said_back count fits = ap (λ (bytes : List ℕ). big_number 8 bytes) (sym (append-nil (big_bytes 8 count))) ∙ big_number-reads_back 8 count [] fits

-- a batch that gives it a count
counted_next : (m : Map) (count : ℕ) → count < 2 ^ 64 → counted_in (apply m (next_count count)) ≡ count
counted_next m count fits =
    let got : finite.get (apply m (next_count count)) counter_key ≡ Some (big_bytes 8 count) =
    get-insert nat_list_cmp_total m counter_key (big_bytes 8 count) counter_key ∙ ap (λ (b : Bool). cond b (Some (big_bytes 8 count)) (finite.get m counter_key)) (key_itself counter_key) in
    ap count_said got ∙ said_back count fits

-- ---- the guard

-- after four other tests, one that holds refuses
last_test : (s : State) (call : Call) (n : ℕ) (a b c d g : Bool) (p q r t u : Refusal)
    → Number n ≡ reply_by s call (first_refusal ((a, p) ∷ (b, q) ∷ (c, r) ∷ (d, t) ∷ (not g, u) ∷ [])) → g ≡ true
last_test s call n true b c d g p q r t u e = cc
last_test s call n false true c d g p q r t u e = cc
last_test s call n false false true d g p q r t u e = cc
last_test s call n false false false true g p q r t u e = cc
last_test s call n false false false false true p q r t u e = refl
last_test s call n false false false false false p q r t u e = cc

-- where a commit is answered with a number, its guard was true
was_met : (s : State) (old : Option Bytes) (batch : List Operation) (n : ℕ) → Number n ≡ decided s (CommitIf (unchanged old ∷ []) batch)
    → finite.get (present_map s.points) counter_key ≡ old
was_met s old batch n e =
    let call = CommitIf (unchanged old ∷ []) batch in
    let m = present_map s.points in
    values_same (finite.get m counter_key) old
    (last_test s call n (is_some s.stopped) (nat_lt most_guards (length (unchanged old ∷ []))) (batch_count s.points == last_number) (not (fits s batch)) (is_met m (unchanged old))
    Stopped TooManyGuards Exhausted LogFull (GuardFailed 0) e)

-- ---- steps

last_of : (m next : Map) (maps : List Map) → last_map m (maps ++ next ∷ []) ≡ next
last_of m next [] = refl
last_of m next (x ∷ maps) = last_of x next maps

-- it was raised by one
raised : (s : State) (guards : List Condition) (batch : List Operation) (n : ℕ) → Raises guards batch → Number n ≡ decided s (CommitIf guards batch)
    → counter (after s (CommitIf guards batch)) ≡ 1 + counter s
raised s guards batch n r e =
    let met = was_met s r.old batch n (subst (λ (g : List Condition). Number n ≡ decided s (CommitIf g batch)) r.guarded e) in
    let before : counter s ≡ count_said r.old = ap count_said met in
    let raised_to : counter (after s (CommitIf guards batch)) ≡ r.count =
    ap counted_in (last_of s.points.first (apply (present_map s.points) batch) s.points.later)
    ∙ ap (λ (b : List Operation). counted_in (apply (present_map s.points) b)) r.puts ∙ counted_next (present_map s.points) r.count r.fits in
    omega (arith, raised_to, before, r.next)

-- no such reply is decided
not_decided : (s : State) (guards : List Condition) (batch : List Operation) (reply : Reply) (o : Option Refusal) → ((e : Refusal) → reply ≡ Refused e → ⊥)
    → ((n : ℕ) → reply ≡ Number n → ⊥) → reply ≡ reply_by s (CommitIf guards batch) o → ⊥
not_decided s guards batch reply None no_refusal no_number e = no_number _ e
not_decided s guards batch reply (Some r) no_refusal no_number e = no_refusal r e

commit_counts : (s : State) (guards : List Condition) (batch : List Operation) (reply : Reply) (result : ℕ) → Raises guards batch → Allows s (CommitIf guards batch) reply
    → counter (next s (CommitIf guards batch) reply) ≡ (if is_number (told_in reply result) then 1 else 0) + counter s
commit_counts s guards batch (Number n) result r allows = raised s guards batch n r allows
commit_counts s guards batch Done result r allows = absurd (not_decided s guards batch Done (full_refusal s (CommitIf guards batch)) (λ e x. cc) (λ n x. cc) allows)
commit_counts s guards batch (Value value) result r allows = absurd (not_decided s guards batch (Value value) (full_refusal s (CommitIf guards batch)) (λ e x. cc) (λ n x. cc) allows)
commit_counts s guards batch (Rows page) result r allows = absurd (not_decided s guards batch (Rows page) (full_refusal s (CommitIf guards batch)) (λ e x. cc) (λ n x. cc) allows)
commit_counts s guards batch (Given job) result r allows = absurd (not_decided s guards batch (Given job) (full_refusal s (CommitIf guards batch)) (λ e x. cc) (λ n x. cc) allows)
commit_counts s guards batch (Handed input) result r allows = absurd (not_decided s guards batch (Handed input) (full_refusal s (CommitIf guards batch)) (λ e x. cc) (λ n x. cc) allows)
commit_counts s guards batch (Refused Io) result r allows = none_more (counter s)
commit_counts s guards batch (Refused e) result r allows = none_more (counter s)
commit_counts s guards batch Unread result r allows = none_more (counter s)

step_counts : (m : Machine) (step : Step) (reply : Reply) (result : ℕ) → IsCountingStep step → AllowsStep m step reply
    → counter (next_machine m step reply).state ≡ (if is_commit step && is_number (told_in reply result) then 1 else 0) + counter m.state
step_counts m (Called (CommitIf guards batch)) reply result is allows = commit_counts m.state guards batch reply result is allows
step_counts m (Called (Get at key)) (Refused Io) result is allows = none_more (counter m.state)
step_counts m (Called (Get at key)) (Refused e) result is allows = none_more (counter m.state)
step_counts m (Called (Get at key)) reply result is allows = none_more (counter m.state)
step_counts m step reply result is allows = absurd is

-- ---- histories

pub history_counts : (m : Machine) (log : List Event) → AreCounting log → Run m (steps_of log) (replies_of log)
    → counter (last_machine m (steps_of log) (replies_of log)).state ≡ accepted_in log + counter m.state
history_counts m [] is run = none_more (counter m.state)
history_counts m (e ∷ log) (first, rest) (allows, run) =
    let here = step_counts m e.step e.reply e.result first allows in
    omega (arith, history_counts (next_machine m e.step e.reply) log rest run, here)

-- ---- sessions

-- an empty map counts nothing
none_counted : counter (reopened 2048 empty_store) ≡ 0
none_counted = ap count_said (get-empty byte_order counter_key)

released_counts : (number : ℕ) (s : State) → counter (released number s) ≡ counter s
released_counts number s = by (is_some s.stopped)
  where
    by : (b : Bool) → counter (if b then s else after s (Release number)) ≡ counter s
    by true = refl
    by false = refl

-- where a session began with a fresh store, and its clients only counted, the counter is the number of the commits in its trail that
-- were answered with a number
pub all_counted : (b : Begin) (clients : List Known) (store : StoreView) (trail : TrailView) → IsFresh b.store → IsEnded b clients store trail → AreCounting trail.log
    → counted_in (present_map store.state.points) ≡ accepted_in trail.log
all_counted b clients store trail fresh ended counting =
    let runs = ended.legal.run fresh.backed in
    let last = ap counter ended.state ∙ released_counts (base_of b) (machine_behind (first_machine b) trail.log).state ∙ ap counter runs.state in
    let first : counter (first_machine b).state ≡ 0 = ap counter fresh.state ∙ none_counted in
    omega (arith, last, first, history_counts (first_machine b) trail.log counting runs.run)
