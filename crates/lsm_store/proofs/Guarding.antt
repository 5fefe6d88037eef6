-- What a commit under guards does: it asks them, and then it commits.
use Rattle.std.proofs.Common.{◌≡◌, ◌≢◌, ◌⊎◌, inl, inr, ⊎_elim, ◌≤◌, ◌<◌, ◌*◌, ℕ, zero, suc, ◌+◌, Bool, true, false, cond, List, [], ◌∷◌, ◌++◌, length, Option, Some, None, is_some, is_none, IsTrue, refl, sym, ◌∙◌, ap, subst, arith}
use Rattle.std.specs.Prelude.{Result, Ok, Err, IsNone, nat_lt}
use Rattle.lsm_cache.specs.Recency.{Cached}
use Rattle.lsm_codec.specs.Map.{Map, Operation}
use Rattle.lsm_codec.specs.Versions.{Version}
use Rattle.lsm_levels.specs.Asking.{Source}
use Rattle.lsm_levels.specs.Tables.{Table}
use Rattle.lsm_machine.specs.RecoveryPoints.{batch_count}
use Rattle.lsm_machine.specs.WorkEffects.{work_by}
use Rattle.lsm_device.specs.Calls.{AtMost, faults_after}
use Rattle.lsm_device.specs.Disk.{Disk}
use Rattle.lsm_device.specs.History.{EachSince}
use Rattle.lsm_device.specs.Medium.{Lasting, Medium}
use Rattle.lsm_device.specs.Outcomes.{Leaves}
use Rattle.lsm_device.specs.Refusals.{faultless}
use Rattle.lsm_device.specs.declared.refusal.Refusal.{Refusal}
use Rattle.lsm_device.specs.declared.refusal.Refusal.TheVariants.{NoMemory, Io, BadTable, GuardFailed, Stopped, TooManyGuards}
use Rattle.lsm_device.proofs.Moments.{unchanged}
use Rattle.lsm_levels.specs.Levels.{places}
use Rattle.lsm_mem.specs.Versions.{map_of}
use Rattle.lsm_root.specs.CrashState.{CrashState}
use Rattle.lsm_open.specs.Recovering.{StandForOne}
use Rattle.lsm_machine.specs.Accounts.{tables_placed, AreNumbered}
use Rattle.lsm_store.specs.Backing.{StoreView, IsBacked, data_start, machine_of}
use Rattle.lsm_machine.specs.Calls.{Call, Reply}
use Rattle.lsm_machine.specs.Calls.{Commit, CommitIf, Number, Refused, Unread, reply_of}
use Rattle.lsm_machine.specs.Crash.{may_leave, left_besides, left_inside}
use Rattle.lsm_machine.specs.Effects.{answer, decided, reply_by, Use, use_of, use_first}
use Rattle.lsm_machine.specs.Effects.{Untouched, Reads, Changes}
use Rattle.lsm_store.specs.Guarding.{AsksGuards, AnswersGuards, AsksThenCommits, MayEndGuards, with_source}
use Rattle.lsm_codec.specs.Guards.{Condition}
use Rattle.lsm_store.specs.Reading.{ReadsThrough, source_of}
use Rattle.lsm_machine.specs.RecoveryPoints.{present_map}
use Rattle.lsm_machine.specs.Refusals.{refusals, first_refusal, refusal, guard_refusals, full_refusal}
use Rattle.lsm_machine.specs.Run.{Allows, Admits, next}
use Rattle.lsm_store.specs.Serving.{is_faultless, use_before, use_by, IsOnlyRead, HasWrittenBatch, IsUsed, IsCacheUsed, Serves, reply_in}
use Rattle.lsm_machine.specs.State.{State}
use Rattle.lsm_machine.specs.Work.{versions_in}
use Rattle.std.proofs.lemmas.Bool.{ltb-false}
use Rattle.lsm_cache.specs.declared.name.BlockName.{BlockName}
use Rattle.lsm_device.specs.Refusals.{is_no_fault}
use Rattle.lsm_levels.specs.Orders.{IsVersionOrder}
use Rattle.lsm_levels.specs.Stored.{IsReadable}
use Rattle.lsm_machine.specs.declared.asked.At.TheVariants.{Now}
use Rattle.lsm_machine.specs.Refusals.{most_guards}
use Rattle.lsm_machine.specs.Work.{versions_by_place}
use Rattle.lsm_store.proofs.Backed.{place_in, readable}
use Rattle.lsm_store.proofs.Marking.{asked_map}
use Rattle.lsm_store.proofs.Refusing.{serves_refused}
use Rattle.lsm_machine.proofs.Running.{IsDecided, first_decided, guards_decided}
use Rattle.lsm_machine.proofs.Unrefused.{none_taken, refusal_decided}
use Rattle.lsm_store.proofs.Backed.{read_on, backed_on}
use Rattle.lsm_store.proofs.ReadCalls.{only_read}
use Rattle.lsm_open.proofs.OpeningAnswers.{none_more}
use Rattle.lsm_machine.proofs.Running.{first_tests, none_by}
use Rattle.lsm_store.proofs.Serving.{now_inside, none_of}
use Rattle.lsm_machine.proofs.GuardReads.{reads_unread}
use Rattle.lsm_machine.proofs.Unrefused.{unguarded, unrefused_runs}

-- where none of the first refusals holds, the first of the others does
first_behind : (tests more : List (Bool × Refusal)) → first_refusal tests ≡ None → first_refusal (tests ++ more) ≡ first_refusal more
first_behind [] more none = refl
first_behind (test ∷ rest) more none = by test.0 (first_behind rest more) none
  where
    no : Some test.1 ≡ None → ⊥
    no e = cc

    by : (b : Bool) → (first_refusal rest ≡ None → first_refusal (rest ++ more) ≡ first_refusal more) → cond b (Some test.1) (first_refusal rest) ≡ None → cond b (Some test.1) (first_refusal (rest ++ more)) ≡ first_refusal more
    by true later h = absurd (no h)
    by false later h = later h

none_there : (guards : List Condition) → length guards ≡ 0 → guards ≡ []
none_there [] none = refl
none_there (guard ∷ guards) none = absurd (omega (arith, none))

-- where no guard is asked nothing is read
pub asked_none : (memory sealed : List Version) (runs : List (List Table)) (area n place : ℕ) (guards : List Condition) (ends : Option Refusal) (old new : Source) → AsksGuards memory sealed runs area n place guards ends old new
    → guards ≡ [] → new ≡ old
asked_none memory sealed runs area n place [] ends old new asks is = asks.1
asked_none memory sealed runs area n place (guard ∷ rest) ends old new asks is = absurd (no is)
  where
    no : guard ∷ rest ≡ [] → ⊥
    no e = cc

-- so asking is refused where one is
pub asked_some : (memory sealed : List Version) (runs : List (List Table)) (area n place : ℕ) (guards : List Condition) (e : Refusal) (old new : Source) → AsksGuards memory sealed runs area n place guards (Some e) old new
    → (batch : List Operation) → use_first (CommitIf guards batch) ≡ Reads
asked_some memory sealed runs area n place [] e old new asks batch = absurd (no asks.0)
  where
    no : Some e ≡ None → ⊥
    no h = cc
asked_some memory sealed runs area n place (guard ∷ rest) e old new asks batch = refl

-- ---- uses

module _ (batch : List Operation) where
  first_used : (guards : List Condition) (reply : Reply) (old mid : Medium) → (guards ≡ [] → mid ≡ old) → IsOnlyRead old mid → AtMost (128 * length guards) 0 0 old.calls mid.calls → IsUsed (CommitIf guards batch) reply (use_first (CommitIf guards batch)) old mid
  first_used [] reply old mid same only few = same refl
  first_used (guard ∷ rest) reply old mid same only few = (only, few)

  first_cached : (guards : List Condition) (old new : Cached) → (guards ≡ [] → new ≡ old) → IsCacheUsed (use_first (CommitIf guards batch)) (use_first (CommitIf guards batch)) old new
  first_cached [] old new same = same refl
  first_cached (guard ∷ rest) old new same = tt

  changes_cached : (guards : List Condition) (old new : Cached) → (guards ≡ [] → new ≡ old) → IsCacheUsed (use_first (CommitIf guards batch)) Changes old new
  changes_cached [] old new same = same refl
  changes_cached (guard ∷ rest) old new same = tt

-- a commit leaves the cache
uncached : (used : Use) (old new : Cached) → IsCacheUsed Untouched used old new → new ≡ old
uncached Untouched old new is = is
uncached Reads old new is = is
uncached Changes old new is = is

changes_not : Changes ≡ Untouched → ⊥
changes_not e = cc

never_reads : Untouched ≡ Reads → ⊥
never_reads e = cc

-- ---- a commit under guards that is not refused before they are asked

module _ (v : StoreView) (numbered : AreNumbered v.work.next_table (tables_placed v.work)) (guards : List Condition) (batch : List Operation) (none : refusal v.state (CommitIf guards batch) ≡ None) where
  abbrev call : Call
  call = CommitIf guards batch

  full_is : full_refusal v.state (CommitIf guards batch) ≡ first_refusal (guard_refusals 0 (present_map v.state.points) guards)
  full_is = first_behind (first_tests v.state (CommitIf guards batch)) (guard_refusals 0 (present_map v.state.points) guards) none

  use_is : (reply : Reply) → use_by v.state (CommitIf guards batch) reply ≡ use_before (use_first (CommitIf guards batch)) Changes reply
  use_is reply = ap (λ (o : Option Refusal). cond (is_some o) Untouched (use_before (use_first (CommitIf guards batch)) Changes reply)) none

  running : IsNone v.state.stopped
  running = unrefused_runs v.state (CommitIf guards batch) none

  module _ (new : Medium) (cache : Cached) (n : ℕ) (counted : n ≡ length guards) (ok : Bool) (reads : ReadsThrough (128 * n) (data_start v) v.work.levels ok (source_of v) (record { cache = cache; medium = new })) where
    few : AtMost (128 * length guards) 0 0 v.device.calls new.calls
    few = subst (λ (k : ℕ). AtMost (128 * k) 0 0 v.device.calls new.calls) counted reads.calls

    -- where asking them ends it
    module _ (first : use_first (CommitIf guards batch) ≡ Reads) where
      ends_with : (reply : Reply) → use_before Reads Changes reply ≡ Reads → Admits v.state (CommitIf guards batch) reply → (IsBacked v → Allows v.state (CommitIf guards batch) reply)
          → next v.state (CommitIf guards batch) reply ≡ v.state → is_faultless reply ≡ ok → v.work ≡ work_by (machine_of v) (CommitIf guards batch) reply → Serves v (CommitIf guards batch) reply (read_on v new cache)
      ends_with reply before admitted allowed state faultless stays =
          let used : use_by v.state (CommitIf guards batch) reply ≡ Reads = use_is reply ∙ ap (λ (f : Use). use_before f Changes reply) first ∙ before in
          record {
            admitted = admitted;
            allowed = allowed;
            state = sym state;
            worked = λ running. stays;
            used = subst (λ (u : Use). IsUsed (CommitIf guards batch) reply u v.device new) (sym used) (only_read v numbered new cache (128 * n) ok reads, few);
            cached = subst (λ (u : Use). IsCacheUsed (use_first (CommitIf guards batch)) u v.cache cache) (sym used) (subst (λ (f : Use). IsCacheUsed f Reads v.cache cache) (sym first) tt);
            fault = reads.faults ∙ sym (ap (λ (b : Bool). faults_after b v.device.calls.faults) faultless);
            same_size = reads.same_size;
            same_lasting = reads.same_lasting;
            crash = λ backed. unchanged (Leaves (StandForOne v.state.log_sectors (left_inside v.state (CommitIf guards batch)))) v.device.history new.history (reads.unchanged backed.tells) (now_inside v (CommitIf guards batch) backed);
            backed = backed_on v new cache (128 * n) ok reads numbered;
          }

  -- a read of theirs faulted
  pub asked_unread : (new : Medium) (cache : Cached) → ReadsThrough (128 * length guards) (data_start v) v.work.levels false (source_of v) (record { cache = cache; medium = new }) → use_first (CommitIf guards batch) ≡ Reads
      → Serves v (CommitIf guards batch) Unread (read_on v new cache)
  asked_unread new cache reads first = ends_with new cache (length guards) refl false reads first Unread refl ((ap is_some none, first), refl) (λ backed. reads_unread v.state (CommitIf guards batch) (ap is_some none) first refl) refl refl refl

  -- what was read is no table
  pub asked_bad : (new : Medium) (cache : Cached) → ReadsThrough (128 * length guards) (data_start v) v.work.levels true (source_of v) (record { cache = cache; medium = new }) → use_first (CommitIf guards batch) ≡ Reads
      → (IsBacked v → ⊥) → Serves v (CommitIf guards batch) (Refused BadTable) (read_on v new cache)
  asked_bad new cache reads first never = ends_with new cache (length guards) refl true reads first (Refused BadTable) refl (ap is_some none, first) (λ backed. absurd (never backed)) refl refl refl

  -- one of them is false
  pub asked_failed : (new : Medium) (cache : Cached) → ReadsThrough (128 * length guards) (data_start v) v.work.levels true (source_of v) (record { cache = cache; medium = new }) → use_first (CommitIf guards batch) ≡ Reads
      → (place : ℕ) → place < length guards → (IsBacked v → first_refusal (guard_refusals 0 (present_map v.state.points) guards) ≡ Some (GuardFailed place)) → Serves v (CommitIf guards batch) (Refused (GuardFailed place)) (read_on v new cache)
  asked_failed new cache reads first place there fails = ends_with new cache (length guards) refl true reads first (Refused (GuardFailed place)) refl (ap is_some none, there)
      (λ backed. sym (ap (reply_by v.state (CommitIf guards batch)) (full_is ∙ fails backed))) refl refl refl

  -- ---- all of them are true

  module _ (mid : Medium) (cache : Cached) (reads : ReadsThrough (128 * length guards) (data_start v) v.work.levels true (source_of v) (record { cache = cache; medium = mid })) (still : guards ≡ [] → record { cache = cache; medium = mid } ≡ source_of v)
      (met : IsBacked v → first_refusal (guard_refusals 0 (present_map v.state.points) guards) ≡ None) (new : StoreView) where
    bare : refusal v.state (Commit batch) ≡ None
    bare = unguarded v.state guards batch none

    full : IsBacked v → full_refusal v.state (CommitIf guards batch) ≡ None
    full backed = full_is ∙ met backed

    only : IsOnlyRead v.device mid
    only = only_read v numbered mid cache (128 * length guards) true reads

    few_reads : AtMost (128 * length guards) 0 0 v.device.calls mid.calls
    few_reads = reads.calls

    bare_use : (reply : Reply) → use_by v.state (Commit batch) reply ≡ use_before Untouched Changes reply
    bare_use reply = ap (λ (o : Option Refusal). cond (is_some o) Untouched (use_before Untouched Changes reply)) bare

    module _ (reply : Reply) (serves : Serves (read_on v mid cache) (Commit batch) reply new) where
      same_cache : new.cache ≡ cache
      same_cache = uncached (use_by v.state (Commit batch) reply) cache new.cache serves.cached

      cache_still : guards ≡ [] → new.cache ≡ v.cache
      cache_still is = same_cache ∙ ap (λ (x : Source). x.cache) (still is)

      -- what the commit adds to what was read
      then : Admits v.state (CommitIf guards batch) reply → (IsBacked v → Allows v.state (CommitIf guards batch) reply) → next v.state (Commit batch) reply ≡ next v.state (CommitIf guards batch) reply
          → work_by (machine_of v) (Commit batch) reply ≡ work_by (machine_of v) (CommitIf guards batch) reply
          → IsUsed (CommitIf guards batch) reply (use_by v.state (CommitIf guards batch) reply) v.device new.device → IsCacheUsed (use_first (CommitIf guards batch)) (use_by v.state (CommitIf guards batch) reply) v.cache new.cache
          → Serves v (CommitIf guards batch) reply new
      then admitted allowed state worked used cached = record {
        admitted = admitted;
        allowed = allowed;
        state = serves.state ∙ state;
        worked = λ running. serves.worked running ∙ worked;
        used = used;
        cached = cached;
        fault = serves.fault ∙ ap (faults_after (is_faultless reply)) reads.faults;
        same_size = serves.same_size ∙ reads.same_size;
        same_lasting = serves.same_lasting ∙ reads.same_lasting;
        crash = λ backed.
            let inside : left_inside v.state (Commit batch) ≡ left_inside v.state (CommitIf guards batch) =
            ap (λ (o : Option Refusal). may_leave v.state ++ cond (is_some o) [] (left_besides v.state (Commit batch))) (bare ∙ sym (full backed)) in
            subst (λ (h : List Disk). EachSince (Leaves (StandForOne v.state.log_sectors (left_inside v.state (CommitIf guards batch)))) h new.device.history) (reads.unchanged backed.tells)
            (subst (λ (l : List CrashState). EachSince (Leaves (StandForOne v.state.log_sectors l)) mid.history new.device.history) inside
            (serves.crash (backed_on v mid cache (128 * length guards) true reads numbered backed)));
        backed = λ backed. serves.backed (backed_on v mid cache (128 * length guards) true reads numbered backed);
      }

      changed : use_by v.state (Commit batch) reply ≡ Changes → HasWrittenBatch batch reply mid.calls new.device.calls
      changed is = subst (λ (u : Use). IsUsed (Commit batch) reply u mid new.device) is serves.used

      used_if : use_by v.state (CommitIf guards batch) reply ≡ Changes → HasWrittenBatch batch reply mid.calls new.device.calls → IsUsed (CommitIf guards batch) reply (use_by v.state (CommitIf guards batch) reply) v.device new.device
      used_if is writes = subst (λ (u : Use). IsUsed (CommitIf guards batch) reply u v.device new.device) (sym is) (record { mid = mid; only_read = only; reads = few_reads; no_fault = reads.faults; unasked = λ none. ap (λ (x : Source). x.medium) (still (none_there guards none)); writes = writes })

      cached_if : use_by v.state (CommitIf guards batch) reply ≡ Changes → IsCacheUsed (use_first (CommitIf guards batch)) (use_by v.state (CommitIf guards batch) reply) v.cache new.cache
      cached_if is = subst (λ (u : Use). IsCacheUsed (use_first (CommitIf guards batch)) u v.cache new.cache) (sym is) (changes_cached batch guards v.cache new.cache cache_still)

    then_number : (n : ℕ) → Serves (read_on v mid cache) (Commit batch) (Number n) new → Serves v (CommitIf guards batch) (Number n) new
    then_number n serves =
        let answer_is : Number n ≡ answer v.state (CommitIf guards batch) = serves.admitted ∙ ap (reply_by v.state (Commit batch)) bare in
        then (Number n) serves (answer_is ∙ sym (ap (reply_by v.state (CommitIf guards batch)) none)) (λ backed. answer_is ∙ sym (ap (reply_by v.state (CommitIf guards batch)) (full backed))) refl refl
        (used_if (Number n) serves (use_is (Number n)) (changed (Number n) serves (bare_use (Number n)))) (cached_if (Number n) serves (use_is (Number n)))

    then_io : Serves (read_on v mid cache) (Commit batch) (Refused Io) new → Serves v (CommitIf guards batch) (Refused Io) new
    then_io serves = then (Refused Io) serves (ap is_some none, changes_not) (λ backed. (ap is_some (full backed), changes_not)) refl refl
        (used_if (Refused Io) serves (use_is (Refused Io)) (changed (Refused Io) serves (bare_use (Refused Io)))) (cached_if (Refused Io) serves (use_is (Refused Io)))

    then_no_memory : Serves (read_on v mid cache) (Commit batch) (Refused NoMemory) new → Serves v (CommitIf guards batch) (Refused NoMemory) new
    then_no_memory serves =
        let same : new.device ≡ mid = subst (λ (u : Use). IsUsed (Commit batch) (Refused NoMemory) u mid new.device) (bare_use (Refused NoMemory)) serves.used in
        then (Refused NoMemory) serves (ap is_some none, refl) (λ backed. (ap is_some none, ap (λ (o : Option Refusal). is_none o) (met backed))) refl refl
        (subst (λ (u : Use). IsUsed (CommitIf guards batch) (Refused NoMemory) u v.device new.device) (sym (use_is (Refused NoMemory)))
        (subst (λ (m : Medium). IsUsed (CommitIf guards batch) (Refused NoMemory) (use_first (CommitIf guards batch)) v.device m) (sym same)
        (first_used batch guards (Refused NoMemory) v.device mid (λ is. ap (λ (x : Source). x.medium) (still is)) only few_reads)))
        (subst (λ (u : Use). IsCacheUsed (use_first (CommitIf guards batch)) u v.cache new.cache) (sym (use_is (Refused NoMemory))) (first_cached batch guards v.cache new.cache (cache_still (Refused NoMemory) serves)))

    -- no other refusal comes of the commit
    no_number : (e : Refusal) → Refused e ≡ Number (batch_count v.state.points + 1) → ⊥
    no_number e h = cc

    stopped_then : Serves (read_on v mid cache) (Commit batch) (Refused Io) new → is_some new.state.stopped ≡ true
    stopped_then serves = ap (λ (s : State). is_some s.stopped) serves.state

    pub then_committed : (r : Result ℕ Refusal) → Serves (read_on v mid cache) (Commit batch) (reply_of Number r) new → Serves v (CommitIf guards batch) (reply_in (CommitIf guards batch) new.state (reply_of Number r)) new
    then_committed (Ok n) serves = then_number n serves
    then_committed (Err NoMemory) serves = then_no_memory serves
    then_committed (Err Io) serves = subst (λ (b : Bool). Serves v (CommitIf guards batch) (cond b (Refused Io) Unread) new) (sym (stopped_then serves)) (then_io serves)
    then_committed (Err BadTable) serves = absurd (never_reads serves.admitted.1)
    then_committed (Err (GuardFailed place)) serves = absurd (omega (arith, serves.admitted.1))
    then_committed (Err e) serves = absurd (no_number e (serves.admitted ∙ ap (reply_by v.state (Commit batch)) bare))

-- ---- what is told

told_plain : (guards : List Condition) (batch : List Operation) (s : State) (e : Refusal) → e ≢ Io → reply_in (CommitIf guards batch) s (Refused e) ≡ Refused e
told_plain guards batch s Io other = absurd (other refl)
told_plain guards batch s e other = refl

-- the state refused it before a guard was asked
pub told_early : (v : StoreView) (guards : List Condition) (batch : List Operation) (e : Refusal) → refusal v.state (CommitIf guards batch) ≡ Some e → Serves v (CommitIf guards batch) (reply_in (CommitIf guards batch) v.state (Refused e)) v
told_early v guards batch e is =
    subst (λ (r : Reply). Serves v (CommitIf guards batch) r v) (sym (told_plain guards batch v.state e (refusal_decided v.state (CommitIf guards batch) e is).no_fault)) (serves_refused v (CommitIf guards batch) e is)

-- how few guards there are
pub few_guards : (s : State) (guards : List Condition) (batch : List Operation) → refusal s (CommitIf guards batch) ≡ None → length guards ≤ 16
few_guards s guards batch none =
    let one = none_taken (is_some s.stopped) Stopped _ none in
    ltb-false most_guards (length guards) (none_taken (nat_lt most_guards (length guards)) TooManyGuards _ one.1).0

module _ (v : StoreView) (guards : List Condition) (batch : List Operation) (none : refusal v.state (CommitIf guards batch) ≡ None) where
  runs_now : IsNone v.state.stopped
  runs_now = unrefused_runs v.state (CommitIf guards batch) none

  -- what the versions answer the present map does, where the device backs the state
  pub present_answers : (count : ℕ) → batch_count v.state.points ≡ count → (r : Result (Unit {0}) Refusal)
      → ((place : BlockName → Option ℕ) → IsReadable place (data_start v) (places v.work.levels) (source_of v) → IsVersionOrder (versions_by_place v.work) → AnswersGuards 0 (map_of (versions_in v.work) count) guards r)
      → IsBacked v → AnswersGuards 0 (present_map v.state.points) guards r
  present_answers count is r answers backed =
      let runs = backed.runs runs_now in
      let same : map_of (versions_in v.work) count ≡ present_map v.state.points = ap (map_of (versions_in v.work)) (sym is) ∙ asked_map (versions_in v.work) v.state runs.sound.tied.maps Now refl in
      subst (λ (m : Map). AnswersGuards 0 m guards r) same (answers (place_in v) (readable v backed runs_now) runs.sound.tied.versions.order)

  module _ (numbered : AreNumbered v.work.next_table (tables_placed v.work)) (new : Medium) (cache : Cached) (first : use_first (CommitIf guards batch) ≡ Reads) where
    abbrev ReadsTo : Bool → Type 0
    ReadsTo ok = ReadsThrough (128 * length guards) (data_start v) v.work.levels ok (source_of v) (record { cache = cache; medium = new })

    abbrev Told : Refusal → Type 0
    Told e = Serves v (CommitIf guards batch) (reply_in (CommitIf guards batch) v.state (Refused e)) (read_on v new cache)

    told_io : ReadsTo false → Told Io
    told_io reads = subst (λ (b : Bool). Serves v (CommitIf guards batch) (cond b (Refused Io) Unread) (read_on v new cache)) (sym runs_now) (asked_unread v numbered guards batch none new cache reads first)

    -- a table is invalid
    no_table : (m : Map) → AnswersGuards 0 m guards (Err BadTable) → ⊥
    no_table m = ⊎_elim (λ (io : BadTable ≡ Io). absurd cc) (λ fails. subst IsDecided fails (first_decided (guard_refusals 0 m guards) (guards_decided 0 m guards)))

    fails_there : (m : Map) (place : ℕ) → AnswersGuards 0 m guards (Err (GuardFailed place)) → first_refusal (guard_refusals 0 m guards) ≡ Some (GuardFailed place)
    fails_there m place = ⊎_elim (λ (io : GuardFailed place ≡ Io). absurd cc) (λ fails. fails)

    -- asking the guards ended it
    pub told_asked : (e : Refusal) → ReadsTo (is_no_fault e) → MayEndGuards 0 (length guards) e → (IsBacked v → AnswersGuards 0 (present_map v.state.points) guards (Err e)) → Told e
    told_asked e reads may answers = ⊎_elim
        (λ io. subst Told (sym io) (told_io (subst (λ (x : Refusal). ReadsTo (is_no_fault x)) io reads)))
        (⊎_elim
        (λ bad. subst Told (sym bad) (asked_bad v numbered guards batch none new cache (subst (λ (x : Refusal). ReadsTo (is_no_fault x)) bad reads) first
        (λ backed. no_table (present_map v.state.points) (subst (λ (x : Refusal). AnswersGuards 0 (present_map v.state.points) guards (Err x)) bad (answers backed)))))
        (λ there. subst Told (sym there.2) (asked_failed v numbered guards batch none new cache (subst (λ (x : Refusal). ReadsTo (is_no_fault x)) there.2 reads) first (0 + there.0) (omega (arith, there.1))
        (λ backed. fails_there (present_map v.state.points) (0 + there.0) (subst (λ (x : Refusal). AnswersGuards 0 (present_map v.state.points) guards (Err x)) there.2 (answers backed))))))
        may

-- ---- how far guards are asked

module _ (old : StoreView) (guards : List Condition) (batch : List Operation) (n : ℕ) (counted : batch_count old.state.points ≡ n) (mid : Source) (result : Result ℕ Refusal) where
  abbrev Asks : ℕ → Option Refusal → Type 0
  Asks count ends = AsksGuards old.work.memory old.work.sealed (places old.work.levels) (data_start old) count 0 guards ends (source_of old) mid

  -- asking them ended it
  pub asks_end : (e : Refusal) → result ≡ Err e → Asks n (Some e) → AsksThenCommits old guards batch result (with_source old mid)
  asks_end e is asks = record {
    ends = Some e;
    mid = mid;
    asks = subst (λ (count : ℕ). Asks count (Some e)) (sym counted) asks;
    refused = λ x same. let one : e ≡ x = cc in (is ∙ ap (λ (y : Refusal). Err y) one, refl);
    commits = λ none. absurd cc;
  }

  -- or it was a commit then
  pub asks_commit : (new : StoreView) → Asks n None → Serves (with_source old mid) (Commit batch) (reply_of (λ k. Number k) result) new → AsksThenCommits old guards batch result new
  asks_commit new asks serves = record {
    ends = None;
    mid = mid;
    asks = subst (λ (count : ℕ). Asks count None) (sym counted) asks;
    refused = λ e some. absurd cc;
    commits = λ none. serves;
  }
