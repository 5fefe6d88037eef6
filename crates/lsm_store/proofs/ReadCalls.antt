-- What a read of a store's memory and tables does, by what it finds there.
use Rattle.std.proofs.Common.{◌≡◌, ◌⊎◌, ⊎_elim, ℕ, Bool, true, cond, None, is_some, refl, sym, ◌∙◌, ap, subst, Vec}
use Rattle.std.specs.Prelude.{Result, Ok, Err, Option, option_map, IfErr, MatchResult}
use Rattle.std.specs.FinMap as finite
use Rattle.lsm_cache.specs.Recency.{Cached}
use Rattle.lsm_cache.specs.declared.name.BlockName.{BlockName}
use Rattle.lsm_codec.specs.Keys.{Bytes}
use Rattle.lsm_codec.specs.Map.{Map}
use Rattle.lsm_device.specs.Calls.{AtMost, faults_after}
use Rattle.lsm_device.specs.Medium.{Medium}
use Rattle.lsm_device.specs.Outcomes.{Leaves}
use Rattle.lsm_device.specs.Refusals.{faultless}
use Rattle.lsm_device.specs.declared.refusal.Refusal.{Refusal}
use Rattle.lsm_device.specs.declared.refusal.Refusal.TheVariants.{NoMemory, Io, BadTable}
use Rattle.lsm_device.proofs.Moments.{unchanged}
use Rattle.lsm_levels.specs.Levels.{places}
use Rattle.lsm_levels.specs.Orders.{IsVersionOrder}
use Rattle.lsm_levels.specs.Stored.{IsReadable}
use Rattle.lsm_mem.specs.Paging.{Page, page_of}
use Rattle.lsm_mem.specs.Versions.{map_of}
use Rattle.lsm_open.specs.Recovering.{StandForOne}
use Rattle.lsm_machine.specs.Accounts.{tables_placed, AreNumbered}
use Rattle.lsm_store.specs.Backing.{StoreView, IsBacked, data_start, machine_of}
use Rattle.lsm_machine.specs.Calls.{Call, Reply}
use Rattle.lsm_machine.specs.Calls.{Get, Scan, Value, Rows, Refused, reply_of}
use Rattle.lsm_machine.specs.Crash.{left_inside}
use Rattle.lsm_machine.specs.Effects.{Use, use_of, use_first}
use Rattle.lsm_machine.specs.Effects.{Untouched, Reads}
use Rattle.lsm_store.specs.Reading.{ReadsThrough, source_of}
use Rattle.lsm_machine.specs.Refusals.{refusal}
use Rattle.lsm_machine.specs.Run.{Allows, Admits, next}
use Rattle.lsm_store.specs.Serving.{is_faultless, use_before, use_by, IsOnlyRead, IsRead, IsUsed, IsCacheUsed, Serves}
use Rattle.lsm_machine.specs.State.{count_at, map_at, may_ask}
use Rattle.lsm_machine.specs.Work.{versions_by_place, versions_in}
use Rattle.lsm_machine.specs.WorkEffects.{work_by}
use Rattle.lsm_machine.specs.declared.asked.At.{At}
use Rattle.lsm_store.proofs.Backed.{place_in, read_on, readable, backed_on}
use Rattle.lsm_store.proofs.Marking.{asked_map}
use Rattle.lsm_machine.proofs.Unrefused.{unrefused_runs, unrefused_get, unrefused_scan}
use Rattle.lsm_store.proofs.Serving.{answered, now_inside}
use Rattle.lsm_open.proofs.OpeningAnswers.{none_more}

pub no_use : Reads ≡ Untouched → ⊥
no_use e = cc

no_fault_here : BadTable ≡ Io → ⊥
no_fault_here e = cc

no_want_here : BadTable ≡ NoMemory → ⊥
no_want_here e = cc

no_fault_there : NoMemory ≡ Io → ⊥
no_fault_there e = cc

never_bad : {X : Type 0} → (BadTable ≡ Io) ⊎ ((BadTable ≡ NoMemory) × X) → ⊥
never_bad = ⊎_elim no_fault_here (λ b. no_want_here b.0)

never_bad_page : (BadTable ≡ Io) ⊎ (BadTable ≡ NoMemory) → ⊥
never_bad_page = ⊎_elim no_fault_here no_want_here

has_one : {X : Type 0} → (NoMemory ≡ Io) ⊎ ((NoMemory ≡ NoMemory) × X) → X
has_one = ⊎_elim (λ e. absurd (no_fault_there e)) (λ x. x.1)

-- ---- a call that reads

module _ (v : StoreView) (numbered : AreNumbered v.work.next_table (tables_placed v.work)) (new : Medium) (cache : Cached) (most : ℕ) (ok : Bool) (reads : ReadsThrough most (data_start v) v.work.levels ok (source_of v) (record { cache = cache; medium = new })) where
  pub only_read : IsOnlyRead v.device new
  only_read =
      let calls = reads.calls in
      record {
        no_write = none_more calls.written.0 v.device.calls.writes new.calls.writes calls.written.1 calls.written.2;
        no_sync = none_more calls.synced.0 v.device.calls.syncs new.calls.syncs calls.synced.1 calls.synced.2;
        same_history = reads.unchanged;
      }

  module _ (call : Call) (reply : Reply) (uses : use_of v.state call ≡ Reads) (first : use_first call ≡ Reads) (none : refusal v.state call ≡ None) (is_read : IsOnlyRead v.device new → IsRead call v.device new) where
    use_is : use_by v.state call reply ≡ Reads
    use_is = ap (λ o. cond (is_some o) Untouched (use_before (use_first call) (use_of v.state call) reply)) none ∙ ap (λ (u : Use). use_before (use_first call) u reply) uses

    pub serves_on : Admits v.state call reply → (IsBacked v → Allows v.state call reply) → next v.state call reply ≡ v.state → is_faultless reply ≡ ok → v.work ≡ work_by (machine_of v) call reply → Serves v call reply (read_on v new cache)
    serves_on admitted allowed state faultless stays = record {
      admitted = admitted;
      allowed = allowed;
      state = sym state;
      worked = λ running. stays;
      used = subst (λ (u : Use). IsUsed call reply u v.device new) (sym use_is) (is_read only_read);
      cached = subst (λ (u : Use). IsCacheUsed (use_first call) u v.cache cache) (sym use_is) (subst (λ (f : Use). IsCacheUsed f Reads v.cache cache) (sym first) tt);
      fault = reads.faults ∙ sym (ap (λ (b : Bool). faults_after b v.device.calls.faults) faultless);
      same_size = reads.same_size;
      same_lasting = reads.same_lasting;
      crash = λ backed. unchanged (Leaves (StandForOne v.state.log_sectors (left_inside v.state call))) v.device.history new.history (reads.unchanged backed.tells) (now_inside v call backed);
      backed = backed_on v new cache most ok reads numbered;
    }

-- ---- of the map that the versions have at a count

module _ (v : StoreView) (numbered : AreNumbered v.work.next_table (tables_placed v.work)) (at : At) (count : ℕ) (is : count ≡ count_at v.state at) where
  map_is : (call : Call) → refusal v.state call ≡ None → may_ask v.state at ≡ true → IsBacked v → map_of (versions_in v.work) count ≡ map_at v.state at
  map_is call none may backed = ap (map_of (versions_in v.work)) is ∙ asked_map (versions_in v.work) v.state (backed.runs (unrefused_runs v.state call none)).sound.tied.maps at may

  order_is : (call : Call) → refusal v.state call ≡ None → IsBacked v → IsVersionOrder (versions_by_place v.work)
  order_is call none backed = (backed.runs (unrefused_runs v.state call none)).sound.tied.versions.order

  module _ (new : Medium) (cache : Cached) (most : ℕ) where
    abbrev Answers : {T : Type 0} → Result T Refusal → (T → Type 0) → (Refusal → Type 0) → Type 0
    Answers r Is May = (place : BlockName → Option ℕ) → IsReadable place (data_start v) (places v.work.levels) (source_of v) → IsVersionOrder (versions_by_place v.work) → MatchResult r Is May

    abbrev IsRefusal : Refusal → Type 0
    IsRefusal refusal = (refusal ≡ Io) ⊎ ((refusal ≡ BadTable) ⊎ (refusal ≡ NoMemory))

    abbrev Through : {T : Type 0} → Result T Refusal → Type 0
    Through r = ReadsThrough most (data_start v) v.work.levels (faultless r) (source_of v) (record { cache = cache; medium = new })

    -- the value of a key, or why there is none
    module _ (key : Bytes) (none : refusal v.state (Get at key) ≡ None) (few : AtMost 128 0 0 v.device.calls new.calls) where
      asked : IsBacked v → finite.get (map_of (versions_in v.work) count) key ≡ finite.get (map_at v.state at) key
      asked backed = ap (λ (m : Map). finite.get m key) (map_is (Get at key) none (unrefused_get v.state at key none) backed)

      module _ {Z : Type 0} where
        pub serves_get : (r : Result (Option (Vec ℕ Z)) Refusal) → Through r
            → Answers r (λ value. option_map (λ v. v.items) value ≡ finite.get (map_of (versions_in v.work) count) key) (λ refusal. (refusal ≡ Io) ⊎ ((refusal ≡ NoMemory) × (is_some (finite.get (map_of (versions_in v.work) count) key) ≡ true)))
            → IfErr r IsRefusal → Serves v (Get at key) (reply_of (λ value. Value (option_map (λ v. v.items) value)) r) (read_on v new cache)
        serves_get (Ok value) through answers refused =
            serves_on v numbered new cache most true through (Get at key) (Value (option_map (λ v. v.items) value)) refl refl none (λ only. (only, few)) (ap is_some none, refl)
            (λ backed. subst (Allows v.state (Get at key)) (sym (ap Value (answers (place_in v) (readable v backed (unrefused_runs v.state (Get at key) none)) (order_is (Get at key) none backed) ∙ asked backed))) (answered v.state (Get at key) none).0)
            refl refl refl
        serves_get (Err e) through answers refused =
            ⊎_elim
            (λ io. subst (λ (x : Refusal). Serves v (Get at key) (Refused x) (read_on v new cache)) (sym io)
            (serves_on v numbered new cache most _ (subst (λ (x : Refusal). Through {T = Option (Vec ℕ Z)} (Err x)) io through) (Get at key) (Refused Io) refl refl none (λ only. (only, few)) (ap is_some none, λ (u : Reads ≡ Untouched). no_use u) (λ backed. (ap is_some none, λ u. no_use u)) refl refl refl))
            (⊎_elim
            (λ bad. subst (λ (x : Refusal). Serves v (Get at key) (Refused x) (read_on v new cache)) (sym bad)
            (serves_on v numbered new cache most _ (subst (λ (x : Refusal). Through {T = Option (Vec ℕ Z)} (Err x)) bad through) (Get at key) (Refused BadTable) refl refl none (λ only. (only, few)) (ap is_some none, refl)
            (λ backed. absurd (never_bad (subst (λ (x : Refusal). (x ≡ Io) ⊎ ((x ≡ NoMemory) × (is_some (finite.get (map_of (versions_in v.work) count) key) ≡ true))) bad (answers (place_in v) (readable v backed (unrefused_runs v.state (Get at key) none)) (order_is (Get at key) none backed)))))
            refl refl refl))
            (λ want. subst (λ (x : Refusal). Serves v (Get at key) (Refused x) (read_on v new cache)) (sym want)
            (serves_on v numbered new cache most _ (subst (λ (x : Refusal). Through {T = Option (Vec ℕ Z)} (Err x)) want through) (Get at key) (Refused NoMemory) refl refl none (λ only. (only, few)) (ap is_some none, refl)
            (λ backed. (ap is_some none, ap is_some (sym (asked backed)) ∙ has_one (subst (λ (x : Refusal). (x ≡ Io) ⊎ ((x ≡ NoMemory) × (is_some (finite.get (map_of (versions_in v.work) count) key) ≡ true))) want (answers (place_in v) (readable v backed (unrefused_runs v.state (Get at key) none)) (order_is (Get at key) none backed)))))
            refl refl refl)))
            refused

    -- a page, or why there is none
    module _ (from : Bytes) (to : Option Bytes) (limit : ℕ) (none : refusal v.state (Scan at from to limit) ≡ None) where
      pub serves_scan : (r : Result Page Refusal) → Through r → Answers r (λ page. page ≡ page_of (map_of (versions_in v.work) count) from to limit) (λ refusal. (refusal ≡ Io) ⊎ (refusal ≡ NoMemory))
          → IfErr r IsRefusal → Serves v (Scan at from to limit) (reply_of Rows r) (read_on v new cache)
      serves_scan (Ok page) through answers refused =
          let call = Scan at from to limit in
          serves_on v numbered new cache most true through call (Rows page) refl refl none (λ only. only) (ap is_some none, refl)
          (λ backed. subst (Allows v.state call) (sym (ap Rows (answers (place_in v) (readable v backed (unrefused_runs v.state call none)) (order_is call none backed) ∙ ap (λ (m : Map). page_of m from to limit) (map_is call none (unrefused_scan v.state at from to limit none) backed)))) (answered v.state call none).0)
          refl refl refl
      serves_scan (Err e) through answers refused =
          let call = Scan at from to limit in
          ⊎_elim
          (λ io. subst (λ (x : Refusal). Serves v call (Refused x) (read_on v new cache)) (sym io)
          (serves_on v numbered new cache most _ (subst (λ (x : Refusal). Through {T = Page} (Err x)) io through) call (Refused Io) refl refl none (λ only. only) (ap is_some none, λ (u : Reads ≡ Untouched). no_use u) (λ backed. (ap is_some none, λ u. no_use u)) refl refl refl))
          (⊎_elim
          (λ bad. subst (λ (x : Refusal). Serves v call (Refused x) (read_on v new cache)) (sym bad)
          (serves_on v numbered new cache most _ (subst (λ (x : Refusal). Through {T = Page} (Err x)) bad through) call (Refused BadTable) refl refl none (λ only. only) (ap is_some none, refl)
          (λ backed. absurd (never_bad_page (subst (λ (x : Refusal). (x ≡ Io) ⊎ (x ≡ NoMemory)) bad (answers (place_in v) (readable v backed (unrefused_runs v.state call none)) (order_is call none backed)))))
          refl refl refl))
          (λ want. subst (λ (x : Refusal). Serves v call (Refused x) (read_on v new cache)) (sym want)
          (serves_on v numbered new cache most _ (subst (λ (x : Refusal). Through {T = Page} (Err x)) want through) call (Refused NoMemory) refl refl none (λ only. only) (ap is_some none, refl) (λ backed. (ap is_some none, refl)) refl refl refl)))
          refused
