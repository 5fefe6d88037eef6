-- A call that is answered and a rotation leave the work standing for the state, and each job ready for its install.
use Rattle.std.proofs.Common.{◌≡◌, ◌⊎◌, inl, inr, ⊎_elim, ℕ, ◌+◌, ◌<◌, ◌≤◌, Bool, true, false, cond, not, ◌==◌, List, [], ◌∷◌, ◌++◌, map, Option, Some, None, option_map, is_some, refl, sym, ap, ◌∙◌, subst, arith}
use Rattle.std.specs.Prelude.{nat_le}
use Rattle.std.specs.List.{AllByRecursion}
use Rattle.std.proofs.lemmas.Bool.{false≢true}
use Rattle.std.proofs.lemmas.List.Elements.{recursion_from_All}
use Rattle.std.specs.FinMap.Entries.{by_order}
use Rattle.std.specs.declared.cmp.Ordering.{Ordering}
use Rattle.std.specs.declared.cmp.Ordering.TheVariants.{Less, Equal, Greater}
use Rattle.lsm_codec.specs.Map.{Operation, apply}
use Rattle.lsm_codec.specs.Versions.{Version, AreOrdered, entry_order}
use Rattle.lsm_codec.proofs.KeyOrder.{key_itself}
use Rattle.lsm_mem.specs.EntryOrder.{placed, version_by, with_batch}
use Rattle.lsm_mem.specs.Versions.{map_of}
use Rattle.lsm_mem.proofs.OrderTests.{tested, ordered_tested}
use Rattle.lsm_mem.proofs.Orders.{same_key-from, older_number}
use Rattle.lsm_merge.proofs.Placing.{is_in_order-placed}
use Rattle.lsm_levels.specs.Among.{IsAmong}
use Rattle.lsm_levels.specs.Tables.{Table, versions_of}
use Rattle.lsm_levels.specs.Levels.{places}
use Rattle.lsm_levels.specs.Orders.{IsNewerPlace}
use Rattle.lsm_levels.specs.Pick.{Job, Flush, Merge, is_flush}
use Rattle.lsm_levels.specs.Held.{HasVersion}
use Rattle.lsm_levels.proofs.Members.{among_left, among_right, among_either, passed_among}
use Rattle.lsm_levels.proofs.Ranges.{all_of, of_all}
use Rattle.lsm_levels.proofs.Taking.{newer_from}
use Rattle.lsm_jobs.specs.Slots.{Slot}
use Rattle.lsm_jobs.specs.Taking.{runs_of}
use Rattle.lsm_machine.specs.RecoveryPoints.{batch_count, present_map, with_batch as points_with, all_synced}
use Rattle.lsm_machine.specs.State.{State, OpenLog, LiveSnapshot, fits_in, are_waiting}
use Rattle.lsm_machine.specs.Calls.{Call}
use Rattle.lsm_machine.specs.Calls.{Commit, CommitIf, Sync, SyncTo, Get, Scan, Snapshot, Release, Rotate, LogRoom}
use Rattle.lsm_machine.specs.Refusals.{refusal}
use Rattle.lsm_machine.specs.Effects.{with_sectors, next_taken, without, after, rotated}
use Rattle.lsm_machine.specs.StateMaps.{points_of, HaveMaps}
use Rattle.lsm_machine.specs.Work.{WorkView, versions_in}
use Rattle.lsm_machine.specs.WorkEffects.{work_called, with_sealed}
use Rattle.lsm_machine.specs.WorkMaps.{IsUnique}
use Rattle.lsm_machine.specs.WorkSound.{IsSound, CallSoundLaw, RotationSoundLaw}
use Rattle.lsm_machine.specs.Machine.{Machine}
use Rattle.lsm_store.proofs.InstalledMaps.{table_versions, in_has, commit_law}
use Rattle.lsm_machine.proofs.Unrefused.{unrefused_commit, unrefused_rotation, unguarded}
use Rattle.lsm_machine.proofs.Remembering.{present_map-points_of, all_synced-points_of, points_of-next}
use Rattle.lsm_machine.proofs.StateMaps.{count_is, synced_is}
use Rattle.lsm_store.proofs.WorkSounds.{Goes, job_goes, machine}

-- ---- memory in order

ordered_with : (n : ℕ) (batch : List Operation) (vs : List Version) → AreOrdered vs → AreOrdered (with_batch n batch vs)
ordered_with n [] vs h = h
ordered_with n (operation ∷ rest) vs h =
    ordered_with n rest (placed (version_by n operation) vs) (ordered_tested (placed (version_by n operation) vs) (is_in_order-placed (version_by n operation) vs (tested vs h)))

-- in order no two are of one key and number
pub unique_ordered : (vs : List Version) → AreOrdered vs → IsUnique vs
unique_ordered [] h v w a b key number = absurd a
unique_ordered (x ∷ xs) h v w (inl a) (inl b) key number = a ∙ sym b
unique_ordered (x ∷ xs) h v w (inl a) (inr b) key number =
    let less = of_all (λ (z : Version). entry_order x z ≡ Less) xs (recursion_from_All (λ (z : Version). entry_order x z ≡ Less) xs h.0) w b in
    let below = older_number x.key x w less (key_itself x.key) (same_key-from x.key w.key (sym (ap (λ (z : Version). z.key) a) ∙ key)) in
    let head = ap (λ (z : Version). z.number) a in
    absurd (omega (arith, below, head, number))
unique_ordered (x ∷ xs) h v w (inr a) (inl b) key number =
    let less = of_all (λ (z : Version). entry_order x z ≡ Less) xs (recursion_from_All (λ (z : Version). entry_order x z ≡ Less) xs h.0) v a in
    let below = older_number x.key x v less (key_itself x.key) (same_key-from x.key v.key (sym (ap (λ (z : Version). z.key) b) ∙ sym key)) in
    let head = ap (λ (z : Version). z.number) b in
    absurd (omega (arith, below, head, number))
unique_ordered (x ∷ xs) h v w (inr a) (inr b) key number = unique_ordered xs h.1 v w a b key number

-- ---- where versions are

in_memory : (w : WorkView) (v : Version) → IsAmong v w.memory → IsAmong v (versions_in w)
in_memory w v a = among_left v w.memory (w.sealed ++ table_versions (places w.levels)) a

in_sealed : (w : WorkView) (v : Version) → IsAmong v w.sealed → IsAmong v (versions_in w)
in_sealed w v a = among_right v w.memory (w.sealed ++ table_versions (places w.levels)) (among_left v w.sealed (table_versions (places w.levels)) a)

in_tables : (w : WorkView) (v : Version) → HasVersion w.levels v → IsAmong v (versions_in w)
in_tables w v a = among_right v w.memory (w.sealed ++ table_versions (places w.levels)) (among_right v w.sealed (table_versions (places w.levels)) (in_has w.levels v a))

-- what a batch adds is numbered so
with_cases : (n : ℕ) (batch : List Operation) (vs : List Version) (u : Version) → IsAmong u (with_batch n batch vs) → (u.number ≡ n) ⊎ IsAmong u vs
with_cases n [] vs u a = inr a
with_cases n (operation ∷ rest) vs u a = ⊎_elim
    (λ e. inl e)
    (λ c. ⊎_elim (λ e. inl (ap (λ (x : Version). x.number) e)) (λ e. inr e) (placed_cases (version_by n operation) vs u c))
    (with_cases n rest (placed (version_by n operation) vs) u a)
  where
    placed_cases : (v : Version) (ws : List Version) (u : Version) → IsAmong u (placed v ws) → (u ≡ v) ⊎ IsAmong u ws
    placed_cases v [] u (inl e) = inl e
    placed_cases v [] u (inr a) = absurd a
    placed_cases v (w ∷ ws) u a = by (placed_cases v ws u) (entry_order v w) a
      where
        by : (IsAmong u (placed v ws) → (u ≡ v) ⊎ IsAmong u ws) → (o : Ordering) → IsAmong u (by_order o (v ∷ w ∷ ws) (v ∷ ws) (w ∷ placed v ws)) → (u ≡ v) ⊎ IsAmong u (w ∷ ws)
        by more Less (inl e) = inl e
        by more Less (inr b) = inr b
        by more Equal (inl e) = inl e
        by more Equal (inr b) = inr (inr b)
        by more Greater (inl e) = inr (inl e)
        by more Greater (inr b) = ⊎_elim (λ e. inl e) (λ c. inr (inr c)) (more b)

some_none : (x : OpenLog) → Some x ≡ None → ⊥
some_none x e = cc

module _ (m : Machine) (sound : IsSound m) where
  abbrev d : HaveMaps (versions_in m.work) m.state
  d = sound.tied.maps

  -- ---- only the state goes on

  state_sound : (t : State) → (maps : HaveMaps (versions_in m.work) t) → d.count ≤ maps.count → d.synced ≤ maps.synced → Goes m.state t → are_waiting t ≡ are_waiting m.state → t.open_log ≡ m.state.open_log → IsSound (machine t m.work)
  state_sound t maps count synced goes waiting log = record {
    tied = record {
      versions = sound.tied.versions;
      ordered = sound.tied.ordered;
      maps = maps;
      numbered = λ v a. let x = sound.tied.numbered v a in omega (arith, x, count);
      settled = λ v a. let x = sound.tied.settled v a in omega (arith, x, synced);
      tabled = λ v a. let x = sound.tied.tabled v a in omega (arith, x, synced);
    };
    waiting = record {
      none_waits = λ none. sound.waiting.none_waits (sym waiting ∙ none);
      flush_waits = λ s a flush. waiting ∙ sound.waiting.flush_waits s a flush;
      no_log = λ none. sound.waiting.no_log (sym log ∙ none);
    };
    ready = record {
      kept = sound.ready.kept;
      jobs = λ s a. job_goes m.state t m.work.sealed m.work.sealed s.job s.input goes refl (sound.ready.jobs s a);
      outputs = sound.ready.outputs;
    };
  }

  -- ---- all batches are synced

  synced_points : all_synced m.state.points ≡ points_of (versions_in m.work) d.count d.count
  synced_points = ap all_synced d.points ∙ all_synced-points_of (versions_in m.work) d.count d.synced d.within

  -- the same versions, in other places perhaps
  abbrev maps_as : (vs : List Version) → vs ≡ versions_in m.work → (t : State) → t.points ≡ all_synced m.state.points → t.snapshots ≡ m.state.snapshots → HaveMaps vs t
  maps_as vs same t points snapshots = record {
    count = d.count;
    synced = d.count;
    within = omega arith;
    points = points ∙ synced_points ∙ ap (λ (us : List Version). points_of us d.count d.count) (sym same);
    snapshots = λ snapshot a.
        let x = d.snapshots snapshot (subst (IsAmong snapshot) snapshots a) in
        (x.0, x.1 ∙ ap (λ (us : List Version). map_of us snapshot.point.count) (sym same));
  }

  abbrev maps_synced : (t : State) → t.points ≡ all_synced m.state.points → t.snapshots ≡ m.state.snapshots → HaveMaps (versions_in m.work) t
  maps_synced t points snapshots = maps_as (versions_in m.work) refl t points snapshots

  goes_synced : (t : State) → t.points ≡ all_synced m.state.points → t.snapshots ≡ m.state.snapshots → Goes m.state t
  goes_synced t points snapshots =
      let count = count_is (versions_in m.work) m.state d in
      let synced = synced_is (versions_in m.work) m.state d in
      let within = d.within in
      let now = synced_is (versions_in m.work) t (maps_synced t points snapshots) in
      let all_now = count_is (versions_in m.work) t (maps_synced t points snapshots) in
      record {
        synced = omega (arith, synced, within, now);
        count = omega (arith, count, all_now);
        snapshots = λ snapshot a. inl (subst (IsAmong snapshot) snapshots a);
      }

  sync_sound : (t : State) → t.points ≡ all_synced m.state.points → t.snapshots ≡ m.state.snapshots → are_waiting t ≡ are_waiting m.state → t.open_log ≡ m.state.open_log → IsSound (machine t m.work)
  sync_sound t points snapshots waiting log = state_sound t (maps_synced t points snapshots) (omega arith) d.within (goes_synced t points snapshots) waiting log

  sync_to_sound : (number : ℕ) → IsSound (machine (after m.state (SyncTo number)) m.work)
  sync_to_sound number = by (nat_le number m.state.points.synced)
    where
      by : (b : Bool) → IsSound (machine (cond b m.state (record m.state { points = all_synced m.state.points })) m.work)
      by true = sound
      by false = sync_sound (record m.state { points = all_synced m.state.points }) refl refl refl refl

  -- ---- a rotation

  rotate_sound : are_waiting m.state ≡ false → IsSound (machine (rotated m.state) (with_sealed m.work))
  rotate_sound not_waiting =
      let w = m.work in
      let good = sound.tied.versions in
      let same : versions_in (with_sealed w) ≡ versions_in w = sym (ap (λ (s : List Version). w.memory ++ (s ++ table_versions (places w.levels))) (sound.waiting.none_waits not_waiting)) in
      let no_flush : (s : Slot) → IsAmong (Some s) w.jobs.slots → is_flush s.job ≡ true → ⊥ = λ s a flush. false≢true (sym not_waiting ∙ sound.waiting.flush_waits s a flush) in
      record {
        tied = record {
          versions = record {
            unique = subst IsUnique (sym same) good.unique;
            order = (none_newer (w.memory ∷ map versions_of (places w.levels)), (good.order.0.1, good.order.1.1));
            runs = good.runs;
            ranges = good.ranges;
          };
          ordered = tt;
          maps = maps_as (versions_in (with_sealed w)) same (rotated m.state) refl refl;
          numbered = λ v a. sound.tied.numbered v (subst (IsAmong v) same a);
          settled = λ v a. sound.tied.numbered v (in_memory w v a);
          tabled = λ v a. sound.tied.numbered v (in_tables w v a);
        };
        waiting = record {
          none_waits = λ is. by m.state.open_log refl is;
          flush_waits = λ s a flush. absurd (no_flush s a flush);
          no_log = λ is. absurd (some_none (record { first = batch_count m.state.points + 1; used = 0 }) is);
        };
        ready = record {
          kept = sound.ready.kept;
          jobs = λ s a. job_goes m.state (rotated m.state) w.sealed w.memory s.job s.input (goes_synced (rotated m.state) refl refl) (runs_same s.job (no_flush s a)) (sound.ready.jobs s a);
          outputs = sound.ready.outputs;
        };
      }
    where
      none_newer : (ps : List (List Version)) → AllByRecursion (IsNewerPlace []) ps
      none_newer [] = tt
      none_newer (p ∷ ps) = (tt, none_newer ps)

      runs_same : (j : Job) → (is_flush j ≡ true → ⊥) → runs_of m.work.sealed j ≡ runs_of m.work.memory j
      runs_same Flush none = absurd (none refl)
      runs_same (Merge i upper lower) none = refl

      by : (o : Option OpenLog) → m.state.open_log ≡ o → nat_le 1 (cond (is_some m.state.open_log) 1 0) ≡ false → m.work.memory ≡ []
      by None is h = sound.waiting.no_log is
      by (Some log) is h = absurd (false≢true (sym h ∙ ap (λ (x : Option OpenLog). nat_le 1 (cond (is_some x) 1 0)) is))

  -- ---- a commit

  -- each version after those in memory is numbered at most the count
  behind : (v : Version) → IsAmong v (m.work.sealed ++ table_versions (places m.work.levels)) → v.number ≤ batch_count m.state.points
  behind v a =
      let le = sound.tied.numbered v (among_right v m.work.memory (m.work.sealed ++ table_versions (places m.work.levels)) a) in
      omega (arith, le, count_is (versions_in m.work) m.state d)

  unique_with : (n : ℕ) (batch : List Operation) → batch_count m.state.points < n → IsUnique (with_batch n batch m.work.memory ++ (m.work.sealed ++ table_versions (places m.work.levels)))
  unique_with n batch above v u x y key number = ⊎_elim
      (λ p. ⊎_elim
      (λ q. unique_ordered (with_batch n batch m.work.memory) (ordered_with n batch m.work.memory sound.tied.ordered) v u p q key number)
      (λ q. ⊎_elim
      (λ e. let le = behind u q in absurd (omega (arith, e, number, le, above)))
      (λ old. sound.tied.versions.unique v u (in_memory m.work v old) (in_rest u q) key number)
      (with_cases n batch m.work.memory v p))
      (among_either u (with_batch n batch m.work.memory) rest y))
      (λ p. ⊎_elim
      (λ q. ⊎_elim
      (λ e. let le = behind v p in absurd (omega (arith, e, number, le, above)))
      (λ old. sound.tied.versions.unique v u (in_rest v p) (in_memory m.work u old) key number)
      (with_cases n batch m.work.memory u q))
      (λ q. sound.tied.versions.unique v u (in_rest v p) (in_rest u q) key number)
      (among_either u (with_batch n batch m.work.memory) rest y))
      (among_either v (with_batch n batch m.work.memory) rest x)
    where
      rest : List Version
      rest = m.work.sealed ++ table_versions (places m.work.levels)

      in_rest : (z : Version) → IsAmong z (m.work.sealed ++ table_versions (places m.work.levels)) → IsAmong z (versions_in m.work)
      in_rest z a = among_right z m.work.memory (m.work.sealed ++ table_versions (places m.work.levels)) a

  -- with the batch memory is newer than places that it was newer than
  newer_with : (batch : List Operation) (ps : List (List Version)) → AllByRecursion (λ (p : List Version). (v : Version) → IsAmong v p → v.number ≤ batch_count m.state.points) ps → AllByRecursion (IsNewerPlace m.work.memory) ps
      → AllByRecursion (IsNewerPlace (with_batch (batch_count m.state.points + 1) batch m.work.memory)) ps
  newer_with batch [] x y = tt
  newer_with batch (q ∷ qs) x y = (
    newer_from (with_batch (batch_count m.state.points + 1) batch m.work.memory) q (λ v u a c same. ⊎_elim
        (λ e. let z = x.0 u c in omega (arith, z, e))
        (λ e. of_all (λ z. v.key ≡ z.key → z.number < v.number) q (of_all (λ z. AllByRecursion (λ w. z.key ≡ w.key → w.number < z.number) q) m.work.memory y.0 v e) u c same)
        (with_cases (batch_count m.state.points + 1) batch m.work.memory v a)),
    newer_with batch qs x.1 y.1,
  )

  later_tables : (ps : List (List Table)) → ((v : Version) → IsAmong v (table_versions ps) → v.number ≤ batch_count m.state.points) → AllByRecursion (λ (p : List Version). (v : Version) → IsAmong v p → v.number ≤ batch_count m.state.points) (map versions_of ps)
  later_tables [] f = tt
  later_tables (p ∷ ps) f = ((λ v a. f v (among_left v (versions_of p) (table_versions ps) a)), later_tables ps (λ v a. f v (among_right v (versions_of p) (table_versions ps) a)))

  commit_sound : (batch : List Operation) (log : OpenLog) → m.state.open_log ≡ Some log → IsSound (machine (after m.state (Commit batch)) (work_called m (Commit batch)))
  commit_sound batch log open_is =
      let w = m.work in
      let good = sound.tied.versions in
      let count = count_is (versions_in w) m.state d in
      let law = commit_law m batch (all_of (λ (v : Version). v.number ≤ batch_count m.state.points) (versions_in w) (λ v a. let x = sound.tied.numbered v a in omega (arith, x, count))) in
      let older : (n : ℕ) → n < d.count + 1 → map_of (versions_in (work_called m (Commit batch))) n ≡ map_of (versions_in w) n = λ n lt. (law.older n (omega (arith, lt, count))).maps in
      let applied : map_of (versions_in (work_called m (Commit batch))) (d.count + 1) ≡ apply (map_of (versions_in w) d.count) batch =
      subst (λ c. map_of (versions_in (work_called m (Commit batch))) (c + 1) ≡ apply (map_of (versions_in w) c) batch) count law.applied in
      let within = d.within in
      let maps : HaveMaps (versions_in (work_called m (Commit batch))) (after m.state (Commit batch)) = record {
        count = d.count + 1;
        synced = d.synced;
        within = omega (arith, within);
        points = ap (λ p. points_with p batch) d.points ∙ sym (points_of-next (versions_in w) (versions_in (work_called m (Commit batch))) d.count d.synced d.within older batch applied);
        snapshots = λ snapshot a. let x = d.snapshots snapshot a in (omega (arith, x.0), x.1 ∙ sym (older snapshot.point.count (omega (arith, x.0))));
      } in
      let new_count : batch_count (after m.state (Commit batch)).points ≡ d.count + 1 = count_is (versions_in (work_called m (Commit batch))) (after m.state (Commit batch)) maps in
      let goes : Goes m.state (after m.state (Commit batch)) = record {
        synced = omega arith;
        count = omega (arith, count, new_count);
        snapshots = λ snapshot a. inl a;
      } in
      let rest = w.sealed ++ table_versions (places w.levels) in
      record {
        tied = record {
          versions = record {
            unique = unique_with (batch_count m.state.points + 1) batch (omega arith);
            order = (
              newer_with batch (w.sealed ∷ map versions_of (places w.levels))
                  ((λ v a. behind v (among_left v w.sealed (table_versions (places w.levels)) a)), later_tables (places w.levels) (λ v a. behind v (among_right v w.sealed (table_versions (places w.levels)) a)))
                  good.order.0,
              good.order.1,
            );
            runs = good.runs;
            ranges = good.ranges;
          };
          ordered = ordered_with (batch_count m.state.points + 1) batch w.memory sound.tied.ordered;
          maps = maps;
          numbered = λ v a. ⊎_elim
              (λ b. ⊎_elim (λ e. omega (arith, e, count)) (λ c. let x = sound.tied.numbered v (in_memory w v c) in omega (arith, x)) (with_cases (batch_count m.state.points + 1) batch w.memory v b))
              (λ b. let x = behind v b in omega (arith, x, count))
              (among_either v (with_batch (batch_count m.state.points + 1) batch w.memory) rest a);
          settled = sound.tied.settled;
          tabled = sound.tied.tabled;
        };
        waiting = record {
          none_waits = sound.waiting.none_waits;
          flush_waits = sound.waiting.flush_waits;
          no_log = λ is. absurd (some_none (with_sectors batch log) (sym (ap (option_map (with_sectors batch)) open_is) ∙ is));
        };
        ready = record {
          kept = sound.ready.kept;
          jobs = λ s a. job_goes m.state (after m.state (Commit batch)) w.sealed w.sealed s.job s.input goes refl (sound.ready.jobs s a);
          outputs = sound.ready.outputs;
        };
      }

  -- ---- snapshots

  snapshot_sound : IsSound (machine (after m.state Snapshot) m.work)
  snapshot_sound =
      let count = count_is (versions_in m.work) m.state d in
      let present : present_map m.state.points ≡ map_of (versions_in m.work) d.count = ap present_map d.points ∙ present_map-points_of (versions_in m.work) d.count d.synced d.within in
      state_sound (after m.state Snapshot)
      (record {
        count = d.count;
        synced = d.synced;
        within = d.within;
        points = d.points;
        snapshots = λ snapshot a. ⊎_elim
            (λ old. d.snapshots snapshot old)
            (λ new. ⊎_elim
            (λ e. let at : snapshot.point.count ≡ batch_count m.state.points = ap (λ (x : LiveSnapshot). x.point.count) e in
            (omega (arith, at, count), ap (λ (x : LiveSnapshot). x.point.map) e ∙ present ∙ ap (map_of (versions_in m.work)) (sym (at ∙ count))))
            (λ none. absurd none)
            new)
            (among_either snapshot m.state.snapshots (next_taken m.state ∷ []) a);
      })
      (omega arith) (omega arith)
      (record {
        synced = omega arith;
        count = omega arith;
        snapshots = λ snapshot a. ⊎_elim
            (λ old. inl old)
            (λ new. ⊎_elim (λ e. let at : snapshot.point.count ≡ batch_count m.state.points = ap (λ (x : LiveSnapshot). x.point.count) e in inr (omega (arith, at))) (λ none. absurd none) new)
            (among_either snapshot m.state.snapshots (next_taken m.state ∷ []) a);
      })
      refl refl

  release_sound : (number : ℕ) → IsSound (machine (after m.state (Release number)) m.work)
  release_sound number =
      let still : (snapshot : LiveSnapshot) → IsAmong snapshot (without number m.state.snapshots) → IsAmong snapshot m.state.snapshots =
      λ snapshot a. (passed_among (λ (x : LiveSnapshot). not (x.number == number)) snapshot m.state.snapshots a).0 in
      state_sound (after m.state (Release number))
      (record { count = d.count; synced = d.synced; within = d.within; points = d.points; snapshots = λ snapshot a. d.snapshots snapshot (still snapshot a) })
      (omega arith) (omega arith)
      (record { synced = omega arith; count = omega arith; snapshots = λ snapshot a. inl (still snapshot a) })
      refl refl

  -- ---- any call that is answered

  open_at : (batch : List Operation) (o : Option OpenLog) → fits_in m.state.log_sectors batch o ≡ true → (log : OpenLog) × (o ≡ Some log)
  open_at batch (Some log) h = (log, refl)
  open_at batch None h = absurd (false≢true h)

  call_sound : (call : Call) → refusal m.state call ≡ None → IsSound (machine (after m.state call) (work_called m call))
  call_sound (Commit batch) none =
      let log = open_at batch m.state.open_log (unrefused_commit m.state batch none).fits in
      commit_sound batch log.0 log.1
  call_sound (CommitIf guards batch) none =
      let log = open_at batch m.state.open_log (unrefused_commit m.state batch (unguarded m.state guards batch none)).fits in
      commit_sound batch log.0 log.1
  call_sound Sync none = sync_sound (after m.state Sync) refl refl refl refl
  call_sound (SyncTo number) none = sync_to_sound number
  call_sound (Get at key) none = sound
  call_sound (Scan at from to limit) none = sound
  call_sound Snapshot none = snapshot_sound
  call_sound (Release number) none = release_sound number
  call_sound Rotate none = rotate_sound (unrefused_rotation m.state none)
  call_sound LogRoom none = sound

pub call_sound_law : CallSoundLaw
call_sound_law m call sound none = call_sound m sound call none

pub rotation_sound_law : RotationSoundLaw
rotation_sound_law m sound not_waiting = rotate_sound m sound not_waiting
