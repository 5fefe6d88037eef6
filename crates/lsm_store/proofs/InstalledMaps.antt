-- What stays of the maps when a job is installed, a batch committed, or the log rotated.
use Rattle.std.proofs.Common.{◌≡◌, ◌⊎◌, inl, inr, ⊎_elim, ℕ, Option, option_and_then, ◌+◌, ◌<◌, ◌≤◌, false, cond, List, [], ◌∷◌, ◌++◌, map, sym, ap, ◌∙◌, subst, arith}
use Rattle.lsm_codec.specs.Keys.{Bytes}
use Rattle.std.specs.List.{AllByRecursion}
use Rattle.std.proofs.lemmas.Bool.{false≢true}
use Rattle.lsm_codec.specs.Versions.{Version, newest}
use Rattle.lsm_codec.proofs.Lists.{all_left, all_right}
use Rattle.lsm_mem.specs.EntryOrder.{with_batch}
use Rattle.lsm_mem.proofs.Maps.{map_of-newest}
use Rattle.lsm_mem.proofs.Newest.{newest-with_batch_newer}
use Rattle.lsm_merge.specs.Inputs.{MergeInput, kept_of}
use Rattle.lsm_mem.specs.Versions.{joined}
use Rattle.lsm_merge.specs.Laws.{IsKeptAt}
use Rattle.lsm_levels.specs.Among.{IsAmong}
use Rattle.lsm_levels.specs.Tables.{Table, versions_of}
use Rattle.lsm_levels.specs.Levels.{Levels, all_tables, places}
use Rattle.lsm_levels.specs.Pick.{Job, Flush, Merge, is_flush, installed_levels}
use Rattle.lsm_levels.specs.Orders.{IsNewerPlace}
use Rattle.lsm_levels.specs.Held.{IsHeld, HasVersion, MergesVersions}
use Rattle.lsm_levels.proofs.Members.{among_left, among_right, among_either}
use Rattle.lsm_levels.proofs.Ranges.{all_of}
use Rattle.lsm_levels.proofs.Taking.{in_tables, of_table, level_of_place, place_of_level, newer_than, merging_law}
use Rattle.lsm_jobs.specs.Slots.{Slot, outputs_at}
use Rattle.lsm_jobs.specs.Taking.{runs_of}
use Rattle.lsm_open.proofs.NewestFound.{newer_found, newest-append, map_of_batches}
use Rattle.lsm_machine.specs.RecoveryPoints.{batch_count}
use Rattle.lsm_machine.specs.State.{State}
use Rattle.lsm_machine.specs.Work.{WorkView, versions_in}
use Rattle.lsm_machine.specs.WorkEffects.{with_installed}
use Rattle.lsm_machine.specs.WorkMaps.{AreVersions, IsAsked, IsJobOf, MayBePutIn, InstallLaw, RotationLaw, CommitLaw}
use Rattle.lsm_machine.specs.Machine.{Machine}
use Rattle.lsm_machine.proofs.Replaced.{IsReplacing, replaced_maps}
use Rattle.lsm_jobs.proofs.GatheredRuns.{joined_runs}
use Rattle.lsm_jobs.proofs.Outcomes.{kept_among}

-- ---- the versions of runs of tables

abbrev pub table_versions : List (List Table) → List Version
table_versions ps = joined (map versions_of ps)

in_places : (v : Version) (ps : List (List Table)) → IsAmong v (table_versions ps) → (t : Table) × IsAmong t (all_tables ps) × IsAmong v t.versions
in_places v [] a = absurd a
in_places v (p ∷ ps) a = ⊎_elim
    (λ b. let t = in_tables v p b in (t.0, among_left t.0 p (all_tables ps) t.1, t.2))
    (λ b. let t = in_places v ps b in (t.0, among_right t.0 p (all_tables ps) t.1, t.2))
    (among_either v (versions_of p) (table_versions ps) a)

of_places : (v : Version) (t : Table) (ps : List (List Table)) → IsAmong t (all_tables ps) → IsAmong v t.versions → IsAmong v (table_versions ps)
of_places v t [] a b = absurd a
of_places v t (p ∷ ps) a b = ⊎_elim
    (λ c. among_left v (versions_of p) (table_versions ps) (of_table v t p c b))
    (λ c. among_right v (versions_of p) (table_versions ps) (of_places v t ps c b))
    (among_either t p (all_tables ps) a)

pub has_in : (levels : Levels) (v : Version) → IsAmong v (table_versions (places levels)) → HasVersion levels v
has_in levels v a =
    let t = in_places v (places levels) a in
    let k = level_of_place levels t.0 t.1 in
    record { place = k.0; table = t.0; there = k.1; has = t.2 }

pub in_has : (levels : Levels) (v : Version) → HasVersion levels v → IsAmong v (table_versions (places levels))
in_has levels v h = of_places v h.table (places levels) (place_of_level levels h.place h.table h.there) h.has

-- ---- the versions of a merge's input

-- they are those of its tables
pub merge_versions : (sealed : List Version) (input : MergeInput) (i : ℕ) (upper lower : List Table) → input.runs ≡ runs_of sealed (Merge i upper lower) → joined input.runs ≡ versions_of (upper ++ lower)
merge_versions sealed input i upper lower runs = ap joined runs ∙ joined_runs (upper ++ lower)

-- ---- an install

module _ (w : WorkView) (good : AreVersions w) where
  abbrev tabled : Levels → List Version
  tabled levels = table_versions (places levels)

  -- the versions after an install of a job
  abbrev replaced_versions : Job → List Table → List Version
  replaced_versions job new = w.memory ++ (cond (is_flush job) [] w.sealed ++ tabled (installed_levels w.levels job new))

  -- where a version is
  three_places : (memory sealed tables : List Version) (v : Version) → IsAmong v (memory ++ (sealed ++ tables)) → IsAmong v memory ⊎ (IsAmong v sealed ⊎ IsAmong v tables)
  three_places memory sealed tables v a = ⊎_elim (λ b. inl b) (λ b. inr (among_either v sealed tables b)) (among_either v memory (sealed ++ tables) a)

  in_memory : (memory sealed tables : List Version) (v : Version) → IsAmong v memory → IsAmong v (memory ++ (sealed ++ tables))
  in_memory memory sealed tables v a = among_left v memory (sealed ++ tables) a

  in_sealed : (memory sealed tables : List Version) (v : Version) → IsAmong v sealed → IsAmong v (memory ++ (sealed ++ tables))
  in_sealed memory sealed tables v a = among_right v memory (sealed ++ tables) (among_left v sealed tables a)

  in_tabled : (memory sealed tables : List Version) (v : Version) → IsAmong v tables → IsAmong v (memory ++ (sealed ++ tables))
  in_tabled memory sealed tables v a = among_right v memory (sealed ++ tables) (among_right v sealed tables a)

  flush_replacing : (input : MergeInput) (new : List Table) → input.bottom ≡ false → input.runs ≡ runs_of w.sealed Flush → versions_of new ≡ kept_of input → IsReplacing input (versions_in w) (replaced_versions Flush new)
  flush_replacing input new bottom runs outputs = record {
    unique = good.unique;
    inputs = λ v a. in_sealed w.memory w.sealed (tabled w.levels) v (sealed_of v a);
    stays = λ v a. ⊎_elim
        (λ b. inr (in_memory w.memory [] (tabled (installed_levels w.levels Flush new)) v b))
        (λ b. ⊎_elim
        (λ c. inl (of_sealed v c))
        (λ c. inr (in_tabled w.memory [] (tabled (installed_levels w.levels Flush new)) v (among_right v (versions_of new) (tabled w.levels) c)))
        b)
        (three_places w.memory w.sealed (tabled w.levels) v a);
    kept = λ v a. in_tabled w.memory [] (tabled (installed_levels w.levels Flush new)) v (among_left v (versions_of new) (tabled w.levels) (subst (IsAmong v) (sym outputs) a));
    nothing_else = λ v a. ⊎_elim
        (λ b. in_memory w.memory w.sealed (tabled w.levels) v b)
        (λ b. ⊎_elim
        (λ none. absurd none)
        (λ c. ⊎_elim
        (λ d. in_sealed w.memory w.sealed (tabled w.levels) v (sealed_of v (kept_among input v (subst (IsAmong v) outputs d))))
        (λ d. in_tabled w.memory w.sealed (tabled w.levels) v d)
        (among_either v (versions_of new) (tabled w.levels) c))
        b)
        (three_places w.memory [] (tabled (installed_levels w.levels Flush new)) v a);
    lowest = λ set v u a b c d. absurd (false≢true (sym bottom ∙ set));
  }
    where
      sealed_of : (v : Version) → IsAmong v (joined input.runs) → IsAmong v w.sealed
      sealed_of v a = ⊎_elim (λ b. b) (λ none. absurd none) (among_either v w.sealed [] (subst (λ (rs : List (List Version)). IsAmong v (joined rs)) runs a))

      of_sealed : (v : Version) → IsAmong v w.sealed → IsAmong v (joined input.runs)
      of_sealed v a = subst (λ (rs : List (List Version)). IsAmong v (joined rs)) (sym runs) (among_left v w.sealed [] a)

  -- what is in memory or sealed is newer than what is in tables
  pub front_newer : (front : List Version) (ps : List (List Table)) (u v : Version) → AllByRecursion (IsNewerPlace front) (map versions_of ps) → IsAmong u front → IsAmong v (table_versions ps) → u.key ≡ v.key → v.number < u.number
  front_newer front [] u v h a b same = absurd b
  front_newer front (p ∷ ps) u v h a b same = ⊎_elim
      (λ c. newer_than front (versions_of p) u v h.0 a c same)
      (λ c. front_newer front ps u v h.1 a c same)
      (among_either v (versions_of p) (table_versions ps) b)

  module _ (input : MergeInput) (i : ℕ) (upper lower new : List Table) (held : IsHeld w.levels input.bottom (Merge i upper lower)) (runs : input.runs ≡ runs_of w.sealed (Merge i upper lower)) (outputs : versions_of new ≡ kept_of input) where
    abbrev merged_levels : Levels
    merged_levels = installed_levels w.levels (Merge i upper lower) new

    law : MergesVersions w.levels merged_levels input.bottom (upper ++ lower) new
    law = merging_law w.levels input.bottom i upper lower new good.runs held

    of_runs : (v : Version) → IsAmong v (joined input.runs) → IsAmong v (versions_of (upper ++ lower))
    of_runs v a = subst (IsAmong v) (merge_versions w.sealed input i upper lower runs) a

    to_runs : (v : Version) → IsAmong v (versions_of (upper ++ lower)) → IsAmong v (joined input.runs)
    to_runs v a = subst (IsAmong v) (sym (merge_versions w.sealed input i upper lower runs)) a

    input_in : (v : Version) → IsAmong v (joined input.runs) → HasVersion w.levels v
    input_in v a =
        let t = in_tables v (upper ++ lower) (of_runs v a) in
        let k = law.inputs_there t.0 t.1 in
        record { place = k.0; table = t.0; there = k.1; has = t.2 }

    before_tables : (v : Version) → HasVersion w.levels v → IsAmong v (versions_in w)
    before_tables v a = in_tabled w.memory w.sealed (tabled w.levels) v (in_has w.levels v a)

    after_tables : (v : Version) → HasVersion merged_levels v → IsAmong v (replaced_versions (Merge i upper lower) new)
    after_tables v a = in_tabled w.memory w.sealed (tabled merged_levels) v (in_has merged_levels v a)

    newer_front : (v u : Version) → IsAmong v (joined input.runs) → IsAmong u w.memory ⊎ IsAmong u w.sealed → u.key ≡ v.key → u.number < v.number → ⊥
    newer_front v u a front same older =
        let there = in_has w.levels v (input_in v a) in
        ⊎_elim
        (λ b. let above = front_newer w.memory (places w.levels) u v good.order.0.1 b there same in omega (arith, older, above))
        (λ b. let above = front_newer w.sealed (places w.levels) u v good.order.1.0 b there same in omega (arith, older, above))
        front

    merge_replacing : IsReplacing input (versions_in w) (replaced_versions (Merge i upper lower) new)
    merge_replacing = record {
      unique = good.unique;
      inputs = λ v a. before_tables v (input_in v a);
      stays = λ v a. ⊎_elim
          (λ b. inr (in_memory w.memory w.sealed (tabled merged_levels) v b))
          (λ b. ⊎_elim
          (λ c. inr (in_sealed w.memory w.sealed (tabled merged_levels) v c))
          (λ c. ⊎_elim (λ d. inl (to_runs v d)) (λ d. inr (after_tables v d)) (law.stays v (has_in w.levels v c)))
          b)
          (three_places w.memory w.sealed (tabled w.levels) v a);
      kept = λ v a. after_tables v (law.made v (subst (IsAmong v) (sym outputs) a));
      nothing_else = λ v a. ⊎_elim
          (λ b. in_memory w.memory w.sealed (tabled w.levels) v b)
          (λ b. ⊎_elim
          (λ c. in_sealed w.memory w.sealed (tabled w.levels) v c)
          (λ c. ⊎_elim
          (λ d. before_tables v d)
          (λ d. before_tables v (input_in v (kept_among input v (subst (IsAmong v) outputs d))))
          (law.nothing_else v (has_in merged_levels v c)))
          b)
          (three_places w.memory w.sealed (tabled merged_levels) v a);
      lowest = λ set v u a b same older. subst (IsAmong u) outputs (⊎_elim
          (λ c. absurd (newer_front v u a (inl c) same older))
          (λ c. ⊎_elim
          (λ d. absurd (newer_front v u a (inr d) same older))
          (λ d. law.lowest (record { order = good.order.1.1; ranges = good.ranges }) set v u (of_runs v a) (has_in merged_levels u d) same older)
          c)
          (three_places w.memory w.sealed (tabled merged_levels) u b));
    }

  any_replacing : (input : MergeInput) (job : Job) (new : List Table) → IsHeld w.levels input.bottom job → input.runs ≡ runs_of w.sealed job → versions_of new ≡ kept_of input → IsReplacing input (versions_in w) (replaced_versions job new)
  any_replacing input Flush new held runs outputs = flush_replacing input new held runs outputs
  any_replacing input (Merge i upper lower) new held runs outputs = merge_replacing input i upper lower new held runs outputs

-- each count that can be asked for is one at which the input's map stays
kept_at_asked : (t : State) (sealed : List Version) (job : Job) (input : MergeInput) → IsJobOf t sealed job input → (n : ℕ) → IsAsked t n → IsKeptAt input.cuts (joined input.runs) n
kept_at_asked t sealed job input is n (inl point) = record {
  cut = is.cut;
  is_cut = is.is_cut;
  at = inr (
    all_of (λ (v : Version). v.number ≤ n) (joined input.runs) (λ v a. let below = is.inputs v a in let known = point.0 in omega (arith, below.1, known)),
    all_of (λ (v : Version). v.number ≤ is.cut) (joined input.runs) (λ v a. (is.inputs v a).0),
  );
}
kept_at_asked t sealed job input is n (inr (snapshot, there, same)) = ⊎_elim
    (λ cut. record { cut = snapshot.point.count; is_cut = cut; at = inl same })
    (λ since. record {
      cut = is.cut;
      is_cut = is.is_cut;
      at = inr (
        all_of (λ (v : Version). v.number ≤ n) (joined input.runs) (λ v a. let below = is.inputs v a in omega (arith, below.0, since, same)),
        all_of (λ (v : Version). v.number ≤ is.cut) (joined input.runs) (λ v a. (is.inputs v a).0),
      );
    })
    (is.asked snapshot there)

-- the versions after an install replace those before
pub installed_replacing : (m : Machine) (job : ℕ) (slot : Slot) → AreVersions m.work → IsHeld m.work.levels slot.input.bottom slot.job → IsJobOf m.state m.work.sealed slot.job slot.input
    → MayBePutIn slot.job slot.input (outputs_at slot.stage) → IsReplacing slot.input (versions_in m.work) (versions_in (with_installed m.work job slot))
installed_replacing m job slot good held is outputs = any_replacing m.work good slot.input slot.job (outputs_at slot.stage) held is.runs outputs.versions

pub install_law : InstallLaw
install_law m job slot good held is outputs n asked =
    replaced_maps slot.input (versions_in m.work) (versions_in (with_installed m.work job slot)) n
    (installed_replacing m job slot good held is outputs)
    (kept_at_asked m.state m.work.sealed slot.job slot.input is n asked)

-- ---- a rotation and a commit

pub rotation_law : RotationLaw
rotation_law w none = sym (ap (λ (s : List Version). w.memory ++ (s ++ table_versions (places w.levels))) none)

pub commit_law : CommitLaw
commit_law m batch numbered =
    let c = batch_count m.state.points in
    let memory = m.work.memory in
    let tail = m.work.sealed ++ table_versions (places m.work.levels) in
    let bound = λ (v : Version). v.number ≤ c in
    record {
      older = λ n le.
          let same : (q : Bytes) → newest q n (with_batch (c + 1) batch memory ++ tail) ≡ newest q n (memory ++ tail) = λ q.
          newest-append q n (with_batch (c + 1) batch memory) tail
          ∙ ap (λ (o : Option Version). newer_found o (newest q n tail)) (newest-with_batch_newer n (c + 1) batch q memory (omega (arith, le)))
          ∙ sym (newest-append q n memory tail) in
          record {
            values = λ q. ap (option_and_then (λ (v : Version). v.value)) (same q);
            maps = map_of-newest n n (with_batch (c + 1) batch memory ++ tail) (memory ++ tail) same;
          };
      applied = map_of_batches c (batch ∷ []) memory tail (all_left bound memory tail numbered) (all_right bound memory tail numbered);
    }
