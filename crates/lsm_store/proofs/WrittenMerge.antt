-- A merge whose outputs are all written may be installed.
use Rattle.std.proofs.Common.{◌≡◌, inl, inr, ⊎_elim, ℕ, suc, ◌≤◌, ◌^◌, Bool, true, false, List, ◌++◌, length, map, All, Option, Some, refl, sym, ap, subst, ◌∙◌, option_and_then}
use Rattle.std.specs.List.{AllByRecursion}
use Rattle.lsm_codec.specs.Keys.{Bytes}
use Rattle.lsm_codec.specs.Pairs.{Pairwise}
use Rattle.lsm_codec.specs.Versions.{Version, newest}
use Rattle.lsm_codec.specs.declared.table_record.TableRecord.{TableRecord}
use Rattle.lsm_device.specs.Disk.{Disk, seen}
use Rattle.lsm_jobs.proofs.Outcomes.{made_versions, made_run, kept_among}
use Rattle.lsm_jobs.specs.Outputs.{AreMadeOf}
use Rattle.lsm_jobs.specs.Slots.{Slot, Writing, is_writing, outputs_at}
use Rattle.lsm_levels.proofs.Members.{among_left, among_right, among_either}
use Rattle.lsm_codec.proofs.Lists.{all_append}
use Rattle.lsm_levels.proofs.Ranges.{all_of, of_all}
use Rattle.lsm_levels.proofs.Runs.{runs_law}
use Rattle.lsm_levels.proofs.Taking.{in_tables, of_table, merging_law}
use Rattle.lsm_levels.specs.Among.{IsAmong}
use Rattle.lsm_levels.specs.Held.{AreRuns, HasItsTables, IsHeld, AreOutputs}
use Rattle.lsm_levels.specs.Levels.{Levels, level, places, replaced, merged_at}
use Rattle.lsm_levels.specs.Pick.{Job, Merge}
use Rattle.lsm_levels.specs.Stored.{IsStored, AreStored}
use Rattle.lsm_levels.specs.Tables.{Table, KeyRange, record_of, at_most, meets, versions_of}
use Rattle.lsm_mem.specs.Versions.{NumberedAtMost, value_at}
use Rattle.lsm_merge.proofs.MapLaws.{keep_law}
use Rattle.lsm_merge.specs.Inputs.{kept_of}
use Rattle.lsm_mem.specs.Versions.{joined}
use Rattle.lsm_merge.specs.Keeping.{keep}
use Rattle.lsm_merge.specs.Laws.{IsKeptAt}
use Rattle.lsm_open.proofs.FreeWrites.{held_synced}
use Rattle.lsm_machine.proofs.SameMaps.{map_of-values}
use Rattle.lsm_open.proofs.ListPairs.{All-left, All-right}
use Rattle.lsm_open.proofs.TableFrames.{numbered_tables}
use Rattle.lsm_open.proofs.VersionOrders.{share_none_back}
use Rattle.lsm_open.specs.Placements.{Placement}
use Rattle.lsm_open.specs.Replacing.{AreAmong}
use Rattle.lsm_open.specs.Switching.{Parts, with_inputs, with_outputs, KeepsNewestOrMap, AreMerged}
use Rattle.lsm_open.specs.Tables.{first_data, table_versions, IsTableAt, AscendInRun}
use Rattle.lsm_open.specs.ToldTables.{records_of}
use Rattle.lsm_open.specs.Writing.{PlacedTable}
use Rattle.lsm_store.proofs.InstalledMaps.{merge_versions, in_has}
use Rattle.lsm_store.proofs.MergedRecords.{merge_order, merge_inputs, after_parts}
use Rattle.lsm_store.proofs.MergeInputs.{same_newest, uppers_at, IsBeside, upper_in, in_upper, lower_in, in_lower, beside_upper, beside_inputs, beside_bottom}
use Rattle.lsm_open.proofs.StoredRecords.{versions_run, run_order, records_ascend}
use Rattle.lsm_store.proofs.StoredLevels.{replaced_have}
use Rattle.lsm_store.proofs.WorkSounds.{there}
use Rattle.lsm_store.proofs.WrittenOutputs.{outputs_stored, outputs_named}
use Rattle.lsm_store.specs.InstalledJobs.{output_records, placed_for, that_meet, parts_at, parts_if, parts_of}
use Rattle.lsm_store.specs.StoredTables.{IsStoredWithJobs}
use Rattle.lsm_machine.specs.Work.{versions_in}
use Rattle.lsm_machine.specs.WorkMaps.{IsJobOf}
use Rattle.lsm_machine.specs.WorkRefusals.{held}
use Rattle.lsm_machine.specs.WorkSound.{IsSound}
use Rattle.lsm_machine.specs.Machine.{Machine}
use Rattle.lsm_table.specs.Division.{ShareNoKey}
use Rattle.lsm_store.proofs.MergeParts.{share_none, upper_is, lower_is, upper_stored, lower_stored, between_apart, behind_from, from_weaker, IsBehind}

abbrev Versions : Type 0
Versions = List Version

module _ (m : Machine) (p : Placement) (xs ys : List PlacedTable) (d : Disk) (job : ℕ) (slot : Slot) (outputs : List Table) (i : ℕ) (upper lower : List Table) (sound : IsSound m) (stored : IsStoredWithJobs p (xs ++ (placed_for slot ++ ys)) m.state d)
    (named : records_of m.work.levels ≡ p.tables) (tables : AreStored (seen d) (first_data p.logs.log_sectors) (places m.work.levels)) (found : held m job ≡ Some slot) (merge : slot.job ≡ Merge i upper lower) (stage : slot.stage ≡ Writing outputs 0)
    (made : AreMadeOf slot.input outputs) (numbers : AllByRecursion (λ t. t.number ≤ 2 ^ 63) outputs) where
  abbrev n : ℕ
  n = p.logs.log_sectors

  abbrev base : ℕ
  base = p.logs.base

  abbrev levels : Levels
  levels = m.work.levels

  abbrev runs : AreRuns m.work.levels
  runs = sound.tied.versions.runs

  has : HasItsTables m.work.levels slot.input.bottom i upper lower
  has = subst (IsHeld m.work.levels slot.input.bottom) merge (sound.ready.kept.held slot (there m sound job slot found))

  its_job : IsJobOf m.state m.work.sealed (Merge i upper lower) slot.input
  its_job = subst (λ (j : Job). IsJobOf m.state m.work.sealed j slot.input) merge (sound.ready.jobs slot (there m sound job slot found))

  abbrev r : KeyRange
  r = has.range

  order : at_most has.range.first has.range.last ≡ true
  order = merge_order m.work.levels slot.input.bottom i upper lower runs has

  abbrev x : Parts
  x = parts_at m.work.levels i has.range (length upper)

  was : p.tables ≡ with_inputs (parts_at m.work.levels i has.range (length upper))
  was = sym named ∙ merge_inputs m.work.levels slot.input.bottom i upper lower runs has ∙ ap (λ (o : Option KeyRange). with_inputs (parts_if m.work.levels i o (length upper))) has.hull_is

  -- ---- the inputs

  abbrev input_versions : List Version
  input_versions = joined slot.input.runs

  abbrev there_versions : List Version
  there_versions = table_versions p.logs.log_sectors (seen d) x.upper ++ table_versions p.logs.log_sectors (seen d) x.lower

  is_upper : table_versions p.logs.log_sectors (seen d) (parts_at m.work.levels i has.range (length upper)).upper ≡ versions_of (uppers_at m.work.levels i has.range (length upper))
  is_upper = upper_is n (seen d) levels tables r (length upper) i

  is_lower : table_versions p.logs.log_sectors (seen d) (parts_at m.work.levels i has.range (length upper)).lower ≡ versions_of (that_meet has.range (level m.work.levels (suc i)))
  is_lower = lower_is n (seen d) levels tables r (length upper) i

  of_runs : (v : Version) → IsAmong v (joined slot.input.runs) → IsAmong v (versions_of (upper ++ lower))
  of_runs v a = subst (IsAmong v) (merge_versions m.work.sealed slot.input i upper lower its_job.runs) a

  to_disk : (v : Version) → IsAmong v (joined slot.input.runs) → IsAmong v (table_versions p.logs.log_sectors (seen d) (parts_at m.work.levels i has.range (length upper)).upper ++ table_versions p.logs.log_sectors (seen d) (parts_at m.work.levels i has.range (length upper)).lower)
  to_disk v a =
      let t = in_tables v (upper ++ lower) (of_runs v a) in
      ⊎_elim
      (λ b. among_left v (table_versions n (seen d) x.upper) (table_versions n (seen d) x.lower) (subst (IsAmong v) (sym is_upper) (of_table v t.0 (uppers_at levels i r (length upper)) (in_upper levels slot.input.bottom i upper lower runs has t.0 b) t.2)))
      (λ b. among_right v (table_versions n (seen d) x.upper) (table_versions n (seen d) x.lower) (subst (IsAmong v) (sym is_lower) (of_table v t.0 (that_meet r (level levels (suc i))) (in_lower levels slot.input.bottom i upper lower runs has t.0 b) t.2)))
      (among_either t.0 upper lower t.1)

  -- each version of an input on the device is one of a table that the job took
  from_inputs : (v : Version) → IsAmong v (table_versions p.logs.log_sectors (seen d) (parts_at m.work.levels i has.range (length upper)).upper ++ table_versions p.logs.log_sectors (seen d) (parts_at m.work.levels i has.range (length upper)).lower)
      → (a : Table) × IsAmong a (upper ++ lower) × IsStored (seen d) (first_data p.logs.log_sectors) a × IsAmong v a.versions
  from_inputs v a = ⊎_elim
      (λ b. let t = in_tables v (uppers_at levels i r (length upper)) (subst (IsAmong v) is_upper b) in
      (t.0, among_left t.0 upper lower (upper_in levels slot.input.bottom i upper lower runs has t.0 t.1), of_all (IsStored (seen d) (first_data n)) (uppers_at levels i r (length upper)) (upper_stored n (seen d) levels tables r (length upper) i) t.0 t.1, t.2))
      (λ b. let t = in_tables v (that_meet r (level levels (suc i))) (subst (IsAmong v) is_lower b) in
      (t.0, among_right t.0 upper lower (lower_in levels slot.input.bottom i upper lower runs has t.0 t.1), of_all (IsStored (seen d) (first_data n)) (that_meet r (level levels (suc i))) (lower_stored n (seen d) levels tables r i) t.0 t.1, t.2))
      (among_either v (table_versions n (seen d) x.upper) (table_versions n (seen d) x.lower) a)

  from_upper : (v : Version) → IsAmong v (table_versions p.logs.log_sectors (seen d) (parts_at m.work.levels i has.range (length upper)).upper) → (a : Table) × IsAmong a upper × IsStored (seen d) (first_data p.logs.log_sectors) a × IsAmong v a.versions
  from_upper v b =
      let t = in_tables v (uppers_at levels i r (length upper)) (subst (IsAmong v) is_upper b) in
      (t.0, upper_in levels slot.input.bottom i upper lower runs has t.0 t.1, of_all (IsStored (seen d) (first_data n)) (uppers_at levels i r (length upper)) (upper_stored n (seen d) levels tables r (length upper) i) t.0 t.1, t.2)

  from_disk : (v : Version) → IsAmong v (table_versions p.logs.log_sectors (seen d) (parts_at m.work.levels i has.range (length upper)).upper ++ table_versions p.logs.log_sectors (seen d) (parts_at m.work.levels i has.range (length upper)).lower) → IsAmong v (joined slot.input.runs)
  from_disk v a =
      let t = from_inputs v a in
      subst (IsAmong v) (sym (merge_versions m.work.sealed slot.input i upper lower its_job.runs)) (of_table v t.0 (upper ++ lower) t.1 t.3)

  in_work : (v : Version) → IsAmong v (joined slot.input.runs) → IsAmong v (versions_in m.work)
  in_work v a =
      let t = in_tables v (upper ++ lower) (of_runs v a) in
      let k = (merging_law levels slot.input.bottom i upper lower outputs runs has).inputs_there t.0 t.1 in
      let tabled = in_has levels v (record { place = k.0; table = t.0; there = k.1; has = t.2 }) in
      among_right v m.work.memory (m.work.sealed ++ joined (map versions_of (places levels))) (among_right v m.work.sealed (joined (map versions_of (places levels))) tabled)

  same_inputs : (key : Bytes) (k : ℕ) → newest key k (joined slot.input.runs) ≡ newest key k (table_versions p.logs.log_sectors (seen d) (parts_at m.work.levels i has.range (length upper)).upper ++ table_versions p.logs.log_sectors (seen d) (parts_at m.work.levels i has.range (length upper)).lower)
  same_inputs key k = same_newest (versions_in m.work) input_versions there_versions sound.tied.versions.unique in_work to_disk from_disk key k

  -- none is above the base
  each_was : All (IsTableAt p.logs.log_sectors p.logs.base (seen d)) (with_inputs (parts_at m.work.levels i has.range (length upper)))
  each_was = subst (All (IsTableAt n base (seen d))) was (held_synced p d stored.stored.carried.held).tables.each

  inputs_numbered : NumberedAtMost p.logs.base (joined slot.input.runs)
  inputs_numbered =
      let T : TableRecord → Type 0 = IsTableAt n base (seen d) in
      let behind_a = All-right T x.before (x.upper ++ (x.between ++ (x.lower ++ x.behind))) each_was in
      let behind_f = All-right T x.between (x.lower ++ x.behind) (All-right T x.upper (x.between ++ (x.lower ++ x.behind)) behind_a) in
      let up = numbered_tables n base (seen d) x.upper (All-left T x.upper (x.between ++ (x.lower ++ x.behind)) behind_a) in
      let low = numbered_tables n base (seen d) x.lower (All-left T x.lower x.behind behind_f) in
      all_of (λ (v : Version). v.number ≤ base) input_versions (λ v a. of_all (λ (u : Version). u.number ≤ base) there_versions (all_append (λ (u : Version). u.number ≤ base) (table_versions n (seen d) x.upper) (table_versions n (seen d) x.lower) up low) v (to_disk v a))

  kept_at_base : IsKeptAt slot.input.cuts (joined slot.input.runs) p.logs.base
  kept_at_base = record {
    cut = its_job.cut;
    is_cut = its_job.is_cut;
    at = inr (inputs_numbered, all_of (λ (v : Version). v.number ≤ its_job.cut) input_versions (λ v a. (its_job.inputs v a).0));
  }

  -- ---- the outputs

  kept : versions_of outputs ≡ kept_of slot.input
  kept = made_versions slot.input outputs made

  they_stand : AllByRecursion (IsStored (seen d) (first_data p.logs.log_sectors)) outputs
  they_stand = outputs_stored p xs ys m.state d slot outputs stored stage made numbers

  on_disk : table_versions p.logs.log_sectors (seen d) (map (record_of (suc i) 0) outputs) ≡ kept_of slot.input
  on_disk = versions_run n (seen d) (suc i) 0 outputs they_stand ∙ kept

  low : NumberedAtMost p.logs.base (versions_of outputs)
  low = subst (NumberedAtMost base) (sym kept) (all_of (λ (v : Version). v.number ≤ base) (kept_of slot.input) (λ v a. of_all (λ (u : Version). u.number ≤ base) input_versions inputs_numbered v (kept_among slot.input v a)))

  among : AreAmong (table_versions p.logs.log_sectors (seen d) (map (record_of (suc i) 0) outputs)) (table_versions p.logs.log_sectors (seen d) (parts_at m.work.levels i has.range (length upper)).upper ++ table_versions p.logs.log_sectors (seen d) (parts_at m.work.levels i has.range (length upper)).lower)
  among = all_of (λ (v : Version). IsAmong v there_versions) (table_versions n (seen d) (map (record_of (suc i) 0) outputs)) (λ v a. to_disk v (kept_among slot.input v (subst (IsAmong v) on_disk a)))

  apart : ShareNoKey (table_versions p.logs.log_sectors (seen d) (parts_at m.work.levels i has.range (length upper)).between) (table_versions p.logs.log_sectors (seen d) (parts_at m.work.levels i has.range (length upper)).upper)
  apart =
      share_none_back (table_versions n (seen d) x.upper) (table_versions n (seen d) x.between)
      (share_none n (seen d) upper (table_versions n (seen d) x.upper) x.between from_upper
      (from_weaker n (seen d) (λ t. meets r t ≡ false) (IsBeside upper) x.between (λ t no. beside_upper levels slot.input.bottom i upper lower runs has t no) (between_apart n (seen d) levels tables r (length upper) i)))

  -- at the bottom no key of an input is after it
  none_behind : slot.input.bottom ≡ true → ShareNoKey (table_versions p.logs.log_sectors (seen d) (parts_at m.work.levels i has.range (length upper)).upper ++ table_versions p.logs.log_sectors (seen d) (parts_at m.work.levels i has.range (length upper)).lower)
      (table_versions p.logs.log_sectors (seen d) (parts_at m.work.levels i has.range (length upper)).behind)
  none_behind flag =
      share_none n (seen d) (upper ++ lower) there_versions x.behind from_inputs
      (from_weaker n (seen d) (IsBehind n (seen d) levels tables r i) (IsBeside (upper ++ lower)) x.behind
      (λ t. ⊎_elim (λ here. beside_inputs levels slot.input.bottom i upper lower runs has t here.0 here.1) (λ below. beside_bottom levels slot.input.bottom i upper lower runs has flag below.0 t below.1 below.2)) (behind_from n (seen d) levels tables r (length upper) i))

  abbrev new_versions : List Version
  new_versions = table_versions p.logs.log_sectors (seen d) (map (record_of (suc i) 0) outputs)

  kept_newest : slot.input.bottom ≡ false → (key : Bytes) → newest key p.logs.base (table_versions p.logs.log_sectors (seen d) (map (record_of (suc i) 0) outputs))
      ≡ newest key p.logs.base (table_versions p.logs.log_sectors (seen d) (parts_at m.work.levels i has.range (length upper)).upper ++ table_versions p.logs.log_sectors (seen d) (parts_at m.work.levels i has.range (length upper)).lower)
  kept_newest flag key =
      ap (newest key base) on_disk
      ∙ ap (λ (b : Bool). newest key base (keep slot.input.cuts b input_versions)) flag
      ∙ (keep_law slot.input.cuts input_versions).same_newest base kept_at_base key
      ∙ same_inputs key base

  kept_values : (key : Bytes) → value_at (table_versions p.logs.log_sectors (seen d) (map (record_of (suc i) 0) outputs)) p.logs.base key
      ≡ value_at (table_versions p.logs.log_sectors (seen d) (parts_at m.work.levels i has.range (length upper)).upper ++ table_versions p.logs.log_sectors (seen d) (parts_at m.work.levels i has.range (length upper)).lower) p.logs.base key
  kept_values key =
      ap (λ (vs : Versions). value_at vs base key) on_disk
      ∙ ((keep_law slot.input.cuts input_versions).same_map slot.input.bottom base kept_at_base).values key
      ∙ ap (option_and_then (λ (v : Version). v.value)) (same_inputs key base)

  is_kept : KeepsNewestOrMap p.logs.base (table_versions p.logs.log_sectors (seen d) (parts_at m.work.levels i has.range (length upper)).upper ++ table_versions p.logs.log_sectors (seen d) (parts_at m.work.levels i has.range (length upper)).lower)
      (table_versions p.logs.log_sectors (seen d) (parts_at m.work.levels i has.range (length upper)).behind) (table_versions p.logs.log_sectors (seen d) (map (record_of (suc i) 0) outputs))
  is_kept = by slot.input.bottom refl
    where
      by : (b : Bool) → slot.input.bottom ≡ b → KeepsNewestOrMap base there_versions (table_versions n (seen d) x.behind) new_versions
      by false flag = inl (record { found = kept_newest flag })
      by true flag = inr (record { values = kept_values; maps = map_of-values base base new_versions there_versions kept_values }, none_behind flag)

  -- ---- the runs after it

  runs_after : AreRuns (replaced i has.range (length upper) outputs m.work.levels)
  runs_after =
      let writes : is_writing slot.stage ≡ true = ap is_writing stage in
      let fit : AreOutputs (Merge i upper lower) outputs = subst (λ (j : Job). AreOutputs j outputs) merge (subst (AreOutputs slot.job) (ap outputs_at stage) (sound.ready.outputs slot (there m sound job slot found) writes).fit) in
      subst (λ (o : Option KeyRange). AreRuns (merged_at i o (length upper) outputs levels)) has.hull_is (runs_law levels slot.input.bottom (Merge i upper lower) outputs runs has fit)

  ascend : Pairwise (AscendInRun p.logs.log_sectors (seen d)) (with_outputs (parts_at m.work.levels i has.range (length upper)) (map (record_of (suc i) 0) outputs))
  ascend = subst (Pairwise (AscendInRun n (seen d))) (after_parts levels runs r order outputs (length upper) i has.known) (records_ascend n (seen d) (replaced i r (length upper) outputs levels) runs_after (replaced_have (IsStored (seen d) (first_data n)) outputs they_stand i r (length upper) levels tables))

  pub merge_written : AreMerged p (seen d) (parts_of m.work.levels i upper lower) (output_records (Merge i upper lower) outputs)
  merge_written = subst (λ (o : Option KeyRange). AreMerged p (seen d) (parts_if levels i o (length upper)) (map (record_of (suc i) 0) outputs)) (sym has.hull_is) (record {
    was = was;
    each = subst (λ (j : Job). All (IsTableAt n base (seen d)) (output_records j outputs)) merge (outputs_named p xs ys m.state d slot outputs stored stage made numbers base low);
    order = run_order n (seen d) (suc i) 0 outputs (made_run slot.input outputs made) they_stand;
    ascend = ascend;
    may = record { among = among; apart = apart };
    kept = is_kept;
  })
