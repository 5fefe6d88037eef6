-- A flush whose outputs are all written may be installed.
use Rattle.std.proofs.Common.{◌≡◌, inr, ℕ, suc, ◌+◌, ◌≤◌, ◌<◌, ◌^◌, Bool, false, List, [], ◌∷◌, ◌++◌, length, map, All, Some, refl, sym, ap, subst, ◌∙◌, arith}
use Rattle.std.specs.List.{AllByRecursion}
use Rattle.std.proofs.lemmas.List.{append-nil}
use Rattle.std.proofs.lemmas.List.Elements.{All-nil, All-cons}
use Rattle.lsm_codec.proofs.Lists.{all_map}
use Rattle.lsm_codec.specs.Keys.{Bytes}
use Rattle.lsm_codec.specs.Map.{Operation}
use Rattle.lsm_codec.specs.Versions.{Version, newest}
use Rattle.lsm_device.specs.Disk.{Disk, seen}
use Rattle.lsm_jobs.proofs.Outcomes.{made_versions, made_run, kept_among}
use Rattle.lsm_jobs.specs.Outputs.{AreMadeOf}
use Rattle.lsm_jobs.specs.Slots.{Slot, Writing}
use Rattle.lsm_levels.proofs.Ranges.{all_of, of_all}
use Rattle.lsm_levels.specs.Among.{IsAmong}
use Rattle.lsm_levels.specs.Held.{IsHeld}
use Rattle.lsm_levels.specs.Pick.{Job, Flush}
use Rattle.lsm_levels.specs.Stored.{IsStored}
use Rattle.lsm_levels.specs.Tables.{Table, record_of, versions_of}
use Rattle.lsm_mem.proofs.Batches.{at_most_with_batch}
use Rattle.lsm_mem.specs.EntryOrder.{with_batch, with_batches}
use Rattle.lsm_mem.specs.Versions.{NumberedAtMost}
use Rattle.lsm_merge.proofs.MapLaws.{keep_law}
use Rattle.lsm_merge.specs.Inputs.{MergeInput, kept_of}
use Rattle.lsm_mem.specs.Versions.{joined}
use Rattle.lsm_merge.specs.Keeping.{keep}
use Rattle.lsm_merge.specs.Laws.{IsKeptAt}
use Rattle.lsm_open.proofs.ReadPlaces.{batches_later}
use Rattle.lsm_open.specs.Placements.{Placement, closed_in}
use Rattle.lsm_open.specs.Switching.{IsNewestRun, AreFlushed}
use Rattle.lsm_open.specs.Tables.{first_data, table_versions, IsTableAt}
use Rattle.lsm_open.specs.Writing.{PlacedTable}
use Rattle.lsm_open.proofs.StoredRecords.{versions_run, run_ascends, run_order}
use Rattle.lsm_store.proofs.WorkSounds.{there}
use Rattle.lsm_store.proofs.WrittenOutputs.{outputs_stored, outputs_named}
use Rattle.lsm_store.specs.InstalledJobs.{output_records, placed_for, AreSealedIn}
use Rattle.lsm_machine.specs.State.{State}
use Rattle.lsm_store.specs.StoredTables.{IsStoredWithJobs}
use Rattle.lsm_machine.specs.WorkMaps.{IsJobOf}
use Rattle.lsm_machine.specs.WorkRefusals.{held}
use Rattle.lsm_machine.specs.WorkSound.{IsSound}
use Rattle.lsm_machine.specs.Machine.{Machine}

-- versions of batches are numbered up to the last of these
batches_high : (n : ℕ) (batches : List (List Operation)) (vs : List Version) → NumberedAtMost n vs → NumberedAtMost (n + length batches) (with_batches n batches vs)
batches_high n [] vs low = let same : n ≡ n + 0 = omega arith in subst (λ (k : ℕ). NumberedAtMost k vs) same low
batches_high n (batch ∷ rest) vs low =
    let step : n + 1 + length rest ≡ n + suc (length rest) = omega arith in
    subst (λ (k : ℕ). NumberedAtMost k (with_batches (n + 1) rest (with_batch (n + 1) batch vs))) step
    (batches_high (n + 1) rest (with_batch (n + 1) batch vs) (at_most_with_batch (n + 1) batch vs (all_map (λ v le. omega (arith, le)) vs low)))

-- records of a flush's outputs are those of the newest run
newest_run : (ts : List Table) → All IsNewestRun (map (record_of 0 0) ts)
newest_run [] = All-nil IsNewestRun
newest_run (t ∷ ts) = All-cons IsNewestRun (record_of 0 0 t) (map (record_of 0 0) ts) (refl, refl) (newest_run ts)

-- ---- what a merge of sealed versions keeps

module _ (base : ℕ) (batches : List (List Operation)) (s : State) (sealed : List Version) (input : MergeInput) (high : input.bottom ≡ false) (is : IsJobOf s sealed Flush input) (those : sealed ≡ with_batches base batches []) where
  abbrev those_sealed : List Version
  those_sealed = with_batches base batches []

  inputs_are : joined input.runs ≡ with_batches base batches []
  inputs_are = ap joined is.runs ∙ append-nil sealed ∙ those

  kept_at_last : IsKeptAt input.cuts (joined input.runs) (base + length batches)
  kept_at_last = record {
    cut = is.cut;
    is_cut = is.is_cut;
    at = inr (
      subst (NumberedAtMost (base + length batches)) (sym inputs_are) (batches_high base batches [] tt),
      all_of (λ (v : Version). v.number ≤ is.cut) (joined input.runs) (λ v a. (is.inputs v a).0),
    );
  }

  same_newest : (key : Bytes) → newest key (base + length batches) (kept_of input) ≡ newest key (base + length batches) (with_batches base batches [])
  same_newest key =
      ap (λ (b : Bool). newest key (base + length batches) (keep input.cuts b (joined input.runs))) high
      ∙ (keep_law input.cuts (joined input.runs)).same_newest (base + length batches) kept_at_last key
      ∙ ap (newest key (base + length batches)) inputs_are

  -- each that is kept is one of the batches
  kept_sealed : (v : Version) → IsAmong v (kept_of input) → IsAmong v (with_batches base batches [])
  kept_sealed v a = subst (IsAmong v) inputs_are (kept_among input v a)

  kept_later : AllByRecursion (λ v. base < v.number) (kept_of input)
  kept_later = all_of (λ (v : Version). base < v.number) (kept_of input) (λ v a. of_all (λ (u : Version). base < u.number) those_sealed (batches_later base batches) v (kept_sealed v a))

  kept_low : NumberedAtMost (base + length batches) (kept_of input)
  kept_low = all_of (λ (v : Version). v.number ≤ base + length batches) (kept_of input) (λ v a. of_all (λ (u : Version). u.number ≤ base + length batches) those_sealed (batches_high base batches [] tt) v (kept_sealed v a))

-- ---- in a running store

module _ (m : Machine) (p : Placement) (xs ys : List PlacedTable) (d : Disk) (job : ℕ) (slot : Slot) (outputs : List Table) (sound : IsSound m) (stored : IsStoredWithJobs p (xs ++ (placed_for slot ++ ys)) m.state d)
    (sealed : AreSealedIn p (seen d) m.work.sealed) (found : held m job ≡ Some slot) (flush : slot.job ≡ Flush) (stage : slot.stage ≡ Writing outputs 0) (made : AreMadeOf slot.input outputs) (numbers : AllByRecursion (λ t. t.number ≤ 2 ^ 63) outputs) where
  abbrev n : ℕ
  n = p.logs.log_sectors

  abbrev last : ℕ
  last = p.logs.base + length (closed_in p (seen d))

  its_job : IsJobOf m.state m.work.sealed Flush slot.input
  its_job = subst (λ (j : Job). IsJobOf m.state m.work.sealed j slot.input) flush (sound.ready.jobs slot (there m sound job slot found))

  not_bottom : slot.input.bottom ≡ false
  not_bottom = subst (IsHeld m.work.levels slot.input.bottom) flush (sound.ready.kept.held slot (there m sound job slot found))

  kept : versions_of outputs ≡ kept_of slot.input
  kept = made_versions slot.input outputs made

  they_stand : AllByRecursion (IsStored (seen d) (first_data p.logs.log_sectors)) outputs
  they_stand = outputs_stored p xs ys m.state d slot outputs stored stage made numbers

  on_disk : table_versions p.logs.log_sectors (seen d) (output_records Flush outputs) ≡ kept_of slot.input
  on_disk = versions_run n (seen d) 0 0 outputs they_stand ∙ kept

  low : NumberedAtMost (p.logs.base + length (closed_in p (seen d))) (versions_of outputs)
  low = subst (NumberedAtMost last) (sym kept) (kept_low p.logs.base (closed_in p (seen d)) m.state m.work.sealed slot.input not_bottom its_job sealed)

  pub flush_written : AreFlushed p (seen d) (output_records Flush outputs)
  flush_written = record {
    tables = record {
      each = subst (λ (j : Job). All (IsTableAt n last (seen d)) (output_records j outputs)) flush (outputs_named p xs ys m.state d slot outputs stored stage made numbers last low);
      order = run_order n (seen d) 0 0 outputs (made_run slot.input outputs made) they_stand;
      ascend = run_ascends n (seen d) 0 0 outputs (made_run slot.input outputs made) they_stand;
    };
    newest_run = newest_run outputs;
    later = subst (AllByRecursion (λ (v : Version). p.logs.base < v.number)) (sym on_disk) (kept_later p.logs.base (closed_in p (seen d)) m.state m.work.sealed slot.input not_bottom its_job sealed);
    kept = record { found = λ key. ap (newest key last) on_disk ∙ same_newest p.logs.base (closed_in p (seen d)) m.state m.work.sealed slot.input not_bottom its_job sealed key };
  }
