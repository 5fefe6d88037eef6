-- A job whose tables stand is read as their versions.
use Rattle.std.proofs.Common.{◌≡◌, ℕ, zero, suc, ◌+◌, ◌-◌, ◌≤◌, min, Bool, List, [], ◌∷◌, ◌++◌, length, Some, refl, sym, ap, subst, ◌∙◌, append-nil, arith}
use Rattle.std.specs.Prelude.{IsTrue}
use Rattle.std.specs.List.{AllByRecursion}
use Rattle.std.proofs.lemmas.List.Sums.{sum_by-append}
use Rattle.std.proofs.lemmas.Option.{same_Some}
use Rattle.lsm_device.specs.Disk.{seen}
use Rattle.lsm_device.specs.Medium.{Medium, disk}
use Rattle.lsm_codec.specs.Versions.{Version}
use Rattle.lsm_codec.proofs.Lists.{all_left, all_right}
use Rattle.lsm_merge.specs.Inputs.{MergeInput, AreRuns}
use Rattle.lsm_levels.specs.Tables.{Table}
use Rattle.lsm_levels.specs.Levels.{all_tables}
use Rattle.lsm_levels.specs.Pick.{inputs}
use Rattle.lsm_levels.specs.Stored.{IsStored}
use Rattle.lsm_jobs.specs.Gathering.{ReadSoFar, ascending_runs, data_blocks, versions_behind, runs_ahead, input_ahead, blocks_left, next_done, IsNext, RunsGoOn, AllGoOn}
use Rattle.lsm_jobs.specs.Slots.{Stage, Slot, with_held, left_at, is_reading}
use Rattle.lsm_jobs.specs.Reading.{SlotReadsOn, input_with, stage_with}
use Rattle.lsm_jobs.specs.StoredJobs.{HasStored, StoredReadingLaw, NeverBadLaw}
use Rattle.lsm_jobs.proofs.Found.{found_law}
use Rattle.lsm_jobs.proofs.GatheredRuns.{tables_of_runs}
use Rattle.lsm_jobs.proofs.StoredRuns.{same_behind, none_left, run_stays, run_goes_on}

abbrev input_of : List (List Version) → List ℕ → Bool → MergeInput
input_of runs cuts bottom = record { runs = runs; cuts = cuts; bottom = bottom }

same_input : (runs others : List (List Version)) (cuts counts : List ℕ) (bottom flag : Bool) → runs ≡ others → cuts ≡ counts → bottom ≡ flag → input_of runs cuts bottom ≡ input_of others counts flag
same_input runs others cuts counts bottom flag one two three =
    ap (λ (x : List (List Version)). input_of x cuts bottom) one ∙ ap (λ (x : List ℕ). input_of others x bottom) two ∙ ap (λ (x : Bool). input_of others counts x) three

module _ (sectors : List (List ℕ)) (area : ℕ) where
  abbrev Stand : List (List Table) → Type 0
  Stand runs = AllByRecursion (AllByRecursion (IsStored sectors area)) runs

  stand_apart : (runs : List (List Table)) → AllByRecursion (IsStored sectors area) (all_tables runs) → Stand runs
  stand_apart [] all = tt
  stand_apart (run ∷ runs) all = (all_left (IsStored sectors area) run (all_tables runs) all, stand_apart runs (all_right (IsStored sectors area) run (all_tables runs) all))

  stand_in_runs : (tables : List Table) → AllByRecursion (IsStored sectors area) tables → Stand (ascending_runs tables)
  stand_in_runs tables all = stand_apart (ascending_runs tables) (subst (AllByRecursion (IsStored sectors area)) (sym (tables_of_runs tables)) all)

  more_blocks : (run : List Table) (runs : List (List Table)) → data_blocks (all_tables (run ∷ runs)) ≡ data_blocks run + data_blocks (all_tables runs)
  more_blocks run runs = sum_by-append (λ (t : Table). length t.outline.edges) run (all_tables runs)

  -- what was read, with what is left, stays, up to the last block or to one before it
  runs_stay : (runs : List (List Table)) → Stand runs → (from to past : ℕ) (old new : List (List Version)) → from ≤ past → to ≡ min (data_blocks (all_tables runs)) past → RunsGoOn sectors area from to runs old new → runs_ahead to runs new ≡ runs_ahead from runs old
  runs_stay [] stand from to past [] [] ahead is goes = refl
  runs_stay [] stand from to past [] (n ∷ new) ahead is goes = absurd goes
  runs_stay [] stand from to past (o ∷ old) new ahead is goes = absurd goes
  runs_stay (run ∷ runs) stand from to past [] new ahead is goes = absurd goes
  runs_stay (run ∷ runs) stand from to past (o ∷ old) [] ahead is goes = absurd goes
  runs_stay (run ∷ runs) stand from to past (o ∷ old) (n ∷ new) ahead is goes =
      let own = data_blocks run in
      let more = more_blocks run runs in
      let passed : min to own ≡ min (from + (to - from)) own = omega (arith, ahead, is, more) in
      let same : n ++ versions_behind to run ≡ o ++ versions_behind from run =
      ap (λ (l : List Version). n ++ l) (same_behind sectors area run stand.0 to (from + (to - from)) passed) ∙ run_stays sectors area run stand.0 from (to - from) o n goes.0 in
      ap (λ (l : List Version). l ∷ runs_ahead (to - own) runs new) same
      ∙ ap (λ (ls : List (List Version)). (o ++ versions_behind from run) ∷ ls) (runs_stay runs stand.1 (from - own) (to - own) (past - own) old new (omega (arith, ahead)) (omega (arith, is, more)) goes.1)

  -- with no block left nothing is ahead
  none_ahead : (runs : List (List Table)) → Stand runs → (d : ℕ) (now : List (List Version)) → data_blocks (all_tables runs) ≤ d → runs_ahead d runs now ≡ now
  none_ahead [] stand d now past = refl
  none_ahead (run ∷ runs) stand d [] past = refl
  none_ahead (run ∷ runs) stand d (n ∷ now) past =
      let own = data_blocks run in
      let more = more_blocks run runs in
      ap (λ (l : List Version). (n ++ l) ∷ runs_ahead (d - own) runs now) (none_left sectors area run stand.0 d (omega (arith, past, more)))
      ∙ ap (λ (l : List Version). l ∷ runs_ahead (d - own) runs now) (append-nil n)
      ∙ ap (λ (ls : List (List Version)). n ∷ ls) (none_ahead runs stand.1 (d - own) now (omega (arith, past, more)))

  -- runs go on that are in order with all that is ahead of them
  all_go_on : (runs : List (List Table)) → Stand runs → (from to : ℕ) (old : List (List Version)) → length old ≡ length runs → AreRuns (runs_ahead from runs old) → (new : List (List Version)) × RunsGoOn sectors area from to runs old new
  all_go_on [] stand from to [] count ordered = ([], tt)
  all_go_on [] stand from to (o ∷ old) count ordered = absurd (omega (arith, count))
  all_go_on (run ∷ runs) stand from to [] count ordered = absurd (omega (arith, count))
  all_go_on (run ∷ runs) stand from to (o ∷ old) count ordered =
      let first = run_goes_on sectors area run stand.0 from (to - from) o ordered.0 in
      let rest = all_go_on runs stand.1 (from - data_blocks run) (to - data_blocks run) old (omega (arith, count)) ordered.1 in
      (first.0 ∷ rest.0, (first.1, rest.1))

  module _ (tables : List Table) (stand : AllByRecursion (IsStored sectors area) tables) (old new : ReadSoFar) (next : IsNext tables old new) (goes : AllGoOn sectors area tables old new) where
    their_blocks : data_blocks (all_tables (ascending_runs tables)) ≡ data_blocks tables
    their_blocks = ap data_blocks (tables_of_runs tables)

    stay : runs_ahead new.done (ascending_runs tables) new.runs ≡ runs_ahead old.done (ascending_runs tables) old.runs
    stay =
        ap (λ (d : ℕ). runs_ahead d (ascending_runs tables) new.runs) next.done
        ∙ runs_stay (ascending_runs tables) (stand_in_runs tables stand) old.done (next_done tables old) (old.done + 8) old.runs new.runs (omega arith) (ap (λ (n : ℕ). min n (old.done + 8)) (sym their_blocks)) goes

    ahead_stays : input_ahead tables new ≡ input_ahead tables old
    ahead_stays = same_input (runs_ahead new.done (ascending_runs tables) new.runs) (runs_ahead old.done (ascending_runs tables) old.runs) new.cuts old.cuts new.bottom old.bottom stay next.same_cuts next.same_bottom

    pub with_stays : (left : ℕ) → left ≡ blocks_left tables old - 8 → input_with left tables new ≡ input_ahead tables old
    with_stays (suc left) e = ahead_stays
    with_stays zero e =
        let past : data_blocks (all_tables (ascending_runs tables)) ≤ new.done = omega (arith, e, next.done, their_blocks) in
        same_input new.runs (runs_ahead new.done (ascending_runs tables) new.runs) new.cuts new.cuts new.bottom new.bottom (sym (none_ahead (ascending_runs tables) (stand_in_runs tables stand) new.done new.runs past)) refl refl ∙ ahead_stays

-- with the slot's own input, only the stage is another
same_slot : (slot : Slot) (input : MergeInput) (stage : Stage) → input ≡ slot.input → record slot { input = input; stage = stage } ≡ record slot { stage = stage }
same_slot slot input stage e = ap (λ (i : MergeInput). record slot { input = i; stage = stage }) e

slot_stays : (area : ℕ) (m : Medium) (left : ℕ) (slot now : Slot) → IsTrue m.lasting.tells → HasStored (seen (disk m)) area slot → SlotReadsOn area m left slot now → now ≡ record slot { stage = stage_with left }
slot_stays area m left slot now tells h r =
    r.becomes
    ∙ same_slot slot (input_with left (inputs slot.job) r.after) (stage_with left)
    (with_stays (seen (disk m)) area (inputs slot.job) h.tables r.before r.after r.next (r.goes_on tells) left r.eight_less ∙ sym r.shows.input)

pub stored_reading_law : StoredReadingLaw
stored_reading_law area job left m old new slot tells found h r =
    let same : r.slot ≡ slot = same_Some r.slot slot (sym r.is ∙ found) in
    let reads : SlotReadsOn area m left slot r.now = subst (λ (s : Slot). SlotReadsOn area m left s r.now) same r.reads in
    let now : r.now ≡ record slot { stage = stage_with left } = slot_stays area m left slot r.now tells h reads in
    let number : slot.number ≡ job = found_law.number job old.slots slot found in
    record {
      reading = ap is_reading reads.shows.stage;
      eight_less = reads.eight_less ∙ sym (ap (λ (s : Stage). left_at s - 8) reads.shows.stage);
      staged =
          r.becomes
          ∙ ap (λ (s : Slot). record { next = old.next; slots = with_held job (Some s) old.slots }) now
          ∙ ap (λ (n : ℕ). record { next = old.next; slots = with_held n (Some (record slot { stage = stage_with left })) old.slots }) (sym number);
    }

pub never_bad_law : NeverBadLaw
never_bad_law area m slot h bad =
    let tables = inputs slot.job in
    let g = bad.before in
    let sectors = seen (disk m) in
    let ordered : AreRuns (input_ahead tables g).runs = subst (λ (i : MergeInput). AreRuns i.runs) bad.shows.input h.ordered in
    let on = all_go_on sectors area (ascending_runs tables) (stand_in_runs sectors area tables h.tables) g.done (next_done tables g) g.runs bad.shows.count ordered in
    bad.none (record { runs = on.0; done = g.done; cuts = g.cuts; bottom = g.bottom }) on.1
