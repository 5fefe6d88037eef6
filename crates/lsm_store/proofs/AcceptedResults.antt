-- What a store answers where it accepts a result, and where it doesn't.
use Rattle.std.proofs.Common.{◌≡◌, ◌⊎◌, inl, inr, ⊎_elim, ℕ, ◌+◌, ◌≤◌, [], ◌∷◌, ◌++◌, length, Some, None, refl, sym, ◌∙◌, ap, subst, arith, IsTrue}
use Rattle.std.specs.Prelude.{IsNone, List}
use Rattle.lsm_device.specs.Medium.{Medium}
use Rattle.lsm_device.specs.declared.refusal.Refusal.{Refusal}
use Rattle.lsm_device.specs.declared.refusal.Refusal.TheVariants.{NoMemory, NoSpace}
use Rattle.lsm_extent.specs.Area.{Area}
use Rattle.lsm_cache.specs.Recency.{Cached}
use Rattle.lsm_merge.specs.Divisions.{AreTablesAt}
use Rattle.lsm_merge.specs.Inputs.{kept_of}
use Rattle.lsm_merge.specs.Results.{MergeResult}
use Rattle.lsm_merge.proofs.DivisionLaws.{result_tables}
use Rattle.lsm_levels.specs.Tables.{Table}
use Rattle.lsm_jobs.specs.Placing.{IsAccepted}
use Rattle.lsm_jobs.specs.Refusing.{RefusesResult}
use Rattle.lsm_jobs.specs.Slots.{Slot, JobSlots, slot_of}
use Rattle.lsm_jobs.proofs.Outcomes.{outputs_law}
use Rattle.lsm_store.specs.declared.memory.Memory.{Memory}
use Rattle.lsm_codec.specs.Geometry.{data_blocks_of}
use Rattle.lsm_device.specs.Medium.{disk}
use Rattle.lsm_extent.specs.Area.{IsPartition}
use Rattle.lsm_jobs.proofs.TableWrites.{whole_tables}
use Rattle.lsm_jobs.specs.Outputs.{AreMadeOf, placed_blocks}
use Rattle.lsm_jobs.specs.Placing.{ArePlaced}
use Rattle.lsm_jobs.specs.Slots.{Writing, outputs_at}
use Rattle.lsm_levels.specs.Levels.{all_tables, places}
use Rattle.lsm_levels.specs.NamedBlocks.{HasNoBlock}
use Rattle.lsm_open.specs.ToldTables.{IsOutlined}
use Rattle.lsm_table.specs.Division.{TableBlocks}
use Rattle.std.specs.List.{AllByRecursion}
use Rattle.lsm_machine.specs.Accounts.{outputs_in, AllLieApart, ArePlacedIn}
use Rattle.lsm_store.specs.Backing.{StoreView, HasNoneOf, IsRunOn, placement_of, machine_of}
use Rattle.lsm_store.specs.InstalledJobs.{placed_by}
use Rattle.lsm_store.specs.Memory.{HaveTables}
use Rattle.lsm_store.specs.StoredTables.{IsStoredWithJobs}
use Rattle.lsm_machine.specs.WorkSound.{IsSound}
use Rattle.lsm_machine.proofs.Accounts.{accounts_law}
use Rattle.lsm_store.proofs.NumberedJobs.{placed_outlined}
use Rattle.lsm_store.proofs.PlacedJobs.{none_of_held}
use Rattle.lsm_store.proofs.PlacedOutputs.{newly_stored}
use Rattle.lsm_machine.specs.Calls.{Done, Refused}
use Rattle.lsm_store.specs.Memory.{state_of, work_of, view_of}
use Rattle.lsm_machine.specs.Work.{Work, Accept}
use Rattle.lsm_machine.specs.WorkEffects.{work_after}
use Rattle.lsm_machine.specs.WorkRefusals.{running_refusal, work_refusal}
use Rattle.lsm_machine.specs.WorkMaps.{MayBePutIn}
use Rattle.lsm_machine.specs.WorkSound.{IsServed}
use Rattle.lsm_store.specs.Working.{Works}
use Rattle.lsm_machine.specs.Machine.{Machine}
use Rattle.lsm_machine.specs.WorkReplies.{work_decided, work_reply_by}
use Rattle.lsm_machine.proofs.AnsweredWork.{accept_answers}
use Rattle.lsm_machine.proofs.PlacedImages.{all_placed}
use Rattle.lsm_store.proofs.ServedResults.{served}
use Rattle.lsm_store.proofs.WorkSounds.{accept_sound}
use Rattle.lsm_store.proofs.Works.{IsAnsweredAlone, moved_on, running_refuses, works_refused, works_want, works_moved, sound_moved, GoesOn}

same_slot : (a b : Slot) → Some a ≡ Some b → a ≡ b
same_slot a b e = cc

same_tables : (a b : List Table) → Some a ≡ Some b → a ≡ b
same_tables a b e = cc

module _ {A : Type 0} (m : Memory A) (medium : Medium) (cache : Cached) (running : IsNone (state_of m).stopped) (job : ℕ) (result : MergeResult) where
  abbrev v : StoreView
  v = view_of medium m cache

  abbrev w : Machine
  w = machine_of v

  abbrev piece : Work
  piece = Accept job (Some result)

  -- ---- it was refused

  pub accept_refused : (e : Refusal) → RefusesResult m.next_table result.input result.images m.extents (slot_of job m.jobs.slots) e → Works v piece (Refused e) v
  accept_refused e is = ⊎_elim
      (λ one. ⊎_elim
      (λ decided. works_refused v piece e (running_refuses w piece running ∙ decided))
      (λ want. short (want.0) (inl (running_refuses w piece running ∙ want.1))) one)
      (λ want. short want.0 (inr (running_refuses w piece running ∙ want.1)))
      ((accept_answers w job result).refused e is)
    where
      short : e ≡ NoMemory → (work_refusal w piece ≡ None) ⊎ (work_refusal w piece ≡ Some NoSpace) → Works v piece (Refused e) v
      short is may = subst (λ (r : Refusal). Works v piece (Refused r) v) (sym is) (works_want v piece may)

  -- where slots and extents are as they were
  pub accept_unchanged : (e : Refusal) (js : JobSlots) (area : Area) → (js ≡ m.jobs) × (area ≡ m.extents) → RefusesResult m.next_table result.input result.images m.extents (slot_of job m.jobs.slots) e
      → Works v piece (Refused e) (moved_on v js m.next_table area medium)
  accept_unchanged e js area same is =
      subst (λ (x : JobSlots). Works v piece (Refused e) (moved_on v x m.next_table area medium)) (sym same.0)
      (subst (λ (x : Area). Works v piece (Refused e) (moved_on v m.jobs m.next_table x medium)) (sym same.1) (accept_refused e is))

  -- ---- its tables were placed

  module _ (js : JobSlots) (area : Area) (is : IsAccepted job m.next_table result.input result.images m.extents area m.jobs js) (divided : AreTablesAt result.divisions (kept_of result.input) result.images) where
    none : running_refusal w piece ≡ None
    none = (accept_answers w job result).unrefused area js is

    -- they are those that the work places, and may be put in
    is_served : IsRunOn v → IsServed w piece
    is_served runs slot new found placed =
        let one : is.slot ≡ slot = same_slot is.slot slot (sym is.found ∙ found) in
        let tables : is.tables ≡ new = same_tables is.tables new (sym (all_placed m.next_table m.extents result.images is.tables is.placing.placed) ∙ placed) in
        let made = outputs_law.accepted job m.next_table result.input result.images m.extents area m.jobs js is (result_tables result divided) in
        subst (λ (s : Slot). MayBePutIn s.job s.input new) one
        (subst (MayBePutIn is.slot.job is.slot.input) tables (served v runs job is.slot is.found is.tables made))

    -- the slot then
    abbrev now : Slot
    now = record is.slot { stage = Writing is.tables (length (placed_blocks is.tables)) }

    made : AreMadeOf is.slot.input is.tables
    made = outputs_law.accepted job m.next_table result.input result.images m.extents area m.jobs js is (result_tables result divided)

    -- ---- the device carries what is placed now

    module _ (have : HaveTables m.levels js area) (partition : IsPartition area) (blocks : m.extents.blocks ≡ data_blocks_of medium.size m.regions.log_sectors) (sized : IsTrue medium.lasting.tells → length (disk medium).stands ≡ medium.size) where
      placed_in_area : ArePlacedIn (all_tables (places m.levels) ++ outputs_in js.slots) area
      placed_in_area = accounts_law.placed (record (work_of m) { jobs = js; area = area }) (record { each = have.accounted }) partition

      ends : IsTrue medium.lasting.tells → AllByRecursion (λ t. t.start + t.blocks ≤ data_blocks_of (length (disk medium).stands) m.regions.log_sectors) is.tables
      ends tells = subst (λ (n : ℕ). AllByRecursion (λ t. t.start + t.blocks ≤ n) is.tables) (blocks ∙ ap (λ (n : ℕ). data_blocks_of n m.regions.log_sectors) (sym (sized tells))) is.placing.inside

      goes_on : (next : ℕ) → m.next_table ≤ next → IsTrue medium.lasting.tells → IsRunOn v → IsSound (machine_of (moved_on v js next area medium)) → GoesOn v js next area
      goes_on next later tells runs sound = record {
        sound = sound;
        stored = subst (λ (x : JobSlots). IsStoredWithJobs (placement_of v) (placed_by x.slots) v.state (disk medium)) (sym is.staged)
            (newly_stored (placement_of v) m.levels job is.slot m.jobs.slots v.state (disk medium) refl is.found (ap outputs_at is.frozen) runs.stored is.tables now refl
            (subst (λ (x : JobSlots). AllByRecursion IsOutlined (all_tables (places m.levels) ++ outputs_in x.slots)) is.staged have.outlined)
            (subst (λ (x : JobSlots). AllLieApart (all_tables (places m.levels) ++ outputs_in x.slots)) is.staged placed_in_area.apart)
            (placed_outlined m.next_table m.extents result.images is.tables is.placing.placed) (whole_tables made.images is.tables made.placed) (ends tells));
        unasked = subst (λ (x : JobSlots). HasNoneOf next (outputs_in x.slots) cache) (sym is.staged)
            (none_of_held m.next_table next job (Some now) m.jobs.slots cache later (none_newly m.next_table m.extents result.images is.tables is.placing.placed (omega arith)) runs.unasked);
      }
        where
          none_newly : (number : ℕ) (a : Area) (images : List TableBlocks) (tables : List Table) → ArePlaced number a images tables → m.next_table ≤ number → AllByRecursion (λ t. HasNoBlock t.number cache) tables
          none_newly number a [] [] are low = tt
          none_newly number a [] (t ∷ tables) are low = absurd are
          none_newly number a (image ∷ images) [] are low = absurd are
          none_newly number a (image ∷ images) (t ∷ tables) (one, more) low =
              (runs.unasked.later t.number (omega (arith, low, one.number_is)), none_newly (number + 1) _ images tables more (omega (arith, low)))

      pub accept_done : (next : ℕ) → next ≡ m.next_table + length result.images → Works v piece Done (moved_on v js next area medium)
      accept_done next counted =
          let reply : Done ≡ work_decided w piece = sym (ap (work_reply_by w piece) (running_refuses w piece running ∙ none)) in
          let after : record (work_of m) { jobs = js; next_table = next; area = area } ≡ work_after w piece =
          (λ i. record (work_of m) { jobs = js; next_table = counted i; area = area }) ∙ (accept_answers w job result).after area js is in
          let answer : IsAnsweredAlone w piece Done = record { allowed = reply; admitted = reply; next = refl; faultless = refl; state = refl; alone = refl } in
          works_moved v piece js next area Done answer after after
          (λ tells runs. goes_on next (omega (arith, counted)) tells runs (sound_moved v piece js next area Done answer after (accept_sound w runs.sound job (Some result) (is_served runs))))
