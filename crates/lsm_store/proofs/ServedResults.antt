-- The tables that an accept places of a job's own result may be put in, where the store goes with its device.
use Rattle.std.proofs.Common.{◌≡◌, inl, ℕ, ◌+◌, ◌<◌, ◌≤◌, true, List, [], ◌∷◌, ◌++◌, length, map, Option, Some, None, refl, sym, ◌∙◌, ap, subst, arith, All}
use Rattle.std.specs.List.{AllByRecursion}
use Rattle.std.specs.FinMap.Entries.{by_order}
use Rattle.std.specs.declared.cmp.Ordering.{Ordering}
use Rattle.std.specs.declared.cmp.Ordering.TheVariants.{Less, Equal, Greater}
use Rattle.std.proofs.lemmas.Bool.{leb-true}
use Rattle.std.proofs.lemmas.List.{append-nil}
use Rattle.std.proofs.lemmas.List.Elements.{All-head, All-weaker}
use Rattle.lsm_codec.specs.BatchText.{batch_of}
use Rattle.lsm_codec.specs.Map.{Operation}
use Rattle.lsm_codec.specs.Versions.{Version, entry_order}
use Rattle.lsm_codec.specs.declared.log_record.LogRecord.{LogRecord}
use Rattle.lsm_codec.proofs.BatchLaws.{batch_format}
use Rattle.lsm_device.specs.Medium.{disk}
use Rattle.lsm_log.specs.Replay.{cons_while, map_while}
use Rattle.lsm_mem.specs.EntryOrder.{placed, version_by, with_batch, with_batches}
use Rattle.lsm_mem.specs.Versions.{joined}
use Rattle.lsm_levels.specs.Among.{IsAmong}
use Rattle.lsm_levels.specs.Levels.{places}
use Rattle.lsm_levels.specs.Orders.{IsNewerPlace}
use Rattle.lsm_levels.specs.Pick.{Job, Flush, Merge, is_flush}
use Rattle.lsm_levels.specs.Tables.{Table, versions_of}
use Rattle.lsm_jobs.specs.Installs.{IsInputOf}
use Rattle.lsm_jobs.specs.Outcomes.{SeesSome}
use Rattle.lsm_jobs.specs.Outputs.{AreMadeOf}
use Rattle.lsm_jobs.specs.Slots.{Slot}
use Rattle.lsm_jobs.specs.Taking.{runs_of}
use Rattle.lsm_store.proofs.InstalledMaps.{merge_versions}
use Rattle.lsm_jobs.proofs.Found.{found_there}
use Rattle.lsm_jobs.proofs.Installs.{install_law}
use Rattle.lsm_jobs.proofs.Outcomes.{outputs_law}
use Rattle.lsm_open.specs.Layout.{IsClosed}
use Rattle.lsm_open.specs.LogRegions.{batches_at, all_batches}
use Rattle.lsm_open.specs.Placements.{Placement}
use Rattle.lsm_store.specs.Backing.{StoreView, IsRunOn, placement_of, machine_of}
use Rattle.lsm_machine.specs.WorkMaps.{IsJobOf, MayBePutIn}
use Rattle.lsm_machine.specs.WorkRefusals.{held}
use Rattle.lsm_store.proofs.StoredTables.{closed_seen}

-- ---- batches have versions

none_first : {X : Type 0} (x : X) (rest : List X) → [] ≡ x ∷ rest → ⊥
none_first x rest e = cc

first_same : {X : Type 0} (x : X) (xs : List X) (y : X) (ys : List X) → x ∷ xs ≡ y ∷ ys → x ≡ y
first_same x xs y ys e = cc

placed_some : (v : Version) (vs : List Version) → 0 < length (placed v vs)
placed_some v [] = omega arith
placed_some v (w ∷ rest) = by (entry_order v w)
  where
    by : (o : Ordering) → 0 < length (by_order o (v ∷ w ∷ rest) (v ∷ rest) (w ∷ placed v rest))
    by Less = omega arith
    by Equal = omega arith
    by Greater = omega arith

batch_some : (n : ℕ) (batch : List Operation) (vs : List Version) → 0 < length vs → 0 < length (with_batch n batch vs)
batch_some n [] vs some = some
batch_some n (operation ∷ rest) vs some = batch_some n rest (placed (version_by n operation) vs) (placed_some (version_by n operation) vs)

batches_some : (n : ℕ) (batches : List (List Operation)) (vs : List Version) → 0 < length vs → 0 < length (with_batches n batches vs)
batches_some n [] vs some = some
batches_some n (batch ∷ rest) vs some = batches_some (n + 1) rest (with_batch (n + 1) batch vs) (batch_some (n + 1) batch vs some)

first_some : (n : ℕ) (batch : List Operation) → 1 ≤ length batch → 0 < length (with_batch n batch [])
first_some n [] some = absurd (omega (arith, some))
first_some n (operation ∷ rest) some = batch_some n rest (placed (version_by n operation) []) (placed_some (version_by n operation) [])

-- a batch that was replayed has an operation
replayed_some : (texts : List (List ℕ)) (batch : List Operation) (rest : List (List Operation)) → map_while batch_of texts ≡ batch ∷ rest → 1 ≤ length batch
replayed_some [] batch rest is = absurd (none_first batch rest is)
replayed_some (text ∷ texts) batch rest is = by (batch_of text) refl is
  where
    by : (o : Option (List Operation)) → batch_of text ≡ o → cons_while o (map_while batch_of texts) ≡ batch ∷ rest → 1 ≤ length batch
    by None found e = absurd (none_first batch rest e)
    by (Some one) found e = subst (λ (b : List Operation). 1 ≤ length b) (first_same one (map_while batch_of texts) batch rest e) (batch_format.spelled text one found).0.some

-- of closed regions that hold batches
closed_some : (n : ℕ) (sectors : List (List ℕ)) (base : ℕ) (records : List LogRecord) → 1 ≤ length records → All (λ r. 1 ≤ length (batches_at n sectors r)) records → 0 < length (with_batches base (all_batches n sectors records) [])
closed_some n sectors base [] some each = absurd (omega (arith, some))
closed_some n sectors base (r ∷ rest) some each = by (batches_at n sectors r) refl (All-head (λ r. 1 ≤ length (batches_at n sectors r)) r rest each)
  where
    by : (batches : List (List Operation)) → batches_at n sectors r ≡ batches → 1 ≤ length batches → 0 < length (with_batches base (batches ++ all_batches n sectors rest) [])
    by [] is one = absurd (omega (arith, one))
    by (batch ∷ more) is one =
        batches_some (base + 1) (more ++ all_batches n sectors rest) (with_batch (base + 1) batch [])
        (first_some (base + 1) batch (replayed_some _ batch more is))

-- ---- a job of a store

module _ (v : StoreView) (runs : IsRunOn v) (job : ℕ) (slot : Slot) (is : held (machine_of v) job ≡ Some slot) where
  abbrev p : Placement
  p = placement_of v

  there : IsAmong (Some slot) v.work.jobs.slots
  there = found_there job v.work.jobs.slots slot is

  taken : IsJobOf v.state v.work.sealed slot.job slot.input
  taken = runs.sound.ready.jobs slot there

  -- sealed versions wait for a flush
  some_sealed : is_flush slot.job ≡ true → 0 < length v.work.sealed
  some_sealed flush =
      let waits : 1 ≤ v.state.closed = leb-true 1 v.state.closed (runs.sound.waiting.flush_waits slot there flush) in
      let closed : 1 ≤ length p.logs.closed = omega (arith, waits, runs.stored.stored.state.placed.closed) in
      let stands = (disk v.device).stands in
      subst (λ (vs : List Version). 0 < length vs) (sym (runs.sealed ∙ ap (λ (bs : List (List Operation)). with_batches p.logs.base bs []) (closed_seen p (disk v.device) runs.stored.stored.carried.held)))
      (closed_some p.logs.log_sectors stands p.logs.base p.logs.closed closed
      (All-weaker (IsClosed p.logs (disk v.device)) (λ r. 1 ≤ length (batches_at p.logs.log_sectors stands r)) (λ r one. one.some) p.logs.closed runs.stored.stored.carried.held.closed))

  -- so the job's cut sees one of them
  sees : (sealed : List Version) → v.work.sealed ≡ sealed → 0 < length sealed → slot.input.runs ≡ sealed ∷ [] → SeesSome slot.input
  sees [] same some from = absurd (omega (arith, some))
  sees (x ∷ rest) same some from =
      let among : IsAmong x (joined slot.input.runs) = subst (λ (rs : List (List Version)). IsAmong x (joined rs)) (sym from) (inl refl) in
      record { version = x; there = among; cut = taken.cut; is_cut = taken.is_cut; sees = (taken.inputs x among).0 }

  input_of : (j : Job) → slot.job ≡ j → IsInputOf v.work.levels j slot.input
  input_of Flush same =
      let from : slot.input.runs ≡ v.work.sealed ∷ [] = taken.runs ∙ ap (runs_of v.work.sealed) same in (
        sees v.work.sealed refl (some_sealed (ap is_flush same)) from,
        subst (λ (vs : List Version). AllByRecursion (IsNewerPlace vs) (map versions_of (places v.work.levels))) (sym (append-nil v.work.sealed) ∙ sym (ap (λ (rs : List (List Version)). joined rs) from)) runs.sound.tied.versions.order.1.0,
      )
  input_of (Merge i upper lower) same = merge_versions v.work.sealed slot.input i upper lower (taken.runs ∙ ap (runs_of v.work.sealed) same)

  pub served : (outputs : List Table) → AreMadeOf slot.input outputs → MayBePutIn slot.job slot.input outputs
  served outputs made =
      let good = runs.sound.tied.versions in
      let may = install_law v.work.levels v.work.jobs.next job v.work.jobs.slots slot outputs good.runs (record { order = good.order.1.1; ranges = good.ranges }) runs.sound.ready.kept is (input_of slot.job refl) made in
      record { fit = may.are_outputs; versions = outputs_law.versions slot.input outputs made; ranges = outputs_law.ranged slot.input outputs made }
