-- The versions that are sealed and those in memory stay those of the batches in the log regions.
use Rattle.std.proofs.Common.{◌≡◌, ℕ, ◌+◌, List, [], ◌∷◌, ◌++◌, length, get_or, Some, refl, sym, ◌∙◌, ap, arith}
use Rattle.std.specs.Prelude.{Option, if◌then◌else◌}
use Rattle.std.proofs.Math.Nat.{add-zero}
use Rattle.std.proofs.lemmas.List.{length-append}
use Rattle.lsm_codec.specs.Map.{Operation}
use Rattle.lsm_codec.specs.Versions.{Version}
use Rattle.lsm_codec.specs.declared.log_record.LogRecord.{LogRecord}
use Rattle.lsm_codec.proofs.Lists.{none_length}
use Rattle.lsm_device.specs.Disk.{Disk, seen, written}
use Rattle.lsm_levels.specs.Levels.{Levels}
use Rattle.lsm_levels.specs.Pick.{Job, Flush, Merge, is_flush}
use Rattle.lsm_levels.specs.Tables.{Table}
use Rattle.lsm_log.specs.Opened.{batches_in}
use Rattle.lsm_log.specs.Replay.{replay}
use Rattle.lsm_log.proofs.Logs.{open_next}
use Rattle.lsm_mem.specs.EntryOrder.{with_batch, with_batches}
use Rattle.lsm_mem.proofs.Replays.{with_batches-append}
use Rattle.lsm_open.specs.Layout.{open_records, open_batches}
use Rattle.lsm_open.specs.LogRegions.{region_start, all_batches}
use Rattle.lsm_open.specs.Placements.{Placement, closed_in, IsHeld}
use Rattle.lsm_open.specs.Recovering.{IsReopened}
use Rattle.lsm_mem.specs.Versions.{sealed_versions}
use Rattle.lsm_open.specs.Switching.{rotated_placement}
use Rattle.lsm_open.specs.declared.regions.OpenRegion.{OpenRegion}
use Rattle.lsm_open.proofs.HeldRegions.{all_open, placed, same_all}
use Rattle.lsm_open.proofs.KeptRecords.{same_batches}
use Rattle.lsm_open.proofs.TableFrames.{area_behind}
use Rattle.lsm_root.specs.Layout.{behind}
use Rattle.lsm_store.specs.InstalledJobs.{AreSealedIn, AreLoggedIn, installed_in}
use Rattle.lsm_machine.specs.RecoveryPoints.{batch_count}
use Rattle.lsm_machine.specs.State.{State}
use Rattle.lsm_store.specs.StoredTables.{IsStoredIn, with_log, with_next}
use Rattle.lsm_store.proofs.InstalledTables.{count_is}
use Rattle.lsm_store.proofs.StoredTables.{closed_seen}

abbrev Sectors : Type 0
Sectors = List (List ℕ)

abbrev Batches : Type 0
Batches = List (List Operation)

-- the versions of one batch more are put in under the next number
pub one_more : (n : ℕ) (batches : List (List Operation)) (batch : List Operation) → with_batches n (batches ++ batch ∷ []) [] ≡ with_batch (n + length batches + 1) batch (with_batches n batches [])
one_more n batches batch = with_batches-append n batches (batch ∷ []) []

-- the same sectors after the root hold the same batches
batches_behind : (n : ℕ) (c e : Sectors) → behind c ≡ behind e → (logs : List LogRecord) → all_batches n c logs ≡ all_batches n e logs
batches_behind n c e same logs = same_all n c e logs (λ k d lt. let r : LogRecord = get_or logs k d in ap (replay r.epoch r.first_batch) (area_behind c e same (region_start n r.region) n (omega arith)))

-- ---- an append to the open log

module _ (p : Placement) (s : State) (o x : OpenRegion) (old new : Disk) (stored : IsStoredIn p s old) (held : IsHeld (with_log p x) new) (stands : new.stands ≡ old.stands) where
  -- it changes nothing in closed regions
  closed_kept : closed_in (with_log p x) (seen new) ≡ closed_in p (seen old)
  closed_kept = closed_seen (with_log p x) new held ∙ ap (closed_in p) stands ∙ sym (closed_seen p old stored.carried.held)

  pub appended_sealed : (sealed : List Version) → AreSealedIn p (seen old) sealed → AreSealedIn (with_log p x) (seen new) sealed
  appended_sealed sealed are = are ∙ ap (λ (t : Batches). with_batches p.logs.base t []) (sym closed_kept)

  module _ (batch : List Operation) (is_open : p.logs.open_region ≡ Some o) (reads : batches_in x.log (seen new) ≡ batches_in o.log (seen old) ++ batch ∷ []) where
    abbrev first : ℕ
    first = p.logs.base + length (closed_in p (seen old))

    abbrev before : Batches
    before = batches_in o.log (seen old)

    counted : batch_count s.points + 1 ≡ p.logs.base + length (closed_in p (seen old)) + length (batches_in o.log (seen old)) + 1
    counted =
        let opened = open_batches p.logs.open_region (seen old) in
        let same : length (open_batches p.logs.open_region (seen old)) ≡ length (batches_in o.log (seen old)) = ap (λ (y : Option OpenRegion). length (open_batches y (seen old))) is_open in
        omega (arith, count_is p s old stored, length-append (closed_in p old.stands) opened, ap length (closed_seen p old stored.carried.held), same)

    pub appended_logged : (memory : List Version) → AreLoggedIn p (seen old) memory → AreLoggedIn (with_log p x) (seen new) (with_batch (batch_count s.points + 1) batch memory)
    appended_logged memory are =
        let were : memory ≡ with_batches first before [] = are ∙ ap (λ (y : Option OpenRegion). with_batches first (open_batches y (seen old)) []) is_open in
        ap (λ (k : ℕ). with_batch k batch memory) counted
        ∙ ap (with_batch (first + length before + 1) batch) were
        ∙ sym (one_more first before batch)
        ∙ ap (λ (t : Batches). with_batches first t []) (sym reads)
        ∙ ap (λ (t : Batches). with_batches (p.logs.base + length t) (batches_in x.log (seen new)) []) (sym closed_kept)

-- ---- a rotation

module _ (number : ℕ) (p : Placement) (o : OpenRegion) (old new : Disk) (held : IsHeld p old) (next : IsHeld (with_next number (rotated_placement p o)) new) (none_closed : p.logs.closed ≡ []) (same : behind (seen new) ≡ behind (seen old)) where
  abbrev n : ℕ
  n = p.logs.log_sectors

  -- the batches of the region that is closed now are those of the open log
  now_closed : closed_in (with_next number (rotated_placement p o)) (seen new) ≡ open_batches p.logs.open_region (seen old)
  now_closed =
      batches_behind n (seen new) (seen old) same (open_records p.logs.open_region)
      ∙ all_open n (seen old) p.logs.open_region (placed p.logs old p.logs.open_region held.opened)

  none_before : closed_in p (seen old) ≡ []
  none_before = ap (all_batches n (seen old)) none_closed

  -- what was in memory is sealed
  pub rotated_sealed : (memory : List Version) → AreLoggedIn p (seen old) memory → AreSealedIn (with_next number (rotated_placement p o)) (seen new) memory
  rotated_sealed memory are =
      let were = open_batches p.logs.open_region (seen old) in
      are
      ∙ ap (λ (t : Batches). with_batches (p.logs.base + length t) were []) none_before
      ∙ ap (λ (k : ℕ). with_batches k were []) (add-zero p.logs.base)
      ∙ ap (λ (t : Batches). with_batches p.logs.base t []) (sym now_closed)

  -- the new log holds no batch
  none_new : o.log.next ≡ o.log.first → batches_in o.log (seen new) ≡ []
  none_new unused = none_length (batches_in o.log (seen new)) (omega (arith, open_next o.log new next.opened.is_open, unused))

  pub rotated_logged : o.log.next ≡ o.log.first → AreLoggedIn (with_next number (rotated_placement p o)) (seen new) []
  rotated_logged unused = sym (ap (λ (t : Batches). with_batches (p.logs.base + length (closed_in (with_next number (rotated_placement p o)) (seen new))) t []) (none_new unused))

-- ---- an install of a job's outputs

module _ (p : Placement) (levels : Levels) (next_table : ℕ) (outputs : List Table) (old new : Disk) (held : IsHeld p old) (same : behind (seen new) ≡ behind (seen old)) where
  still_closed : closed_in p (seen new) ≡ closed_in p (seen old)
  still_closed = batches_behind p.logs.log_sectors (seen new) (seen old) same p.logs.closed

  still_open : open_batches p.logs.open_region (seen new) ≡ open_batches p.logs.open_region (seen old)
  still_open =
      let place = placed p.logs old p.logs.open_region held.opened in
      sym (all_open p.logs.log_sectors (seen new) p.logs.open_region place)
      ∙ batches_behind p.logs.log_sectors (seen new) (seen old) same (open_records p.logs.open_region)
      ∙ all_open p.logs.log_sectors (seen old) p.logs.open_region place

  -- after a flush nothing is sealed, and no region is closed
  pub installed_sealed : (job : Job) (sealed : List Version) → AreSealedIn p (seen old) sealed → AreSealedIn (installed_in p old levels job next_table outputs) (seen new) (if is_flush job then [] else sealed)
  installed_sealed Flush sealed are = refl
  installed_sealed (Merge i upper lower) sealed are = are ∙ ap (λ (t : Batches). with_batches p.logs.base t []) (sym still_closed)

  -- memory is that of the same log
  pub installed_logged : (job : Job) (memory : List Version) → AreLoggedIn p (seen old) memory → AreLoggedIn (installed_in p old levels job next_table outputs) (seen new) memory
  installed_logged Flush memory are =
      are
      ∙ ap (λ (k : ℕ). with_batches k (open_batches p.logs.open_region (seen old)) []) (sym (add-zero (p.logs.base + length (closed_in p (seen old)))))
      ∙ ap (λ (t : Batches). with_batches (p.logs.base + length (closed_in p (seen old)) + 0) t []) (sym still_open)
  installed_logged (Merge i upper lower) memory are =
      are
      ∙ ap (λ (t : Batches). with_batches (p.logs.base + length t) (open_batches p.logs.open_region (seen old)) []) (sym still_closed)
      ∙ ap (λ (t : Batches). with_batches (p.logs.base + length (closed_in p (seen new))) t []) (sym still_open)

-- ---- an opening

module _ (sectors : List (List ℕ)) (p : Placement) (count : ℕ) (sealed : Option (List Version)) (levels : Levels) (d : Disk) (is : IsReopened sectors p count sealed levels d) where
  reads_stand : seen d ≡ d.stands
  reads_stand = ap (written d.stands) is.rests

  -- the regions that are closed hold the batches of all that the manifest names
  closed_are : closed_in p (seen d) ≡ all_batches p.logs.log_sectors sectors is.manifest.logs
  closed_are =
      let n = p.logs.log_sectors in
      ap (closed_in p) reads_stand
      ∙ batches_behind n d.stands sectors is.same_behind p.logs.closed
      ∙ ap (λ (q : Placement). all_batches n sectors q.logs.closed) is.placed
      ∙ same_batches n sectors is.manifest.logs

  pub opened_sealed : AreSealedIn p (seen d) (sealed_versions sealed)
  opened_sealed =
      is.remembers
      ∙ ap (λ (t : Batches). with_batches is.manifest.base t []) (sym closed_are)
      ∙ ap (λ (q : Placement). with_batches q.logs.base (closed_in p (seen d)) []) (sym is.placed)

  -- memory is empty, and so is the new log
  pub opened_logged : open_batches p.logs.open_region d.stands ≡ [] → AreLoggedIn p (seen d) []
  opened_logged empty =
      let none : open_batches p.logs.open_region (seen d) ≡ [] = ap (open_batches p.logs.open_region) reads_stand ∙ empty in
      sym (ap (λ (t : Batches). with_batches (p.logs.base + length (closed_in p (seen d))) t []) none)
