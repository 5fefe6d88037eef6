-- What the manifest after an install names is within the limits, whatever the device holds.
use Rattle.std.proofs.Common.{◌≡◌, ℕ, ◌+◌, ◌-◌, ◌≤◌, ◌<◌, List, [], ◌∷◌, ◌++◌, length, All, Option, Some, None, refl, sym, subst, arith}
use Rattle.std.specs.Int.{div_ceil}
use Rattle.std.specs.List.{AllByRecursion}
use Rattle.std.proofs.lemmas.List.{length-append}
use Rattle.std.proofs.lemmas.List.Elements.{All-head, All-weaker}
use Rattle.lsm_codec.specs.Geometry.{data_blocks_of}
use Rattle.lsm_codec.specs.Indexes.{index_length}
use Rattle.lsm_codec.specs.Manifests.{IsLogRecord, LogsAgree, BeginsAfter, NumbersFit, LogsFit, IsManifest}
use Rattle.lsm_codec.specs.Pairs.{Pairwise}
use Rattle.lsm_codec.specs.TableRecords.{HasSizes}
use Rattle.lsm_codec.specs.declared.log_record.LogRecord.{LogRecord}
use Rattle.lsm_jobs.specs.Outputs.{AreTablesOf, AreMadeOf}
use Rattle.lsm_levels.specs.Held.{AreRuns}
use Rattle.lsm_levels.specs.Levels.{Levels, all_tables, places}
use Rattle.lsm_levels.specs.NamedBlocks.{AreNumberedApart}
use Rattle.lsm_levels.specs.Pick.{Job, Flush, Merge, installed_levels}
use Rattle.lsm_levels.specs.Tables.{Table, table_of}
use Rattle.lsm_merge.specs.Inputs.{MergeInput}
use Rattle.lsm_open.proofs.ListPairs.{All-right, pairwise_right}
use Rattle.lsm_root.specs.CrashState.{last_number}
use Rattle.lsm_open.specs.Layout.{Layout, record_of, open_records}
use Rattle.lsm_open.specs.Placements.{contents_for}
use Rattle.lsm_open.specs.Recovering.{placed_in}
use Rattle.lsm_open.specs.ToldTables.{records_of, IsOutlined}
use Rattle.lsm_open.specs.Tables.{first_data}
use Rattle.lsm_levels.specs.Stored.{AreWithin}
use Rattle.lsm_root.specs.Layout.{IsGeometry, LieInside}
use Rattle.lsm_open.specs.declared.regions.OpenRegion.{OpenRegion}
use Rattle.lsm_machine.specs.Accounts.{AllLieApart}
use Rattle.lsm_store.specs.InstalledJobs.{first_open, installed_layout}
use Rattle.lsm_store.specs.Memory.{LieWithin}
use Rattle.lsm_open.proofs.ManifestRecords.{records_count}
use Rattle.lsm_store.proofs.NamedTables.{IsSized, MayBeNamed, sized_by, named_inside, named_fit, named_within}
use Rattle.lsm_store.proofs.StoredLevels.{installed_have}
use Rattle.lsm_machine.proofs.TableNumbers.{in_all, in_each_run}
use Rattle.lsm_table.proofs.Deletes.{few_deletes}
use Rattle.lsm_table.proofs.Outlines.{outline_fits}
use Rattle.lsm_table.specs.BlockEdges.{edges_of}
use Rattle.lsm_table.specs.Division.{TableBlocks, IsTable, entries_of}

-- ---- the sizes of outputs

index_few : (len : ℕ) → 10 ≤ len → len ≤ 16896 → (1 ≤ div_ceil len 4096) × (div_ceil len 4096 ≤ 5)
index_few len low high = (omega (arith, low), omega (arith, high))

image_sized : (number start : ℕ) (image : TableBlocks) → IsTable image → IsSized (table_of number start image)
image_sized number start image is =
    let o = (outline_fits 0 [] image (omega arith) is).summary in
    let few = index_few (index_length (edges_of image)) o.index_low o.index_high in
    record { data_low = o.blocks_low; data_high = o.blocks_high; index_low = few.0; index_high = few.1; entries_low = o.entries_low; entries_high = o.entries_high; deletes = few_deletes (entries_of image) }

-- a table has an outline, and sizes within the limits
abbrev IsWhole : Table → Type 0
IsWhole t = IsSized t × IsOutlined t

outputs_whole : (images : List TableBlocks) (tables : List Table) → AreTablesOf images tables → AllByRecursion (λ t. IsSized t × IsOutlined t) tables
outputs_whole [] [] of = tt
outputs_whole [] (t ∷ tables) of = absurd of
outputs_whole (image ∷ images) [] of = absurd of
outputs_whole (image ∷ images) (t ∷ tables) of =
    (subst (λ (u : Table). IsWhole u) (sym of.0.same) (image_sized t.number t.start image of.0.is, refl), outputs_whole images tables of.1)

-- ---- the log records

begins_with : (base count : ℕ) (closed : List LogRecord) (o : Option OpenRegion) → BeginsAfter base (closed ++ open_records o) → Pairwise LogsAgree (closed ++ open_records o) → BeginsAfter (first_open count o - 1) (open_records o)
begins_with base count closed None begins agree = tt
begins_with base count [] (Some o) begins agree = omega (arith, begins)
begins_with base count (r ∷ rest) (Some o) begins agree =
    let last : LogsAgree r (record_of o) = All-head (LogsAgree r) (record_of o) [] (All-right (LogsAgree r) rest (record_of o ∷ []) agree.0) in
    omega (arith, last.firsts)

base_high : (generation count : ℕ) (o : Option OpenRegion) → count ≤ last_number → All (IsLogRecord generation) (open_records o) → first_open count o - 1 ≤ last_number
base_high generation count None high each = omega (arith, high)
base_high generation count (Some o) high each = let own = (All-head (IsLogRecord generation) (record_of o) [] each).first_high in omega (arith, own)

few_open : (o : Option OpenRegion) → length (open_records o) ≤ 3
few_open None = omega arith
few_open (Some o) = omega arith

later_record : (generation : ℕ) (r : LogRecord) → IsLogRecord generation r → IsLogRecord (generation + 1) r
later_record generation r is = record { region = is.region; epoch_low = is.epoch_low; epoch_high = omega (arith, is.epoch_high); first_high = is.first_high }

-- ---- a manifest after an install

module _ (size count next : ℕ) (l : Layout) (levels : Levels) (within : LieWithin size l levels) (counted : count ≤ last_number) (generation : l.generation + 1 ≤ last_number) (later : l.next_table ≤ next) (high : next ≤ last_number + 1)
    (after : Levels) where
  abbrev log : ℕ
  log = l.log_sectors

  logs_after : (job : Job) → LogsFit (contents_for (placed_in (installed_layout l count next job) after (records_of after)))
  logs_after Flush = record {
    each = All-weaker (IsLogRecord l.generation) (IsLogRecord (l.generation + 1)) (later_record l.generation) (open_records l.open_region) (All-right (IsLogRecord l.generation) l.closed (open_records l.open_region) within.manifest.logs.each);
    agree = pairwise_right LogsAgree l.closed (open_records l.open_region) within.manifest.logs.agree;
    begins = begins_with l.base count l.closed l.open_region within.manifest.logs.begins within.manifest.logs.agree;
  }
  logs_after (Merge i upper lower) = record {
    each = All-weaker (IsLogRecord l.generation) (IsLogRecord (l.generation + 1)) (later_record l.generation) (l.closed ++ open_records l.open_region) within.manifest.logs.each;
    agree = within.manifest.logs.agree;
    begins = within.manifest.logs.begins;
  }

  numbers_after : (job : Job) → length after.runs ≤ 12 → length (records_of after) ≤ 1024 → NumbersFit (contents_for (placed_in (installed_layout l count next job) after (records_of after)))
  numbers_after Flush few some = record {
    generation_low = omega arith;
    generation_high = omega (arith, generation);
    base = let most = base_high l.generation count l.open_region counted (All-right (IsLogRecord l.generation) l.closed (open_records l.open_region) within.manifest.logs.each) in omega (arith, most);
    next_low = omega (arith, within.manifest.numbers.next_low, later);
    next_high = omega (arith, high);
    runs = few;
    logs = few_open l.open_region;
    tables = some;
  }
  numbers_after (Merge i upper lower) few some = record {
    generation_low = omega arith;
    generation_high = omega (arith, generation);
    base = within.manifest.numbers.base;
    next_low = omega (arith, within.manifest.numbers.next_low, later);
    next_high = omega (arith, high);
    runs = few;
    logs = within.manifest.numbers.logs;
    tables = some;
  }

  same_next : (job : Job) → (installed_layout l count next job).next_table ≡ next
  same_next Flush = refl
  same_next (Merge i upper lower) = refl

  same_log : (job : Job) → (installed_layout l count next job).log_sectors ≡ l.log_sectors
  same_log Flush = refl
  same_log (Merge i upper lower) = refl

  module _ (runs : AreRuns after) (named : AllByRecursion (MayBeNamed next size l.log_sectors) (all_tables (places after))) (numbers : AreNumberedApart (all_tables (places after))) (apart : AllLieApart (all_tables (places after)))
      (few : length after.runs ≤ 12) (some : length (all_tables (places after)) ≤ 1024) where
    within_at : (job : Job) (q : Layout) → installed_layout l count next job ≡ q → q.log_sectors ≡ l.log_sectors → LieWithin size q after
    within_at job q is same = record {
      geometry = subst (λ (n : ℕ). IsGeometry size n) (sym same) within.geometry;
      manifest = subst (λ (x : Layout). IsManifest (contents_for (placed_in x after (records_of after)))) is (record {
        numbers = numbers_after job few (omega (arith, some, records_count after));
        logs = logs_after job;
        tables = named_fit next size l.log_sectors within.geometry after runs named (installed_layout l count next job) (same_next job) numbers apart;
      });
      inside = subst (λ (n : ℕ). LieInside size n (records_of after)) (sym same) (named_inside next size l.log_sectors within.geometry after runs named);
      regions = subst (λ (n : ℕ). first_data n ≤ size) (sym same) within.regions;
      tables = subst (λ (n : ℕ). AreWithin size (first_data n) (places after)) (sym same) (named_within next size l.log_sectors within.geometry after runs named within.regions);
      few = omega (arith, few, runs.four, length-append after.runs after.deeper);
    }

    pub installed_within : (job : Job) → LieWithin size (installed_layout l count next job) after
    installed_within job = within_at job (installed_layout l count next job) refl (same_log job)

-- ---- the tables after it

-- each has its outline
pub outlined_then : (levels : Levels) (job : Job) (input : MergeInput) (outputs : List Table) → AllByRecursion IsOutlined (all_tables (places levels)) → AreMadeOf input outputs
    → AllByRecursion IsOutlined (all_tables (places (installed_levels levels job outputs)))
outlined_then levels job input outputs outlined made =
    in_all IsOutlined (places (installed_levels levels job outputs)) (installed_have IsOutlined outputs (of_outputs outputs (outputs_whole made.images outputs made.placed)) levels job (in_each_run IsOutlined (places levels) outlined))
  where
    of_outputs : (ts : List Table) → AllByRecursion (λ t. IsSized t × IsOutlined t) ts → AllByRecursion IsOutlined ts
    of_outputs [] all = tt
    of_outputs (t ∷ ts) all = (all.0.1, of_outputs ts all.1)

-- each is one that was there, or an output
module _ (size log next : ℕ) (levels : Levels) (job : Job) (input : MergeInput) (outputs : List Table) (sizes : All HasSizes (records_of levels)) (outlined : AllByRecursion IsOutlined (all_tables (places levels)))
    (made : AreMadeOf input outputs) where
  abbrev after : Levels
  after = installed_levels levels job outputs

  whole_before : AllByRecursion IsWhole (all_tables (places levels))
  whole_before = by (all_tables (places levels)) (sized_by levels sizes) outlined
    where
      by : (ts : List Table) → AllByRecursion IsSized ts → AllByRecursion IsOutlined ts → AllByRecursion (λ t. IsSized t × IsOutlined t) ts
      by [] sized outlined = tt
      by (t ∷ ts) sized outlined = ((sized.0, outlined.0), by ts sized.1 outlined.1)

  whole_after : AllByRecursion IsWhole (all_tables (places after))
  whole_after = in_all IsWhole (places after) (installed_have IsWhole outputs (outputs_whole made.images outputs made.placed) levels job (in_each_run IsWhole (places levels) whole_before))

  -- they may be named, where they have numbers below the next one's and lie in the data area
  pub installed_named : AllByRecursion (λ t. t.number < next) (all_tables (places (installed_levels levels job outputs))) → AllByRecursion (λ t. (0 < t.blocks) × (t.start + t.blocks ≤ data_blocks_of size log)) (all_tables (places (installed_levels levels job outputs)))
      → AllByRecursion (MayBeNamed next size log) (all_tables (places (installed_levels levels job outputs)))
  installed_named below inside = by (all_tables (places after)) whole_after below inside
    where
      by : (ts : List Table) → AllByRecursion IsWhole ts → AllByRecursion (λ t. t.number < next) ts → AllByRecursion (λ t. (0 < t.blocks) × (t.start + t.blocks ≤ data_blocks_of size log)) ts → AllByRecursion (MayBeNamed next size log) ts
      by [] whole below inside = tt
      by (t ∷ ts) whole below inside = (record { number = below.0; sizes = whole.0.0; inside = inside.0.1; outlined = whole.0.1 }, by ts whole.1 below.1 inside.1)
