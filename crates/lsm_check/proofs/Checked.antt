-- What was read and found sound is the image of a store, and the image of a store is sound.
use Rattle.std.proofs.Common.{◌≡◌, ℕ, ◌≤◌, ◌||◌, Bool, List, [], ◌∷◌, length, Some, refl, sym, ap, subst, ◌∙◌, arith}
use Rattle.std.specs.Prelude.{not}
use Rattle.std.specs.List.{AllByRecursion, list_any}
use Rattle.std.proofs.lemmas.List.{length-map}
use Rattle.std.proofs.lemmas.Option.{same_Some}
use Rattle.lsm_codec.specs.Geometry.{data_blocks_of}
use Rattle.lsm_codec.specs.Manifests.{Contents, IsManifest}
use Rattle.lsm_codec.specs.Versions.{Version}
use Rattle.lsm_codec.specs.declared.table_record.TableRecord.{TableRecord}
use Rattle.lsm_extent.specs.Area.{Area, covers}
use Rattle.lsm_levels.specs.Levels.{Levels, all_tables, places}
use Rattle.lsm_levels.specs.Tables.{versions_of}
use Rattle.lsm_open.specs.Counting.{with_tables, IsCountedRoot}
use Rattle.lsm_root.specs.CrashState.{CrashState}
use Rattle.lsm_open.specs.Image.{count_in, HoldNamed, StandFor}
use Rattle.lsm_open.specs.Tables.{first_data, table_versions}
use Rattle.lsm_open.specs.ToldTables.{told_tables, record_extent, HaveNamed}
use Rattle.lsm_open.proofs.CountedTables.{counted_one, counted_all, same_versions, manifest_counted}
use Rattle.lsm_open.proofs.OneMeaning.{same_stands}
use Rattle.lsm_open.proofs.OpenedStores.{named_here}
use Rattle.lsm_open.proofs.UncountedTables.{counted_stand}
use Rattle.lsm_check.specs.declared.report.Report.{Report}
use Rattle.lsm_check.specs.Images.{blocks_in_none, IsImage}
use Rattle.lsm_check.specs.Named.{AreNamed, AreToldBy}
use Rattle.lsm_check.specs.Sound.{IsTold, AreSound}
use Rattle.lsm_extent.proofs.Counting.{count_below-same}
use Rattle.lsm_check.proofs.StandSoundly.{tables_stand, stand_soundly}
use Rattle.lsm_check.proofs.ToldTables.{all_told, are_told, entries_counted}
use Rattle.lsm_open.proofs.NamedRecords.{counted_runs}

-- ---- how many tables there are

-- Levels have no more tables than a manifest can name.
pub few_tables : (m : Contents) (levels : Levels) → IsManifest m → HaveNamed m levels → length (all_tables (places levels)) ≤ 1024
few_tables m levels is named = omega (arith, counted_runs 0 levels.runs levels.deeper, ap (λ (ts : List TableRecord). length ts) named.records, is.numbers.tables)

-- ---- a manifest that is counted, and the one that stands

module _ (n : ℕ) (s : List (List ℕ)) where
  -- counts change no extent
  none_covers : (block : ℕ) (ts : List TableRecord) → list_any (λ t. covers block (record_extent t)) (counted_all n s ts) ≡ list_any (λ t. covers block (record_extent t)) ts
  none_covers block [] = refl
  none_covers block (t ∷ ts) = ap (λ (b : Bool). covers block (record_extent t) || b) (none_covers block ts)

  same_blocks : (blocks : ℕ) (ts : List TableRecord) → blocks_in_none blocks (counted_all n s ts) ≡ blocks_in_none blocks ts
  same_blocks blocks ts =
      count_below-same (λ block. not (list_any (λ t. covers block (record_extent t)) (counted_all n s ts))) (λ block. not (list_any (λ t. covers block (record_extent t)) ts)) blocks (λ k below. ap not (none_covers k ts))

  module _ (m : Contents) (root : IsCountedRoot n m s) (holds : HoldNamed n m s) where
    -- what the counted manifest names the sectors hold by the one that stands
    stood_holds : HoldNamed n root.stood s
    stood_holds =
        let is = counted_stand n s m root holds in
        subst (λ (c : Contents). HoldNamed n c s) (same_stands n n is.manifest root.stood (sym is.root ∙ root.root)).1 is.holds

    stood_counted : m ≡ with_tables root.stood (counted_all n s root.stood.tables)
    stood_counted = same_Some m (with_tables root.stood (counted_all n s root.stood.tables)) (sym root.counted_is ∙ manifest_counted n s root.stood stood_holds.tables)

    -- the numbers of both are the same
    stood_generation : m.generation ≡ root.stood.generation
    stood_generation = ap (λ (c : Contents). c.generation) stood_counted

    stood_batches : count_in n s m ≡ count_in n s root.stood
    stood_batches = ap (count_in n s) stood_counted

    stood_tables : length m.tables ≡ length root.stood.tables
    stood_tables = ap (λ (c : Contents). length c.tables) stood_counted ∙ length-map root.stood.tables (counted_one n s)

    stood_entries : length (table_versions n s m.tables) ≡ length (table_versions n s root.stood.tables)
    stood_entries = ap (λ (c : Contents). length (table_versions n s c.tables)) stood_counted ∙ ap (λ (vs : List Version). length vs) (same_versions n s root.stood.tables)

    stood_free : (blocks : ℕ) → blocks_in_none blocks m.tables ≡ blocks_in_none blocks root.stood.tables
    stood_free blocks = ap (λ (c : Contents). blocks_in_none blocks c.tables) stood_counted ∙ same_blocks blocks root.stood.tables

-- ---- what was read of sectors

module _ (size n : ℕ) (s : List (List ℕ)) (m : Contents) (levels : Levels) (extents : Area) (batches : ℕ) (named : AreNamed size n m levels extents) (told : AreToldBy n s m levels batches) where
  tables_told : told_tables n s m.tables ≡ Some (all_tables (places levels))
  tables_told = all_told n s m levels named.fits.fits told.told

  -- its tables are told
  pub levels_told : AllByRecursion (IsTold s (first_data n)) (all_tables (places levels))
  levels_told = are_told n s m.tables (all_tables (places levels)) tables_told

  -- Where they are sound, the sectors hold what the manifest names.
  pub sound_holds : AreSound s (first_data n) m.base (all_tables (places levels)) → HoldNamed n m s
  sound_holds sound = record { tables = tables_stand n s m levels tables_told named.named named.runs sound; follows = told.has.follows; fresh = told.has.fresh }

  -- So they are an image, and these are its numbers.
  pub sound_image : (report : Report) → AreSound s (first_data n) m.base (all_tables (places levels)) → report.generation ≡ m.generation → report.batches ≡ batches → report.tables ≡ length m.tables
      → report.entries ≡ length (versions_of (all_tables (places levels))) → report.free_blocks ≡ blocks_in_none (data_blocks_of size n) m.tables → IsImage size s report
  sound_image report sound generation counted tables entries free = record {
    log_sectors = n;
    manifest = told.root.stood;
    root = told.root.root;
    holds = stood_holds n s m told.root (sound_holds sound);
    generation = generation ∙ stood_generation n s m told.root (sound_holds sound);
    batches = counted ∙ told.has.counted ∙ stood_batches n s m told.root (sound_holds sound);
    tables = tables ∙ stood_tables n s m told.root (sound_holds sound);
    entries = entries ∙ ap (λ (vs : List Version). length vs) (entries_counted n s m levels tables_told) ∙ stood_entries n s m told.root (sound_holds sound);
    free_blocks = free ∙ stood_free n s m told.root (sound_holds sound) (data_blocks_of size n);
  }

  -- And where the sectors are the image of a store, they are sound.
  pub image_sound : (log_sectors : ℕ) (left : CrashState) → StandFor log_sectors left s → AreSound s (first_data n) m.base (all_tables (places levels))
  image_sound log_sectors left stands =
      stand_soundly n s m levels tables_told (named_here log_sectors n left m s stands told.root).1.tables
