-- Tables that are told are sound exactly where those of the manifest stand.
use Rattle.std.proofs.Common.{◌≡◌, ℕ, List, [], ◌∷◌, All, Option, Some, sym, ap, subst, ◌∙◌}
use Rattle.std.specs.Prelude.{IfSome, is_some}
use Rattle.std.specs.List.{AllByRecursion}
use Rattle.std.proofs.lemmas.List.Elements.{All-nil, All-cons, All-head, All-tail}
use Rattle.lsm_codec.specs.Manifests.{Contents}
use Rattle.lsm_codec.specs.Pairs.{Pairwise}
use Rattle.lsm_codec.specs.Versions.{deletes_in}
use Rattle.lsm_codec.specs.declared.table_record.TableRecord.{TableRecord}
use Rattle.lsm_codec.proofs.Lists.{all_map, all_left, all_right}
use Rattle.lsm_levels.specs.Held.{AreRuns}
use Rattle.lsm_levels.specs.Levels.{Levels, all_tables, places}
use Rattle.lsm_levels.specs.Orders.{IsVersionOrder}
use Rattle.lsm_levels.specs.Stored.{AreStored}
use Rattle.lsm_levels.specs.Tables.{Table}
use Rattle.lsm_mem.specs.Versions.{NumberedAtMost}
use Rattle.lsm_open.specs.Tables.{first_data, versions_at, IsTableAt, AscendInRun, AreTables}
use Rattle.lsm_open.specs.ToldTables.{told_tables, HaveNamed}
use Rattle.lsm_open.proofs.StandingTables.{told_stored}
use Rattle.lsm_table.specs.Outlines.{Outline, outline_in}
use Rattle.lsm_check.specs.Sound.{IsSound, AreSound}
use Rattle.lsm_open.proofs.StoredRecords.{records_ascend}
use Rattle.lsm_check.proofs.ToldTables.{IsOneTold, AreEachTold, each_told, same_blocks, told_versions, same_places}

module _ (n base : ℕ) (s : List (List ℕ)) where
  -- ---- each table

  sound_one : (t : TableRecord) (u : Table) → IsOneTold n s t u → IsTableAt n base s t → IsSound s (first_data n) base u
  sound_one t u one is =
      let both = told_stored n base s t u is (ap is_some one.tells) one.told one.recorded in
      record { stored = both.0; numbered = subst (NumberedAtMost base) (sym both.1) is.numbered }

  each_sound : (ts : List TableRecord) (us : List Table) → AreEachTold n s ts us → All (IsTableAt n base s) ts → AllByRecursion (IsSound s (first_data n) base) us
  each_sound [] [] each all = tt
  each_sound [] (u ∷ us) each all = absurd each
  each_sound (t ∷ ts) [] each all = absurd each
  each_sound (t ∷ ts) (u ∷ us) each all = (sound_one t u each.0 (All-head (IsTableAt n base s) t ts all), each_sound ts us each.1 (All-tail (IsTableAt n base s) t ts all))

  stands_one : (t : TableRecord) (u : Table) → IsOneTold n s t u → IsSound s (first_data n) base u → IsTableAt n base s t
  stands_one t u one is = record {
    table = is.stored.blocks;
    filter = u.outline.filter;
    spelled = sym (same_blocks n s t u one) ∙ is.stored.spelled;
    sorted = is.stored.sorted;
    told = one.outline ∙ ap (λ (o : Outline). Some o) its_outline;
    members = is.stored.members;
    numbered = subst (NumberedAtMost base) (told_versions n s t u one) is.numbered;
    counted = subst (λ (o : Option ℕ). IfSome o (λ deletes. deletes ≡ deletes_in (versions_at n s t))) (sym one.tells) its_deletes;
  }
    where
      its_deletes : u.deletes ≡ deletes_in (versions_at n s t)
      its_deletes = ap (λ (x : Table). x.deletes) is.stored.told ∙ ap deletes_in (sym (ap (λ (x : Table). x.versions) is.stored.told) ∙ told_versions n s t u one)

      number : u.number ≡ t.number
      number = ap (λ (x : Table). x.number) one.is_at ∙ sym one.recorded.number

      its_outline : u.outline ≡ outline_in t.number u.outline.filter is.stored.blocks
      its_outline = ap (λ (x : Table). x.outline) is.stored.told ∙ ap (λ (k : ℕ). outline_in k u.outline.filter is.stored.blocks) number

  each_stands : (ts : List TableRecord) (us : List Table) → AreEachTold n s ts us → AllByRecursion (IsSound s (first_data n) base) us → All (IsTableAt n base s) ts
  each_stands [] us each all = All-nil (IsTableAt n base s)
  each_stands (t ∷ ts) [] each all = absurd each
  each_stands (t ∷ ts) (u ∷ us) each all = All-cons (IsTableAt n base s) t ts (stands_one t u each.0 all.0) (each_stands ts us each.1 all.1)

  -- ---- run by run

  runs_stored : (runs : List (List Table)) → AllByRecursion (IsSound s (first_data n) base) (all_tables runs) → AreStored s (first_data n) runs
  runs_stored [] all = tt
  runs_stored (run ∷ rest) all = (
    all_map (λ u is. is.stored) run (all_left (IsSound s (first_data n) base) run (all_tables rest) all),
    runs_stored rest (all_right (IsSound s (first_data n) base) run (all_tables rest) all),
  )

-- Where the tables in levels are those that are told of the manifest's records, and are sound, the manifest's tables stand.
pub tables_stand : (n : ℕ) (s : List (List ℕ)) (m : Contents) (levels : Levels) → told_tables n s m.tables ≡ Some (all_tables (places levels)) → HaveNamed m levels → AreRuns levels
    → AreSound s (first_data n) m.base (all_tables (places levels)) → AreTables n m.base m.tables s
tables_stand n s m levels told named runs sound =
    let each = each_told n s m.tables (all_tables (places levels)) told in
    record {
      each = each_stands n m.base s m.tables (all_tables (places levels)) each sound.each;
      order = subst IsVersionOrder (same_places n s m.tables (all_tables (places levels)) each) sound.order;
      ascend = subst (Pairwise (AscendInRun n s)) named.records (records_ascend n s levels runs (runs_stored n m.base s (places levels) sound.each));
    }

-- And where the manifest's tables stand, those in levels are sound.
pub stand_soundly : (n : ℕ) (s : List (List ℕ)) (m : Contents) (levels : Levels) → told_tables n s m.tables ≡ Some (all_tables (places levels)) → AreTables n m.base m.tables s
    → AreSound s (first_data n) m.base (all_tables (places levels))
stand_soundly n s m levels told stand =
    let each = each_told n s m.tables (all_tables (places levels)) told in
    record {
      each = each_sound n m.base s m.tables (all_tables (places levels)) each stand.each;
      order = subst IsVersionOrder (sym (same_places n s m.tables (all_tables (places levels)) each)) stand.order;
    }
