-- Tables that stand, stand in the levels that were read.
use Rattle.std.proofs.Common.{◌≡◌, ℕ, suc, ◌+◌, Bool, true, false, IsTrue, List, [], ◌∷◌, ◌++◌, length, map, All, Option, Some, None, sym, ap, subst, ◌∙◌, arith}
use Rattle.std.specs.Prelude.{if◌then◌else◌}
use Rattle.std.specs.List.{AllByRecursion}
use Rattle.std.proofs.lemmas.List.{append-nil, length-append, map-append}
use Rattle.std.proofs.lemmas.List.Elements.{All-filter}
use Rattle.lsm_codec.specs.Manifests.{Contents, IsManifest}
use Rattle.lsm_codec.specs.Reading.{◌>>=◌}
use Rattle.lsm_codec.specs.TableRecords.{IsOfVersion}
use Rattle.lsm_codec.specs.Versions.{Version}
use Rattle.lsm_codec.specs.declared.superblock.FormatVersion.TheVariants.{Two}
use Rattle.lsm_codec.specs.declared.table_record.TableRecord.{TableRecord}
use Rattle.lsm_levels.specs.Levels.{Levels, places}
use Rattle.lsm_levels.specs.Orders.{IsNewerPlace, IsVersionOrder}
use Rattle.lsm_levels.specs.Stored.{IsStored, AreStored}
use Rattle.lsm_levels.specs.Tables.{Table, is_run, versions_of}
use Rattle.lsm_levels.proofs.LevelVersions.{all_versions}
use Rattle.lsm_mem.specs.Versions.{NumberedAtMost}
use Rattle.lsm_mem.specs.Versions.{joined}
use Rattle.lsm_open.specs.Tables.{first_data, versions_at, table_versions, IsTableAt, AreTables}
use Rattle.lsm_open.specs.ToldTables.{told_tables, run_if, is_in_run, run_records, IsRunRead, AreRunsRead, AreThose}
use Rattle.lsm_open.proofs.Flushing.{table_versions-append, joined_versions}
use Rattle.lsm_open.proofs.NamedRecords.{records_from, run_and_behind, none_behind, all_from_first}
use Rattle.lsm_open.proofs.StandingTables.{all_told_stored}
use Rattle.lsm_open.proofs.TableFrames.{numbered_tables}
use Rattle.lsm_open.proofs.VersionOrders.{order_right, order_cross, order_join}

abbrev Versions : Type 0
Versions = List Version

-- tables that are told as a run
told_as_run : (o : Option (List Table)) (us : List Table) → (o >>= run_if) ≡ Some us → o ≡ Some us
told_as_run None us told = absurd cc
told_as_run (Some ts) us told = by (is_run ts) told
  where
    by : (b : Bool) → (if b then Some ts else None) ≡ Some us → Some ts ≡ Some us
    by true h = h
    by false h = absurd cc

-- one place before the others
order_first : (place : Versions) (others : List Versions) → IsNewerPlace place (joined others) → IsVersionOrder others → IsVersionOrder (place ∷ others)
order_first place others newer order = order_join (place ∷ []) others (tt, tt) order (subst (λ (l : Versions). IsNewerPlace l (joined others)) (sym (append-nil place)) newer)

module _ (n : ℕ) (s : List (List ℕ)) (m : Contents) (is : IsManifest m) (two : All (IsOfVersion Two) m.tables) (stand : AreTables n m.base m.tables s) where
  its_tables : (k : ℕ) → All (IsTableAt n m.base s) (run_records m k)
  its_tables k = All-filter (is_in_run m.runs k) (IsTableAt n m.base s) m.tables stand.each

  -- a run that was read stands
  run_stored : (k : ℕ) (r : List Table) (tells : Bool) → IsTrue tells → IsRunRead n tells s m k r → AllByRecursion (IsStored s (first_data n)) r × (versions_of r ≡ table_versions n s (run_records m k))
  run_stored k r tells t read = all_told_stored n m.base s (run_records m k) r (its_tables k) (All-filter (is_in_run m.runs k) (IsOfVersion Two) m.tables two) (told_as_run (told_tables n s (run_records m k)) r (read.told t)) read.named

  -- runs from a place on stand, in the order of versions
  record StandFrom (k : ℕ) (runs : List (List Table)) : Type 0 where
    stored : AreStored s (first_data n) runs
    order : IsVersionOrder (map versions_of runs)
    numbered : AllByRecursion (NumberedAtMost m.base) (map versions_of runs)
    versions : joined (map versions_of runs) ≡ table_versions n s (records_from m k)

  abbrev OrderFrom : ℕ → Type 0
  OrderFrom k = IsVersionOrder (map (versions_at n s) (records_from m k))

  -- the order of versions, where the records from a place on are those of its run and those after it
  order_split : (k : ℕ) → OrderFrom k → IsVersionOrder (map (versions_at n s) (run_records m k) ++ map (versions_at n s) (records_from m (suc k)))
  order_split k order = subst IsVersionOrder (ap (map (versions_at n s)) (run_and_behind m k is) ∙ map-append (versions_at n s) (run_records m k) (records_from m (suc k))) order

  stand_from : (tells : Bool) → IsTrue tells → (k : ℕ) (runs : List (List Table)) → k + length runs ≡ m.runs + 4 → AreRunsRead n tells s m k runs → OrderFrom k → StandFrom k runs
  stand_from tells t k [] count read order =
      let last : m.runs + 4 ≡ k = omega (arith, count) in
      record { stored = tt; order = tt; numbered = tt; versions = ap (table_versions n s) (sym (none_behind m is) ∙ ap (records_from m) last) }
  stand_from tells t k (r ∷ rest) count read order =
      let here = map (versions_at n s) (run_records m k) in
      let behind = map (versions_at n s) (records_from m (suc k)) in
      let split : IsVersionOrder (here ++ behind) = order_split k order in
      let one = run_stored k r tells t read.0 in
      let more : StandFrom (suc k) rest = stand_from tells t (suc k) rest (omega (arith, count)) read.1 (order_right here behind split) in
      let mine : joined here ≡ versions_of r = joined_versions n s (run_records m k) ∙ sym one.1 in
      let others : joined behind ≡ joined (map versions_of rest) = joined_versions n s (records_from m (suc k)) ∙ sym more.versions in
      let newer : IsNewerPlace (versions_of r) (joined (map versions_of rest)) = subst (λ (l : Versions). IsNewerPlace l (joined (map versions_of rest))) mine (subst (IsNewerPlace (joined here)) others (order_cross here behind split)) in
      record {
        stored = (one.0, more.stored);
        order = order_first (versions_of r) (map versions_of rest) newer more.order;
        numbered = (subst (NumberedAtMost m.base) (sym one.1) (numbered_tables n m.base s (run_records m k) (its_tables k)), more.numbered);
        versions = ap (λ (l : Versions). l ++ joined (map versions_of rest)) one.1 ∙ ap (λ (l : Versions). table_versions n s (run_records m k) ++ l) more.versions
            ∙ sym (ap (table_versions n s) (run_and_behind m k is) ∙ table_versions-append n s (run_records m k) (records_from m (suc k)));
      }

  -- the levels that were read are of the tables that stand
  pub levels_those : (tells : Bool) → IsTrue tells → (levels : Levels) → length levels.runs ≡ m.runs → length levels.deeper ≡ 4 → AreRunsRead n tells s m 0 (places levels) → AreThose n m.base s m.tables levels
  levels_those tells t levels runs four read =
      let size : 0 + length (places levels) ≡ m.runs + 4 = omega (arith, length-append levels.runs levels.deeper, runs, four) in
      let all : records_from m 0 ≡ m.tables = all_from_first m in
      let them : StandFrom 0 (places levels) = stand_from tells t 0 (places levels) size read (subst (λ (ts : List TableRecord). IsVersionOrder (map (versions_at n s) ts)) (sym all) stand.order) in
      record {
        stored = them.stored;
        order = them.order;
        numbered = them.numbered;
        versions = all_versions (places levels) ∙ them.versions ∙ ap (table_versions n s) all;
      }
