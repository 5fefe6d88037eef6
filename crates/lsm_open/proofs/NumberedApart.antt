-- Tables that a manifest names have numbers of their own.
use Rattle.std.proofs.Common.{◌≡◌, ◌≢◌, ℕ, suc, ◌∙◌, List, [], ◌∷◌, ◌++◌, map, All, refl, sym, ap, subst, append_assoc}
use Rattle.std.specs.List.{AllByRecursion}
use Rattle.std.proofs.lemmas.List.Elements.{All-head, All-tail}
use Rattle.lsm_codec.specs.Manifests.{IsManifest}
use Rattle.lsm_codec.specs.Pairs.{Pairwise}
use Rattle.lsm_codec.specs.TableRecords.{TablesAgree}
use Rattle.lsm_codec.specs.declared.table_record.TableRecord.{TableRecord}
use Rattle.lsm_levels.specs.Levels.{Levels, all_tables, places}
use Rattle.lsm_levels.specs.NamedBlocks.{AreNumberedApart}
use Rattle.lsm_levels.specs.Tables.{Table, record_of}
use Rattle.lsm_open.specs.Placements.{Placement, contents_for}
use Rattle.lsm_open.specs.ToldTables.{records_of_runs, records_of_levels, records_of}

-- ---- the numbers of records are those of the tables

abbrev record_numbers : List TableRecord → List ℕ
record_numbers records = map (λ (r : TableRecord). r.number) records

abbrev table_numbers : List Table → List ℕ
table_numbers tables = map (λ (t : Table). t.number) tables

same_front : (level run : ℕ) (ts : List Table) (records : List TableRecord) (tables : List Table) → record_numbers records ≡ table_numbers tables → record_numbers (map (record_of level run) ts ++ records) ≡ table_numbers (ts ++ tables)
same_front level run [] records tables e = e
same_front level run (t ∷ ts) records tables e = ap (λ (numbers : List ℕ). t.number ∷ numbers) (same_front level run ts records tables e)

same_in_levels : (level : ℕ) (runs : List (List Table)) → record_numbers (records_of_levels level runs) ≡ table_numbers (all_tables runs)
same_in_levels level [] = refl
same_in_levels level (ts ∷ rest) = same_front level 0 ts (records_of_levels (suc level) rest) (all_tables rest) (same_in_levels (suc level) rest)

same_in_runs : (run : ℕ) (runs deeper : List (List Table)) → record_numbers (records_of_runs run runs ++ records_of_levels 1 deeper) ≡ table_numbers (all_tables (runs ++ deeper))
same_in_runs run [] deeper = same_in_levels 1 deeper
same_in_runs run (ts ∷ rest) deeper =
    ap (λ (records : List TableRecord). record_numbers records) (append_assoc (map (record_of 0 run) ts) (records_of_runs (suc run) rest) (records_of_levels 1 deeper))
    ∙ same_front 0 run ts (records_of_runs (suc run) rest ++ records_of_levels 1 deeper) (all_tables (rest ++ deeper)) (same_in_runs (suc run) rest deeper)

-- ---- no number stands twice

abbrev AreApart : List ℕ → Type 0
AreApart [] = Unit {0}
AreApart (n ∷ rest) = AllByRecursion (λ m. m ≢ n) rest × AreApart rest

other_records : (r : TableRecord) (rest : List TableRecord) → All (TablesAgree r) rest → AllByRecursion (λ m. m ≢ r.number) (record_numbers rest)
other_records r [] agree = tt
other_records r (u ∷ rest) agree =
    let first : TablesAgree r u = All-head (TablesAgree r) u rest agree in
    (λ e. first.numbers (sym e), other_records r rest (All-tail (TablesAgree r) u rest agree))

of_records : (records : List TableRecord) → Pairwise TablesAgree records → AreApart (record_numbers records)
of_records [] agree = tt
of_records (r ∷ rest) agree = (other_records r rest agree.0, of_records rest agree.1)

other_tables : (n : ℕ) (rest : List Table) → AllByRecursion (λ m. m ≢ n) (table_numbers rest) → AllByRecursion (λ t. t.number ≢ n) rest
other_tables n [] apart = tt
other_tables n (t ∷ rest) apart = (apart.0, other_tables n rest apart.1)

to_tables : (tables : List Table) → AreApart (table_numbers tables) → AreNumberedApart tables
to_tables [] apart = tt
to_tables (t ∷ rest) apart = (other_tables t.number rest apart.0, to_tables rest apart.1)

pub named_apart : (p : Placement) (levels : Levels) → IsManifest (contents_for p) → records_of levels ≡ p.tables → AreNumberedApart (all_tables (places levels))
named_apart p levels manifest named =
    to_tables (all_tables (places levels))
    (subst AreApart (same_in_runs 0 levels.runs levels.deeper) (of_records (records_of levels) (subst (Pairwise TablesAgree) (sym named) manifest.tables.agree)))
