-- What is found of tables tells the number of one that the manifest names.
use Rattle.std.proofs.Common.{◌≡◌, ℕ, suc, ◌+◌, ◌<◌, List, [], ◌∷◌, ◌++◌, length, map, take, drop, get_or, Option, Some, None, Contains, refl, sym, ◌∙◌, ap, subst, append_assoc, arith}
use Rattle.std.specs.Prelude.{option_map}
use Rattle.std.proofs.lemmas.List.{append-nil, map-append, drop_more, take-append-drop}
use Rattle.std.proofs.lemmas.List.Elements.{Contains-append_left, Contains-append_right}
use Rattle.std.proofs.lemmas.Option.{same_Some}
use Rattle.lsm_codec.specs.Manifests.{Contents}
use Rattle.lsm_codec.specs.Reading.{◌>>=◌}
use Rattle.lsm_codec.specs.declared.table_record.TableRecord.{TableRecord}
use Rattle.lsm_codec.proofs.Readers.{bind_some}
use Rattle.lsm_device.specs.declared.refusal.Refusal.{Refusal}
use Rattle.lsm_device.specs.declared.refusal.Refusal.TheVariants.{NoMemory, Io, BadTable}
use Rattle.lsm_levels.specs.Levels.{Levels, all_tables, places}
use Rattle.lsm_levels.specs.Tables.{Table, record_of}
use Rattle.lsm_open.specs.Counting.{deletes_of, with_deletes, counted_record, counted_records, with_tables}
use Rattle.lsm_open.specs.ToldTables.{records_of_runs, records_of_levels, HaveNamed}
use Rattle.lsm_check.specs.declared.finding.Finding.{Finding}
use Rattle.lsm_check.specs.declared.finding.Finding.TheVariants.{Refused, Entries, Order, Filter, Versions}
use Rattle.lsm_check.specs.Found.{IsBlockRefusal, IsOfTable, IsOfTables, IsTableFinding, numbers_in, numbers_of}
use Rattle.lsm_check.specs.Images.{IsCheckRefusal, IsCheckFinding}
use Rattle.lsm_check.specs.Named.{AreToldBy}
use Rattle.lsm_check.proofs.FirstFound.{read_not_refused, read_none_later}
use Rattle.lsm_check.proofs.SoundRuns.{runs_parted}

abbrev Tables : Type 0
Tables = List Table

abbrev Records : Type 0
Records = List TableRecord

-- ---- findings of more tables

of_more : (xs ys : List ℕ) → ((n : ℕ) → Contains xs n → Contains ys n) → (f : Finding) → IsOfTables xs f → IsOfTables ys f
of_more xs ys more (Refused e) is = is
of_more xs ys more (Entries n) is = more n is
of_more xs ys more (Order n) is = more n is
of_more xs ys more (Filter n) is = more n is
of_more xs ys more (Versions n) is = more n is

of_one : (number : ℕ) (ns : List ℕ) → Contains ns number → (f : Finding) → IsOfTable number f → IsOfTables ns f
of_one number ns among (Refused e) is = is
of_one number ns among (Entries n) is = subst (Contains ns) (sym is) among
of_one number ns among (Order n) is = subst (Contains ns) (sym is) among
of_one number ns among (Filter n) is = subst (Contains ns) (sym is) among
of_one number ns among (Versions n) is = subst (Contains ns) (sym is) among

first_among : (n : ℕ) (ns : List ℕ) → Contains (n ∷ ns) n
first_among n ns = let some : 0 < length (n ∷ ns) = omega arith in (0, some, refl)

module _ (whole xs ys : Tables) (is : whole ≡ xs ++ ys) where
  numbers_parted : numbers_in xs ++ numbers_in ys ≡ numbers_in whole
  numbers_parted = sym (map-append (λ (t : Table). t.number) xs ys) ∙ ap numbers_in (sym is)

  pub of_left : (f : Finding) → IsOfTables (numbers_in xs) f → IsOfTables (numbers_in whole) f
  of_left f of = of_more (numbers_in xs) (numbers_in whole) (λ n among. subst (λ (ns : List ℕ). Contains ns n) numbers_parted (Contains-append_left (numbers_in xs) (numbers_in ys) n among)) f of

  pub of_right : (f : Finding) → IsOfTables (numbers_in ys) f → IsOfTables (numbers_in whole) f
  of_right f of = of_more (numbers_in ys) (numbers_in whole) (λ n among. subst (λ (ns : List ℕ). Contains ns n) numbers_parted (Contains-append_right (numbers_in xs) (numbers_in ys) n among)) f of

-- a table of a run
pub of_table : (run : Tables) (i : ℕ) (t : Table) → i < length run → t ≡ get_or run i t → (f : Finding) → IsOfTable t.number f → IsOfTables (numbers_in run) f
of_table run i t lt is f of =
    let behind : drop i run ≡ t ∷ drop (i + 1) run = drop_more run i t lt ∙ ap (λ (x : Table). x ∷ drop (i + 1) run) (sym is) in
    let whole : run ≡ take i run ++ t ∷ drop (i + 1) run = sym (take-append-drop i run) ∙ ap (λ (l : Tables). take i run ++ l) behind in
    of_right run (take i run) (t ∷ drop (i + 1) run) whole f (of_one t.number (numbers_in (t ∷ drop (i + 1) run)) (first_among t.number (numbers_in (drop (i + 1) run))) f of)

-- a run of runs
pub of_run : (runs : List Tables) (i : ℕ) (run : Tables) → i < length runs → run ≡ get_or runs i run → (f : Finding) → IsOfTables (numbers_in run) f → IsOfTables (numbers_in (all_tables runs)) f
of_run runs i run lt is f of =
    let before = all_tables (take i runs) in
    let behind = all_tables (drop (i + 1) runs) ++ [] in
    let whole : all_tables runs ≡ (before ++ run) ++ behind = sym (append-nil (all_tables runs)) ∙ runs_parted [] runs [] i run lt is in
    of_left (all_tables runs) (before ++ run) behind whole f (of_right (before ++ run) before run refl f of)

-- ---- a check may end with it

block_refusal : (e : Refusal) → IsBlockRefusal e → IsCheckRefusal e
block_refusal NoMemory is = tt
block_refusal Io is = tt
block_refusal BadTable is = tt
block_refusal other is = absurd is

pub check_finding : (ns : List ℕ) (f : Finding) → IsOfTables ns f → IsCheckFinding f
check_finding ns (Refused e) is = block_refusal e is
check_finding ns other is = tt

-- ---- the numbers that a manifest tells

named_by : (level run : ℕ) (ts : Tables) → numbers_of (map (record_of level run) ts) ≡ numbers_in ts
named_by level run [] = refl
named_by level run (t ∷ ts) = ap (λ (ns : List ℕ). t.number ∷ ns) (named_by level run ts)

-- those of tables, and of others after them
one_more : (level run : ℕ) (x : Tables) (rest : Records) (behind : Tables) → numbers_of rest ≡ numbers_in behind → numbers_of (map (record_of level run) x ++ rest) ≡ numbers_in (x ++ behind)
one_more level run x rest behind same =
    map-append (λ (t : TableRecord). t.number) (map (record_of level run) x) rest
    ∙ ap (λ (l : List ℕ). l ++ numbers_of rest) (named_by level run x)
    ∙ ap (λ (l : List ℕ). numbers_in x ++ l) same
    ∙ sym (map-append (λ (t : Table). t.number) x behind)

numbers_levels : (k : ℕ) (xs : List Tables) → numbers_of (records_of_levels k xs) ≡ numbers_in (all_tables xs)
numbers_levels k [] = refl
numbers_levels k (x ∷ xs) = one_more k 0 x (records_of_levels (suc k) xs) (all_tables xs) (numbers_levels (suc k) xs)

numbers_runs : (k : ℕ) (xs deeper : List Tables) → numbers_of (records_of_runs k xs ++ records_of_levels 1 deeper) ≡ numbers_in (all_tables (xs ++ deeper))
numbers_runs k [] deeper = numbers_levels 1 deeper
numbers_runs k (x ∷ xs) deeper =
    ap numbers_of (append_assoc (map (record_of 0 k) x) (records_of_runs (suc k) xs) (records_of_levels 1 deeper))
    ∙ one_more 0 k x (records_of_runs (suc k) xs ++ records_of_levels 1 deeper) (all_tables (xs ++ deeper)) (numbers_runs (suc k) xs deeper)

module _ (n : ℕ) (s : List (List ℕ)) where
  -- counts change no number
  one_number : (t u : TableRecord) (o : Option ℕ) → option_map (with_deletes t) o ≡ Some u → u.number ≡ t.number
  one_number t u None e = absurd cc
  one_number t u (Some d) e = ap (λ (r : TableRecord). r.number) (sym (same_Some (with_deletes t d) u e))

  same_numbers : (ts us : Records) → counted_records n s ts ≡ Some us → numbers_of us ≡ numbers_of ts
  same_numbers [] us e = ap numbers_of (sym (same_Some [] us e))
  same_numbers (t ∷ ts) us e =
      let p = bind_some (counted_record n s t) (λ (u : TableRecord). counted_records n s ts >>= λ (vs : Records). Some (u ∷ vs)) us e in
      let q = bind_some (counted_records n s ts) (λ (vs : Records). Some (p.0 ∷ vs)) us p.2 in
      ap numbers_of (sym (same_Some (p.0 ∷ q.0) us q.2))
      ∙ ap (λ (k : ℕ). k ∷ numbers_of q.0) (one_number t p.0 (deletes_of n s t) p.1)
      ∙ ap (λ (ns : List ℕ). t.number ∷ ns) (same_numbers ts q.0 q.1)

  counted_numbers : (stood m : Contents) (o : Option Records) → counted_records n s stood.tables ≡ o → option_map (with_tables stood) o ≡ Some m → numbers_of m.tables ≡ numbers_of stood.tables
  counted_numbers stood m None a e = absurd cc
  counted_numbers stood m (Some us) a e = ap (λ (c : Contents). numbers_of c.tables) (sym (same_Some (with_tables stood us) m e)) ∙ same_numbers stood.tables us a

  -- what is found of levels that were read is found of a table that the manifest names
  pub table_finding : (m : Contents) (levels : Levels) (batches : ℕ) → HaveNamed m levels → AreToldBy n s m levels batches → (f : Finding) → IsOfTables (numbers_in (all_tables (places levels))) f → IsTableFinding s f
  table_finding m levels batches named told f of =
      let stood = told.root.stood in
      let same : numbers_in (all_tables (places levels)) ≡ numbers_of stood.tables =
      sym (numbers_runs 0 levels.runs levels.deeper) ∙ ap numbers_of named.records ∙ counted_numbers stood m (counted_records n s stood.tables) refl told.root.counted_is in
      record {
        log_sectors = n;
        manifest = stood;
        root = told.root.root;
        opens = read_not_refused n s m levels batches told;
        none_later = read_none_later n s m levels batches told;
        named = subst (λ (ns : List ℕ). IsOfTables ns f) same of;
      }
