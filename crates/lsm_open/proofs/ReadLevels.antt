-- What holds of the tables of levels that were read.
use Rattle.std.proofs.Common.{◌≡◌, ℕ, suc, ◌+◌, ◌*◌, ◌<◌, ◌≤◌, IsTrue, Bool, List, [], ◌∷◌, length, get_or, Some, All, sym, ap, subst, arith}
use Rattle.std.specs.List.{AllByRecursion}
use Rattle.std.proofs.lemmas.List.Elements.{All-head, All-tail, All-weaker, All-filter}
use Rattle.lsm_codec.specs.Geometry.{data_blocks_of}
use Rattle.lsm_codec.specs.Manifests.{Contents}
use Rattle.lsm_codec.specs.Pairs.{Pairwise}
use Rattle.lsm_codec.specs.TableRecords.{IsTableRecord, TablesAgree, AreApart, extent_end}
use Rattle.lsm_codec.specs.declared.table_record.TableRecord.{TableRecord}
use Rattle.lsm_device.specs.Disk.{Disk, seen}
use Rattle.lsm_device.specs.History.{present}
use Rattle.lsm_device.specs.Medium.{Medium, Lasting, disk}
use Rattle.lsm_device.specs.declared.refusal.Refusal.{Refusal}
use Rattle.lsm_levels.specs.Asking.{OnlyReads}
use Rattle.lsm_levels.specs.Stored.{LiesWithin, AreWithin, AreNumberedBelow}
use Rattle.lsm_levels.specs.Tables.{Table}
use Rattle.lsm_open.specs.Tables.{first_data}
use Rattle.lsm_open.specs.ToldTables.{is_in_run, run_records, told_run, told_levels, IsRefusedFor, IsReadable, IsOutlined, AreOutlined, IsNamedBy, AreNamedBy, IsRunRead, AreRunsRead}
use Rattle.lsm_open.proofs.RunCounts.{run_before}
use Rattle.lsm_root.specs.Layout.{IsGeometry, LieInside}

-- ---- runs that were read, before other reads and after them

run_behind : (n : ℕ) (old mid : Medium) (m : Contents) (k : ℕ) (r : List Table) → OnlyReads old mid → IsRunRead n old.lasting.tells (seen (disk old)) m k r → IsRunRead n mid.lasting.tells (seen (disk mid)) m k r
run_behind n old mid m k r reads is = record {
  named = is.named;
  told = λ t.
      let before : IsTrue old.lasting.tells = subst (λ (l : Lasting). IsTrue l.tells) reads.same_lasting t in
      subst (λ (h : List Disk). told_run n (seen (present h)) m k ≡ Some r) (sym (reads.unchanged before)) (is.told before);
}

pub runs_behind : (n : ℕ) (old mid : Medium) (m : Contents) (k : ℕ) (runs : List (List Table)) → OnlyReads old mid → AreRunsRead n old.lasting.tells (seen (disk old)) m k runs → AreRunsRead n mid.lasting.tells (seen (disk mid)) m k runs
runs_behind n old mid m k [] reads are = tt
runs_behind n old mid m k (r ∷ rest) reads are = (run_behind n old mid m k r reads are.0, runs_behind n old mid m (suc k) rest reads are.1)

pub runs_before : (n : ℕ) (old mid : Medium) (m : Contents) (k : ℕ) (runs : List (List Table)) → OnlyReads old mid → AreRunsRead n mid.lasting.tells (seen (disk mid)) m k runs → AreRunsRead n old.lasting.tells (seen (disk old)) m k runs
runs_before n old mid m k [] reads are = tt
runs_before n old mid m k (r ∷ rest) reads are = (run_before n old mid m k r reads are.0, runs_before n old mid m (suc k) rest reads are.1)

-- a refusal that comes later comes of the sectors as they were before
pub levels_refused_before : (n : ℕ) (old mid : Medium) (m : Contents) (e : Refusal) → OnlyReads old mid → (IsTrue mid.lasting.tells → IsRefusedFor (told_levels n (seen (disk mid)) m) e) → IsTrue old.lasting.tells → IsRefusedFor (told_levels n (seen (disk old)) m) e
levels_refused_before n old mid m e reads is t = subst (λ (h : List Disk). IsRefusedFor (told_levels n (seen (present h)) m) e) (reads.unchanged t) (is (subst (λ (l : Lasting). IsTrue l.tells) (sym reads.same_lasting) t))

-- ---- what holds of each table

module _ (P : TableRecord → Type 0) (Q : Table → Type 0) (each : (t : TableRecord) (x : Table) → IsNamedBy t x → P t → Q x) where
  named_are : (ts : List TableRecord) (xs : List Table) → AreNamedBy ts xs → All P ts → AllByRecursion Q xs
  named_are [] [] named all = tt
  named_are [] (x ∷ xs) named all = absurd named
  named_are (t ∷ ts) [] named all = absurd named
  named_are (t ∷ ts) (x ∷ xs) named all = (each t x named.0 (All-head P t ts all), named_are ts xs named.1 (All-tail P t ts all))

  pub runs_are : (n : ℕ) (tells : Bool) (S : List (List ℕ)) (m : Contents) (k : ℕ) (runs : List (List Table)) → AreRunsRead n tells S m k runs → All P m.tables → AllByRecursion (AllByRecursion Q) runs
  runs_are n tells S m k [] read all = tt
  runs_are n tells S m k (r ∷ rest) read all = (named_are (run_records m k) r read.0.named (All-filter (is_in_run m.runs k) P m.tables all), runs_are n tells S m (suc k) rest read.1 all)

-- a table that a record names lies where the record's extent does
table_within : (n size : ℕ) (t : TableRecord) (x : Table) → IsNamedBy t x → IsReadable n size t → LiesWithin size (first_data n) x
table_within n size t x named is =
    let start : x.start ≡ t.first_block = ap (λ (r : TableRecord). r.first_block) named.listed in
    let blocks : length x.outline.edges ≡ t.data_blocks = ap (λ (r : TableRecord). r.data_blocks) named.listed in
    let inside : first_data n + 8 * extent_end t ≤ size = is.inside in
    record { ends = omega (arith, start, blocks, inside) }

pub all_within : (n size : ℕ) (tells : Bool) (S : List (List ℕ)) (m : Contents) (k : ℕ) (runs : List (List Table)) → All (IsReadable n size) m.tables → AreRunsRead n tells S m k runs → AreWithin size (first_data n) runs
all_within n size tells S m k runs all read = runs_are (IsReadable n size) (LiesWithin size (first_data n)) (table_within n size) n tells S m k runs read all

pub all_outlined : (n size : ℕ) (tells : Bool) (S : List (List ℕ)) (m : Contents) (k : ℕ) (runs : List (List Table)) → All (IsReadable n size) m.tables → AreRunsRead n tells S m k runs → AreOutlined runs
all_outlined n size tells S m k runs all read = runs_are (IsReadable n size) IsOutlined (λ t x named is. named.outlined) n tells S m k runs read all

table_numbered : (next runs : ℕ) (t : TableRecord) (x : Table) → IsNamedBy t x → IsTableRecord next runs t → x.number < next
table_numbered next runs t x named is =
    let number : x.number ≡ t.number = ap (λ (r : TableRecord). r.number) named.listed in
    omega (arith, number, is.number)

pub all_numbered : (n : ℕ) (tells : Bool) (S : List (List ℕ)) (m : Contents) (k : ℕ) (runs : List (List Table)) → All (IsTableRecord m.next_table m.runs) m.tables → AreRunsRead n tells S m k runs → AreNumberedBelow m.next_table runs
all_numbered n tells S m k runs all read = runs_are (IsTableRecord m.next_table m.runs) (λ x. x.number < m.next_table) (table_numbered m.next_table m.runs) n tells S m k runs read all

-- ---- what a manifest says of its records

-- each of them lies in the device
module _ (size n : ℕ) (geometry : IsGeometry size n) where
  record_readable : (next runs : ℕ) (t : TableRecord) → IsTableRecord next runs t → extent_end t ≤ data_blocks_of size n → IsReadable n size t
  record_readable next runs t is inside = record { sizes = is.sizes; inside = omega (arith, inside, geometry.device, geometry.log_low, geometry.log_high) }

  pub all_readable : (next runs : ℕ) (ts : List TableRecord) → All (IsTableRecord next runs) ts → LieInside size n ts → All (IsReadable n size) ts
  all_readable next runs ts are inside = λ k d lt. record_readable next runs (get_or ts k d) (are k d lt) (inside k d lt)

-- they are apart
pub tables_apart : (ts : List TableRecord) → Pairwise TablesAgree ts → Pairwise AreApart ts
tables_apart [] agree = tt
tables_apart (t ∷ ts) agree = (All-weaker (TablesAgree t) (AreApart t) (λ u is. is.apart) ts agree.0, tables_apart ts agree.1)
