-- A manifest's records of tables are read exactly, and their limits are decided.
use Rattle.std.proofs.Common.{◌≡◌, ℕ, zero, suc, ◌+◌, ◌-◌, ◌*◌, ◌^◌, ◌<◌, ◌≤◌, Bool, true, false, cond, not, ◌==◌, List, [], ◌∷◌, ◌++◌, length, get_or, Option, Some, None, is_some, Decides, refl, sym, ap, ◌∙◌, subst, arith, inl, inr}
use Rattle.std.specs.Prelude.{IfSome}
use Rattle.std.specs.List.{flat_map}
use Rattle.std.proofs.lemmas.Bool.{cases_lt, true≢false, false≢true}
use Rattle.std.proofs.lemmas.Bool.Decides.{Decides-like, Decides-not, Decides-and, Decides-or, Decides-by_or, Decides-ltb, Decides-eqb}
use Rattle.std.proofs.lemmas.List.{length-append}
use Rattle.std.proofs.lemmas.Option.{same_Some}
use Rattle.byteorder.specs.Endian.{big_bytes}
use Rattle.lsm_codec.specs.declared.superblock.FormatVersion.{FormatVersion}
use Rattle.lsm_codec.specs.declared.superblock.FormatVersion.TheVariants.{One, Two}
use Rattle.lsm_codec.specs.declared.table_record.TableRecord.{TableRecord}
use Rattle.lsm_codec.specs.Reading.{◌>>=◌, number_at}
use Rattle.lsm_codec.specs.TableRecords.{extent_end, runs_in, HasSizes, IsTableRecord, InOrder, AreApart, TablesAgree, IsOfRun, HasRun, HasRuns, IsOfVersion, tells_deletes, are_at_most, has_sizes, is_of_version, is_table_record, is_in_order, is_apart, is_agreeing_table, is_of_run, has_run, has_runs, deletes_text, numbers_text, table_record, numbers_at, deletes_at, table_record_at}
use Rattle.lsm_codec.proofs.Limits.{at_most-Decides, is_within-Decides}
use Rattle.lsm_codec.proofs.Readers.{Reads, bind_some, number_reads, then_reads, made_reads, fits_reads, too_short}
use Rattle.lsm_codec.proofs.Fields.{there, byte_there, from_place}
use borrow.Rule.Slice.PartMut.{mid_of}
use Rattle.lsm_codec.specs.Keys.{IsBytes}
use Rattle.lsm_codec.specs.Spelling.{field}

-- the deletes of a record fit their field, which version 1 doesn't have
abbrev pub DeletesFit : FormatVersion → Option ℕ → Type 0
DeletesFit One None = Unit {0}
DeletesFit One (Some deletes) = ⊥
DeletesFit Two None = ⊥
DeletesFit Two (Some deletes) = deletes < 256 ^ 2

-- the numbers of a record fit their fields
pub record TableFits (version : FormatVersion) (t : TableRecord) : Type 0 where
  pub number : t.number < 256 ^ 8
  pub level : t.level < 256 ^ 1
  pub run : t.run < 256 ^ 1
  pub first_block : t.first_block < 256 ^ 4
  pub data_blocks : t.data_blocks < 256 ^ 1
  pub index_blocks : t.index_blocks < 256 ^ 1
  pub entries : t.entries < 256 ^ 2
  pub deletes : DeletesFit version t.deletes

deletes_read : (version : FormatVersion) → Reads (deletes_at version) (DeletesFit version) deletes_text
deletes_read One = record {
  found = λ bytes x fits e. subst (λ (y : Option ℕ × List ℕ). DeletesFit One y.0 × (bytes ≡ deletes_text y.0 ++ y.1)) (same_Some (None, bytes) x e) (tt, refl);
  again = again_one;
}
  where
    again_one : (x : Option ℕ) (rest : List ℕ) → DeletesFit One x → deletes_at One (deletes_text x ++ rest) ≡ Some (x, rest)
    again_one None rest fits = refl
    again_one (Some deletes) rest fits = absurd fits
deletes_read Two = record {
  found = λ bytes x fits e.
      let a = bind_some (number_at 2 bytes) (λ (a : ℕ × List ℕ). Some (Some a.0, a.1)) x e in
      subst (λ (y : Option ℕ × List ℕ). DeletesFit Two y.0 × (bytes ≡ deletes_text y.0 ++ y.1)) (same_Some (Some a.0.0, a.0.1) x a.2) ((number_reads 2).found bytes a.0 fits a.1);
  again = again_two;
}
  where
    again_two : (x : Option ℕ) (rest : List ℕ) → DeletesFit Two x → deletes_at Two (deletes_text x ++ rest) ≡ Some (x, rest)
    again_two None rest fits = absurd fits
    again_two (Some deletes) rest fits = ap (λ (r : Option (ℕ × List ℕ)). r >>= λ a. Some (Some a.0, a.1)) ((number_reads 2).again deletes rest fits)

abbrev Numbers : Type 0
Numbers = ℕ × (ℕ × (ℕ × (ℕ × (ℕ × (ℕ × ℕ)))))

abbrev NumbersFit : Numbers → Type 0
NumbersFit n = (n.0 < 256 ^ 8) × ((n.1.0 < 256 ^ 1) × ((n.1.1.0 < 256 ^ 1) × ((n.1.1.1.0 < 256 ^ 4) × ((n.1.1.1.1.0 < 256 ^ 1) × ((n.1.1.1.1.1.0 < 256 ^ 1) × (n.1.1.1.1.1.1 < 256 ^ 2))))))

abbrev text_of : Numbers → List ℕ
text_of n = big_bytes 8 n.0 ++ (big_bytes 1 n.1.0 ++ (big_bytes 1 n.1.1.0 ++ (big_bytes 4 n.1.1.1.0 ++ (big_bytes 1 n.1.1.1.1.0 ++ (big_bytes 1 n.1.1.1.1.1.0 ++ big_bytes 2 n.1.1.1.1.1.1)))))

numbers_read : Reads numbers_at NumbersFit text_of
unfolding numbers_at
numbers_read = then_reads (number_reads 8) (λ a. then_reads (number_reads 1) (λ b. then_reads (number_reads 1) (λ c. then_reads (number_reads 4) (λ d. then_reads (number_reads 1) (λ e. then_reads (number_reads 1) (λ f. number_reads 2))))))

abbrev numbers : TableRecord → Numbers
numbers r = (r.number, (r.level, (r.run, (r.first_block, (r.data_blocks, (r.index_blocks, r.entries))))))

abbrev made_record : Numbers × Option ℕ → TableRecord
made_record t = record { number = t.0.0; level = t.0.1.0; run = t.0.1.1.0; first_block = t.0.1.1.1.0; data_blocks = t.0.1.1.1.1.0; index_blocks = t.0.1.1.1.1.1.0; entries = t.0.1.1.1.1.1.1; deletes = t.1 }

pub table_record_reads : (version : FormatVersion) → Reads (table_record_at version) (TableFits version) table_record
unfolding table_record_at
table_record_reads version =
    fits_reads (λ t f. record { number = f.0.0; level = f.0.1.0; run = f.0.1.1.0; first_block = f.0.1.1.1.0; data_blocks = f.0.1.1.1.1.0; index_blocks = f.0.1.1.1.1.1.0; entries = f.0.1.1.1.1.1.1; deletes = f.1 })
    (λ t f. ((f.number, (f.level, (f.run, (f.first_block, (f.data_blocks, (f.index_blocks, f.entries)))))), f.deletes))
    (made_reads made_record (λ r. (numbers r, r.deletes)) (λ t f. refl) (λ r. refl) (then_reads numbers_read (λ a. deletes_read version)))

-- the numbers of a record, at their places
abbrev numbers_there : List ℕ → Numbers
numbers_there bytes = (field 0 8 bytes, (get_or bytes 8 0, (get_or bytes 9 0, (field 10 4 bytes, (get_or bytes 14 0, (get_or bytes 15 0, field 16 2 bytes))))))

numbers_full : (bytes : List ℕ) → 18 ≤ length bytes → numbers_at bytes ≡ Some (numbers_there bytes, mid_of 18 (length bytes - 18) bytes)
unfolding numbers_at
numbers_full bytes le =
    rw (there 0 8 bytes (omega (arith, le)), byte_there 8 bytes (omega (arith, le)), byte_there 9 bytes (omega (arith, le)), there 10 4 bytes (omega (arith, le)), byte_there 14 bytes (omega (arith, le)), byte_there 15 bytes (omega (arith, le)), there 16 2 bytes (omega (arith, le)), from_place 18 bytes) refl

-- what is made of numbers, and of the deletes after them
abbrev with_deletes : Numbers → Option (Option ℕ × List ℕ) → Option (TableRecord × List ℕ)
with_deletes n None = None
with_deletes n (Some d) = Some (made_record (n, d.0), d.1)

abbrev then_deletes : Numbers → Option (Option ℕ × List ℕ) → Option ((Numbers × Option ℕ) × List ℕ)
then_deletes n o = o >>= λ b. Some ((n, b.0), b.1)

abbrev as_record : Option ((Numbers × Option ℕ) × List ℕ) → Option (TableRecord × List ℕ)
as_record o = o >>= λ t. Some (made_record t.0, t.1)

abbrev then_record : FormatVersion → Option (Numbers × List ℕ) → Option (TableRecord × List ℕ)
then_record version r = as_record (r >>= λ a. then_deletes a.0 (deletes_at version a.1))

by_deletes : (n : Numbers) (o : Option (Option ℕ × List ℕ)) → as_record (then_deletes n o) ≡ with_deletes n o
by_deletes n None = refl
by_deletes n (Some d) = refl

record_read : (version : FormatVersion) (bytes : List ℕ) → 18 ≤ length bytes
    → table_record_at version bytes ≡ with_deletes (numbers_there bytes) (deletes_at version (mid_of 18 (length bytes - 18) bytes))
unfolding table_record_at
record_read version bytes le = ap (then_record version) (numbers_full bytes le) ∙ by_deletes (numbers_there bytes) (deletes_at version (mid_of 18 (length bytes - 18) bytes))

-- a record in full is read, its numbers at their places, and the deletes after them
pub table_at : (version : FormatVersion) (bytes : List ℕ) (deletes : Option ℕ) (rest : List ℕ) → 18 ≤ length bytes → deletes_at version (mid_of 18 (length bytes - 18) bytes) ≡ Some (deletes, rest)
    → table_record_at version bytes ≡ Some (record { number = field 0 8 bytes; level = get_or bytes 8 0; run = get_or bytes 9 0; first_block = field 10 4 bytes; data_blocks = get_or bytes 14 0; index_blocks = get_or bytes 15 0; entries = field 16 2 bytes; deletes = deletes }, rest)
table_at version bytes deletes rest le behind = record_read version bytes le ∙ ap (with_deletes (numbers_there bytes)) behind

-- no record is read where the deletes are missing
pub no_deletes : (version : FormatVersion) (bytes : List ℕ) → 18 ≤ length bytes → deletes_at version (mid_of 18 (length bytes - 18) bytes) ≡ None → table_record_at version bytes ≡ None
no_deletes version bytes le behind = record_read version bytes le ∙ ap (with_deletes (numbers_there bytes)) behind

pub no_table : (version : FormatVersion) (bytes : List ℕ) → IsBytes bytes → length bytes < 18 → table_record_at version bytes ≡ None
no_table version bytes fits short = too_short (table_record_reads version) 18 (λ t. omega (arith, length-append (numbers_text t) (deletes_text t.deletes))) bytes fits short

run_fits : (runs level run : ℕ) → runs ≤ 12 → run < runs_in runs level → run < 256
run_fits runs level run le lt = by (level == 0) lt
  where
    by : (b : Bool) → run < cond b runs 1 → run < 256
    by true h = omega (arith, h)
    by false h = omega (arith, h)

deletes_fit : (version : FormatVersion) (entries : ℕ) (deletes : Option ℕ) → entries ≤ 3200 → IfSome deletes (λ n. n ≤ entries) → is_some deletes ≡ tells_deletes version → DeletesFit version deletes
deletes_fit One entries None few among is = tt
deletes_fit One entries (Some deletes) few among is = absurd (true≢false is)
deletes_fit Two entries None few among is = absurd (false≢true is)
deletes_fit Two entries (Some deletes) few among is = omega (arith, few, among)

pub of_version : (version : FormatVersion) (deletes : Option ℕ) → DeletesFit version deletes → is_some deletes ≡ tells_deletes version
of_version One None fits = refl
of_version One (Some deletes) fits = absurd fits
of_version Two None fits = absurd fits
of_version Two (Some deletes) fits = refl

pub table_fits : (version : FormatVersion) (next runs : ℕ) (t : TableRecord) → next ≤ 2 ^ 63 + 1 → runs ≤ 12 → IsTableRecord next runs t → IsOfVersion version t → TableFits version t
table_fits version next runs t a b f is = record {
  number = omega (arith, f.number);
  level = omega (arith, f.level);
  run = run_fits runs t.level t.run b f.run;
  first_block = omega (arith, f.inside);
  data_blocks = omega (arith, f.sizes.data_high);
  index_blocks = omega (arith, f.sizes.index_high);
  entries = omega (arith, f.sizes.entries_high);
  deletes = deletes_fit version t.entries t.deletes f.sizes.entries_high f.sizes.deletes is;
}

deletes_long : (deletes : Option ℕ) → length (deletes_text deletes) ≤ 2
deletes_long None = omega arith
deletes_long (Some deletes) = omega arith

pub record_long : (t : TableRecord) → length (table_record t) ≤ 20
record_long t = omega (arith, deletes_long t.deletes, length-append (numbers_text t) (deletes_text t.deletes))

pub records_long : (tables : List TableRecord) → length (flat_map table_record tables) ≤ 20 * length tables
records_long [] = omega arith
records_long (t ∷ ts) = omega (arith, record_long t, records_long ts, length-append (table_record t) (flat_map table_record ts))

-- ---- limits

are_at_most-Decides : (entries : ℕ) (deletes : Option ℕ) → Decides (are_at_most entries deletes) (IfSome deletes (λ n. n ≤ entries))
are_at_most-Decides entries None = (λ e. tt, λ h. refl)
are_at_most-Decides entries (Some deletes) = at_most-Decides deletes entries

sizes-Decides : (t : TableRecord) → Decides (has_sizes t) (HasSizes t)
sizes-Decides t = Decides-like (has_sizes t)
    (λ h. record { data_low = h.0.0; data_high = h.0.1; index_low = h.1.0.0; index_high = h.1.0.1; entries_low = h.1.1.0.0; entries_high = h.1.1.0.1; deletes = h.1.1.1 })
    (λ h. ((h.data_low, h.data_high), ((h.index_low, h.index_high), ((h.entries_low, h.entries_high), h.deletes))))
    (Decides-and _ _ (is_within-Decides 1 64 t.data_blocks) (Decides-and _ _ (is_within-Decides 1 5 t.index_blocks) (Decides-and _ _ (is_within-Decides 1 3200 t.entries) (are_at_most-Decides t.entries t.deletes))))

negated : (b : Bool) → Decides (not b) (b ≡ false)
negated true = (λ e. sym e, λ e. sym e)
negated false = (λ e. refl, λ e. refl)

pub of_version-Decides : (version : FormatVersion) (t : TableRecord) → Decides (is_of_version version t) (IsOfVersion version t)
of_version-Decides One t = negated (is_some t.deletes)
of_version-Decides Two t = (λ e. e, λ e. e)

pub table_record-Decides : (next runs : ℕ) (t : TableRecord) → Decides (is_table_record next runs t) (IsTableRecord next runs t)
table_record-Decides next runs t = Decides-like (is_table_record next runs t)
    (λ h. record { number = h.0.0; level = h.0.1.0; run = h.0.1.1; sizes = h.1.0; inside = h.1.1 })
    (λ h. ((h.number, (h.level, h.run)), (h.sizes, h.inside)))
    (Decides-and _ _
    (Decides-and _ _ (Decides-ltb t.number next) (Decides-and _ _ (at_most-Decides t.level 4) (Decides-ltb t.run (runs_in runs t.level))))
    (Decides-and _ _ (sizes-Decides t) (at_most-Decides (extent_end t) (2 ^ 32))))

in_order-Decides : (a b : TableRecord) → Decides (is_in_order a b) (InOrder a b)
in_order-Decides a b = Decides-or _ _ (Decides-ltb a.level b.level) (Decides-and _ _ (Decides-eqb a.level b.level) (at_most-Decides a.run b.run))

apart-Decides : (a b : TableRecord) → Decides (is_apart a b) (AreApart a b)
apart-Decides a b = Decides-or _ _ (at_most-Decides (extent_end a) b.first_block) (at_most-Decides (extent_end b) a.first_block)

pub agreeing_table-Decides : (a b : TableRecord) → Decides (is_agreeing_table a b) (TablesAgree a b)
agreeing_table-Decides a b = Decides-like (is_agreeing_table a b)
    (λ h. record { numbers = h.0; order = h.1.0; apart = h.1.1 })
    (λ h. (h.numbers, (h.order, h.apart)))
    (Decides-and _ _ (Decides-not _ (Decides-eqb a.number b.number)) (Decides-and _ _ (in_order-Decides a b) (apart-Decides a b)))

run-Decides : (tables : List TableRecord) (run : ℕ) → Decides (has_run tables run) (HasRun tables run)
run-Decides tables run =
    Decides-by_or (is_of_run run) (IsOfRun run) (λ ts. has_run ts run) (λ t. Decides-and _ _ (Decides-eqb t.level 0) (Decides-eqb t.run run)) refl (λ t ts. refl) tables

pub runs-Decides : (runs : ℕ) (tables : List TableRecord) → Decides (has_runs runs tables) (HasRuns runs tables)
runs-Decides zero tables = (λ e. record { each = λ run lt. absurd (omega arith) }, λ h. refl)
runs-Decides (suc n) tables =
    Decides-like (has_runs (suc n) tables)
    (λ h. record { each = λ run lt. elim (cases_lt run n) [ inl less ↦ h.1.each run less | inr le ↦ subst (HasRun tables) (omega arith) h.0 ] })
    (λ h. (h.each n (omega arith), record { each = λ run lt. h.each run (omega arith) }))
    (Decides-and (has_run tables n) (has_runs n tables) (run-Decides tables n) (runs-Decides n tables))
