-- A manifest's sectors are read and decoded exactly.
use Rattle.std.proofs.Common.{◌≡◌, ℕ, ◌+◌, ◌-◌, ◌*◌, ◌^◌, ◌<◌, ◌≤◌, Bool, eqb, List, [], ◌∷◌, ◌++◌, length, Some, None, Decides, refl, ap, arith, lit<, get_or}
use Rattle.std.specs.List.{All, AllByRecursion, flat_map, list_all}
use Rattle.std.proofs.lemmas.Bool.{eqb-true, ne_eqb}
use Rattle.std.proofs.lemmas.Bool.Decides.{Decides-like, Decides-not, Decides-and, Decides-ltb, Decides-eqb}
use Rattle.std.proofs.lemmas.List.{length-append}
use Rattle.std.proofs.lemmas.List.Elements.{All-nil, All-weaker, All-from_recursion, recursion_from_All}
use Rattle.byteorder.specs.Endian.{big_bytes}
use Rattle.lsm_codec.specs.declared.superblock.FormatVersion.{FormatVersion}
use Rattle.lsm_codec.specs.declared.log_record.LogRecord.{LogRecord}
use Rattle.lsm_codec.specs.declared.table_record.TableRecord.{TableRecord}
use Rattle.lsm_codec.specs.Keys.{IsBytes}
use Rattle.lsm_codec.specs.Spelling.{field, padding, IsDecoded}
use Rattle.lsm_codec.specs.Reading.{front_of}
use Rattle.lsm_codec.specs.TableRecords.{IsTableRecord, IsOfVersion, TablesAgree, is_table_record, is_of_version, is_agreeing_table, table_record}
use Rattle.lsm_codec.specs.Pairs.{Pairwise}
use Rattle.lsm_codec.specs.Manifests.{Contents, IsLogRecord, LogsAgree, BeginsAfter, NumbersFit, LogsFit, TablesFit, IsManifest, IsManifestOf, is_each_two, is_log_record, is_agreeing, is_after, is_numbered, is_logged, is_tabled, is_manifest, is_manifest_of, log_record, manifest_text, sector_count, manifest_bytes, log_record_at, only_number, header_at, manifest_at, manifest_of}
use Rattle.lsm_codec.specs.Formats.{IsFormat}
use Rattle.lsm_codec.proofs.Limits.{at_most-Decides, is_within-Decides, all-Decides}
use Rattle.lsm_codec.proofs.Readers.{Reads, number_reads, times_reads, then_reads, made_reads, kept_reads, fits_reads, too_short}
use Rattle.lsm_codec.proofs.Fields.{there, byte_there, from_place}
use borrow.Rule.Slice.PartMut.{mid_of}
use Rattle.lsm_codec.proofs.TableRecordLaws.{TableFits, table_record_reads, table_fits, of_version, records_long, table_record-Decides, of_version-Decides, agreeing_table-Decides, runs-Decides}
use Rattle.lsm_codec.proofs.Decoding.{if_spelled-decodes, decodes-format, one_answer}
use Rattle.lsm_codec.proofs.Padding.{length-in_sectors, padded_read, padded_refused, padded_unread}

-- ---- reading

-- the numbers of a record fit their fields
pub record LogFits (r : LogRecord) : Type 0 where
  pub region : r.region < 256 ^ 1
  pub epoch : r.epoch < 256 ^ 8
  pub first : r.first_batch < 256 ^ 8

pub log_record_reads : Reads log_record_at LogFits log_record
unfolding log_record_at
log_record_reads =
    fits_reads (λ r f. record { region = f.0; epoch = f.1.0; first = f.1.1 }) (λ r f. (f.region, (f.epoch, f.first)))
    (made_reads (λ t. record { region = t.0; epoch = t.1.0; first_batch = t.1.1 }) (λ r. (r.region, (r.epoch, r.first_batch))) (λ t f. refl) (λ r. refl)
    (then_reads (number_reads 1) (λ a. then_reads (number_reads 8) (λ b. number_reads 8))))

-- a record in full is read, its numbers at their places
pub log_at : (bytes : List ℕ) → 17 ≤ length bytes → log_record_at bytes ≡ Some (record { region = get_or bytes 0 0; epoch = field 1 8 bytes; first_batch = field 9 8 bytes }, mid_of 17 (length bytes - 17) bytes)
unfolding log_record_at
log_at bytes le = rw (byte_there 0 bytes (omega (arith, le)), there 1 8 bytes (omega (arith, le)), there 9 8 bytes (omega (arith, le)), from_place 17 bytes) refl

pub no_log : (bytes : List ℕ) → IsBytes bytes → length bytes < 17 → log_record_at bytes ≡ None
no_log bytes fits short = too_short log_record_reads 17 (λ r. omega arith) bytes fits short

-- what the fields of a manifest can hold
pub record FieldsFit (version : FormatVersion) (c : Contents) : Type 0 where
  pub generation : c.generation < 256 ^ 8
  pub base : c.base < 256 ^ 8
  pub next_table : c.next_table < 256 ^ 8
  pub runs : c.runs < 256 ^ 1
  pub logs : length c.logs < 256 ^ 1
  pub tables : length c.tables < 256 ^ 2
  pub each_log : AllByRecursion LogFits c.logs
  pub each_table : AllByRecursion (TableFits version) c.tables

abbrev Numbers : Type 0
Numbers = ℕ × (ℕ × (ℕ × (ℕ × (ℕ × (ℕ × ℕ)))))

abbrev numbers : ℕ → ℕ → ℕ → ℕ → ℕ → ℕ → ℕ → Numbers
numbers m g b n l r t = (m, (g, (b, (n, (l, (r, t))))))

same_numbers : (m g b n l r t m' l' t' : ℕ) → m ≡ m' → l' ≡ l → t' ≡ t → numbers m' g b n l' r t' ≡ numbers m g b n l r t
same_numbers m g b n l r t m' l' t' e f h = rw (← e, f, h) refl

only_reads : (n size : ℕ) → Reads (only_number n size) (λ m. (m < 256 ^ size) × (m ≡ n)) (big_bytes size)
only_reads n size = kept_reads (λ m. eqb m n) (λ m. m ≡ n) (λ m t. eqb-true m n t) (λ m e. (Decides-eqb m n).1 e) (number_reads size)

abbrev made_contents : Numbers × (List LogRecord × List TableRecord) → Contents
made_contents t = record { generation = t.0.1.0; base = t.0.1.1.0; next_table = t.0.1.1.1.0; runs = t.0.1.1.1.1.1.0; logs = t.1.0; tables = t.1.1 }

abbrev parts : Contents → Numbers × (List LogRecord × List TableRecord)
parts c = (numbers 0x4c534d4d c.generation c.base c.next_table (length c.logs) c.runs (length c.tables), (c.logs, c.tables))

-- a header in full is read, its numbers at their places
pub header_there : (bytes : List ℕ) → 32 ≤ length bytes → field 0 4 bytes ≡ 0x4c534d4d
    → header_at bytes ≡ Some (numbers 0x4c534d4d (field 4 8 bytes) (field 12 8 bytes) (field 20 8 bytes) (get_or bytes 28 0) (get_or bytes 29 0) (field 30 2 bytes), mid_of 32 (length bytes - 32) bytes)
unfolding header_at
header_there bytes le magic =
    rw (there 0 4 bytes (omega (arith, le)), magic, there 4 8 bytes (omega (arith, le)), there 12 8 bytes (omega (arith, le)), there 20 8 bytes (omega (arith, le)), byte_there 28 bytes (omega (arith, le)), byte_there 29 bytes (omega (arith, le)), there 30 2 bytes (omega (arith, le)), from_place 32 bytes) refl

pub header_other : (bytes : List ℕ) → 32 ≤ length bytes → (field 0 4 bytes ≡ 0x4c534d4d → ⊥) → header_at bytes ≡ None
unfolding header_at
header_other bytes le other = rw (there 0 4 bytes (omega (arith, le)), ne_eqb (field 0 4 bytes) 0x4c534d4d other) refl

header_reads : Reads header_at (λ h. ((h.0 < 256 ^ 4) × (h.0 ≡ 0x4c534d4d)) × ((h.1.0 < 256 ^ 8) × ((h.1.1.0 < 256 ^ 8) × ((h.1.1.1.0 < 256 ^ 8) × ((h.1.1.1.1.0 < 256 ^ 1) × ((h.1.1.1.1.1.0 < 256 ^ 1) × (h.1.1.1.1.1.1 < 256 ^ 2)))))))
    (λ h. big_bytes 4 h.0 ++ (big_bytes 8 h.1.0 ++ (big_bytes 8 h.1.1.0 ++ (big_bytes 8 h.1.1.1.0 ++ (big_bytes 1 h.1.1.1.1.0 ++ (big_bytes 1 h.1.1.1.1.1.0 ++ big_bytes 2 h.1.1.1.1.1.1))))))
unfolding header_at
header_reads =
    then_reads (only_reads 0x4c534d4d 4) (λ a. then_reads (number_reads 8) (λ b. then_reads (number_reads 8) (λ c. then_reads (number_reads 8) (λ d. then_reads (number_reads 1) (λ e. then_reads (number_reads 1) (λ f. number_reads 2))))))

pub no_header : (bytes : List ℕ) → IsBytes bytes → length bytes < 32 → header_at bytes ≡ None
no_header bytes fits short = too_short header_reads 32 (λ h. omega arith) bytes fits short

pub manifest_reads : (version : FormatVersion) → Reads (manifest_at version) (FieldsFit version) manifest_text
unfolding manifest_at manifest_text
manifest_reads version =
    fits_reads
    (λ c f. record { generation = f.0.1.0; base = f.0.1.1.0; next_table = f.0.1.1.1.0; runs = f.0.1.1.1.1.1.0; logs = f.0.1.1.1.1.0; tables = f.0.1.1.1.1.1.1; each_log = f.1.0.1; each_table = f.1.1.1 })
    (λ c f. (((lit< tt, refl), (f.generation, (f.base, (f.next_table, (f.logs, (f.runs, f.tables)))))), ((refl, f.each_log), (refl, f.each_table))))
    (made_reads made_contents parts
    (λ t f. ap (λ (h : Numbers). (h, t.1)) (same_numbers t.0.0 t.0.1.0 t.0.1.1.0 t.0.1.1.1.0 t.0.1.1.1.1.0 t.0.1.1.1.1.1.0 t.0.1.1.1.1.1.1 _ _ _ f.0.0.1 f.1.0.0 f.1.1.0))
    (λ c. refl)
    (then_reads
    header_reads
    (λ h. then_reads (times_reads h.1.1.1.1.0 log_record_reads) (λ l. times_reads h.1.1.1.1.1.1 (table_record_reads version)))))

log_fits : (g : ℕ) (r : LogRecord) → g ≤ 2 ^ 63 → IsLogRecord g r → LogFits r
log_fits g r le f = record { region = omega (arith, f.region); epoch = omega (arith, f.epoch_high); first = omega (arith, f.first_high) }

-- a manifest's numbers fit their fields
pub fields_fit : (version : FormatVersion) (c : Contents) → IsManifestOf version c → FieldsFit version c
fields_fit version c is = let f = is.fits in record {
  generation = omega (arith, f.numbers.generation_high);
  base = omega (arith, f.numbers.base);
  next_table = omega (arith, f.numbers.next_high);
  runs = omega (arith, f.numbers.runs);
  logs = omega (arith, f.numbers.logs);
  tables = omega (arith, f.numbers.tables);
  each_log = recursion_from_All LogFits c.logs (λ k d lt. log_fits c.generation (get_or c.logs k d) f.numbers.generation_high (f.logs.each k d lt));
  each_table = recursion_from_All (TableFits version) c.tables (λ k d lt. table_fits version c.next_table c.runs (get_or c.tables k d) f.numbers.next_high f.numbers.runs (f.tables.each k d lt) (is.records k d lt));
}

-- ---- lengths

logs_long : (logs : List LogRecord) → length (flat_map log_record logs) ≡ 17 * length logs
logs_long [] = refl
logs_long (r ∷ rs) = omega (arith, logs_long rs, length-append (log_record r) (flat_map log_record rs))

pub length-manifest_text : (c : Contents) → length (manifest_text c) ≡ 32 + 17 * length c.logs + length (flat_map table_record c.tables)
unfolding manifest_text
length-manifest_text c = omega (arith, logs_long c.logs, length-append (flat_map log_record c.logs) (flat_map table_record c.tables))

pub manifest_text_most : (c : Contents) → length (manifest_text c) ≤ 32 + 17 * length c.logs + 20 * length c.tables
manifest_text_most c = omega (arith, length-manifest_text c, records_long c.tables)

pub length-manifest_bytes : (c : Contents) → length (manifest_bytes c) ≡ 512 * sector_count c
unfolding manifest_bytes
length-manifest_bytes c = length-in_sectors (manifest_text c)

-- ---- decoding

each_two-Decides : {X : Type 0} (test : X → X → Bool) (R : X → X → Type 0) → ((x y : X) → Decides (test x y) (R x y)) → (xs : List X) → Decides (is_each_two test xs) (Pairwise R xs)
each_two-Decides test R one [] = (λ e. tt, λ p. refl)
each_two-Decides test R one (x ∷ xs) = Decides-and (list_all (test x) xs) (is_each_two test xs) (all-Decides (test x) (R x) (one x) xs) (each_two-Decides test R one xs)

log_record-Decides : (g : ℕ) (r : LogRecord) → Decides (is_log_record g r) (IsLogRecord g r)
log_record-Decides g r = Decides-like (is_log_record g r)
    (λ h. record { region = h.0; epoch_low = h.1.0.0; epoch_high = h.1.0.1; first_high = h.1.1 })
    (λ h. (h.region, ((h.epoch_low, h.epoch_high), h.first_high)))
    (Decides-and _ _ (at_most-Decides r.region 2) (Decides-and _ _ (is_within-Decides 1 g r.epoch) (at_most-Decides r.first_batch (2 ^ 63 + 1))))

agreeing-Decides : (a b : LogRecord) → Decides (is_agreeing a b) (LogsAgree a b)
agreeing-Decides a b = Decides-like (is_agreeing a b)
    (λ h. record { regions = h.0; epochs = h.1.0; firsts = h.1.1 })
    (λ h. (h.regions, (h.epochs, h.firsts)))
    (Decides-and _ _ (Decides-not _ (Decides-eqb a.region b.region)) (Decides-and _ _ (Decides-ltb a.epoch b.epoch) (Decides-ltb a.first_batch b.first_batch)))

after-Decides : (base : ℕ) (logs : List LogRecord) → Decides (is_after base logs) (BeginsAfter base logs)
after-Decides base [] = (λ e. tt, λ p. refl)
after-Decides base (r ∷ rs) = Decides-eqb r.first_batch (base + 1)

numbered-Decides : (c : Contents) → Decides (is_numbered c) (NumbersFit c)
numbered-Decides c = Decides-like (is_numbered c)
    (λ h. record { generation_low = h.0.0; generation_high = h.0.1; base = h.1.0; next_low = h.1.1.0.0; next_high = h.1.1.0.1; runs = h.1.1.1.0; logs = h.1.1.1.1.0; tables = h.1.1.1.1.1 })
    (λ h. ((h.generation_low, h.generation_high), (h.base, ((h.next_low, h.next_high), (h.runs, (h.logs, h.tables))))))
    (Decides-and _ _ (is_within-Decides _ _ c.generation) (Decides-and _ _ (at_most-Decides c.base (2 ^ 63)) (Decides-and _ _ (is_within-Decides _ _ c.next_table) (Decides-and _ _ (at_most-Decides c.runs 12) (Decides-and _ _ (at_most-Decides (length c.logs) 3) (at_most-Decides (length c.tables) 1024))))))

logged-Decides : (c : Contents) → Decides (is_logged c) (LogsFit c)
logged-Decides c = Decides-like (is_logged c)
    (λ h. record { each = h.0; agree = h.1.0; begins = h.1.1 })
    (λ h. (h.each, (h.agree, h.begins)))
    (Decides-and _ _ (all-Decides (is_log_record c.generation) (IsLogRecord c.generation) (log_record-Decides c.generation) c.logs) (Decides-and _ _ (each_two-Decides is_agreeing LogsAgree agreeing-Decides c.logs) (after-Decides c.base c.logs)))

tabled-Decides : (c : Contents) → Decides (is_tabled c) (TablesFit c)
tabled-Decides c = Decides-like (is_tabled c)
    (λ h. record { each = h.0; agree = h.1.0; runs = h.1.1 })
    (λ h. (h.each, (h.agree, h.runs)))
    (Decides-and _ _ (all-Decides (is_table_record c.next_table c.runs) (IsTableRecord c.next_table c.runs) (table_record-Decides c.next_table c.runs) c.tables)
    (Decides-and _ _ (each_two-Decides is_agreeing_table TablesAgree agreeing_table-Decides c.tables) (runs-Decides c.runs c.tables)))

pub no_tables_fit : (generation base next : ℕ) (logs : List LogRecord) → TablesFit (record { generation = generation; base = base; next_table = next; runs = 0; logs = logs; tables = [] })
no_tables_fit generation base next logs = record { each = All-nil (IsTableRecord next 0); agree = tt; runs = record { each = λ run lt. absurd (omega (arith, lt)) } }

pub is_manifest-Decides : (c : Contents) → Decides (is_manifest c) (IsManifest c)
is_manifest-Decides c = Decides-like (is_manifest c) (λ h. record { numbers = h.0; logs = h.1.0; tables = h.1.1 }) (λ h. (h.numbers, (h.logs, h.tables))) (Decides-and _ _ (numbered-Decides c) (Decides-and _ _ (logged-Decides c) (tabled-Decides c)))

pub is_manifest_of-Decides : (version : FormatVersion) (c : Contents) → Decides (is_manifest_of version c) (IsManifestOf version c)
is_manifest_of-Decides version c = Decides-like (is_manifest_of version c) (λ h. record { fits = h.0; records = h.1 }) (λ h. (h.fits, h.records))
    (Decides-and _ _ (is_manifest-Decides c) (all-Decides (is_of_version version) (IsOfVersion version) (of_version-Decides version) c.tables))

-- reading gives back the manifest that was spelled
pub reads_back : (version : FormatVersion) (c : Contents) → IsManifestOf version c → manifest_at version (manifest_bytes c) ≡ Some (c, padding (length (manifest_text c)))
unfolding manifest_bytes
reads_back version c fits = (manifest_reads version).again c (padding (length (manifest_text c))) (fields_fit version c fits)

pub manifest_of_exact : (version : FormatVersion) (sectors : List ℕ) → IsDecoded (IsManifestOf version) manifest_bytes sectors (manifest_of version sectors)
unfolding manifest_of
manifest_of_exact version sectors =
    if_spelled-decodes (is_manifest_of version) (IsManifestOf version) (is_manifest_of-Decides version) manifest_bytes (λ bytes. front_of (manifest_at version bytes)) (λ c fits. ap front_of (reads_back version c fits)) sectors

pub manifest_format : (version : FormatVersion) → IsFormat (IsManifestOf version) manifest_bytes (manifest_of version)
manifest_format version = decodes-format (manifest_of_exact version)

-- ---- what the reader of whole sectors finds

module _ (version : FormatVersion) (bytes : List ℕ) (fits : IsBytes bytes) where
  -- the bytes after what was read are bytes of the sectors
  pub rest_shorter : (c : Contents) (rest : List ℕ) → manifest_at version bytes ≡ Some (c, rest) → length rest ≤ length bytes
  rest_shorter c rest read = let law = (manifest_reads version).found bytes (c, rest) fits read in omega (arith, ap length law.1, length-append (manifest_text c) rest)

  -- the records that were read are of the version
  records_read : (c : Contents) (rest : List ℕ) → manifest_at version bytes ≡ Some (c, rest) → All (IsOfVersion version) c.tables
  records_read c rest read =
      let law = (manifest_reads version).found bytes (c, rest) fits read in
      All-weaker (TableFits version) (IsOfVersion version) (λ t f. of_version version t.deletes f.deletes) c.tables (All-from_recursion (TableFits version) c.tables law.0.each_table)

  pub whole : (c : Contents) (rest : List ℕ) → manifest_at version bytes ≡ Some (c, rest) → rest ≡ padding (length bytes - length rest) → IsManifest c → Some c ≡ manifest_of version bytes
  unfolding manifest_bytes
  whole c rest read zeros is =
      one_answer (padded_read (manifest_reads version) (fields_fit version) bytes fits c rest read zeros (record { fits = is; records = records_read c rest read })) (manifest_of_exact version bytes)

  pub not_whole : (c : Contents) (rest : List ℕ) → manifest_at version bytes ≡ Some (c, rest) → ((rest ≡ padding (length bytes - length rest)) × IsManifest c → ⊥) → None ≡ manifest_of version bytes
  unfolding manifest_bytes
  not_whole c rest read not = one_answer (padded_refused (manifest_reads version) (fields_fit version) bytes fits c rest read (λ h. not (h.0, h.1.fits))) (manifest_of_exact version bytes)

  pub unread : manifest_at version bytes ≡ None → None ≡ manifest_of version bytes
  unfolding manifest_bytes
  unread none = one_answer (padded_unread (manifest_reads version) (fields_fit version) bytes fits none) (manifest_of_exact version bytes)
