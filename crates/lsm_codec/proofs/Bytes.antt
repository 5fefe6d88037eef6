-- Spellings are made of bytes.
use Rattle.std.proofs.Common.{◌≡◌, ℕ, zero, suc, ◌-◌, ◌<◌, ◌%◌, List, [], ◌∷◌, ◌++◌, length, replicate, get_or, Option, Some, None, refl, arith}
use Rattle.std.specs.List.{flat_map, AllByRecursion}
use Rattle.std.specs.Int.{byte_at}
use Rattle.std.proofs.Math.Nat.{mod-lt}
use Rattle.byteorder.specs.Endian.{big_bytes}
use Rattle.lsm_codec.specs.Keys.{Bytes, IsBytes}
use Rattle.lsm_codec.specs.Map.{Operation}
use Rattle.lsm_codec.specs.Spelling.{filled, padding, in_sectors}
use Rattle.lsm_codec.specs.BatchText.{key_text, value_text, change_text, operation_text, batch_text}
use Rattle.lsm_codec.specs.Superblocks.{version_number, superblock_text, superblock_sector}
use Rattle.lsm_codec.specs.LogSectors.{Part, part_text, log_sector}
use Rattle.lsm_codec.specs.Manifests.{Contents, log_record, manifest_header, manifest_text, manifest_bytes}
use Rattle.lsm_codec.specs.Formats.{HasBytes}
use Rattle.lsm_codec.specs.TableRecords.{deletes_text, numbers_text, table_record}
use Rattle.lsm_codec.specs.declared.log_record.LogRecord.{LogRecord}
use Rattle.lsm_codec.specs.declared.table_record.TableRecord.{TableRecord}
use Rattle.lsm_codec.specs.declared.superblock.Superblock.{Superblock}
use Rattle.lsm_codec.proofs.Numbers.{byte_at-pow}

pub none : IsBytes []
none = record { fit = λ i. omega arith }

pub cons : (b : ℕ) (bytes : List ℕ) → b < 256 → IsBytes bytes → IsBytes (b ∷ bytes)
cons b bytes low rest = record { fit = by_index }
  where
    by_index : (i : ℕ) → get_or (b ∷ bytes) i 0 < 256
    by_index zero = low
    by_index (suc i) = rest.fit i

pub tail : (b : ℕ) (bytes : List ℕ) → IsBytes (b ∷ bytes) → IsBytes bytes
tail b bytes all = record { fit = λ i. all.fit (suc i) }

pub append : (xs ys : List ℕ) → IsBytes xs → IsBytes ys → IsBytes (xs ++ ys)
append [] ys h k = k
append (x ∷ xs) ys h k = cons x (xs ++ ys) (h.fit 0) (append xs ys (tail x xs h) k)

pub zeros : (n : ℕ) → IsBytes (replicate n 0)
zeros zero = none
zeros (suc n) = cons 0 (replicate n 0) (omega arith) (zeros n)

byte_low : (k x : ℕ) → byte_at k x < 256
byte_low k x = rw (byte_at-pow k x) (mod-lt _ (omega arith))

pub number : (size x : ℕ) → IsBytes (big_bytes size x)
number zero x = none
number (suc n) x = cons (byte_at n x) (big_bytes n x) (byte_low n x) (number n x)

pub in_filled : (size : ℕ) (text : List ℕ) → IsBytes text → IsBytes (filled size text)
in_filled size text h = append text (replicate (size - length text) 0) h (zeros (size - length text))

pub in_whole_sectors : (text : List ℕ) → IsBytes text → IsBytes (in_sectors text)
in_whole_sectors text h = append text (padding (length text)) h (zeros ((512 - length text % 512) % 512))

pub each : {X : Type 0} (spelling : X → List ℕ) (P : X → Type 0) → ((x : X) → P x → IsBytes (spelling x)) → (xs : List X) → AllByRecursion P xs → IsBytes (flat_map spelling xs)
each spelling P one [] h = none
each spelling P one (x ∷ xs) h = append (spelling x) (flat_map spelling xs) (one x h.0) (each spelling P one xs h.1)

-- ---- the formats

magic : (a b c d : ℕ) → a < 256 → b < 256 → c < 256 → d < 256 → IsBytes (a ∷ b ∷ c ∷ d ∷ [])
magic a b c d p q r s = cons a _ p (cons b _ q (cons c _ r (cons d [] s none)))

pub of_superblock : (s : Superblock) → IsBytes (superblock_sector s)
unfolding superblock_sector
of_superblock s =
    in_filled 512 (superblock_text s) (append _ _ (magic 76 83 77 83 (omega arith) (omega arith) (omega arith) (omega arith)) (append _ _ (number 2 (version_number s.version)) (append _ _ (number 8 s.generation)
    (append _ _ (number 4 s.sectors) (append _ _ (number 2 s.log_sectors) (number 2 s.manifest_sectors))))))

pub of_part : (p : Part) → IsBytes p.payload → IsBytes (log_sector p)
unfolding log_sector
of_part p h =
    in_filled 512 (part_text p) (append _ _ (magic 76 83 77 76 (omega arith) (omega arith) (omega arith) (omega arith)) (append _ _ (number 8 p.epoch) (append _ _ (number 8 p.batch)
    (append _ _ (number 2 p.part) (append _ _ (number 2 p.parts) (append _ _ (number 2 (length p.payload)) (append _ _ (zeros 6) h)))))))

of_change : (key : Bytes) (value : Option Bytes) → IsBytes key → ((v : List ℕ) → value ≡ Some v → IsBytes v) → IsBytes (change_text key value)
of_change key (Some value) k v = append _ _ (number 1 1) (append (key_text key) (value_text value) (append _ _ (number 1 (length key)) k) (append _ _ (number 2 (length value)) (v value refl)))
of_change key None k v = append _ _ (number 1 2) (append _ _ (number 1 (length key)) k)

pub of_batch : (operations : List Operation) → AllByRecursion HasBytes operations → IsBytes (batch_text operations)
unfolding batch_text
of_batch operations h = append _ _ (number 2 (length operations)) (each operation_text HasBytes (λ o b. of_change o.key o.value b.key b.value) operations h)

of_log_record : (r : LogRecord) → IsBytes (log_record r)
of_log_record r = append _ _ (number 1 r.region) (append _ _ (number 8 r.epoch) (number 8 r.first_batch))

of_log_records : (logs : List LogRecord) → IsBytes (flat_map log_record logs)
of_log_records [] = none
of_log_records (r ∷ rs) = append (log_record r) (flat_map log_record rs) (of_log_record r) (of_log_records rs)

of_deletes : (deletes : Option ℕ) → IsBytes (deletes_text deletes)
of_deletes None = none
of_deletes (Some deletes) = number 2 deletes

of_table_record : (t : TableRecord) → IsBytes (table_record t)
of_table_record t =
    append (numbers_text t) (deletes_text t.deletes)
    (append _ _ (number 8 t.number) (append _ _ (number 1 t.level) (append _ _ (number 1 t.run) (append _ _ (number 4 t.first_block) (append _ _ (number 1 t.data_blocks) (append _ _ (number 1 t.index_blocks) (number 2 t.entries)))))))
    (of_deletes t.deletes)

of_table_records : (tables : List TableRecord) → IsBytes (flat_map table_record tables)
of_table_records [] = none
of_table_records (t ∷ ts) = append (table_record t) (flat_map table_record ts) (of_table_record t) (of_table_records ts)

pub of_manifest : (c : Contents) → IsBytes (manifest_bytes c)
unfolding manifest_bytes manifest_text
of_manifest c =
    in_whole_sectors (manifest_text c) (append (manifest_header c) (flat_map log_record c.logs ++ flat_map table_record c.tables)
    (append _ _ (number 4 0x4c534d4d) (append _ _ (number 8 c.generation) (append _ _ (number 8 c.base) (append _ _ (number 8 c.next_table) (append _ _ (number 1 (length c.logs)) (append _ _ (number 1 c.runs) (number 2 (length c.tables))))))))
    (append _ _ (of_log_records c.logs) (of_table_records c.tables)))
