-- What a journal says: writes and syncs in their order, and the text of them.
use Rattle.std.specs.Prelude.{◌<◌, ℕ, zero, suc, ◌+◌, ◌*◌, ◌^◌, ◌==◌, ◌&&◌, nat_lt, Bool, List, [], ◌∷◌, ◌++◌, length, drop, All, if◌then◌else◌}
use Rattle.std.specs.List.{concat}
use Rattle.byteorder.specs.Endian.{little_bytes, little_number}
use Rattle.lsm_device.specs.Disk.{IsSector}
use Rattle.lsm_device.specs.Runs.{pieces}

-- Sectors of 512 bytes, which are written from the first one on. None of them is a sync.
pub record Record : Type 0 where
  pub first : ℕ
  pub sectors : List (List ℕ)

abbrev pub sync_record : Record
sync_record = record { first = 0; sectors = [] }

abbrev pub write_record : ℕ → List ℕ → Record
write_record at bytes = record { first = at; sectors = bytes ∷ [] }

-- with a sector more
abbrev pub with_sector : List ℕ → Record → Record
with_sector bytes r = record { first = r.first; sectors = r.sectors ++ bytes ∷ [] }

-- ---- text

-- the four bytes of a number, the lowest first
unfoldable pub number_text : ℕ → List ℕ
number_text n = little_bytes 4 n

-- the first sector, the number of sectors, and their bytes
abbrev pub record_text : Record → List ℕ
record_text r = (number_text r.first ++ number_text (length r.sectors)) ++ concat r.sectors

-- the texts of the records, one after the other
unfoldable pub text_of : List Record → List ℕ
text_of [] = []
text_of (r ∷ rs) = record_text r ++ text_of rs

-- at most n records that a text spells
unfoldable pub records_from : ℕ → List ℕ → List Record
records_from zero text = []
records_from (suc n) [] = []
records_from (suc n) (b ∷ text) =
    record { first = little_number 4 (b ∷ text); sectors = pieces (little_number 4 (drop 4 (b ∷ text))) (drop 8 (b ∷ text)) }
    ∷ records_from n (drop (8 + 512 * little_number 4 (drop 4 (b ∷ text))) (b ∷ text))

-- all records that it spells
unfoldable pub records_of : List ℕ → List Record
records_of text = records_from (length text) text

-- numbers of 32 bits, and whole sectors
pub record IsWhole (r : Record) : Type 0 where
  pub first_fits : r.first < 2 ^ 32
  pub count_fits : length r.sectors < 2 ^ 32
  pub sectors_whole : All IsSector r.sectors

-- ---- what is appended

-- the last one; where there is none, a sync
unfoldable pub last : List Record → Record
last [] = sync_record
last (r ∷ []) = r
last (r ∷ (s ∷ rs)) = last (s ∷ rs)

-- the ones before it
unfoldable pub front : List Record → List Record
front [] = []
front (r ∷ []) = []
front (r ∷ (s ∷ rs)) = r ∷ front (s ∷ rs)

-- whether sector `at` comes right after a record of `count` sectors from `first` on, no sync, and the new count fits in 32 bits
abbrev pub goes_on : ℕ → ℕ → ℕ → Bool
goes_on at first count = nat_lt 0 count && (nat_lt count 4294967295 && (first + count == at))

-- One more sector is written: by the last record where it goes on there, and else by a new one.
unfoldable pub with_write : ℕ → List ℕ → List Record → List Record
with_write at bytes rs = if goes_on at (last rs).first (length (last rs).sectors)
    then front rs ++ with_sector bytes (last rs) ∷ []
    else rs ++ write_record at bytes ∷ []

-- A sync after all of them; none is added right after a sync.
unfoldable pub with_sync : List Record → List Record
with_sync [] = sync_record ∷ []
with_sync (r ∷ rs) = if length (last (r ∷ rs)).sectors == 0 then r ∷ rs else r ∷ rs ++ sync_record ∷ []

-- ---- numbers

-- how many sectors are written
unfoldable pub writes_in : List Record → ℕ
writes_in [] = 0
writes_in (r ∷ rs) = length r.sectors + writes_in rs

-- how many syncs there are
unfoldable pub syncs_in : List Record → ℕ
syncs_in [] = 0
syncs_in (r ∷ rs) = (if length r.sectors == 0 then 1 else 0) + syncs_in rs
