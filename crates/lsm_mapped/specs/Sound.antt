-- The disks of a mapping are disks of its size.
use Rattle.std.proofs.Common.{◌<◌, ◌≤◌, ℕ, zero, suc, ◌+◌, ◌*◌, ◌^◌, List, [], ◌∷◌, ◌++◌, length, length-append, take, drop, replicate, refl, arith, length-take-le}
use Rattle.std.specs.List.{All}
use Rattle.std.proofs.lemmas.List.{length-drop, length-replicate}
use Rattle.std.proofs.lemmas.List.Elements.{All-append, All-cons, All-drop, All-head, All-nil, All-push, All-replicate, All-tail, All-take}
use Rattle.lsm_device.proofs.Pieces.{length-pieces}
use Rattle.lsm_device.specs.declared.calls.Calls.{Calls}
use Rattle.lsm_device.specs.Disk.{Disk, IsDisk, IsSector, IsWrite, Write, appended, at_rest, synced}
use Rattle.lsm_device.specs.History.{IsHistory, present}
use Rattle.lsm_device.specs.Medium.{Ended, KeepsFuse, KeepsFuses}
use Rattle.lsm_device.specs.Memory.{length-written, written-whole}
use Rattle.lsm_device.specs.Runs.{pieces}
use Rattle.lsm_mapped.specs.Disks.{IsPast, IsWithin, after_record, after_records, after_sectors, before, lasting_of, mapped_sectors}
use Rattle.lsm_mapped.specs.Records.{IsWhole, Record}

pieces_whole : (n : ℕ) (bytes : List ℕ) → 512 * n ≤ length bytes → All (λ b. b < 2 ^ 8) bytes → All IsSector (pieces n bytes)
pieces_whole zero bytes long fits = All-nil IsSector
pieces_whole (suc n) bytes long fits =
    All-cons IsSector (take 512 bytes) (pieces n (drop 512 bytes))
    (record { size = length-take-le 512 bytes (omega (arith, long)); fits = All-take (λ (b : ℕ). b < 2 ^ 8) 512 bytes fits })
    (pieces_whole n (drop 512 bytes) (omega (arith, long, length-drop 512 bytes)) (All-drop (λ (b : ℕ). b < 2 ^ 8) 512 bytes fits))

start_sound : (n : ℕ) (image : List ℕ) → All (λ b. b < 2 ^ 8) image → IsDisk n (at_rest (mapped_sectors n image))
unfolding mapped_sectors
start_sound n image fits =
    let zeros : List ℕ = replicate (512 * n) 0 in
    record {
      size = length-pieces n (image ++ zeros);
      sectors = pieces_whole n (image ++ zeros) (omega (arith, length-append image zeros, length-replicate {A = ℕ} (512 * n) 0))
          (All-append (λ (b : ℕ). b < 2 ^ 8) image zeros fits (All-replicate (λ (b : ℕ). b < 2 ^ 8) (512 * n) 0 (omega arith)));
      writes = All-nil (IsWrite n);
    }

appended_sound : (n : ℕ) (w : Write) (d : Disk) → IsWrite n w → IsDisk n d → IsDisk n (appended w d)
appended_sound n w d is on = record { size = on.size; sectors = on.sectors; writes = All-push (IsWrite n) d.pending w on.writes is }

synced_sound : (n : ℕ) (d : Disk) → IsDisk n d → IsDisk n (synced d)
synced_sound n d on = record {
  size = length-written n d.stands d.pending on.size;
  sectors = written-whole n d.stands d.pending on.sectors on.writes;
  writes = All-nil (IsWrite n);
}

longer : (n : ℕ) (d : Disk) (past : List Disk) → IsDisk n d → IsHistory n past → IsHistory n (d ∷ past)
longer n d past on had = record { now = on; each = All-cons (IsDisk n) d past on had.each }

sectors_sound : (n at : ℕ) (sectors : List (List ℕ)) (past : List Disk) → at + length sectors ≤ n → All IsSector sectors → IsHistory n past → IsHistory n (after_sectors at sectors past)
unfolding after_sectors
sectors_sound n at [] past within whole had = had
sectors_sound n at (bytes ∷ rest) past within whole had =
    let one : at < n = omega (arith, within) in
    let more : at + 1 + length rest ≤ n = omega (arith, within) in
    let on = appended_sound n (record { at = at; bytes = bytes }) (present past) (record { in_range = one; whole = All-head IsSector bytes rest whole }) had.now in
    sectors_sound n (at + 1) rest (appended (record { at = at; bytes = bytes }) (present past) ∷ past) more (All-tail IsSector bytes rest whole) (longer n _ past on had)

record_sound : (n first : ℕ) (sectors : List (List ℕ)) (past : List Disk) → first + length sectors ≤ n → All IsSector sectors → IsHistory n past → IsHistory n (after_record first sectors past)
unfolding after_record
record_sound n first [] past within whole had = longer n (synced (present past)) past (synced_sound n (present past) had.now) had
record_sound n first (bytes ∷ rest) past within whole had = sectors_sound n first (bytes ∷ rest) past within whole had

pub records_sound : (n : ℕ) (rs : List Record) (past : List Disk) → All (IsWithin n) rs → All IsWhole rs → IsHistory n past → IsHistory n (after_records rs past)
unfolding after_records
records_sound n [] past within whole had = had
records_sound n (r ∷ rs) past within whole had =
    records_sound n rs (after_record r.first r.sectors past) (All-tail (IsWithin n) r rs within) (All-tail IsWhole r rs whole)
    (record_sound n r.first r.sectors past (All-head (IsWithin n) r rs within) (All-head IsWhole r rs whole).sectors_whole had)

-- each mapping shows a disk, on which nothing pends
pub rests : (n : ℕ) (image : List ℕ) → All (λ b. b < 2 ^ 8) image → IsPast n image (at_rest (mapped_sectors n image) ∷ [])
rests n image fits =
    let on = start_sound n image fits in
    record { disks = record { now = on; each = All-cons (IsDisk n) _ [] on (All-nil (IsDisk n)) }; shown = refl }

never : (past : List Disk) → KeepsFuse (before past).fuse_set (before past).calls
never past = record { at_most = λ k e. cc }

pub no_fuse : (n loan : ℕ) (calls : Calls) (past history : List Disk) → KeepsFuses (record { size = n; lasting = lasting_of loan past; calls = calls; history = history })
no_fuse n loan calls past history = record {
  now = record { at_most = λ k e. cc };
  ended = All-cons (λ (e : Ended). KeepsFuse e.fuse_set e.calls) (before past) [] (never past) (All-nil (λ (e : Ended). KeepsFuse e.fuse_set e.calls));
}
