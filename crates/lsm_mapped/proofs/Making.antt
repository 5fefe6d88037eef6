-- The disks of a mapping, once the records of a journal are made on it.
use Rattle.std.proofs.Common.{◌≡◌, ◌<◌, ◌≤◌, ◌==◌, ℕ, ◌+◌, ◌*◌, Bool, true, false, List, [], ◌∷◌, ◌++◌, length, length-append, take, drop, replicate, Some, refl, sym, subst, inl, inr, ◌∙◌, ap, arith, slice_get, if◌then◌else◌}
use Rattle.std.specs.List.{All}
use Rattle.std.proofs.lemmas.Bool.{cases_Bool, cases_eq, eq-eqb, ne_eqb}
use Rattle.std.proofs.lemmas.List.{drop-append-le, length-drop, take-append-le}
use Rattle.std.proofs.lemmas.List.Elements.{All-push}
use Rattle.std.proofs.lemmas.Option.{slice_get-get_or}
use Rattle.lsm_device.proofs.Pieces.{piece_at}
use Rattle.lsm_device.specs.Disk.{Disk, appended, seen, synced}
use Rattle.lsm_device.specs.History.{Becomes, present}
use Rattle.lsm_device.specs.Runs.{pieces}
use Rattle.lsm_mapped.specs.Disks.{IsWithin, after_record, after_records, after_sectors, mapped_sectors}
use Rattle.lsm_mapped.specs.Records.{Record, front, goes_on, last, sync_record, syncs_in, with_sector, with_sync, with_write, write_record, writes_in}
use Rattle.lsm_mapped.proofs.Appending.{going, going-place, parts, write-new, write-on}
use Rattle.lsm_mapped.proofs.Texts.{ends, front-last}

-- ---- what a record more makes

after_records-push : (rs : List Record) (r : Record) (past : List Disk) → after_records (rs ++ r ∷ []) past ≡ after_record r.first r.sectors (after_records rs past)
unfolding after_records
after_records-push [] r past = refl
after_records-push (a ∷ rs) r past = after_records-push rs r (after_record a.first a.sectors past)

after_sectors-push : (at : ℕ) (sectors : List (List ℕ)) (bytes : List ℕ) (past : List Disk) →
    after_sectors at (sectors ++ bytes ∷ []) past ≡ appended (record { at = at + length sectors; bytes = bytes }) (present (after_sectors at sectors past)) ∷ after_sectors at sectors past
unfolding after_sectors
after_sectors-push at [] bytes past = let same : at ≡ at + 0 = omega arith in ap (λ (k : ℕ). appended (record { at = k; bytes = bytes }) (present past) ∷ past) same
after_sectors-push at (s ∷ ss) bytes past =
    let new = appended (record { at = at; bytes = s }) (present past) ∷ past in
    let H = after_sectors (at + 1) ss new in
    let same : at + 1 + length ss ≡ at + length (s ∷ ss) = omega arith in
    after_sectors-push (at + 1) ss bytes new ∙ ap (λ (k : ℕ). appended (record { at = k; bytes = bytes }) (present H) ∷ H) same

record-grown : (first : ℕ) (sectors : List (List ℕ)) (bytes : List ℕ) (past : List Disk) → 0 < length sectors →
    after_record first (sectors ++ bytes ∷ []) past ≡ appended (record { at = first + length sectors; bytes = bytes }) (present (after_record first sectors past)) ∷ after_record first sectors past
unfolding after_record
record-grown first [] bytes past some = absurd (omega (arith, some))
record-grown first (s ∷ ss) bytes past some = after_sectors-push first (s ∷ ss) bytes past

record-new : (at : ℕ) (bytes : List ℕ) (past : List Disk) → after_record at (bytes ∷ []) past ≡ appended (record { at = at; bytes = bytes }) (present past) ∷ past
unfolding after_record after_sectors
record-new at bytes past = refl

record-sync : (first : ℕ) (sectors : List (List ℕ)) (past : List Disk) → length sectors ≡ 0 → after_record first sectors past ≡ synced (present past) ∷ past
unfolding after_record
record-sync first [] past none = refl
record-sync first (s ∷ ss) past none = absurd (omega (arith, none))

-- a write is made after all of them
pub write-made : (at : ℕ) (bytes : List ℕ) (rs : List Record) (past : List Disk) →
    after_records (with_write at bytes rs) past ≡ appended (record { at = at; bytes = bytes }) (present (after_records rs past)) ∷ after_records rs past
write-made at bytes rs past = elim (cases_Bool (goes_on at (last rs).first (length (last rs).sectors))) [
  | inl on ↦
      let r = last rs in
      let H = after_records (front rs) past in
      let old = after_record r.first r.sectors H in
      let some = (going at r.first (length r.sectors) on).0 in
      let is : after_records rs past ≡ old = ap (λ (l : List Record). after_records l past) (sym (ends rs some)) ∙ after_records-push (front rs) r past in
      ap (λ (l : List Record). after_records l past) (write-on at r.first (length r.sectors) bytes rs refl refl on)
      ∙ after_records-push (front rs) (with_sector bytes r) past
      ∙ record-grown r.first r.sectors bytes H some
      ∙ ap (λ (k : ℕ). appended (record { at = k; bytes = bytes }) (present old) ∷ old) (going-place at r.first (length r.sectors) on)
      ∙ ap (λ (h : List Disk). appended (record { at = at; bytes = bytes }) (present h) ∷ h) (sym is)
  | inr off ↦
      ap (λ (l : List Record). after_records l past) (write-new at (last rs).first (length (last rs).sectors) bytes rs refl refl off)
      ∙ after_records-push rs (write_record at bytes) past
      ∙ record-new at bytes (after_records rs past)
]

-- ---- what a sync makes

synced_twice : (now H : List Disk) → now ≡ synced (present H) ∷ H → present now ≡ synced (present now)
synced_twice now H is = ap present is ∙ ap (λ (h : List Disk). synced (present h)) (sym is)

pub sync-made : (rs : List Record) (past : List Disk) → Becomes (synced (present (after_records rs past))) (after_records rs past) (after_records (with_sync rs) past)
unfolding after_records after_record with_sync
sync-made [] past = inl refl
sync-made (r ∷ rs) past = elim (cases_eq (length (last (r ∷ rs)).sectors) 0) [
  | inl none ↦
      let s = last (r ∷ rs) in
      let H = after_records (front (r ∷ rs)) past in
      let is : after_records (r ∷ rs) past ≡ synced (present H) ∷ H =
      ap (λ (l : List Record). after_records l past) (sym (front-last r rs)) ∙ after_records-push (front (r ∷ rs)) s past ∙ record-sync s.first s.sectors H none in
      inr (
        synced_twice (after_records (r ∷ rs) past) H is,
        ap (λ (b : Bool). after_records (if b then r ∷ rs else r ∷ rs ++ sync_record ∷ []) past) (eq-eqb (length s.sectors) 0 none),
      )
  | inr some ↦
      inl (ap (λ (b : Bool). after_records (if b then r ∷ rs else r ∷ rs ++ sync_record ∷ []) past) (ne_eqb (length (last (r ∷ rs)).sectors) 0 some)
      ∙ after_records-push (r ∷ rs) sync_record past)
]

-- ---- what is read where nothing was written

pub unwritten : (rs : List Record) (past : List Disk) → writes_in rs ≡ 0 → seen (present (after_records rs past)) ≡ seen (present past)
unfolding after_records writes_in
unwritten [] past none = refl
unwritten (r ∷ rs) past none =
    let here : length r.sectors ≡ 0 = omega (arith, none) in
    let rest : writes_in rs ≡ 0 = omega (arith, none) in
    unwritten rs (after_record r.first r.sectors past) rest ∙ ap (λ (h : List Disk). seen (present h)) (record-sync r.first r.sectors past here)

pub read-made : (n at : ℕ) (image out : List ℕ) (rs : List Record) (past : List Disk) → writes_in rs ≡ 0 → seen (present past) ≡ mapped_sectors n image → at < n → 512 * at + 512 ≤ length image
    → out ≡ take 512 (drop (512 * at) image) → slice_get (seen (present (after_records rs past))) at ≡ Some out
unfolding mapped_sectors
read-made n at image out rs past none shown below there is =
    let zeros : List ℕ = replicate (512 * n) 0 in
    let same : out ≡ take 512 (drop (512 * at) (image ++ zeros)) =
    is ∙ sym (ap (take 512) (drop-append-le (512 * at) image zeros (omega (arith, there))) ∙ take-append-le 512 (drop (512 * at) image) zeros (omega (arith, there, length-drop (512 * at) image))) in
    let place = piece_at n (image ++ zeros) at out below same in
    ap (λ (sectors : List (List ℕ)). slice_get sectors at) (unwritten rs past none ∙ shown)
    ∙ slice_get-get_or (pieces n (image ++ zeros)) at [] place.0 ∙ ap (λ (l : List ℕ). Some l) (sym place.1)

-- ---- how many there are

length-sectors : (at : ℕ) (sectors : List (List ℕ)) (past : List Disk) → length (after_sectors at sectors past) ≡ length past + length sectors
unfolding after_sectors
length-sectors at [] past = omega arith
length-sectors at (s ∷ ss) past = let rest = length-sectors (at + 1) ss (appended (record { at = at; bytes = s }) (present past) ∷ past) in omega (arith, rest)

length-record : (first : ℕ) (sectors : List (List ℕ)) (past : List Disk) → length (after_record first sectors past) ≡ length past + (length sectors + (if length sectors == 0 then 1 else 0))
unfolding after_record
length-record first [] past = omega arith
length-record first (s ∷ ss) past =
    let k = length (s ∷ ss) in
    let no : (k == 0) ≡ false = ne_eqb k 0 (λ e. omega (arith, e)) in
    let none : k ≡ k + 0 = omega arith in
    length-sectors first (s ∷ ss) past ∙ ap (λ (j : ℕ). length past + j) none ∙ ap (λ (b : Bool). length past + (k + (if b then 1 else 0))) (sym no)

pub many : (rs : List Record) (past : List Disk) → length (after_records rs past) ≡ length past + writes_in rs + syncs_in rs
unfolding after_records writes_in syncs_in
many [] past = omega arith
many (r ∷ rs) past =
    let rest = many rs (after_record r.first r.sectors past) in
    omega (arith, rest, length-record r.first r.sectors past)

-- ---- they are within the device

pub within-write : (n at : ℕ) (bytes : List ℕ) (rs : List Record) → All (IsWithin n) rs → at < n → All (IsWithin n) (with_write at bytes rs)
within-write n at bytes rs all below = elim (cases_Bool (goes_on at (last rs).first (length (last rs).sectors))) [
  | inl on ↦
      let r = last rs in
      let some = (going at r.first (length r.sectors) on).0 in
      let split = parts (IsWithin n) (front rs) r (subst (All (IsWithin n)) (sym (ends rs some)) all) in
      let one : IsWithin n (with_sector bytes r) = omega (arith, going-place at r.first (length r.sectors) on, below, length-append r.sectors (bytes ∷ [])) in
      subst (All (IsWithin n)) (sym (write-on at r.first (length r.sectors) bytes rs refl refl on)) (All-push (IsWithin n) (front rs) (with_sector bytes r) split.0 one)
  | inr off ↦
      let one : IsWithin n (write_record at bytes) = omega (arith, below) in
      subst (All (IsWithin n)) (sym (write-new at (last rs).first (length (last rs).sectors) bytes rs refl refl off)) (All-push (IsWithin n) rs (write_record at bytes) all one)
]

pub within-sync : (n : ℕ) (rs : List Record) → All (IsWithin n) rs → All (IsWithin n) (with_sync rs)
unfolding with_sync
within-sync n [] all = let one : IsWithin n sync_record = omega arith in All-push (IsWithin n) [] sync_record all one
within-sync n (r ∷ rs) all = elim (cases_Bool (length (last (r ∷ rs)).sectors == 0)) [
  | inl on ↦ subst (λ (b : Bool). All (IsWithin n) (if b then r ∷ rs else r ∷ rs ++ sync_record ∷ [])) (sym on) all
  | inr off ↦
      let one : IsWithin n sync_record = omega arith in
      subst (λ (b : Bool). All (IsWithin n) (if b then r ∷ rs else r ∷ rs ++ sync_record ∷ [])) (sym off) (All-push (IsWithin n) (r ∷ rs) sync_record all one)
]

-- whatever is so of the records as they were, and of those with one more, is so of what a call leaves
pub left_within : (n : ℕ) (ok : Bool) (old more new : List Record) → All (IsWithin n) old → All (IsWithin n) more → (ok ≡ true → new ≡ more) → (ok ≡ false → new ≡ old) → All (IsWithin n) new
left_within n true old more new was will done kept = subst (All (IsWithin n)) (sym (done refl)) will
left_within n false old more new was will done kept = subst (All (IsWithin n)) (sym (kept refl)) was
