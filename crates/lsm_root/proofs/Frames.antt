-- What a root depends on, and what leaves it.
use Rattle.std.proofs.Common.{◌≡◌, ◌⊎◌, inl, inr, ⊎_elim, ℕ, ◌+◌, ◌-◌, ◌%◌, ◌<◌, ◌≤◌, Bool, cond, ◌==◌, nat_lt, List, [], ◌∷◌, ◌++◌, length, take, drop, get_or, set, All, Some, refl, sym, ◌∙◌, ap, subst, arith}
use Rattle.std.proofs.lemmas.List.{get_or-take, take-take, drop-take, drop-drop, get_or-set_same, get_or-set_other, length-set, take-set-le, drop-set-lt, drop_at, take_at, length-take-le}
use Rattle.std.proofs.lemmas.List.Elements.{All-nil, All-head, All-tail, All-append, All-weaker}
use Rattle.std.proofs.lemmas.Bool.{eq-eqb, cond-true, cond-false, le-ltb, cases_lt}
use Rattle.lsm_codec.specs.declared.superblock.FormatVersion.TheVariants.{Two}
use Rattle.lsm_codec.specs.declared.superblock.Superblock.{Superblock}
use Rattle.lsm_codec.specs.Superblocks.{IsSuperblock, superblock_sector}
use Rattle.lsm_codec.specs.Manifests.{Contents}
use Rattle.lsm_device.specs.Areas.{area}
use Rattle.lsm_device.specs.Disk.{Disk, Write, written, seen, kept, image, synced}
use Rattle.lsm_device.specs.Memory.{length-written}
use Rattle.lsm_device.specs.Runs.{run_at, grown}
use Rattle.lsm_device.proofs.Outcomes.{Within, All-kept_of, seen-grown}
use Rattle.lsm_device.proofs.Runs.{written-run_at}
use Rattle.lsm_codec.specs.Manifests.{manifest_of}
use Rattle.lsm_root.specs.Pieces.{joined}
use Rattle.lsm_root.specs.Layout.{LieInside, place, behind}
use Rattle.lsm_root.specs.Roots.{Reading, Blank, Broken, Names, reading_of, in_slot, newer, sector_at, superblock_in, text_in, Root, Stands, OtherSize, Unreadable, may_name, root_with, root_by, root_of}
use Rattle.lsm_root.specs.Installed.{IsNext, IsSettled, IsReady}
use Rattle.lsm_root.proofs.Readings.{FitsLimits, placed, spelled_in_slot}
use Rattle.lsm_root.proofs.Newer.{newer_fits, even_switch, odd_switch}
use Rattle.lsm_root.proofs.Naming.{may_name-Decides}

abbrev pub Image : Type 0
Image = List (List ℕ)

-- what is below all the writes
take-written : (n : ℕ) (start : Image) (ws : List Write) → All (λ w. n ≤ w.at) ws → take n (written start ws) ≡ take n start
take-written n start [] all = refl
take-written n start (w ∷ ws) all =
    take-written n (set start w.at w.bytes) ws (All-tail (λ (v : Write). n ≤ v.at) w ws all) ∙ take-set-le n start w.at w.bytes (All-head (λ (v : Write). n ≤ v.at) w ws all)

-- what is above all the writes
drop-written : (n : ℕ) (start : Image) (ws : List Write) → All (λ w. w.at < n) ws → drop n (written start ws) ≡ drop n start
drop-written n start [] all = refl
drop-written n start (w ∷ ws) all =
    drop-written n (set start w.at w.bytes) ws (All-tail (λ (v : Write). v.at < n) w ws all) ∙ drop-set-lt n start w.at w.bytes (All-head (λ (v : Write). v.at < n) w ws all)

pub same_length : (start : Image) (ws : List Write) → length (written start ws) ≡ length start
same_length start ws = length-written (length start) start ws refl

-- the same below n: the same in each area below n
area_below : (n from count : ℕ) (c e : Image) → take n c ≡ take n e → from + count ≤ n → area from count c ≡ area from count e
area_below n from count c e same le =
    sym (drop-take from count c)
    ∙ ap (λ (l : Image). drop from l) (sym (take-take (from + count) n c le) ∙ ap (λ (l : Image). take (from + count) l) same ∙ take-take (from + count) n e le)
    ∙ drop-take from count e

-- the same from n on: the same from each place after n on
pub drop_above : (n from : ℕ) (c e : Image) → drop n c ≡ drop n e → n ≤ from → drop from c ≡ drop from e
drop_above n from c e same le =
    let there : n + (from - n) ≡ from = omega arith in
    ap (λ (k : ℕ). drop k c) (sym there) ∙ sym (drop-drop (from - n) n c) ∙ ap (λ (l : Image). drop (from - n) l) same ∙ drop-drop (from - n) n e ∙ ap (λ (k : ℕ). drop k e) there

sector_below : (n i : ℕ) (c e : Image) → take n c ≡ take n e → i < n → sector_at c i ≡ sector_at e i
sector_below n i c e same lt = sym (get_or-take n c i [] lt) ∙ ap (λ (l : Image). get_or l i []) same ∙ get_or-take n e i [] lt

parity : (h : ℕ) → (h % 2 ≡ 0) ⊎ (h % 2 ≡ 1)
parity h = ⊎_elim (λ (lt : h % 2 < 1). inl (omega arith)) (λ (le : 1 ≤ h % 2). inr (omega arith)) (cases_lt (h % 2) 1)

-- a superblock that counts is within the limits
pub counted_fits : (image : Image) (s : Superblock) → superblock_in image ≡ Names s → IsSuperblock s
counted_fits image s is = subst FitsLimits is (newer_fits (in_slot 0 (reading_of (sector_at image 0))) (in_slot 1 (reading_of (sector_at image 1))) (placed 0 (sector_at image 0)).fits (placed 1 (sector_at image 1)).fits)

-- a root is the superblock that counts and its manifest
by_same : (r : Reading) (c e : Image) → length c ≡ length e → ((s : Superblock) → r ≡ Names s → text_in s c ≡ text_in s e) → root_by r c ≡ root_by r e
by_same Blank c e long text = refl
by_same Broken c e long text = refl
by_same (Names s) c e long text =
    ap (λ (n : ℕ). cond (s.sectors == n) (root_with s (manifest_of s.version (text_in s c))) OtherSize) long
    ∙ ap (λ (l : List ℕ). cond (s.sectors == length e) (root_with s (manifest_of s.version l)) OtherSize) (text s refl)

text_same : (s : Superblock) (c e : Image) → IsSuperblock s → area (place s.generation) 64 c ≡ area (place s.generation) 64 e → text_in s c ≡ text_in s e
text_same s c e fits same =
    ap joined (sym (take-take s.manifest_sectors 64 (drop (place s.generation) c) fits.manifest_high) ∙ ap (λ (l : Image). take s.manifest_sectors l) same ∙ take-take s.manifest_sectors 64 (drop (place s.generation) e) fits.manifest_high)

superblocks_same : (c e : Image) → sector_at c 0 ≡ sector_at e 0 → sector_at c 1 ≡ sector_at e 1 → superblock_in c ≡ superblock_in e
superblocks_same c e zeroth first = ap (λ (s : List ℕ). newer (in_slot 0 (reading_of s)) (in_slot 1 (reading_of (sector_at c 1)))) zeroth ∙ ap (λ (s : List ℕ). newer (in_slot 0 (reading_of (sector_at e 0))) (in_slot 1 (reading_of s))) first

root_same : (c e : Image) → length c ≡ length e → superblock_in c ≡ superblock_in e → ((s : Superblock) → superblock_in e ≡ Names s → area (place s.generation) 64 c ≡ area (place s.generation) 64 e) → root_of c ≡ root_of e
root_same c e long same there =
    let by : root_by (superblock_in c) c ≡ root_by (superblock_in e) e = ap (λ (r : Reading). root_by r c) same ∙ by_same (superblock_in e) c e long (λ s is. text_same s c e (counted_fits e s is) (there s is)) in
    ap (λ (n : ℕ). cond (nat_lt n 2) OtherSize (root_by (superblock_in c) c)) long ∙ ap (λ (r : Root). cond (nat_lt (length e) 2) OtherSize r) by

-- a device with place for two superblocks
pub root_whole : (image : Image) → 2 ≤ length image → root_of image ≡ root_by (superblock_in image) image
root_whole image le = cond-false (nat_lt (length image) 2) OtherSize (root_by (superblock_in image) image) (le-ltb (length image) 2 le)

-- a root depends on the first 130 sectors alone, and on how many there are
module _ (c e : Image) (long : length c ≡ length e) (same : take 130 c ≡ take 130 e) where
  pub superblock_below : superblock_in c ≡ superblock_in e
  superblock_below = superblocks_same c e (sector_below 130 0 c e same (omega arith)) (sector_below 130 1 c e same (omega arith))

  pub root_below : root_of c ≡ root_of e
  root_below = root_same c e long superblock_below (λ s is. area_below 130 (place s.generation) 64 c e same (omega arith))

-- the writes of the next manifest
abbrev pub InArea : ℕ → Write → Type 0
InArea g = Within (place g) (place g + 64)

module _ (g : ℕ) (e : Image) (ws : List Write) (inside : All (InArea g) ws) where
  below : take (place g) (written e ws) ≡ take (place g) e
  below = take-written (place g) e ws (All-weaker (InArea g) (λ (w : Write). place g ≤ w.at) (λ w is. is.0) ws inside)

  above : drop (place g + 64) (written e ws) ≡ drop (place g + 64) e
  above = drop-written (place g + 64) e ws (All-weaker (InArea g) (λ (w : Write). w.at < place g + 64) (λ w is. is.1) ws inside)

  pub superblock_stays : superblock_in (written e ws) ≡ superblock_in e
  superblock_stays = superblocks_same (written e ws) e (sector_below (place g) 0 (written e ws) e below (omega arith)) (sector_below (place g) 1 (written e ws) e below (omega arith))

  -- they leave what is after the root
  pub behind_stays : behind (written e ws) ≡ behind e
  behind_stays = drop_above (place g + 64) 130 (written e ws) e above (omega arith)

  other_area : (h : ℕ) → g ≡ h + 1 → area (place h) 64 (written e ws) ≡ area (place h) 64 e
  other_area h is = ⊎_elim
      (λ (even : h % 2 ≡ 0). area_below (place g) (place h) 64 (written e ws) e below (omega (arith, is, even)))
      (λ (odd : h % 2 ≡ 1). ap (λ (l : Image). take 64 l) (drop_above (place g + 64) (place h) (written e ws) e above (omega (arith, is, odd))))
      (parity h)

  -- they leave the root that stands
  pub root_stays : (size log : ℕ) → IsNext size log g (superblock_in e) → root_of (written e ws) ≡ root_of e
  root_stays size log next =
      root_same (written e ws) e (same_length e ws) superblock_stays (λ s is.
      let after : IsNext size log g (Names s) = subst (IsNext size log g) is next in other_area s.generation after.next)

-- no outcome of a disk has another root than reads give, while no write to the root's sectors pends
module _ (d : Disk) (mask : List Bool) (settled : IsSettled d) where
  front : take 130 (image mask d) ≡ take 130 (seen d)
  front = take-written 130 d.stands (kept mask d.pending) (All-kept_of (λ (w : Write). 130 ≤ w.at) mask d.pending settled) ∙ sym (take-written 130 d.stands d.pending settled)

  long : length (image mask d) ≡ length (seen d)
  long = same_length d.stands (kept mask d.pending) ∙ sym (same_length d.stands d.pending)

  pub root_of_outcome : root_of (image mask d) ≡ root_of (seen d)
  root_of_outcome = root_below (image mask d) (seen d) long front

  pub superblock_of_outcome : superblock_in (image mask d) ≡ superblock_in (seen d)
  superblock_of_outcome = superblock_below (image mask d) (seen d) long front

-- writes after the root leave it
module _ (d : Disk) (ws : List Write) (settled : IsSettled d) (elsewhere : All (λ w. 130 ≤ w.at) ws) where
  pub settled_elsewhere : IsSettled (grown ws d)
  settled_elsewhere = All-append (λ (w : Write). 130 ≤ w.at) d.pending ws settled elsewhere

  same_front : take 130 (seen (grown ws d)) ≡ take 130 (seen d)
  same_front = ap (λ (l : Image). take 130 l) (seen-grown ws d) ∙ take-written 130 (seen d) ws elsewhere

  same_long : length (seen (grown ws d)) ≡ length (seen d)
  same_long = ap length (seen-grown ws d) ∙ same_length (seen d) ws

  pub root_elsewhere : root_of (seen (grown ws d)) ≡ root_of (seen d)
  root_elsewhere = root_below (seen (grown ws d)) (seen d) same_long same_front

  pub superblock_elsewhere : superblock_in (seen (grown ws d)) ≡ superblock_in (seen d)
  superblock_elsewhere = superblock_below (seen (grown ws d)) (seen d) same_long same_front

pub ready_elsewhere : (size log generation : ℕ) (d : Disk) (ws : List Write) → IsReady size log generation d → All (λ w. 130 ≤ w.at) ws → IsReady size log generation (grown ws d)
ready_elsewhere size log generation d ws ready elsewhere = record {
  settled = settled_elsewhere d ws ready.settled elsewhere;
  next = subst (IsNext size log generation) (sym (superblock_elsewhere d ws ready.settled elsewhere)) ready.next;
}

pub ready_synced : (size log generation : ℕ) (d : Disk) → IsReady size log generation d → IsReady size log generation (synced d)
ready_synced size log generation d ready = record { settled = All-nil (λ (w : Write). 130 ≤ w.at); next = ready.next }

-- a run stands where it was written
pub run_stands : (e : Image) (at : ℕ) (sectors : Image) → at + length sectors ≤ length e → area at (length sectors) (written e (run_at at sectors)) ≡ sectors
run_stands e at sectors fits =
    ap (λ (l : Image). take (length sectors) (drop at l)) (written-run_at e at sectors fits)
    ∙ ap (λ (l : Image). take (length sectors) l) (drop_at (take at e) (sectors ++ drop (at + length sectors) e) at (length-take-le at e (omega arith)))
    ∙ take_at sectors (drop (at + length sectors) e) (length sectors) refl

-- the superblock's sector, once it is written
module _ (c : Image) (new : Superblock) (fits : IsSuperblock new) (two : new.version ≡ Two) (sized : length c ≡ new.sectors) where
  switched : Image
  switched = set c (new.generation % 2) (superblock_sector new)

  pub switch_behind : behind (set c (new.generation % 2) (superblock_sector new)) ≡ behind c
  switch_behind = drop-set-lt 130 c (new.generation % 2) (superblock_sector new) (omega arith)

  pub counts : IsNext new.sectors new.log_sectors new.generation (superblock_in c) → superblock_in (set c (new.generation % 2) (superblock_sector new)) ≡ Names new
  counts next = ⊎_elim
      (λ (even : new.generation % 2 ≡ 0). let zeroth : sector_at (set c (new.generation % 2) (superblock_sector new)) 0 ≡ superblock_sector new = ap (λ (i : ℕ). sector_at (set c i (superblock_sector new)) 0) even ∙ get_or-set_same c 0 (superblock_sector new) [] (omega (arith, sized, fits.sectors_low)) in
      let first : sector_at (set c (new.generation % 2) (superblock_sector new)) 1 ≡ sector_at c 1 = ap (λ (i : ℕ). sector_at (set c i (superblock_sector new)) 1) even ∙ get_or-set_other c 0 1 (superblock_sector new) [] (omega arith) in
      ap (λ (s : List ℕ). newer (in_slot 0 (reading_of s)) (in_slot 1 (reading_of (sector_at (set c (new.generation % 2) (superblock_sector new)) 1)))) zeroth
      ∙ ap (λ (s : List ℕ). newer (in_slot 0 (reading_of (superblock_sector new))) (in_slot 1 (reading_of s))) first
      ∙ ap (λ (r : Reading). newer r (in_slot 1 (reading_of (sector_at c 1)))) (spelled_in_slot 0 new fits even)
      ∙ even_switch new.sectors new.log_sectors new refl refl two (in_slot 0 (reading_of (sector_at c 0))) (in_slot 1 (reading_of (sector_at c 1))) (placed 0 (sector_at c 0)) next even)
      (λ (odd : new.generation % 2 ≡ 1). let zeroth : sector_at (set c (new.generation % 2) (superblock_sector new)) 0 ≡ sector_at c 0 = ap (λ (i : ℕ). sector_at (set c i (superblock_sector new)) 0) odd ∙ get_or-set_other c 1 0 (superblock_sector new) [] (omega arith) in
      let first : sector_at (set c (new.generation % 2) (superblock_sector new)) 1 ≡ superblock_sector new = ap (λ (i : ℕ). sector_at (set c i (superblock_sector new)) 1) odd ∙ get_or-set_same c 1 (superblock_sector new) [] (omega (arith, sized, fits.sectors_low)) in
      ap (λ (s : List ℕ). newer (in_slot 0 (reading_of s)) (in_slot 1 (reading_of (sector_at (set c (new.generation % 2) (superblock_sector new)) 1)))) zeroth
      ∙ ap (λ (s : List ℕ). newer (in_slot 0 (reading_of (sector_at c 0))) (in_slot 1 (reading_of s))) first
      ∙ ap (λ (r : Reading). newer (in_slot 0 (reading_of (sector_at c 0))) r) (spelled_in_slot 1 new fits odd)
      ∙ odd_switch new.sectors new.log_sectors new refl refl two (in_slot 0 (reading_of (sector_at c 0))) (in_slot 1 (reading_of (sector_at c 1))) (placed 1 (sector_at c 1)) next odd)
      (parity new.generation)

  -- the root is then what the area of its generation says
  pub switch_names : IsNext new.sectors new.log_sectors new.generation (superblock_in c) → root_of (set c (new.generation % 2) (superblock_sector new)) ≡ root_with new (manifest_of new.version (text_in new c))
  switch_names next =
      root_whole (set c (new.generation % 2) (superblock_sector new)) (omega (arith, length-set c (new.generation % 2) (superblock_sector new), sized, fits.sectors_low))
      ∙ ap (λ (r : Reading). root_by r (set c (new.generation % 2) (superblock_sector new))) (counts next)
      ∙ cond-true (new.sectors == length (set c (new.generation % 2) (superblock_sector new))) _ OtherSize (eq-eqb _ _ (sym (length-set c (new.generation % 2) (superblock_sector new) ∙ sized)))
      ∙ ap (λ (l : Image). root_with new (manifest_of new.version (joined (take new.manifest_sectors l)))) (drop-set-lt (place new.generation) c (new.generation % 2) (superblock_sector new) (omega arith))

  pub switch_root : (m : Contents) → IsNext new.sectors new.log_sectors new.generation (superblock_in c) → manifest_of new.version (text_in new c) ≡ Some m → m.generation ≡ new.generation → LieInside new.sectors new.log_sectors m.tables
      → root_of (set c (new.generation % 2) (superblock_sector new)) ≡ Stands new.log_sectors m
  switch_root m next reads same inside =
      switch_names next
      ∙ ap (root_with new) reads
      ∙ cond-true (may_name new m) (Stands new.log_sectors m) Unreadable ((may_name-Decides new m).1 (same, inside))
