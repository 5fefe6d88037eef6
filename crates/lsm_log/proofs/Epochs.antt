-- Which epochs the sectors of an area are of.
use Rattle.std.proofs.Common.{◌≡◌, ⊎_elim, ℕ, zero, suc, ◌+◌, ◌-◌, ◌<◌, ◌≤◌, Bool, true, false, List, [], ◌∷◌, take, drop, get_or, replicate, length, Some, None, refl, sym, ◌∙◌, ap, subst, arith}
use Rattle.std.specs.Prelude.{Option, All}
use Rattle.std.proofs.lemmas.List.{take-take, drop-drop}
use Rattle.std.proofs.lemmas.List.Elements.{All-nil, All-cons, All-head, All-tail, All-take, All-drop, All-append, All-set, All-weaker}
use Rattle.std.proofs.lemmas.Bool.{ltb-false, le-ltb, eqb-true, ne_eqb, cases_Bool}
use Rattle.lsm_codec.specs.LogSectors.{Part, log_sector, part_of}
use Rattle.lsm_codec.proofs.LogSectorLaws.{log_sector_format}
use Rattle.lsm_device.specs.Disk.{Disk, Write, written, kept, synced}
use Rattle.lsm_device.specs.Areas.{area, disk_in, is_in, writes_in, IsOutside}
use Rattle.lsm_device.specs.Outcomes.{Leaves}
use Rattle.lsm_device.specs.Runs.{grown}
use Rattle.lsm_device.proofs.Areas.{mask_in, area-image, disk_in-synced, disk_in-grown, writes_in-none, writes_in-inside, writes_in-outside}
use Rattle.lsm_device.proofs.Outcomes.{All-kept_of}
use Rattle.lsm_log.specs.declared.log.Log.{Log}
use Rattle.lsm_log.specs.Opened.{has_epoch, is_of, HasNone, has_epoch_above, is_above, HasNoneAbove, NoneAboveIn, IsFree, IsOfLog, IsGrownBy}

abbrev Sectors : Type 0
Sectors = List (List ℕ)

-- a sector of zeros is no log sector
blank_is_none : part_of (replicate {A = ℕ} 512 0) ≡ None
unfolding log_sector
blank_is_none = by_answer (part_of (replicate {A = ℕ} 512 0)) refl
  where
    first_byte : (p : Part) → get_or (log_sector p) 0 0 ≡ 76
    first_byte p = refl

    by_answer : (o : Option Part) → part_of (replicate {A = ℕ} 512 0) ≡ o → o ≡ None
    by_answer None is = refl
    by_answer (Some p) is =
        let spelled : replicate {A = ℕ} 512 0 ≡ log_sector p = (log_sector_format.spelled (replicate {A = ℕ} 512 0) p is).1 in
        let wrong : 0 ≡ 76 = ap (λ (s : List ℕ). get_or s 0 0) spelled ∙ first_byte p in
        absurd (omega (arith, wrong))

pub blank_is_not_above : (generation : ℕ) → is_above generation (replicate {A = ℕ} 512 0) ≡ false
blank_is_not_above generation = ap (has_epoch_above generation) blank_is_none

-- where there is no epoch above the generation, there is none of a later one
none_of_later : (generation epoch : ℕ) → generation < epoch → (sectors : Sectors) → HasNoneAbove generation sectors → HasNone epoch sectors
none_of_later generation epoch later sectors none = All-weaker (λ (s : List ℕ). is_above generation s ≡ false) (λ (s : List ℕ). is_of epoch s ≡ false) (λ s is. other (part_of s) is) sectors none
  where
    other : (o : Option Part) → has_epoch_above generation o ≡ false → has_epoch epoch o ≡ false
    other None is = refl
    other (Some p) is = ne_eqb p.epoch epoch (λ e. let low : p.epoch ≤ generation = ltb-false generation p.epoch is in absurd (omega (arith, e, low, later)))

-- nor above a higher generation
pub none_above_more : (low high : ℕ) (sectors : Sectors) → low ≤ high → HasNoneAbove low sectors → HasNoneAbove high sectors
none_above_more low high sectors le none = All-weaker (λ (s : List ℕ). is_above low s ≡ false) (λ (s : List ℕ). is_above high s ≡ false) (λ s is. other (part_of s) is) sectors none
  where
    other : (o : Option Part) → has_epoch_above low o ≡ false → has_epoch_above high o ≡ false
    other None is = refl
    other (Some p) is = le-ltb high p.epoch (omega (arith, ltb-false low p.epoch is, le))

-- an area within an area
within : (k m n : ℕ) (ys : Sectors) → k + m ≤ n → take m (drop k (take n ys)) ≡ take m (drop k ys)
within zero m n ys le = take-take m n ys (omega arith)
within (suc k) m zero ys le = absurd (omega arith)
within (suc k) m (suc n) [] le = refl
within (suc k) m (suc n) (y ∷ ys) le = within k m n ys (omega arith)

area_within : (P : List ℕ → Type 0) (from count start n : ℕ) (sectors : Sectors) → from ≤ start → start + n ≤ from + count → All P (area from count sectors) → All P (area start n sectors)
area_within P from count start n sectors low high all =
    let here : take n (drop (start - from) (area from count sectors)) ≡ area start n sectors =
    within (start - from) n count (drop from sectors) (omega (arith, low, high)) ∙ ap (take n) (drop-drop (start - from) from sectors ∙ ap (λ (k : ℕ). drop k sectors) plus) in
    subst (All P) here (All-take P n (drop (start - from) (area from count sectors)) (All-drop P (start - from) (area from count sectors) all))
  where
    plus : from + (start - from) ≡ start
    plus = omega (arith, low)

-- a region where nothing pends is free for a later epoch
pub later_is_free : (generation from count start sectors epoch : ℕ) (d : Disk) → HasNoneAbove generation (area from count d.stands) → from ≤ start → start + sectors ≤ from + count
    → generation < epoch → (disk_in start sectors d).pending ≡ [] → start + sectors ≤ length d.stands → IsFree start sectors epoch d
later_is_free generation from count start sectors epoch d none low high later settled inside = record {
  none = none_of_later generation epoch later (area start sectors d.stands) (area_within (λ s. is_above generation s ≡ false) from count start sectors d.stands low high none);
  settled = settled;
  within = inside;
}

module _ (generation from count : ℕ) where
  abbrev IsNow : List ℕ → Type 0
  IsNow s = is_above generation s ≡ false

  abbrev WritesNow : Write → Type 0
  WritesNow w = is_above generation w.bytes ≡ false

  written_now : (sectors : Sectors) (ws : List Write) → All IsNow sectors → All WritesNow ws → All IsNow (written sectors ws)
  written_now sectors [] now writes = now
  written_now sectors (w ∷ ws) now writes = written_now _ ws (All-set IsNow sectors w.at w.bytes (All-head WritesNow w ws writes) now) (All-tail WritesNow w ws writes)

  writes_in_now : (start n : ℕ) (ws : List Write) → All WritesNow ws → All WritesNow (writes_in start n ws)
  writes_in_now start n [] now = now
  writes_in_now start n (w ∷ ws) now =
      let later = writes_in_now start n ws (All-tail WritesNow w ws now) in
      ⊎_elim
      (λ (is : is_in start n w ≡ true). subst (All WritesNow) (sym (writes_in-inside start n w ws is)) (All-cons WritesNow _ (writes_in start n ws) (All-head WritesNow w ws now) later))
      (λ (is : is_in start n w ≡ false). subst (All WritesNow) (sym (writes_in-outside start n w ws is)) later)
      (cases_Bool (is_in start n w))

  module _ (d : Disk) (none : NoneAboveIn generation from count d) where
    pub above_crash : Leaves (λ image. HasNoneAbove generation (area from count image)) d
    above_crash mask =
        let inside : Disk = disk_in from count d in
        let places : List Bool = mask_in from count mask d.pending in
        subst (All IsNow) (sym (area-image from count mask d)) (written_now inside.stands (kept places inside.pending) none.stands (All-kept_of WritesNow places inside.pending none.pends))

    pub above_sync : NoneAboveIn generation from count (synced d)
    above_sync =
        let inside : Disk = disk_in from count d in
        record {
          stands = subst (λ (e : Disk). All IsNow e.stands) (sym (disk_in-synced from count d)) (written_now inside.stands inside.pending none.stands none.pends);
          pends = All-nil WritesNow;
        }

    above_grown : (ws : List Write) → All WritesNow (writes_in from count ws) → NoneAboveIn generation from count (grown ws d)
    above_grown ws now = record {
      stands = none.stands;
      pends = subst (λ (e : Disk). All WritesNow e.pending) (sym (disk_in-grown from count ws d)) (All-append WritesNow (disk_in from count d).pending (writes_in from count ws) none.pends now);
    }

    pub above_elsewhere : (ws : List Write) → All (IsOutside from count) ws → NoneAboveIn generation from count (grown ws d)
    above_elsewhere ws outside = above_grown ws (subst (All WritesNow) (sym (writes_in-none from count ws outside)) (All-nil WritesNow))

    pub above_by_log : (new : Disk) (log : Log) → log.epoch ≤ generation → IsGrownBy log d new → NoneAboveIn generation from count new
    above_by_log new log reached (ws, of_log, is) = subst (NoneAboveIn generation from count) (sym is) (above_grown ws (writes_in_now from count ws (All-weaker (IsOfLog log) WritesNow now ws of_log)))
      where
        not_above : (o : Option Part) → has_epoch log.epoch o ≡ true → has_epoch_above generation o ≡ false
        not_above None is = refl
        not_above (Some p) is = le-ltb generation p.epoch (omega (arith, eqb-true p.epoch log.epoch is, reached))

        now : (w : Write) → IsOfLog log w → WritesNow w
        now w of = not_above (part_of w.bytes) of.epoch
