-- A call of a host begins where the one before it ended.
use Rattle.std.proofs.Common.{◌≡◌, ◌∙◌, ◌+◌, ℕ, List, [], ◌∷◌, ◌++◌, refl, sym, ap, subst}
use Rattle.std.proofs.lemmas.List.{append_assoc}
use Rattle.lsm_device.specs.Disk.{Disk, appended, synced}
use Rattle.lsm_device.specs.History.{IsHistory, present}
use Rattle.lsm_mapped.specs.Disks.{after_record, after_records, after_sectors, mapped}
use Rattle.lsm_mapped.specs.Records.{Record}
use Rattle.lsm_mapped.specs.Sound.{records_sound}
use Rattle.lsm_store.specs.Backing.{IsBacked, IsRunOn, StoreView}
use Rattle.corwaphi_c.specs.Calls.{lent_to}
use Rattle.corwaphi_c.specs.Laws.{BacksNext, PassesThrough, ShowsNext}

pub shows_next : ShowsNext
shows_next n image next loan history past w shown = record {
  disks = subst (IsHistory n) (sym w.made) (records_sound n w.records loan.past w.filled.within w.filled.whole past.disks);
  shown = shown;
}

-- ---- the device backs the store

runs_on : (s : StoreView) (n name : ℕ) → IsRunOn s → IsRunOn (record s { device = mapped n s.device.history name })
runs_on s n name r = record { stored = r.stored; sound = r.sound; sealed = r.sealed; logged = r.logged; tables = r.tables; apart = r.apart; fresh = r.fresh; unasked = r.unasked }

backs_on : (s : StoreView) (n name : ℕ) → IsBacked s → IsBacked (record s { device = mapped n s.device.history name })
backs_on s n name b = record { tells = refl; crashes = b.crashes; reads = b.reads; runs = λ running. runs_on s n name (b.runs running) }

pub backs_next : BacksNext
backs_next left parked name back b =
    subst (λ (t : StoreView). IsBacked (lent_to left.device.history name t)) (sym back.is) (backs_on left parked.device.size name b)

-- ---- the disks of a host on its way

abbrev Grows : List Disk → List Disk → Type 0
Grows old new = (changes : List Disk) × (new ≡ changes ++ old)

longer : (old mid new : List Disk) → Grows old mid → Grows mid new → Grows old new
longer old mid new (first, was) (later, is) = (later ++ first, is ∙ ap (λ (l : List Disk). later ++ l) was ∙ sym (append_assoc later first old))

sectors_grow : (at : ℕ) (sectors : List (List ℕ)) (past : List Disk) → Grows past (after_sectors at sectors past)
unfolding after_sectors
sectors_grow at [] past = ([], refl)
sectors_grow at (bytes ∷ rest) past =
    let one = appended (record { at = at; bytes = bytes }) (present past) in
    longer past (one ∷ past) (after_sectors (at + 1) rest (one ∷ past)) (one ∷ [], refl) (sectors_grow (at + 1) rest (one ∷ past))

record_grows : (first : ℕ) (sectors : List (List ℕ)) (past : List Disk) → Grows past (after_record first sectors past)
unfolding after_record
record_grows first [] past = (synced (present past) ∷ [], refl)
record_grows first (bytes ∷ rest) past = sectors_grow first (bytes ∷ rest) past

records_grow : (rs : List Record) (past : List Disk) → Grows past (after_records rs past)
unfolding after_records
records_grow [] past = ([], refl)
records_grow (r ∷ rs) past =
    let mid = after_record r.first r.sectors past in
    longer past mid (after_records rs mid) (record_grows r.first r.sectors past) (records_grow rs mid)

pub passes_through : PassesThrough
unfolding after_records
passes_through [] left past = records_grow left past
passes_through (r ∷ rs) left past = passes_through rs left (after_record r.first r.sectors past)
