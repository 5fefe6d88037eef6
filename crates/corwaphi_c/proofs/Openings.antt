-- What a format and an opening of a device answer, as numbers.
use Rattle.std.proofs.Common.{List, Option, ◌≡◌, ◌⊎◌, ◌↔◌, ◌+◌, ◌*◌, ◌==◌, ℕ, false, [], Some, Result, Ok, Err, None, IsTrue, IfOk, IfErr, ◌∙◌, refl, sym, ap, subst, inl, inr}
use Rattle.std.proofs.lemmas.Bool.{false≢true}
use Rattle.std.specs.Prelude.{MatchResult}
use Rattle.lsm_codec.specs.Geometry.{IsDeviceSize}
use Rattle.lsm_device.specs.Calls.{AtMost, faults_after}
use Rattle.lsm_device.specs.Disk.{Disk, seen}
use Rattle.lsm_device.specs.Medium.{Medium, disk}
use Rattle.lsm_device.specs.Outcomes.{Leaves}
use Rattle.lsm_device.specs.Refusals.{is_no_fault, number_of}
use Rattle.lsm_device.specs.declared.refusal.Refusal.{Refusal}
use Rattle.lsm_device.specs.declared.refusal.Refusal.TheVariants.{BadGeometry, BadLimit, Io, NoMemory}
use Rattle.lsm_mapped.specs.Devices.{medium_on, records_on}
use Rattle.lsm_mapped.specs.Disks.{IsFilledWith, mapped}
use Rattle.lsm_mapped.specs.declared.mapped.MappedDevice.{MappedDevice}
use Rattle.lsm_root.specs.Counted.{CallsMade}
use Rattle.lsm_root.specs.Layout.{IsGeometry}
use Rattle.lsm_root.specs.CrashState.{CrashState, formatted as empty_store}
use Rattle.lsm_open.specs.Formatted.{IsFormatted, handed_back, without_device}
use Rattle.lsm_open.specs.Image.{StandFor}
use Rattle.lsm_open.specs.Recovering.{BeginsWithSync, FailsToOpen, IsOpeningRefusal}
use Rattle.lsm_open.specs.RefusedOpenings.{opening_refusal}
use Rattle.lsm_store.specs.Backing.{StoreView}
use Rattle.lsm_store.specs.Memory.{is_cache_size}
use Rattle.lsm_store.specs.Serving.{IsRefusedBehindSync, IsUncalled, OpensTo, ReopensTo}
use Rattle.corwaphi_c.specs.Calls.{IsMoved}
use Rattle.corwaphi_c.specs.Making.{Formats, FormatsHere, IsKeptOpened, IsOpenedOn, IsRefusedOn, IsUnopened, OpensOn}
use Rattle.corwaphi_c.proofs.Moving.{written}

-- the number of an answer
abbrev pub answer_of : Result (Unit {0}) Refusal → ℕ
answer_of (Ok x) = 0
answer_of (Err e) = number_of e

is_geometry : (e : Refusal) → (e ≡ BadGeometry) ⊎ ((e ≡ NoMemory) ⊎ (e ≡ Io)) → number_of e ≡ 25 → e ≡ BadGeometry
is_geometry e (inl is) n = is
is_geometry e (inr (inl is)) n = absurd (false≢true (ap (λ (k : ℕ). k == 25) (sym (ap number_of is)) ∙ ap (λ (k : ℕ). k == 25) n))
is_geometry e (inr (inr is)) n = absurd (false≢true (ap (λ (k : ℕ). k == 25) (sym (ap number_of is)) ∙ ap (λ (k : ℕ). k == 25) n))

module _ {D : Type 0} (medium : D → Medium) (log : ℕ) (device : D) where
  refused_by : (e : Refusal) (d : D) → (e ≡ BadGeometry) ⊎ ((e ≡ NoMemory) ⊎ (e ≡ Io)) → (IsTrue (is_no_fault e) → d ≡ device) → (e ≡ Io → IsTrue (medium d).calls.last_faulted)
      → ((((number_of e ≡ 25) ⊎ (number_of e ≡ 1)) × (medium d ≡ medium device)) ⊎ ((number_of e ≡ 2) × IsTrue (medium d).calls.last_faulted))
  refused_by e d (inl is) untouched stops = inl (inl (ap number_of is), ap medium (untouched (ap is_no_fault is)))
  refused_by e d (inr (inl is)) untouched stops = inl (inr (ap number_of is), ap medium (untouched (ap is_no_fault is)))
  refused_by e d (inr (inr is)) untouched stops = inr (ap number_of is, stops is)

  pub formats : (result : Result D (Refusal × D))
      → (IsTrue (medium device).lasting.tells → IfOk result (λ made. IsFormatted log (disk (medium made))))
      → (IsTrue (medium device).lasting.tells → IfOk result (λ made. Leaves (StandFor log empty_store) (disk (medium made))))
      → ((without_device result ≡ Err BadGeometry) ↔ (IsGeometry (medium device).size log → ⊥))
      → IfErr (without_device result) (λ e. IsTrue (is_no_fault e) → handed_back result ≡ device)
      → IfErr (without_device result) (λ e. (e ≡ BadGeometry) ⊎ ((e ≡ NoMemory) ⊎ (e ≡ Io)))
      → AtMost 0 (172 + 3 * log) 3 (medium device).calls (medium (handed_back result)).calls
      → IfOk result (λ made. CallsMade (132 + 3 * log) 3 (medium device).calls (medium made).calls)
      → IfErr (without_device result) (λ e. e ≡ Io → IsTrue (medium (handed_back result)).calls.last_faulted)
      → (medium (handed_back result)).size ≡ (medium device).size
      → (medium (handed_back result)).lasting ≡ (medium device).lasting
      → Formats log (answer_of (without_device result)) (medium device) (medium (handed_back result))
  formats (Ok made) empty leaves geometry untouched refused counts calls stops size lasting = record {
    geometry = (λ n. absurd (false≢true (ap (λ (k : ℕ). k == 25) n)), λ no. ap answer_of (geometry.1 no));
    ends = inl (refl, record { made = calls; empty = empty; leaves = leaves });
    counts = counts;
    same_size = size;
    same_lasting = lasting;
  }
  formats (Err (e, d)) empty leaves geometry untouched refused counts calls stops size lasting = record {
    geometry = (λ n. geometry.0 (ap (λ (r : Refusal). Err r) (is_geometry e refused n)), λ no. ap answer_of (geometry.1 no));
    ends = inr (refused_by e d refused untouched stops);
    counts = counts;
    same_size = size;
    same_lasting = lasting;
  }

  pub formats_so : (result shown : Result D (Refusal × D)) (answer : ℕ) → result ≡ shown → answer ≡ answer_of (without_device shown)
      → Formats log (answer_of (without_device result)) (medium device) (medium (handed_back result)) → Formats log answer (medium device) (medium (handed_back shown))
  formats_so result shown answer is told f =
      subst (λ (n : ℕ). Formats log n (medium device) (medium (handed_back shown))) (sym told)
      (subst (λ (r : Result D (Refusal × D)). Formats log (answer_of (without_device r)) (medium device) (medium (handed_back r))) is f)

module _ {D : Type 0} (medium : D → Medium) (cache : ℕ) (device : D) where
  abbrev refused_in : Refusal × D → Result StoreView (Refusal × D) → Refusal × D
  refused_in other (Ok s) = other
  refused_in other (Err e) = e

  abbrev refused : Refusal × D → Result StoreView (Refusal × D)
  refused e = Err e

  so : (e : Refusal) (d : D) (r : Refusal) → refused (e, d) ≡ refused (r, device) → (e ≡ r) × (medium d ≡ medium device)
  so e d r is = (ap (λ (x : Result StoreView (Refusal × D)). (refused_in (e, d) x).0) is, ap (λ (x : Result StoreView (Refusal × D)). medium (refused_in (e, d) x).1) is)

  abbrev pub OpensSo : Result StoreView (Refusal × D) → Type 0
  OpensSo result = MatchResult result (λ s. IsOpenedOn cache (medium device) s) (λ e. IsRefusedOn cache (number_of e.0) (medium device) (medium e.1))

  pub opens : (result : Result StoreView (Refusal × D))
      → (is_cache_size cache ≡ false → result ≡ Err (BadLimit, device))
      → (IsTrue (is_cache_size cache) → (result ≡ Err (BadGeometry, device)) ↔ (IsDeviceSize (medium device).size → ⊥))
      → (IsTrue (is_cache_size cache) → IsDeviceSize (medium device).size → IsTrue (medium device).lasting.tells → MatchResult result
      (λ s. opening_refusal (seen (disk (medium device))) ≡ None)
      (λ e. (opening_refusal (seen (disk (medium device))) ≡ Some e.0) ⊎ ((e.0 ≡ NoMemory) ⊎ (e.0 ≡ Io))))
      → (IsTrue (is_cache_size cache) → IfErr result (λ e. IsOpeningRefusal e.0))
      → (IsTrue (is_cache_size cache) → IsDeviceSize (medium device).size → MatchResult result
      (λ s. BeginsWithSync (medium device).calls s.device.calls)
      (λ e. IsUncalled e.0 (medium device) (medium e.1) ⊎ IsRefusedBehindSync (medium device) e.0 (medium e.1)))
      → IfOk result (λ s. ReopensTo (medium device) s)
      → IfOk result (λ s. s.cache ≡ record { blocks = []; capacity = cache; refusals = 0 })
      → ((log_sectors : ℕ) (left : CrashState) → IsTrue (medium device).lasting.tells → StandFor log_sectors left (seen (disk (medium device))) → IfOk result (λ s. OpensTo (medium device) log_sectors left s))
      → (IsTrue (is_cache_size cache) → (log_sectors : ℕ) (left : CrashState) → IsTrue (medium device).lasting.tells → StandFor log_sectors left (seen (disk (medium device)))
      → IfErr result (λ e. FailsToOpen (medium device) log_sectors left e.0 (medium e.1)))
      → MatchResult result (λ s. s.device.calls.faults ≡ (medium device).calls.faults) (λ e. (medium e.1).calls.faults ≡ faults_after (is_no_fault e.0) (medium device).calls.faults)
      → MatchResult result (λ s. s.device.size ≡ (medium device).size) (λ e. (medium e.1).size ≡ (medium device).size)
      → MatchResult result (λ s. s.device.lasting ≡ (medium device).lasting) (λ e. (medium e.1).lasting ≡ (medium device).lasting)
      → OpensSo result
  opens (Ok s) limit sized held other called reopens blocks opened fails faults size lasting = record { cached = blocks; reopens = reopens; opens = opened; faults = faults; same_size = size; same_lasting = lasting }
  opens (Err (e, d)) limit sized held other called reopens blocks opened fails faults size lasting = record {
    refusal = e;
    is = refl;
    limit = λ no. so e d BadLimit (limit no);
    size = λ fits no. so e d BadGeometry ((sized fits).1 no);
    other = other;
    held = held;
    called = called;
    fails = fails;
    faults = faults;
    same_size = size;
    same_lasting = lasting;
  }

pub refused_so : (cache shown answer : ℕ) (before after : Medium) → answer ≡ shown → IsRefusedOn cache shown before after → IsRefusedOn cache answer before after
refused_so cache shown answer before after told refused = subst (λ (n : ℕ). IsRefusedOn cache n before after) (sym told) refused

pub kept_on : (cache : ℕ) (before after : Medium) (s : StoreView) (kept : Option StoreView) → IsOpenedOn cache before s → ((parked : StoreView) × IsMoved s parked × (kept ≡ Some parked)) → after ≡ s.device
    → OpensOn cache before after kept
kept_on cache before after s kept opened (parked, back, put) on = (s, opened, on, parked, back, put)

pub kept_here : (sectors cache name used : ℕ) (past : List Disk) (journal : List ℕ) (d : MappedDevice) (before : Medium) (kept : Option StoreView) → OpensOn cache before (medium_on d) kept
    → before ≡ mapped sectors past name → IsFilledWith (medium_on d).size used d.bytes.now (records_on d) → (name ≡ d.bytes.ghost_name → journal ≡ d.bytes.now)
    → IsKeptOpened sectors cache (record { past = past; used = used; journal = journal }) kept
kept_here sectors cache name used past journal d before kept (s, opened, on, parked, back, put) is filled ends = record {
  name = name;
  opened = s;
  opens = subst (λ (m : Medium). IsOpenedOn cache m s) is opened;
  written = written sectors name used past journal d before s.device is (record { size = opened.same_size; lasting = opened.same_lasting }) on filled ends;
  parked = parked;
  back = back;
  is = put;
}

pub refused_here : (sectors cache answer name used : ℕ) (past : List Disk) (journal : List ℕ) (d : MappedDevice) (before : Medium) → IsRefusedOn cache answer before (medium_on d)
    → before ≡ mapped sectors past name → IsFilledWith (medium_on d).size used d.bytes.now (records_on d) → (name ≡ d.bytes.ghost_name → journal ≡ d.bytes.now)
    → IsUnopened sectors cache (record { past = past; used = used; journal = journal }) answer
refused_here sectors cache answer name used past journal d before e is filled ends = inr (record {
  name = name;
  after = medium_on d;
  refused = subst (λ (m : Medium). IsRefusedOn cache answer m (medium_on d)) is e;
  written = written sectors name used past journal d before (medium_on d) is (record { size = e.same_size; lasting = e.same_lasting }) refl filled ends;
})

pub formats_here : (sectors log answer name used : ℕ) (past : List Disk) (journal : List ℕ) (d : MappedDevice) (before : Medium) → Formats log answer before (medium_on d) → before ≡ mapped sectors past name
    → IsFilledWith (medium_on d).size used d.bytes.now (records_on d) → (name ≡ d.bytes.ghost_name → journal ≡ d.bytes.now)
    → FormatsHere sectors log answer (record { past = past; used = used; journal = journal })
formats_here sectors log answer name used past journal d before f is filled ends = record {
  name = name;
  after = medium_on d;
  formats = subst (λ (m : Medium). Formats log answer m (medium_on d)) is f;
  written = written sectors name used past journal d before (medium_on d) is (record { size = f.same_size; lasting = f.same_lasting }) refl filled ends;
}
