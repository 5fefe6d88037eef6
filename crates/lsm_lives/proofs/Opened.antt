-- An opening on a device, and a life from there until its crash.
use Rattle.std.proofs.lemmas.Bool.{cases_lt}
use Rattle.std.proofs.Common.{⊎_elim, arith, ◌≡◌, ◌⊎◌, inl, inr, ℕ, List, [], ◌∷◌, Option, None, Some, Result, Ok, Err, refl, ap, sym, subst, ◌∙◌}
use Rattle.std.specs.Prelude.{IsTrue, IfOk, IfErr, MatchResult}
use Rattle.lsm_device.specs.declared.refusal.Refusal.{Refusal}
use Rattle.lsm_device.specs.declared.refusal.Refusal.TheVariants.{NoMemory, Io, BadGeometry}
use Rattle.lsm_device.specs.Calls.{AtMost, faults_after}
use Rattle.lsm_device.specs.Disk.{seen}
use Rattle.lsm_device.specs.Medium.{Medium, Lasting, KeepsFuse, disk}
use Rattle.lsm_device.specs.Refusals.{is_no_fault}
use Rattle.lsm_root.specs.CrashState.{CrashState}
use Rattle.lsm_open.specs.Image.{StandFor}
use Rattle.lsm_open.specs.RefusedOpenings.{opening_refusal}
use Rattle.lsm_open.specs.Recovering.{BeginsWithSync, FailsToOpen}
use Rattle.lsm_root.specs.Layout.{IsDeviceSize}
use Rattle.lsm_root.proofs.Openings.{same_again}
use Rattle.lsm_store.specs.Backing.{StoreView}
use Rattle.lsm_machine.specs.Calls.{Number, Done, Value, Rows, Given, Handed, Refused, Unread}
use Rattle.lsm_machine.specs.RecoveryPoints.{batch_count}
use Rattle.lsm_store.specs.Serving.{OpensTo, ReopensTo, IsUncalled, IsRefusedBehindSync}
use Rattle.lsm_lives.specs.Leading.{BeginsOn, FailsOn, IsLed, HasNewCache, with_fuse}
use Rattle.lsm_lives.specs.Asked.{Asked, Told, Replied, Built, told_stopped}
use Rattle.lsm_lives.specs.Replaying.{MakesEach}
use Rattle.lsm_lives.proofs.Steps.{replayed, go_on}

-- ---- openings

-- a store that was not opened for want of memory
pub not_opened : (before : Medium) → FailsOn before NoMemory before
not_opened before = record {
  size = λ other. inl refl;
  reason = λ size. inr (inl refl);
  fault = refl;
  called = inl refl;
  fails = λ log_sectors left is. record {
    fair = tt;
    again = (left, same_again left, is);
    crash = inl refl;
  };
  same_size = refl;
  same_lasting = refl;
}

-- a size is one of a device, or isn't
sized_or_not : (n : ℕ) → IsDeviceSize n ⊎ (IsDeviceSize n → ⊥)
sized_or_not n = ⊎_elim (λ small. inr (λ d. omega (arith, small, d.low)))
    (λ low. ⊎_elim (λ large. inr (λ d. omega (arith, large, d.high))) (λ high. inl (record { low = low; high = high })) (cases_lt 1048576 n)) (cases_lt n 8192)

-- a size that isn't no size of a device is one
sized : (n : ℕ) → ((IsDeviceSize n → ⊥) → ⊥) → IsDeviceSize n
sized n not = ⊎_elim (λ fits. fits) (λ other. absurd (not other)) (sized_or_not n)

module _ {X : Type 0} (medium : X → Medium) (start : X) where
  abbrev began : Medium
  began = medium start

  abbrev held : List (List ℕ)
  held = seen (disk (medium start))

  failed : Result StoreView (Refusal × X) → Refusal × X
  failed (Ok s) = (BadGeometry, start)
  failed (Err e) = e

  -- what an opening answers
  pub opening : IsTrue (medium start).lasting.tells → (r : Result StoreView (Refusal × X))
      → ((IsDeviceSize began.size → ⊥) → r ≡ Err (BadGeometry, start))
      → (IsDeviceSize began.size → MatchResult r (λ s. opening_refusal held ≡ None) (λ e. (opening_refusal held ≡ Some e.0) ⊎ ((e.0 ≡ NoMemory) ⊎ (e.0 ≡ Io))))
      → IfOk r (λ s. ReopensTo began s)
      → IfOk r HasNewCache
      → ((log_sectors : ℕ) (left : CrashState) → StandFor log_sectors left held → IfOk r (λ s. OpensTo began log_sectors left s))
      → ((log_sectors : ℕ) (left : CrashState) → StandFor log_sectors left held → IfErr r (λ e. FailsToOpen began log_sectors left e.0 (medium e.1)))
      → MatchResult r (λ s. s.device.calls.faults ≡ began.calls.faults) (λ e. (medium e.1).calls.faults ≡ faults_after (is_no_fault e.0) began.calls.faults)
      → IfOk r (λ s. AtMost 587842 42 3 began.calls s.device.calls)
      → (IsDeviceSize began.size → MatchResult r (λ s. BeginsWithSync began.calls s.device.calls) (λ e. IsUncalled e.0 began (medium e.1) ⊎ IsRefusedBehindSync began e.0 (medium e.1)))
      → MatchResult r (λ s. s.device.size ≡ began.size) (λ e. (medium e.1).size ≡ began.size)
      → MatchResult r (λ s. s.device.lasting ≡ began.lasting) (λ e. (medium e.1).lasting ≡ began.lasting)
      → MatchResult r (λ s. BeginsOn began s) (λ e. FailsOn began e.0 (medium e.1))
  unfolding failed
  opening tells (Ok s) size refusal reopens cache opens fails faults calls called same_size lasting =
      let none : (e : Refusal × X) → Ok s ≡ Err e → ⊥ = λ e is. subst (λ (r : Result StoreView (Refusal × X)). MatchResult r (λ _. Unit {0}) (λ _. ⊥)) is tt in
      let fits = sized began.size (λ other. none (BadGeometry, start) (size other)) in
      record {
        size = fits;
        unrefused = refusal fits;
        reopens = reopens;
        opens = opens;
        cache = cache;
        no_fault = faults;
        calls = calls;
        same_size = same_size;
        same_lasting = lasting;
      }
  opening tells (Err e) size refusal reopens cache opens fails faults calls called same_size lasting = record {
    size = λ other. inr (ap (λ (r : Result StoreView (Refusal × X)). (failed r).0) (size other));
    reason = refusal;
    fault = faults;
    called = ⊎_elim (λ fits. ⊎_elim (λ uncalled. inl uncalled.1) (λ behind. inr (record { size = fits; begins = behind.begins; unwritten = behind.unwritten; settled = behind.settled tells })) (called fits))
        (λ other. inl (ap (λ (r : Result StoreView (Refusal × X)). medium (failed r).1) (size other))) (sized_or_not began.size);
    fails = fails;
    same_size = same_size;
    same_lasting = lasting;
  }

-- ---- a life until its crash

module _ (before : Medium) (asked : List Asked) (told : List Told) (after : Medium) where
  -- the store was opened and made the steps
  pub led_opened : (s end : StoreView) (more : List Told) (n : ℕ) → BeginsOn before s → MakesEach [] s asked more end → after ≡ end.device
      → n ≡ batch_count s.state.points → told ≡ Replied (Number n) ∷ more → IsLed before asked told after
  led_opened s end more n begins makes into counted is = subst (λ (all : List Told). IsLed before asked all after) (sym is) (s, begins, counted, end, makes, into)

  -- its opening was refused
  pub led_refused : (refusal : Refusal) → FailsOn before refusal after → told ≡ Replied (Refused refusal) ∷ told_stopped asked → IsLed before asked told after
  led_refused refusal fails is = subst (λ (all : List Told). IsLed before asked all after) (sym is) (fails, refl)

-- ---- its fuse

-- nothing that is done in a life changes what lasts
lasting_in : (before : Medium) (asked : List Asked) (told : List Told) (after : Medium) → IsLed before asked told after → after.lasting ≡ before.lasting
lasting_in before asked (Replied (Number n) ∷ more) after (s, begins, counted, end, makes, into) =
    let run = replayed [] s asked more end makes in
    ap (λ (m : Medium). m.lasting) into ∙ (go_on s run.steps run.replies end run.replays).same_lasting ∙ begins.same_lasting
lasting_in before asked (Replied (Refused e) ∷ more) after (fails, stopped) = fails.same_lasting
lasting_in before asked (Replied Done ∷ more) after led = absurd led
lasting_in before asked (Replied (Value v) ∷ more) after led = absurd led
lasting_in before asked (Replied (Rows page) ∷ more) after led = absurd led
lasting_in before asked (Replied (Given job) ∷ more) after led = absurd led
lasting_in before asked (Replied Unread ∷ more) after led = absurd led
lasting_in before asked (Replied (Handed input) ∷ more) after led = absurd led
lasting_in before asked (Built number tables ∷ more) after led = absurd led
lasting_in before asked [] after led = absurd led

none_set : (n : ℕ) → None ≡ Some n → ⊥
none_set n is = cc

-- so the fuse that it set bounds what passes
fuse_bounds : (fuse : Option ℕ) (before after : Medium) → after.lasting ≡ (with_fuse fuse before).lasting → KeepsFuse after.lasting.fuse_set after.calls → KeepsFuse fuse after.calls
fuse_bounds None before after same keeps = record { at_most = λ n is. absurd (none_set n is) }
fuse_bounds (Some n) before after same keeps = subst (λ (set : Option ℕ). KeepsFuse set after.calls) (ap (λ (l : Lasting). l.fuse_set) same) keeps

pub fuse_kept : (fuse : Option ℕ) (before : Medium) (asked : List Asked) (told : List Told) (after : Medium) → IsLed (with_fuse fuse before) asked told after
    → KeepsFuse after.lasting.fuse_set after.calls → KeepsFuse fuse after.calls
fuse_kept fuse before asked told after led keeps = fuse_bounds fuse before after (lasting_in (with_fuse fuse before) asked told after led) keeps
