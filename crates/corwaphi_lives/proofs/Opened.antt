-- An opening of a `Db` on a device.
use Rattle.std.proofs.lemmas.Bool.{cases_lt}
use Rattle.std.proofs.Common.{⊎_elim, arith, ◌≡◌, ◌⊎◌, inl, inr, ℕ, List, None, Some, Result, Ok, Err, ap, subst}
use Rattle.std.specs.Prelude.{IsTrue, IfOk, IfErr, MatchResult}
use Rattle.lsm_device.specs.declared.refusal.Refusal.TheVariants.{NoMemory, Io, BadGeometry}
use Rattle.lsm_device.specs.Calls.{faults_after}
use Rattle.lsm_device.specs.Disk.{seen}
use Rattle.lsm_device.specs.Medium.{Medium, disk}
use Rattle.lsm_device.specs.Refusals.{is_no_fault}
use Rattle.lsm_root.specs.CrashState.{CrashState}
use Rattle.lsm_open.specs.Image.{StandFor}
use Rattle.lsm_open.specs.RefusedOpenings.{opening_refusal}
use Rattle.lsm_open.specs.Recovering.{FailsToOpen}
use Rattle.lsm_root.specs.Layout.{IsDeviceSize}
use Rattle.lsm_store.specs.Backing.{StoreView}
use Rattle.lsm_store.specs.Serving.{IsUncalled, IsRefusedBehindSync}
use Rattle.lsm_lives.specs.Leading.{FailsOn}
use Rattle.corwaphi.specs.Opening.{OpensDb}
use Rattle.corwaphi.specs.declared.open_on_error.OpenOnError.{OpenOnError}
use Rattle.corwaphi_lives.specs.Leading.{BeginsDb}

-- a size is one of a device, or isn't
sized_or_not : (n : ℕ) → IsDeviceSize n ⊎ (IsDeviceSize n → ⊥)
sized_or_not n = ⊎_elim (λ small. inr (λ d. omega (arith, small, d.low)))
    (λ low. ⊎_elim (λ large. inr (λ d. omega (arith, large, d.high))) (λ high. inl (record { low = low; high = high })) (cases_lt 1048576 n)) (cases_lt n 8192)

-- a size that isn't no size of a device is one
sized : (n : ℕ) → ((IsDeviceSize n → ⊥) → ⊥) → IsDeviceSize n
sized n not = ⊎_elim (λ fits. fits) (λ other. absurd (not other)) (sized_or_not n)

module _ {X : Type 0} (medium : X → Medium) (start : X) where
  abbrev began : Medium
  began = medium start

  abbrev held : List (List ℕ)
  held = seen (disk (medium start))

  failed : Result StoreView (OpenOnError X) → OpenOnError X
  failed (Ok s) = record { refusal = BadGeometry; device = start }
  failed (Err e) = e

  -- what an opening answers
  pub opening : IsTrue (medium start).lasting.tells → (r : Result StoreView (OpenOnError X))
      → ((IsDeviceSize began.size → ⊥) → r ≡ Err (record { refusal = BadGeometry; device = start }))
      → (IsDeviceSize began.size → MatchResult r (λ s. opening_refusal held ≡ None) (λ e. (opening_refusal held ≡ Some e.refusal) ⊎ ((e.refusal ≡ NoMemory) ⊎ (e.refusal ≡ Io))))
      → IfOk r (λ s. OpensDb 256 began s)
      → ((log_sectors : ℕ) (left : CrashState) → StandFor log_sectors left held → IfErr r (λ e. FailsToOpen began log_sectors left e.refusal (medium e.device)))
      → IfErr r (λ e. (medium e.device).calls.faults ≡ faults_after (is_no_fault e.refusal) began.calls.faults)
      → (IsDeviceSize began.size → IfErr r (λ e. IsUncalled e.refusal began (medium e.device) ⊎ IsRefusedBehindSync began e.refusal (medium e.device)))
      → IfErr r (λ e. (medium e.device).size ≡ began.size)
      → IfErr r (λ e. (medium e.device).lasting ≡ began.lasting)
      → MatchResult r (λ s. BeginsDb began s) (λ e. FailsOn began e.refusal (medium e.device))
  unfolding failed
  opening tells (Ok s) size refusal opens fails faults called same_size lasting =
      let none : (e : OpenOnError X) → Ok s ≡ Err e → ⊥ = λ e is. subst (λ (r : Result StoreView (OpenOnError X)). MatchResult r (λ _. Unit {0}) (λ _. ⊥)) is tt in
      let fits = sized began.size (λ other. none (record { refusal = BadGeometry; device = start }) (size other)) in (
        opens.opened,
        record {
          size = fits;
          unrefused = refusal fits;
          reopens = opens.reopens;
          opens = λ log_sectors left is. opens.opens log_sectors left tells is;
          cache = opens.cached;
          no_fault = opens.no_fault;
          calls = opens.calls;
          same_size = opens.same_size;
          same_lasting = opens.same_lasting;
        },
        opens.upkept,
      )
  opening tells (Err e) size refusal opens fails faults called same_size lasting = record {
    size = λ other. inr (ap (λ (r : Result StoreView (OpenOnError X)). (failed r).refusal) (size other));
    reason = refusal;
    fault = faults;
    called = ⊎_elim (λ fits. ⊎_elim (λ uncalled. inl uncalled.1) (λ behind. inr (record { size = fits; begins = behind.begins; unwritten = behind.unwritten; settled = behind.settled tells })) (called fits))
        (λ other. inl (ap (λ (r : Result StoreView (OpenOnError X)). medium (failed r).device) (size other))) (sized_or_not began.size);
    fails = fails;
    same_size = same_size;
    same_lasting = lasting;
  }
