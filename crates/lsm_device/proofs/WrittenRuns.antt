-- What a run of writes makes, given the number of its sectors.
use Rattle.std.proofs.Common.{◌≡◌, ℕ, ◌*◌, ◌/◌, List, length, ◌∙◌, ap, subst}
use Rattle.lsm_device.specs.declared.calls.Calls.{Calls}
use Rattle.lsm_device.specs.Calls.{after_writes, WriteFaultsAmong}
use Rattle.lsm_device.specs.Disk.{Disk}
use Rattle.lsm_device.specs.History.{EachSince}
use Rattle.lsm_device.specs.Runs.{run_at, grown, pieces, HasSomeOf}
use Rattle.lsm_device.proofs.Pieces.{count_of}
use Rattle.lsm_device.proofs.RunCounts.{WritesMade, WritesFault, writes_are, write_fault_is}

module _ (n : ℕ) (bytes : List ℕ) (size : length bytes ≡ 512 * n) where
  pub moments_of : (at : ℕ) (start : Disk) (old new : List Disk) → EachSince (HasSomeOf start (run_at at (pieces (length bytes / 512) bytes))) old new → EachSince (HasSomeOf start (run_at at (pieces n bytes))) old new
  moments_of at start old new = subst (λ (k : ℕ). EachSince (HasSomeOf start (run_at at (pieces k bytes))) old new) (count_of (length bytes) n size)

  pub pends_of : (at : ℕ) (start now : Disk) → now ≡ grown (run_at at (pieces (length bytes / 512) bytes)) start → now ≡ grown (run_at at (pieces n bytes)) start
  pends_of at start now = subst (λ (k : ℕ). now ≡ grown (run_at at (pieces k bytes)) start) (count_of (length bytes) n size)

  pub written_of : (old new : Calls) → new ≡ after_writes (length bytes / 512) old → WritesMade n old new
  written_of old new is = writes_are n old new (is ∙ ap (λ (k : ℕ). after_writes k old) (count_of (length bytes) n size))

  pub fault_of : (old new : Calls) → WriteFaultsAmong (length bytes / 512) old new → WritesFault n old new
  fault_of old new f = write_fault_is n old new (subst (λ (k : ℕ). WriteFaultsAmong k old new) (count_of (length bytes) n size) f)

  pub counted_of : (old new : Calls) → new ≡ after_writes (length bytes / 512) old → new ≡ after_writes n old
  counted_of old new is = is ∙ ap (λ (k : ℕ). after_writes k old) (count_of (length bytes) n size)

  pub faulted_of : (old new : Calls) → WriteFaultsAmong (length bytes / 512) old new → WriteFaultsAmong n old new
  faulted_of old new = subst (λ (k : ℕ). WriteFaultsAmong k old new) (count_of (length bytes) n size)
