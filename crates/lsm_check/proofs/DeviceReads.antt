-- How a check reads a device.
use Rattle.std.proofs.Common.{◌≡◌, ℕ, Bool, true, false, not, IsTrue, List, sym, ap, subst, ◌∙◌}
use Rattle.lsm_cache.specs.Reads.{after_reads, FaultsAmong}
use Rattle.lsm_device.proofs.RunCounts.{reads_are, fault_is, one_fault, faults_made}
use Rattle.lsm_device.specs.Calls.{after_read}
use Rattle.lsm_device.specs.declared.calls.Calls.{Calls}
use Rattle.lsm_device.specs.Disk.{Disk, seen}
use Rattle.lsm_device.specs.History.{present}
use Rattle.lsm_device.specs.Medium.{Medium, Lasting, disk}
use Rattle.lsm_device.proofs.Counting.{read_made}
use Rattle.lsm_open.specs.ReadParts.{ReadsAtMost}

-- a sector
pub sector_read : (ok : Bool) (old new : Medium) → new.calls ≡ after_read ok old.calls → (IsTrue old.lasting.tells → new.history ≡ old.history) → new.size ≡ old.size → new.lasting ≡ old.lasting → ReadsAtMost 1 ok old new
sector_read ok old new is unchanged size lasting = record {
  calls = read_made ok old.calls new.calls is;
  faults = ap (λ (c : Calls). c.faults) is;
  stops = λ e. ap (λ (c : Calls). c.last_faulted) is ∙ ap not e;
  unchanged = unchanged;
  same_size = size;
  same_lasting = lasting;
}

-- a block
pub block_read : (old new : Medium) → new.calls ≡ after_reads 8 old.calls → (IsTrue old.lasting.tells → new.history ≡ old.history) → new.size ≡ old.size → new.lasting ≡ old.lasting → ReadsAtMost 8 true old new
block_read old new is unchanged size lasting = record {
  calls = reads_are 8 old.calls new.calls is;
  faults = ap (λ (c : Calls). c.faults) is ∙ faults_made 8 old.calls;
  stops = λ e. absurd cc;
  unchanged = unchanged;
  same_size = size;
  same_lasting = lasting;
}

-- a sector of a block faulted
pub block_faulted : (old new : Medium) → FaultsAmong 8 old.calls new.calls → (IsTrue old.lasting.tells → new.history ≡ old.history) → new.size ≡ old.size → new.lasting ≡ old.lasting → ReadsAtMost 8 false old new
block_faulted old new fault unchanged size lasting = record {
  calls = fault_is 8 old.calls new.calls fault;
  faults = one_fault 8 old.calls new.calls fault;
  stops = λ e. ap (λ (c : Calls). c.last_faulted) fault.counted;
  unchanged = unchanged;
  same_size = size;
  same_lasting = lasting;
}

-- a device that was only read tells as before
pub still_tells : (reads : ℕ) (ok : Bool) (old new : Medium) → ReadsAtMost reads ok old new → IsTrue old.lasting.tells → IsTrue new.lasting.tells
still_tells reads ok old new r t = subst IsTrue (sym (ap (λ (l : Lasting). l.tells) r.same_lasting)) t

-- and is seen as before
pub still_seen : (reads : ℕ) (ok : Bool) (old new : Medium) → ReadsAtMost reads ok old new → IsTrue old.lasting.tells → seen (disk new) ≡ seen (disk old)
still_seen reads ok old new r t = ap (λ (h : List Disk). seen (present h)) (r.unchanged t)
