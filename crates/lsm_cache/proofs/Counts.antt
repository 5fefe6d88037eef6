-- How the reads of a block are counted.
use Rattle.std.proofs.Common.{◌≡◌, ◌≤◌, ℕ, Bool, true, false, if◌then◌else◌, arith}
use Rattle.lsm_device.specs.declared.calls.Calls.{Calls}
use Rattle.lsm_device.specs.declared.refusal.Refusal.{Refusal}
use Rattle.lsm_device.specs.declared.refusal.Refusal.TheVariants.{Io}
use Rattle.lsm_device.specs.Calls.{AtMost, ReadFaultsAmong, after_reads, faults_after}
use Rattle.lsm_device.specs.Refusals.{is_no_fault}
use Rattle.lsm_device.proofs.Counting.{AtMost-wider}
use Rattle.lsm_device.proofs.RunCounts.{reads_are, one_fault}
pub use Rattle.lsm_device.proofs.RunCounts.{fault_is}

few : (is : Bool) → (if is then 0 else 8) ≤ 8
few true = omega arith
few false = omega arith

-- eight sectors are read, or none where the block is kept
pub asked_reads : (is : Bool) (old new : Calls) → new ≡ after_reads (if is then 0 else 8) old → AtMost 8 0 0 old new
asked_reads is old new are = AtMost-wider (if is then 0 else 8) 0 0 8 0 0 old new (few is) (omega arith) (omega arith) (reads_are (if is then 0 else 8) old new are)

-- a call that is refused with Io had one fault
pub refused_once : (refusal : Refusal) (n : ℕ) (old new : Calls) → refusal ≡ Io → ReadFaultsAmong n old new → new.faults ≡ faults_after (is_no_fault refusal) old.faults
refused_once refusal n old new is faulted = rw is (one_fault n old new faulted)
