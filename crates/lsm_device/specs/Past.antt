-- How the logic stores the lives of a device that crashes ended.
use Rattle.std.specs.Prelude.{ℕ, Bool, List, Option, refl}
use Rattle.std.specs.Coded.{Coded, code_by, coded×, coded_ℕ, coded_bool, coded_list, coded_option}
use Rattle.lsm_device.specs.declared.calls.Calls.{Calls}
use Rattle.lsm_device.specs.declared.plan.Failure.{Failure}
use Rattle.lsm_device.specs.Disk.{Disk, Write}
use Rattle.lsm_device.specs.Medium.{Ended}

abbrev WriteParts : Type 0
WriteParts = ℕ × List ℕ

abbrev write_code : Coded Write
write_code = code_by WriteParts (coded× coded_ℕ (coded_list coded_ℕ)) (λ w. (w.at, w.bytes)) (λ p. record { at = p.0; bytes = p.1 }) (λ _. refl)

abbrev DiskParts : Type 0
DiskParts = List (List ℕ) × List Write

abbrev disk_code : Coded Disk
disk_code = code_by DiskParts (coded× (coded_list (coded_list coded_ℕ)) (coded_list write_code)) (λ d. (d.stands, d.pending)) (λ p. record { stands = p.0; pending = p.1 }) (λ _. refl)

abbrev CallsParts : Type 0
CallsParts = ℕ × (ℕ × (ℕ × (ℕ × (Bool × ℕ))))

abbrev calls_code : Coded Calls
calls_code = code_by CallsParts (coded× coded_ℕ (coded× coded_ℕ (coded× coded_ℕ (coded× coded_ℕ (coded× coded_bool coded_ℕ)))))
    (λ c. (c.reads, (c.writes, (c.syncs, (c.faults, (c.last_faulted, c.passed))))))
    (λ p. record { reads = p.0; writes = p.1.0; syncs = p.1.1.0; faults = p.1.1.1.0; last_faulted = p.1.1.1.1.0; passed = p.1.1.1.1.1 }) (λ _. refl)

abbrev failure_code : Coded Failure
failure_code = code_by (ℕ × Bool) (coded× coded_ℕ coded_bool) (λ f. (f.after, f.kept)) (λ p. record { after = p.0; kept = p.1 }) (λ _. refl)

abbrev EndedParts : Type 0
EndedParts = Option ℕ × (Option Failure × (ℕ × (Calls × List Disk)))

abbrev pub ended_code : Coded (List Ended)
ended_code = coded_list (code_by EndedParts (coded× (coded_option coded_ℕ) (coded× (coded_option failure_code) (coded× coded_ℕ (coded× calls_code (coded_list disk_code)))))
    (λ e. (e.fuse_set, (e.failure_set, (e.times_set, (e.calls, e.history)))))
    (λ p. record { fuse_set = p.0; failure_set = p.1.0; times_set = p.1.1.0; calls = p.1.1.1.0; history = p.1.1.1.1 }) (λ _. refl))
