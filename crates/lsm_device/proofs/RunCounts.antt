-- How the calls of a run are counted.
use Rattle.std.proofs.Common.{◌≡◌, ◌+◌, ◌<◌, ◌≤◌, ℕ, zero, suc, true, false, ap, refl, sym, ◌∙◌, arith, add-one}
use Rattle.lsm_device.specs.declared.calls.Calls.{Calls}
use Rattle.lsm_device.specs.Calls.{one_more, more, after_read, after_write, after_reads, after_writes, ReadFaultsAmong, WriteFaultsAmong, AtMost}

-- one more read that answered Ok
pub one_more_read : (n : ℕ) (old mid new : Calls) → new ≡ after_read true mid → mid ≡ after_reads n old → new ≡ after_reads (n + 1) old
one_more_read n old mid new next so_far = next ∙ ap (after_read true) so_far ∙ ap (λ (k : ℕ). after_reads k old) (sym (add-one n))

-- all reads of a run
pub all_reads : (i n : ℕ) (old new : Calls) → n ≤ i → i ≤ n → new ≡ after_reads i old → new ≡ after_reads n old
all_reads i n old new low high so_far =
    let all : i ≡ n = omega arith in
    so_far ∙ ap (λ (k : ℕ). after_reads k old) all

-- one more write that answered Ok
pub one_more_write : (n : ℕ) (old mid new : Calls) → new ≡ after_write true mid → mid ≡ after_writes n old → new ≡ after_writes (n + 1) old
one_more_write n old mid new next so_far = next ∙ ap (after_write true) so_far ∙ ap (λ (k : ℕ). after_writes k old) (sym (add-one n))

-- all writes of a run
pub all_writes : (i n : ℕ) (old new : Calls) → n ≤ i → i ≤ n → new ≡ after_writes i old → new ≡ after_writes n old
all_writes i n old new low high so_far =
    let all : i ≡ n = omega arith in
    so_far ∙ ap (λ (k : ℕ). after_writes k old) all

-- the read that faulted after i that answered Ok
pub read_faulted : (i n : ℕ) (old mid new : Calls) → i < n → new ≡ after_read false mid → mid ≡ after_reads i old → ReadFaultsAmong n old new
read_faulted i n old mid new lt next so_far = record { before = i; fewer = lt; counted = next ∙ ap (after_read false) so_far }

-- the write that faulted after i that answered Ok
pub write_faulted : (i n : ℕ) (old mid new : Calls) → i < n → new ≡ after_write false mid → mid ≡ after_writes i old → WriteFaultsAmong n old new
write_faulted i n old mid new lt next so_far = record { before = i; fewer = lt; counted = next ∙ ap (after_write false) so_far }

-- ---- reads

reads_made : (n : ℕ) (c : Calls) → (after_reads n c).reads ≡ more n c.reads
reads_made zero c = refl
reads_made (suc n) c = ap one_more (reads_made n c)

writes_kept : (n : ℕ) (c : Calls) → (after_reads n c).writes ≡ c.writes
writes_kept zero c = refl
writes_kept (suc n) c = writes_kept n c

syncs_kept : (n : ℕ) (c : Calls) → (after_reads n c).syncs ≡ c.syncs
syncs_kept zero c = refl
syncs_kept (suc n) c = syncs_kept n c

pub faults_made : (n : ℕ) (c : Calls) → (after_reads n c).faults ≡ c.faults
faults_made zero c = refl
faults_made (suc n) c = faults_made n c

pub reads_are : (n : ℕ) (old new : Calls) → new ≡ after_reads n old → AtMost n 0 0 old new
reads_are n old new is = record {
  read = (n, omega arith, ap (λ (c : Calls). c.reads) is ∙ reads_made n old);
  written = (0, omega arith, ap (λ (c : Calls). c.writes) is ∙ writes_kept n old);
  synced = (0, omega arith, ap (λ (c : Calls). c.syncs) is ∙ syncs_kept n old);
}

pub fault_is : (n : ℕ) (old new : Calls) → ReadFaultsAmong n old new → AtMost n 0 0 old new
fault_is n old new f = record {
  read = (suc f.before, omega (arith, f.fewer), ap (λ (c : Calls). c.reads) f.counted ∙ ap one_more (reads_made f.before old));
  written = (0, omega arith, ap (λ (c : Calls). c.writes) f.counted ∙ writes_kept f.before old);
  synced = (0, omega arith, ap (λ (c : Calls). c.syncs) f.counted ∙ syncs_kept f.before old);
}

pub one_fault : (n : ℕ) (old new : Calls) → ReadFaultsAmong n old new → new.faults ≡ one_more old.faults
one_fault n old new f = ap (λ (c : Calls). c.faults) f.counted ∙ ap one_more (faults_made f.before old)

-- ---- writes

writes_made : (n : ℕ) (c : Calls) → (after_writes n c).writes ≡ more n c.writes
writes_made zero c = refl
writes_made (suc n) c = ap one_more (writes_made n c)

reads_kept : (n : ℕ) (c : Calls) → (after_writes n c).reads ≡ c.reads
reads_kept zero c = refl
reads_kept (suc n) c = reads_kept n c

syncs_kept_by_writes : (n : ℕ) (c : Calls) → (after_writes n c).syncs ≡ c.syncs
syncs_kept_by_writes zero c = refl
syncs_kept_by_writes (suc n) c = syncs_kept_by_writes n c

faults_kept : (n : ℕ) (c : Calls) → (after_writes n c).faults ≡ c.faults
faults_kept zero c = refl
faults_kept (suc n) c = faults_kept n c

-- n writes after k others
writes_behind : (n k : ℕ) (c : Calls) → after_writes n (after_writes k c) ≡ after_writes (n + k) c
writes_behind zero k c =
    let none : k ≡ 0 + k = omega arith in
    ap (λ (m : ℕ). after_writes m c) none
writes_behind (suc n) k c =
    let more : suc (n + k) ≡ suc n + k = omega arith in
    ap (after_write true) (writes_behind n k c) ∙ ap (λ (m : ℕ). after_writes m c) more

pub writes_joined : (k n total : ℕ) (old mid new : Calls) → n + k ≡ total → mid ≡ after_writes k old → new ≡ after_writes n mid → new ≡ after_writes total old
writes_joined k n total old mid new all first second =
    second ∙ ap (after_writes n) first ∙ writes_behind n k old ∙ ap (λ (m : ℕ). after_writes m old) all

-- a fault among n writes after k others
pub faulted_behind : (k n total : ℕ) (old mid new : Calls) → n + k ≤ total → mid ≡ after_writes k old → WriteFaultsAmong n mid new → WriteFaultsAmong total old new
faulted_behind k n total old mid new within first f = record {
  before = f.before + k;
  fewer = omega (arith, f.fewer, within);
  counted = f.counted ∙ ap (after_write false) (ap (after_writes f.before) first ∙ writes_behind f.before k old);
}

-- What n writes that answered Ok make: no read, no sync, no fault.
pub record WritesMade (n : ℕ) (old new : Calls) : Type 0 where
  pub no_read : new.reads ≡ old.reads
  pub written : new.writes ≡ more n old.writes
  pub no_sync : new.syncs ≡ old.syncs
  pub no_fault : new.faults ≡ old.faults
  pub at_most : AtMost 0 n 0 old new

pub writes_are : (n : ℕ) (old new : Calls) → new ≡ after_writes n old → WritesMade n old new
writes_are n old new is =
    let read : new.reads ≡ old.reads = ap (λ (c : Calls). c.reads) is ∙ reads_kept n old in
    let written : new.writes ≡ more n old.writes = ap (λ (c : Calls). c.writes) is ∙ writes_made n old in
    let synced : new.syncs ≡ old.syncs = ap (λ (c : Calls). c.syncs) is ∙ syncs_kept_by_writes n old in
    record {
      no_read = read;
      written = written;
      no_sync = synced;
      no_fault = ap (λ (c : Calls). c.faults) is ∙ faults_kept n old;
      at_most = record { read = (0, omega arith, read); written = (n, omega arith, written); synced = (0, omega arith, synced) };
    }

-- What a run of writes makes of which one faulted: at most n writes, with one fault, the last.
pub record WritesFault (n : ℕ) (old new : Calls) : Type 0 where
  pub at_most : AtMost 0 n 0 old new
  pub one_fault : new.faults ≡ one_more old.faults
  pub last : new.last_faulted ≡ true

pub write_fault_is : (n : ℕ) (old new : Calls) → WriteFaultsAmong n old new → WritesFault n old new
write_fault_is n old new f = record {
  at_most = record {
    read = (0, omega arith, ap (λ (c : Calls). c.reads) f.counted ∙ reads_kept f.before old);
    written = (suc f.before, omega (arith, f.fewer), ap (λ (c : Calls). c.writes) f.counted ∙ ap one_more (writes_made f.before old));
    synced = (0, omega arith, ap (λ (c : Calls). c.syncs) f.counted ∙ syncs_kept_by_writes f.before old);
  };
  one_fault = ap (λ (c : Calls). c.faults) f.counted ∙ ap one_more (faults_kept f.before old);
  last = ap (λ (c : Calls). c.last_faulted) f.counted;
}
