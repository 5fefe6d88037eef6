-- How often an opening reads.
use Rattle.std.proofs.Common.{◌≡◌, ◌∙◌, ◌≤◌, ℕ, zero, suc, ◌+◌, ◌*◌, List, map, Result, Ok, Err, ap, subst, sym, arith}
use Rattle.lsm_codec.specs.Manifests.{Contents}
use Rattle.lsm_codec.specs.declared.table_record.TableRecord.{TableRecord}
use Rattle.lsm_device.specs.Calls.{AtMost, one_more, more}
use Rattle.lsm_device.specs.declared.calls.Calls.{Calls}
use Rattle.lsm_device.specs.declared.refusal.Refusal.{Refusal}
use Rattle.lsm_device.proofs.Counting.{AtMost-joined, AtMost-wider}
use Rattle.lsm_open.specs.Counting.{IsCountedRoot, all_uncounted, uncounted_by, all_data, without_deletes}
use Rattle.lsm_open.specs.ReadParts.{sectors_read, sectors_read_by}
use Rattle.lsm_open.specs.Recovering.{BeginsWithSync}
use Rattle.lsm_open.specs.ToldTables.{blocks_beside_data}
use Rattle.lsm_open.proofs.CountedReads.{counts_few}
use Rattle.lsm_open.proofs.UncountedTables.{same_beside}
use Rattle.lsm_root.specs.Roots.{Root, Missing, Damaged, OtherSize, Unreadable, Stands, root_of}

-- the root, and the data blocks that are counted
few_of_root : (root : Root) → 66 + 8 * uncounted_by root ≤ sectors_read_by root
few_of_root Missing = omega arith
few_of_root Damaged = omega arith
few_of_root OtherSize = omega arith
few_of_root Unreadable = omega arith
few_of_root (Stands n m) = omega arith

pub root_read : (s : List (List ℕ)) (old new : Calls) → AtMost (66 + 8 * uncounted_by (root_of s)) 0 0 old new → AtMost (sectors_read_by (root_of s)) 0 0 old new
root_read s old new first = AtMost-wider (66 + 8 * uncounted_by (root_of s)) 0 0 (sectors_read_by (root_of s)) 0 0 old new (few_of_root (root_of s)) (omega arith) (omega arith) first

-- the count
pub root_counted : (s : List (List ℕ)) (old new : Calls) → AtMost 66 0 0 old new → AtMost (66 + 8 * uncounted_by (root_of s)) 0 0 old new
root_counted s old new first = AtMost-wider 66 0 0 (66 + 8 * uncounted_by (root_of s)) 0 0 old new (omega arith) (omega arith) (omega arith) first

pub counted_by : (s : List (List ℕ)) (n : ℕ) (m : Contents) (old mid new : Calls) → root_of s ≡ Stands n m → AtMost 66 0 0 old mid → AtMost (8 * all_uncounted m.tables) 0 0 mid new → AtMost (66 + 8 * uncounted_by (root_of s)) 0 0 old new
counted_by s n m old mid new root first then_ =
    subst (λ (k : ℕ). AtMost (66 + 8 * k) 0 0 old new) (sym (ap uncounted_by root))
    (AtMost-joined 66 0 0 (8 * all_uncounted m.tables) 0 0 (66 + 8 * all_uncounted m.tables) 0 0 old mid new (omega arith) (omega arith) (omega arith) first then_)

pub counted_most : (ts us : List TableRecord) (old mid new : Calls) → map without_deletes us ≡ map without_deletes ts → AtMost 66 0 0 old mid → AtMost (8 * all_uncounted ts) 0 0 mid new → AtMost (66 + 8 * all_data us) 0 0 old new
counted_most ts us old mid new same first then_ =
    AtMost-joined 66 0 0 (8 * all_uncounted ts) 0 0 (66 + 8 * all_data us) 0 0 old mid new (omega (arith, counts_few ts us same)) (omega arith) (omega arith) first then_

-- then the tables that its manifest names, and the regions
module _ (blocks n : ℕ) (tables : List TableRecord) (old mid : Calls) (first : AtMost (66 + 8 * blocks) 0 0 old mid) where
  pub tables_read : (new : Calls) → AtMost (8 * blocks_beside_data tables) 0 0 mid new → AtMost (sectors_read blocks n tables) 0 0 old new
  tables_read new then_ = AtMost-joined (66 + 8 * blocks) 0 0 (8 * blocks_beside_data tables) 0 0 (sectors_read blocks n tables) 0 0 old mid new (omega arith) (omega arith) (omega arith) first then_

  pub regions_read : (far new : Calls) → AtMost (8 * blocks_beside_data tables) 0 0 mid far → AtMost (3 * n) 0 0 far new → AtMost (sectors_read blocks n tables) 0 0 old new
  regions_read far new then_ last =
      AtMost-joined (66 + 8 * (blocks_beside_data tables + blocks)) 0 0 (3 * n) 0 0 (sectors_read blocks n tables) 0 0 old far new (omega arith) (omega arith) (omega arith)
      (AtMost-joined (66 + 8 * blocks) 0 0 (8 * blocks_beside_data tables) 0 0 (66 + 8 * (blocks_beside_data tables + blocks)) 0 0 old mid far (omega arith) (omega arith) (omega arith) first then_) last

-- by the root that stands: what is counted has the blocks of what stood
module _ (s : List (List ℕ)) (n : ℕ) (m : Contents) (root : IsCountedRoot n m s) where
  read_by : sectors_read_by (root_of s) ≡ sectors_read (uncounted_by (root_of s)) n m.tables
  read_by =
      ap sectors_read_by root.root
      ∙ ap (λ (k : ℕ). 66 + 8 * (k + all_uncounted root.stood.tables) + 3 * n) (sym (same_beside n s root.stood m root.counted_is))
      ∙ ap (λ (r : Root). sectors_read (uncounted_by r) n m.tables) (sym root.root)

  pub by_root : (old new : Calls) → AtMost (sectors_read (uncounted_by (root_of s)) n m.tables) 0 0 old new → AtMost (sectors_read_by (root_of s)) 0 0 old new
  by_root old new reads = subst (λ (k : ℕ). AtMost k 0 0 old new) (sym read_by) reads

-- ---- what comes before and after

module _ (reads : ℕ) (old mid new : Calls) where
  pub read_alone : AtMost reads 0 0 old new → AtMost reads 42 2 old new
  read_alone made = AtMost-wider reads 0 0 reads 42 2 old new (omega arith) (omega arith) (omega arith) made

  pub then_installed : AtMost reads 0 0 old mid → AtMost 0 42 2 mid new → AtMost reads 42 2 old new
  then_installed first last = AtMost-joined reads 0 0 0 42 2 reads 42 2 old mid new (omega arith) (omega arith) (omega arith) first last

  pub begun_alone : AtMost 0 0 1 old new → AtMost reads 42 3 old new
  begun_alone made = AtMost-wider 0 0 1 reads 42 3 old new (omega arith) (omega arith) (omega arith) made

  pub begun_before : AtMost 0 0 1 old mid → AtMost reads 42 2 mid new → AtMost reads 42 3 old new
  begun_before first last = AtMost-joined 0 0 1 reads 42 2 reads 42 3 old mid new (omega arith) (omega arith) (omega arith) first last

-- ---- a device that was synced was called

not_none : (n k : ℕ) → k ≤ 2 → n ≡ more k (one_more n) → ⊥
not_none n zero few is = omega (arith, is)
not_none n (suc zero) few is = omega (arith, is)
not_none n (suc (suc zero)) few is = omega (arith, is)
not_none n (suc (suc (suc k))) few is = omega (arith, few)

pub uncalled : (old new : Calls) → BeginsWithSync old new → new ≡ old → ⊥
uncalled old new (ok, calls) same =
    let synced = calls.synced in
    not_none old.syncs synced.0 synced.1 (ap (λ (c : Calls). c.syncs) (sym same) ∙ synced.2)

-- the device that an answer hands back, if it is an Err
abbrev pub handed : {X D : Type 0} → D → Result X (Refusal × D) → D
handed device (Ok x) = device
handed device (Err refused) = refused.1
