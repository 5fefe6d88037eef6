-- What holds of a block that is asked for.
use Rattle.std.proofs.Common.{◌≡◌, ℕ, ◌≤◌, Bool, true, false, cond, is_some, List, ◌∷◌, Option, Some, refl, ap, sym, subst, ◌∙◌, arith}
use Rattle.lsm_device.specs.declared.calls.Calls.{Calls}
use Rattle.lsm_device.specs.Calls.{faults_after}
use Rattle.lsm_device.specs.Disk.{seen}
use Rattle.lsm_device.specs.History.{present}
use Rattle.lsm_device.specs.declared.refusal.Refusal.{Refusal}
use Rattle.lsm_device.specs.declared.refusal.Refusal.TheVariants.{Io}
use Rattle.lsm_device.proofs.Counting.{AtMost-wider}
use Rattle.lsm_cache.specs.declared.name.BlockName.{BlockName}
use Rattle.lsm_cache.specs.Recency.{bytes_of, sectors_read}
use Rattle.lsm_cache.specs.Reads.{block_at}
use Rattle.lsm_cache.specs.Fresh.{IsFresh, IsNumberedBelow}
use Rattle.lsm_cache.proofs.Kept.{still_fresh, still_below}
use Rattle.lsm_device.proofs.RunCounts.{reads_are, fault_is, one_fault, faults_made}
use Rattle.lsm_levels.specs.Asking.{Source, OnlyReads, IsGiven, IsDenied}
use Rattle.lsm_levels.specs.Cursors.{AsksOnce, IsPlacedAt, Shows, is_faultless}
use Rattle.lsm_levels.specs.declared.placed.PlacedBlock.{PlacedBlock}
use Rattle.lsm_levels.proofs.LookingUp.{given_bytes}

-- ---- how calls are counted

-- no block is asked for
pub asks_none : (blocks : List PlacedBlock) (refusal : Option Refusal) (old new : Source) → is_faultless refusal ≡ true → (refusal ≡ Some Io → ⊥) → new ≡ old → AsksOnce blocks refusal old new
asks_none blocks refusal old new fair other same = subst (AsksOnce blocks refusal old) (sym same) (record {
  reads = record { same_size = refl; same_lasting = refl; unchanged = λ t. refl };
  at_most = record { read = (0, omega arith, refl); written = (0, omega arith, refl); synced = (0, omega arith, refl) };
  faults = sym (ap (λ (b : Bool). faults_after b old.medium.calls.faults) fair);
  stops = λ e. absurd (other e);
  numbered = λ number all below. below;
})

-- the first of these blocks is given
pub asks_given : (b : PlacedBlock) (rest : List PlacedBlock) (bytes : List ℕ) (refusal : Option Refusal) (old new : Source) → is_faultless refusal ≡ true → (refusal ≡ Some Io → ⊥) → IsGiven b bytes old new → AsksOnce (b ∷ rest) refusal old new
asks_given b rest bytes refusal old new fair other g =
    let count : ℕ = sectors_read b.name old.cache in
    let few : count ≤ 8 = elim (is_some (bytes_of b.name old.cache)) as (λ y. cond y 0 8 ≤ 8) [ true ↦ omega arith | false ↦ omega arith ] in
    record {
      reads = g.only_reads;
      at_most = AtMost-wider count 0 0 8 0 0 _ _ (omega (arith, few)) (omega arith) (omega arith) (reads_are count _ _ g.counted);
      faults = ap (λ (c : Calls). c.faults) g.counted ∙ faults_made count old.medium.calls ∙ sym (ap (λ (y : Bool). faults_after y old.medium.calls.faults) fair);
      stops = λ e. absurd (other e);
      numbered = λ number all below. still_below number b.name bytes old.cache new.cache all.0 below g.keeps;
    }

-- it is denied
pub asks_denied : (b : PlacedBlock) (rest : List PlacedBlock) (refusal : Option Refusal) (old new : Source) → refusal ≡ Some Io → IsDenied b old new → AsksOnce (b ∷ rest) refusal old new
asks_denied b rest refusal old new io d = record {
  reads = d.only_reads;
  at_most = fault_is 8 _ _ d.faulted;
  faults = one_fault 8 _ _ d.faulted ∙ sym (ap (λ (r : Option Refusal). faults_after (is_faultless r) old.medium.calls.faults) io);
  stops = λ e. ap (λ (c : Calls). c.last_faulted) d.faulted.counted;
  numbered = λ number all below. subst (IsNumberedBelow number) (sym d.stays) below;
}

-- ---- fresh caches

module _ (place : BlockName → Option ℕ) (sectors : List (List ℕ)) where
  pub shows_read : (old new : Source) → OnlyReads old.medium new.medium → IsFresh place sectors new.cache → Shows place sectors old → Shows place sectors new
  shows_read old new reads fresh st = record {
    tells = ap (λ l. l.tells) reads.same_lasting ∙ st.tells;
    holds = ap (λ h. seen (present h)) (reads.unchanged st.tells) ∙ st.holds;
    fresh = fresh;
  }

  -- the bytes of a block that is given are those of its sectors
  pub shown_bytes : (b : PlacedBlock) (bytes : List ℕ) (old new : Source) → IsPlacedAt place b → Shows place sectors old → IsGiven b bytes old new → bytes ≡ block_at sectors b.sector
  shown_bytes b bytes old new stands st g = given_bytes place sectors b bytes old new stands st.tells st.holds st.fresh g

  pub given_shows : (b : PlacedBlock) (bytes : List ℕ) (old new : Source) → IsPlacedAt place b → Shows place sectors old → IsGiven b bytes old new → Shows place sectors new
  given_shows b bytes old new stands st g =
      shows_read old new g.only_reads (still_fresh place sectors b.name b.sector bytes old.cache stands st.fresh new.cache (shown_bytes b bytes old new stands st g) g.keeps) st
