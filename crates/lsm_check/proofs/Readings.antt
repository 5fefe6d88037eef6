-- What a check has read, as an opening would.
use Rattle.std.proofs.Common.{◌≡◌, ◌⊎◌, inl, inr, ℕ, ◌+◌, ◌<◌, Bool, true, false, not, List, [], refl, sym, ◌∙◌, ap, subst, arith}
use Rattle.std.specs.Prelude.{ltb, ◌&&◌}
use Rattle.std.specs.List.{list_any}
use Rattle.std.proofs.lemmas.Bool.{false≢true, lt-ltb}
use Rattle.lsm_codec.specs.Manifests.{Contents}
use Rattle.lsm_codec.specs.declared.table_record.TableRecord.{TableRecord}
use Rattle.lsm_device.specs.declared.refusal.Refusal.{Refusal}
use Rattle.lsm_device.specs.declared.refusal.Refusal.TheVariants.{NoMemory, Io, BadManifest}
use Rattle.lsm_extent.specs.Area.{Area, covers, count_below, free_count, is_free, is_held}
use Rattle.lsm_open.specs.Counting.{IsCountedRoot}
use Rattle.lsm_root.specs.CrashState.{CrashState}
use Rattle.lsm_open.specs.Image.{count_in, StandFor}
use Rattle.lsm_open.specs.LogRegions.{follow_on}
use Rattle.lsm_open.specs.Reopening.{GoesOn}
use Rattle.lsm_open.specs.ToldTables.{record_extent, Held}
use Rattle.lsm_open.specs.declared.replayed.Replayed.{Replayed}
use Rattle.lsm_open.proofs.OpenedStores.{named_here}
use Rattle.lsm_check.specs.Images.{blocks_in_none, IsNoMemoryOrIo}
use Rattle.lsm_check.specs.Named.{HasBatches}
use Rattle.lsm_extent.proofs.Counting.{count_below-same}

-- ---- what is short

pub short_memory : (e : Refusal) → (e ≡ NoMemory) ⊎ (e ≡ Io) → IsNoMemoryOrIo e
short_memory e (inl is) = subst IsNoMemoryOrIo (sym is) tt
short_memory e (inr is) = subst IsNoMemoryOrIo (sym is) tt

pub short_fault : (e : Refusal) → e ≡ Io → IsNoMemoryOrIo e
short_fault e is = subst IsNoMemoryOrIo (sym is) tt

-- where regions follow on, a replay is refused for nothing else
pub short_replay : (e : Refusal) (follows : Bool) → follows ≡ true → ((e ≡ BadManifest) × (follows ≡ false)) ⊎ ((e ≡ NoMemory) ⊎ (e ≡ Io)) → IsNoMemoryOrIo e
short_replay e follows on (inl found) = absurd (false≢true (sym found.1 ∙ on))
short_replay e follows on (inr other) = short_memory e other

-- ---- batches

-- what a replay of all regions came to
pub batches_had : {A : Type 0} (n : ℕ) (s : List (List ℕ)) (m : Contents) (r : Replayed A) → GoesOn n s m r [] → (follow_on n s (m.base + 1) m.logs ≡ true) × (r.count ≡ count_in n s m)
batches_had n s m r goes = (goes.follows, omega (arith, goes.counts))

-- of the image of a store
pub batches_named : (k n : ℕ) (left : CrashState) (m : Contents) (s : List (List ℕ)) → StandFor k left s → IsCountedRoot n m s → HasBatches n s m (count_in n s m)
batches_named k n left m s is root = let named = named_here k n left m s is root in
    record { follows = named.1.follows; fresh = named.1.fresh; counted = refl }

-- ---- blocks in no table

-- the free blocks are those in none of the tables whose extents are handed out
pub free_counted : (blocks : ℕ) (tables : List TableRecord) (area : Area) → Held blocks tables area → free_count area ≡ blocks_in_none blocks tables
free_counted blocks tables area held =
    ap (λ (n : ℕ). count_below (is_free area) n) held.size
    ∙ count_below-same (is_free area) (λ block. not (list_any (λ t. covers block (record_extent t)) tables)) blocks
    (λ k below. let inside : ltb k area.blocks ≡ true = lt-ltb k area.blocks (subst (λ (n : ℕ). k < n) (sym held.size) below) in
    ap (λ (b : Bool). b && not (is_held area.held k)) inside ∙ ap not (held.only k))
