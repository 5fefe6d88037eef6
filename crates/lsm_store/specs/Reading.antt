-- What a read of a store does with its device, and with the cache in front of it.
use Rattle.std.specs.Prelude.{◌≡◌, ℕ, Bool, IsTrue, Option, Result}
use Rattle.lsm_cache.specs.declared.name.BlockName.{BlockName}
use Rattle.lsm_cache.specs.Fresh.{IsFresh}
use Rattle.lsm_device.specs.Calls.{AtMost, faults_after}
use Rattle.lsm_codec.specs.Keys.{Bytes}
use Rattle.lsm_device.specs.Disk.{seen}
use Rattle.lsm_device.specs.Medium.{disk}
use Rattle.lsm_device.specs.declared.refusal.Refusal.{Refusal}
use Rattle.lsm_levels.specs.Asking.{Source}
use Rattle.lsm_levels.specs.Levels.{Levels, places}
use Rattle.lsm_levels.specs.Lookups.{IsLookUp}
use Rattle.lsm_levels.specs.NamedBlocks.{HaveNone, HasNoBlock}
use Rattle.lsm_levels.specs.Pages.{IsScan}
use Rattle.lsm_levels.specs.Scans.{ScansRuns}
use Rattle.lsm_mem.specs.Paging.{Page}
use Rattle.lsm_levels.specs.Stored.{ArePlaced}
use Rattle.lsm_store.specs.Backing.{StoreView, data_start}
use Rattle.lsm_machine.specs.State.{count_at}
use Rattle.lsm_machine.specs.declared.asked.At.{At}

-- what a read of a store finds: its cache, and its device
abbrev pub source_of : StoreView → Source
source_of s = record { cache = s.cache; medium = s.device }

-- A key is looked up in a store at the count of batches that the read asks: in memory, in the sealed versions, and then in the
-- runs of its tables, the newer first, until one has a version of the key. Of a run at most one block is asked for, through the
-- cache, and the device is read for no other.
abbrev pub IsStoreLookUp : StoreView → At → Bytes → Result (Option Bytes) Refusal → StoreView → Type 0
IsStoreLookUp old at key answer new = IsLookUp old.work.memory old.work.sealed (places old.work.levels) (data_start old) key (count_at old.state at) answer (source_of old) (source_of new)

-- A scan of a store from a key on, which ends with this refusal or with none: it asks the cache for blocks of each run of
-- tables in turn, from the first on that doesn't end before the key, each once at most, and the device is read for no other.
abbrev pub IsStoreScan : StoreView → Bytes → Option Refusal → StoreView → Type 0
IsStoreScan old from refusal new = ScansRuns (data_start old) from (places old.work.levels) refusal (source_of old) (source_of new)

-- The page of a scan of a store, at the count of batches that the read asks, or the refusal that ends it: just what memory, the
-- sealed versions and the blocks of its tables have that it is given, whatever that is. Bytes that are no entry and come next in a
-- block end it with BadTable.
abbrev pub IsStorePage : StoreView → At → Bytes → Option Bytes → ℕ → Result Page Refusal → StoreView → Type 0
IsStorePage old at from to limit answer new = IsScan old.work.memory old.work.sealed (places old.work.levels) (data_start old) from to limit (count_at old.state at) answer (source_of old) (source_of new)

-- The device is only read, at most `most` sectors, and `ok` is false just where a read faulted. Of tables that have their
-- places the cache goes on to have what the device has, and no blocks of others come into it.
pub record ReadsThrough (most area : ℕ) (levels : Levels) (ok : Bool) (old new : Source) : Type 0 where
  pub calls : AtMost most 0 0 old.medium.calls new.medium.calls
  pub faults : new.medium.calls.faults ≡ faults_after ok old.medium.calls.faults
  pub unchanged : IsTrue old.medium.lasting.tells → new.medium.history ≡ old.medium.history
  pub same_size : new.medium.size ≡ old.medium.size
  pub same_lasting : new.medium.lasting ≡ old.medium.lasting
  pub fresh : (place : BlockName → Option ℕ) → IsTrue old.medium.lasting.tells → ArePlaced place area (places levels) → IsFresh place (seen (disk old.medium)) old.cache → IsFresh place (seen (disk new.medium)) new.cache
  -- it takes in blocks of these tables alone
  pub others : (number : ℕ) → HaveNone number (places levels) → HasNoBlock number old.cache → HasNoBlock number new.cache
