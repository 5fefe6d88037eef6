-- Rows of a range, page by page, of the map of a snapshot.
use Rattle.std.specs.Prelude.{◌≡◌, ◌⊎◌, ℕ, Option, Some, None}
use Rattle.lsm_codec.specs.Keys.{Bytes}
use Rattle.lsm_device.specs.declared.refusal.Refusal.{Refusal}
use Rattle.lsm_device.specs.declared.refusal.Refusal.TheVariants.{NoMemory}
use Rattle.lsm_mem.specs.Paging.{Page}
use Rattle.lsm_store.specs.Backing.{StoreView}
use Rattle.lsm_machine.specs.Calls.{Reply, Number, Rows, Refused, Release, Scan, Snapshot}
use Rattle.lsm_store.specs.Serving.{Serves}
use Rattle.lsm_machine.specs.declared.asked.At.TheVariants.{Snap}

-- rows of one map, that of a snapshot: from the key with which the next page begins, none after the last page, up to this one, which is
-- outside. The snapshot is held up to the last page.
pub record Pages : Type 0 where
  pub snapshot : ℕ
  pub from : Option Bytes
  pub to : Option Bytes

-- A snapshot was taken for it.
pub record Begins (from : Bytes) (to : Option Bytes) (pages : Pages) (before after : StoreView) : Type 0 where
  pub number : ℕ
  pub serves : Serves before Snapshot (Number number) after
  pub is : pages ≡ record { snapshot = number; from = Some from; to = to }

-- or that was refused, or before it memory for the keys
abbrev pub DoesNotBegin : Refusal → StoreView → StoreView → Type 0
DoesNotBegin e before after = Serves before Snapshot (Refused e) after ⊎ ((e ≡ NoMemory) × (after ≡ before))

-- where no key is left, a snapshot was released, and else nothing was done
abbrev pub ReleasesAtEnd : Option Bytes → ℕ → StoreView → StoreView → Type 0
ReleasesAtEnd (Some key) number before after = after ≡ before
ReleasesAtEnd None number before after = (reply : Reply) × Serves before (Release number) reply after

-- The next 64 rows were told, or as many as are left. It goes on with the first key that was left out; where none was, its snapshot was
-- released.
pub record TellsPage (old : Pages) (page : Page) (new : Pages) (before after : StoreView) : Type 0 where
  pub key : Bytes
  pub begins : old.from ≡ Some key
  pub mid : StoreView
  pub serves : Serves before (Scan (Snap old.snapshot) key old.to 64) (Rows page) mid
  pub releases : ReleasesAtEnd page.next old.snapshot mid after
  pub becomes : new ≡ record { snapshot = old.snapshot; from = page.next; to = old.to }

-- a page was told, or there is none
abbrev pub TellsNext : Pages → Option Page → Pages → StoreView → StoreView → Type 0
TellsNext old (Some page) new before after = TellsPage old page new before after
TellsNext old None new before after = (old.from ≡ None) × (new ≡ old) × (after ≡ before)

-- A page was refused, or there was no memory for the key after it. It may be asked for again.
pub record StaysThere (old : Pages) (refusal : Refusal) (new : Pages) (before after : StoreView) : Type 0 where
  pub key : Bytes
  pub begins : old.from ≡ Some key
  pub same : new ≡ old
  pub served : Serves before (Scan (Snap old.snapshot) key old.to 64) (Refused refusal) after
      ⊎ ((refusal ≡ NoMemory) × (page : Page) × Serves before (Scan (Snap old.snapshot) key old.to 64) (Rows page) after)

-- its snapshot was released, if it held one still
abbrev pub EndsAt : Option Bytes → ℕ → StoreView → StoreView → Type 0
EndsAt (Some key) number before after = (reply : Reply) × Serves before (Release number) reply after
EndsAt None number before after = after ≡ before

abbrev pub Ends : Pages → StoreView → StoreView → Type 0
Ends pages before after = EndsAt pages.from pages.snapshot before after
