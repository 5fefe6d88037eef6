-- A walk over the rows of a store, page by page.
use Rattle.std.specs.Prelude.{◌≡◌, ◌⊎◌, Option, Some, None, List, [], ◌∷◌}
use Rattle.lsm_codec.specs.Keys.{Bytes}
use Rattle.lsm_device.specs.declared.refusal.Refusal.{Refusal}
use Rattle.lsm_device.specs.declared.refusal.Refusal.TheVariants.{NoMemory}
use Rattle.lsm_mem.specs.Paging.{Page}
use Rattle.lsm_store.specs.Backing.{StoreView}
use Rattle.lsm_machine.specs.Calls.{Rows, Scan, Refused}
use Rattle.lsm_store.specs.Serving.{Serves}
use Rattle.lsm_machine.specs.declared.asked.At.{At}

-- the map that it goes over, and the key with which it goes on; none after the last page
pub record WalkView : Type 0 where
  pub at : At
  pub from : Option Bytes

-- a page was found: the first 64 rows from that key on, and the walk goes on with the first key that the page leaves out
pub record GoesOn (old : WalkView) (page : Page) (new : WalkView) (before after : StoreView) : Type 0 where
  pub from : Bytes
  pub begins : old.from ≡ Some from
  pub serves : Serves before (Scan old.at from None 64) (Rows page) after
  pub becomes : new ≡ record { at = old.at; from = page.next }

-- a page was found, or the walk was at its end
abbrev pub Walks : WalkView → Option Page → WalkView → StoreView → StoreView → Type 0
Walks old (Some page) new before after = GoesOn old page new before after
Walks old None new before after = (old.from ≡ None) × (new ≡ old) × (after ≡ before)

-- a page was refused, or there was no memory for the key after it; the walk stays
pub record IsHeld (old : WalkView) (refusal : Refusal) (new : WalkView) (before after : StoreView) : Type 0 where
  pub from : Bytes
  pub begins : old.from ≡ Some from
  pub same : new ≡ old
  pub served : Serves before (Scan old.at from None 64) (Refused refusal) after
      ⊎ ((refusal ≡ NoMemory) × (page : Page) × Serves before (Scan old.at from None 64) (Rows page) after)

-- pages one after another, from a key to the one with which the next page would begin
abbrev pub WalksTo : At → Option Bytes → List Page → Option Bytes → StoreView → StoreView → Type 0
WalksTo at from [] to old new = (to ≡ from) × (new ≡ old)
WalksTo at (Some from) (page ∷ pages) to old new = (mid : StoreView) × Serves old (Scan at from None 64) (Rows page) mid × WalksTo at page.next pages to mid new
WalksTo at None (page ∷ pages) to old new = ⊥

-- pages one after another, to the end
abbrev pub WalksThrough : At → Option Bytes → List Page → StoreView → StoreView → Type 0
WalksThrough at from pages old new = WalksTo at from pages None old new
