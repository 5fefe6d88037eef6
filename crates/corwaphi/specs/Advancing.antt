-- Rows of a range, one after another.
use Rattle.std.specs.Prelude.{◌≡◌, ◌<◌, ◌⊎◌, ℕ, ◌-◌, List, [], ◌∷◌, ◌++◌, drop, Option, Some, None, option_map, Result, Ok, Err}
use Rattle.std.specs.Borrow.{GName}
use Rattle.lsm_codec.specs.Keys.{Bytes}
use Rattle.lsm_codec.specs.Map.{Map}
use Rattle.lsm_device.specs.declared.refusal.Refusal.{Refusal}
use Rattle.lsm_device.specs.declared.refusal.Refusal.TheVariants.{NoMemory, Exhausted}
use Rattle.lsm_mem.specs.Paging.{Page, pairs_in}
use Rattle.lsm_store.specs.Backing.{StoreView, IsBacked}
use Rattle.lsm_machine.specs.Calls.{Rows, Refused, Scan}
use Rattle.lsm_store.specs.Serving.{Serves}
use Rattle.lsm_machine.specs.State.{map_at}
use Rattle.lsm_machine.specs.declared.asked.At.{At}
use Rattle.corwaphi.specs.declared.range_rows.RangeRows.{RangeRows}
use Rattle.corwaphi.specs.declared.row.Row.{Row}

-- the key and the value of a row
abbrev pub pair_of : Row → Bytes × Bytes
pair_of row = (row.key.items, row.value.items)

-- Where the rows of a range stand, over a store: the map that is asked, the rows that were read and not told yet, the key with which the
-- next page begins, none after the last page, and the key where the range ends, which is outside.
pub record Standing : Type 0 where
  pub store : StoreView
  pub at : At
  pub unread : List (Bytes × Bytes)
  pub from : Option Bytes
  pub to : Option Bytes

-- before the first row of a range
abbrev pub stands_before : At → Bytes → Option Bytes → StoreView → Standing
stands_before at from to store = record { store = store; at = at; unread = []; from = Some from; to = to }

-- the rows after the first n of the page that was read last
abbrev pub rows_behind : ℕ → Option Page → List (Bytes × Bytes)
rows_behind told (Some page) = drop told page.rows
rows_behind told None = []

-- the key with which the next page begins, where that of the first one is this
abbrev pub key_behind : Bytes → Option Page → Option Bytes
key_behind from (Some page) = page.next
key_behind from None = Some from

module _ {D : Type 0} where
  -- where rows stand
  abbrev pub standing : RangeRows D → Standing
  standing r = record {
    store = r.db.now;
    at = r.at;
    unread = rows_behind r.told r.page;
    from = key_behind r.from.items r.page;
    to = option_map (λ v. v.items) r.to;
  }

  -- how often they may be asked still
  abbrev pub calls_left : RangeRows D → ℕ
  calls_left r = r.calls

  -- the ghost name of the reference to the store
  abbrev pub lender : RangeRows D → GName
  lender r = r.db.ghost_name

-- ---- one row

-- this is the first of these rows, and those are the others; or there is none
abbrev pub IsFirst : Option (Bytes × Bytes) → List (Bytes × Bytes) → List (Bytes × Bytes) → Type 0
IsFirst (Some row) rows others = rows ≡ row ∷ others
IsFirst None rows others = rows ≡ []

-- the first of the rows that were read was taken; none was there; or there was no memory for its copy
abbrev pub TakesRow : Standing → Result (Option Row) Refusal → Standing → Type 0
TakesRow old (Ok (Some row)) new = (old.unread ≡ pair_of row ∷ new.unread) × (new ≡ record old { unread = new.unread })
TakesRow old (Ok None) new = (old.unread ≡ []) × (new ≡ old)
TakesRow old (Err e) new = (e ≡ NoMemory) × (new ≡ old)

-- the next page was read
pub record ReadsPage (old new : Standing) : Type 0 where
  pub key : Bytes
  pub page : Page
  pub none : old.unread ≡ []
  pub begins : old.from ≡ Some key
  pub serves : Serves old.store (Scan old.at key old.to 64) (Rows page) new.store
  pub becomes : new ≡ record old { store = new.store; unread = page.rows; from = page.next }

-- or nothing was done, since a row is there, or no page is left
abbrev pub HasRead : Standing → Standing → Type 0
HasRead old new = ((new ≡ old) × (old.unread ≡ [] → old.from ≡ None)) ⊎ ReadsPage old new

-- the next page was refused, and the rows stand where they stood
pub record IsPageRefused (old : Standing) (e : Refusal) (new : Standing) : Type 0 where
  pub key : Bytes
  pub none : old.unread ≡ []
  pub begins : old.from ≡ Some key
  pub serves : Serves old.store (Scan old.at key old.to 64) (Refused e) new.store
  pub becomes : new ≡ record old { store = new.store }

-- the first of the rows that were read was told
pub record TellsRow (old : Standing) (row : Row) (new : Standing) : Type 0 where
  pub mid : Standing
  pub read : HasRead old mid
  pub first : mid.unread ≡ pair_of row ∷ new.unread
  pub becomes : new ≡ record mid { unread = new.unread }

-- What asking for the next row does. It tells the first of the rows that were read; none where no row was left after the last page; and
-- it fails as the scan of the page, or with NoMemory for the copy of the row.
abbrev pub TellsNextRow : Standing → Result (Option Row) Refusal → Standing → Type 0
TellsNextRow old (Ok (Some row)) new = TellsRow old row new
TellsNextRow old (Ok None) new = HasRead old new × (new.unread ≡ [])
TellsNextRow old (Err e) new = IsPageRefused old e new ⊎ ((e ≡ NoMemory) × HasRead old new)

-- ---- all rows

-- the pairs of a map from a key on, none where no key is given
abbrev pub pairs_from : Map → Option Bytes → Option Bytes → List (Bytes × Bytes)
pairs_from m (Some from) to = pairs_in m from to
pairs_from m None to = []

-- all rows that are still to come: those that were read, and those that the map has from the next page on
abbrev pub rows_to_come : Standing → List (Bytes × Bytes)
rows_to_come s = s.unread ++ pairs_from (map_at s.store.state s.at) s.from s.to

-- What asking for the next row comes to where the device backs the state: it tells the first of all that are to come, and the others are to
-- come then; none exactly where none was to come; and a refusal leaves all of them to come.
abbrev pub ComesNext : Standing → Result (Option Row) Refusal → Standing → Type 0
ComesNext old (Ok (Some row)) new = rows_to_come old ≡ pair_of row ∷ rows_to_come new
ComesNext old (Ok None) new = (rows_to_come old ≡ []) × (rows_to_come new ≡ [])
ComesNext old (Err e) new = rows_to_come new ≡ rows_to_come old

-- The next row was asked for, and the store has the state that it had.
pub record AsksRow (old : Standing) (told : Result (Option Row) Refusal) (new : Standing) : Type 0 where
  pub tells : TellsNextRow old told new
  pub comes : IsBacked old.store → ComesNext old told new
  pub backed : IsBacked old.store → IsBacked new.store
  pub state : new.store.state ≡ old.store.state

-- ---- as an iterator

-- an item as the answer that it was
abbrev pub as_told : Option (Result Row Refusal) → Result (Option Row) Refusal
as_told (Some (Ok row)) = Ok (Some row)
as_told (Some (Err e)) = Err e
as_told None = Ok None

module _ {D : Type 0} where
  -- The next row was asked for, where more than one call was left. The last call tells Exhausted, and from then on it gives none.
  pub record GivesNext (old : RangeRows D) (item : Option (Result Row Refusal)) (new : RangeRows D) : Type 0 where
    pub same_store : lender new ≡ lender old
    pub asks : 1 < calls_left old → AsksRow (standing old) (as_told item) (standing new)
    pub last : calls_left old ≡ 1 → (item ≡ Some (Err Exhausted)) × (standing new ≡ standing old)
    pub none : calls_left old ≡ 0 → (item ≡ None) × (standing new ≡ standing old)
    pub fewer : calls_left new ≡ calls_left old - 1
