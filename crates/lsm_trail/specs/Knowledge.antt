-- What passes of a session know.
use Rattle.std.specs.Prelude.{◌≡◌, ℕ, ◌≤◌, List, [], ◌∷◌, length, Option, Some, None}
use mathlib.Core.List.{IsPrefix}
use Rattle.std.specs.FinMap as finite
use Rattle.atomic_table.specs.Seated.{TableId}
use Rattle.atomic_table.specs.declared.shared.Seat.{Seat}
use Rattle.lsm_device.specs.Medium.{zeroed}
use Rattle.lsm_machine.specs.Crash.{reopened}
use Rattle.lsm_machine.specs.Work.{no_work}
use Rattle.lsm_trail.specs.Begins.{Begin}
use Rattle.lsm_trail.specs.History.{Event, IsLegal, entries_by}
use Rattle.lsm_trail.specs.declared.numbers.Numbers.{Numbers}

-- A session: the table of its words, and its begin.
pub record SessionId : Type 0 where
  pub table : TableId
  pub begin : Begin

-- What the lock's holder knows: how many clients there are so far, the whole history, and the words of the next
-- history that are written already.
pub record Keeper : Type 0 where
  pub begin : Begin
  pub dealt : ℕ
  pub log : List Event
  pub draft : List ℕ

-- What a client knows: its number, a beginning of the history that it has seen, and the calls that it made.
pub record Known : Type 0 where
  pub begin : Begin
  pub number : ℕ
  pub seen : List Event
  pub mine : List Event

-- A client has seen one legal history, and made no call: the history begins with all that the client had seen, and has
-- just the calls that it made, each once.
pub record Sees (c d : Known) : Type 0 where
  pub begin : d.begin ≡ c.begin
  pub number : d.number ≡ c.number
  pub seen : IsPrefix c.seen d.seen
  pub mine : d.mine ≡ c.mine
  pub legal : IsLegal d.begin d.seen
  pub own : entries_by d.number d.seen ≡ d.mine
  pub room : length d.seen ≤ d.begin.limit

-- What a pass knows: the lock's part, a client's part, both or nothing, and what it was told: a beginning of the history.
pub record View : Type 0 where
  pub keeper : Option Keeper
  pub client : Option Known
  pub told : List Event

abbrev pub keeping : Begin → ℕ → List Event → List ℕ → Keeper
keeping begin dealt log draft = record { begin = begin; dealt = dealt; log = log; draft = draft }

abbrev pub known : Begin → ℕ → List Event → List Event → Known
known begin number seen mine = record { begin = begin; number = number; seen = seen; mine = mine }

abbrev pub view_of : Option Keeper → Option Known → View
view_of keeper client = record { keeper = keeper; client = client; told = [] }

abbrev pub nobody : View
nobody = view_of None None

-- a client that was told this, and a pass that knows nothing else
abbrev pub hearing : List Event → Known → View
hearing told c = record { keeper = None; client = Some c; told = told }

abbrev pub telling : List Event → View
telling told = record { keeper = None; client = None; told = told }

-- the begin of no session
abbrev pub no_begin : Begin
no_begin = record {
  store = record {
    device = zeroed 0;
    state = reopened 0 (record { count = 0; map = finite.empty; closed = 0; generation = 0 });
    layout = record { log_sectors = 0; generation = 0; base = 0; next_table = 0; closed = []; open_region = None };
    work = no_work;
    cache = record { blocks = []; capacity = 0; refusals = 0 };
  };
  limit = 0;
  clients = 0;
}

abbrev pub no_session : SessionId
no_session = record { table = record { words = 0; slots = 0; views_name = 0; atom = 0; block = 0; offset = 0; slot_names = [] }; begin = no_begin }

abbrev pub known_or : Option Known → Known
known_or None = known no_begin 0 [] []
known_or (Some c) = c

abbrev pub keeper_or : Option Keeper → Keeper
keeper_or None = keeping no_begin 0 [] []
keeper_or (Some k) = k

-- the client's part, and the lock's part, of a pass that has it
abbrev pub known_of : Seat Event View → Known
known_of p = known_or p.me.0.client

abbrev pub keeper_of : Seat Event View → Keeper
keeper_of p = keeper_or p.me.0.keeper

-- what a pass was told
abbrev pub told_to : Seat Event View → List Event
told_to p = p.me.0.told

-- a pass that was told this, and has no part
abbrev pub IsToldPass : SessionId → List Event → Seat Event View → Type 0
IsToldPass id told p = (p.table_id ≡ id.table) × (p.me ≡ (telling told, []))

-- the pass of a client: it has the client's part and nothing else
abbrev pub IsClientPass : SessionId → Seat Event View → Type 0
IsClientPass id p = (p.table_id ≡ id.table) × (p.me ≡ (view_of None (Some (known_of p)), [])) × ((known_of p).begin ≡ id.begin)

-- the lock's pass: it has the lock's part and nothing else, and this is the history
abbrev pub IsKeeperPass : SessionId → List Event → Seat Event View → Type 0
IsKeeperPass id log p = (p.table_id ≡ id.table) × (p.me ≡ (view_of (Some (keeping id.begin (keeper_of p).dealt log [])) None, []))

-- a pass that has the lock's part and a client's
abbrev pub HasBoth : SessionId → Keeper → Known → Seat Event View → Type 0
HasBoth id k c p = (p.table_id ≡ id.table) × (p.me ≡ (view_of (Some k) (Some c), []))

-- the words of these numbers
abbrev pub row_of : Numbers → List ℕ
row_of n = n.calls ∷ n.batches ∷ n.synced ∷ []
