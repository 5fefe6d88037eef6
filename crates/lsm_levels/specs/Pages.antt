-- Pages: what a scan makes of what it is given, whatever that is.
use Rattle.std.specs.Prelude.{◌≡◌, ◌⊎◌, ℕ, Bool, true, false, List, [], ◌∷◌, ◌++◌, map, Option, Some, None, Result, Ok, Err}
use Rattle.lsm_device.specs.declared.refusal.Refusal.{Refusal}
use Rattle.lsm_device.specs.declared.refusal.Refusal.TheVariants.{NoMemory}
use Rattle.lsm_codec.specs.Keys.{Bytes}
use Rattle.lsm_codec.specs.Versions.{Version}
use Rattle.lsm_mem.specs.Gathering.{Gathering, gathering, page_so_far, page_with}
use Rattle.lsm_mem.specs.Paging.{Page}
use Rattle.lsm_mem.specs.Ranges.{from_key, newest_each}
use Rattle.lsm_levels.specs.Tables.{Table}
use Rattle.lsm_levels.specs.Asking.{Source}
use Rattle.lsm_levels.specs.Cursors.{Cursor, Seeks, blocks_from_key, present}
use Rattle.lsm_levels.specs.SourceCursors.{cursor_of_versions}
use Rattle.lsm_levels.specs.Sources.{IsNext, head_at}
use Rattle.lsm_levels.specs.Queues.{AreSpent}
use Rattle.lsm_levels.specs.Scans.{Advances, TakesLast, TakesOn}

-- a refusal ends what is done; else it goes on
abbrev pub UnlessRefused : Option Refusal → (Refusal → Type 0) → Type 0 → Type 0
UnlessRefused None ends goes_on = goes_on
UnlessRefused (Some refusal) ends goes_on = ends refusal

-- a cursor stands at the version that comes next of all
pub record StandsNext (cursors : List Cursor) (i : ℕ) (v : Version) : Type 0 where
  pub next : IsNext (map present cursors) i
  pub stands : head_at (map present cursors) i ≡ Some v

-- The page is that of all versions: no cursor has one left.
pub record TakesAll (g : Gathering) (cursors : List Cursor) (answer : Result Page Refusal) : Type 0 where
  pub spent : AreSpent (map present cursors)
  pub is : answer ≡ Ok (page_with g [])

-- The page ends with the version that comes next.
pub record TakesUpTo (g : Gathering) (cursors : List Cursor) (answer : Result Page Refusal) : Type 0 where
  pub place : ℕ
  pub version : Version
  pub at : StandsNext cursors place version
  pub last : Gathering
  pub takes : TakesLast version g last
  pub is : answer ≡ Ok (page_so_far last)

-- it is answered: the page, or that memory is refused
abbrev pub IsAnswered : Gathering → List Cursor → Result Page Refusal → Type 0
IsAnswered g cursors answer = TakesAll g cursors answer ⊎ (TakesUpTo g cursors answer ⊎ (answer ≡ Err NoMemory))

-- The version that comes next is taken, after which the page goes on, and the cursor at it goes on too. It fails where a read
-- faults, or where the next bytes in its blocks are no entry.
pub record TakesTurn (i : ℕ) (g : Gathering) (cursors : List Cursor) (old : Source) : Type 0 where
  pub version : Version
  pub at : StandsNext cursors i version
  pub taken : Gathering
  pub takes : TakesOn version g taken
  pub behind : List Cursor
  pub refusal : Option Refusal
  pub mid : Source
  pub advances : Advances i cursors behind refusal old mid

-- Turn by turn versions are taken, until it is answered, or refused.
abbrev pub GathersInTurn : Gathering → List Cursor → List ℕ → Result Page Refusal → Source → Source → Type 0
GathersInTurn g cursors [] answer old new = IsAnswered g cursors answer × (new ≡ old)
GathersInTurn g cursors (i ∷ turns) answer old new =
    (t : TakesTurn i g cursors old) × UnlessRefused t.refusal (λ refusal. (answer ≡ Err refusal) × (new ≡ t.mid)) (GathersInTurn t.taken t.behind turns answer t.mid new)

-- A page is gathered from cursors.
pub record Gathers (g : Gathering) (cursors : List Cursor) (answer : Result Page Refusal) (old new : Source) : Type 0 where
  pub turns : List ℕ
  pub in_turn : GathersInTurn g cursors turns answer old new

-- A page is gathered from cursors and from runs after them: in each run in turn a cursor seeks the key, unless memory is refused.
-- It fails where a read faults, or where the run's first block has no version of such a key, or invalid bytes come before.
abbrev pub GathersRuns : Gathering → ℕ → Bytes → List (List Table) → List Cursor → Result Page Refusal → Source → Source → Type 0
GathersRuns g area key [] cursors answer old new = Gathers g cursors answer old new
GathersRuns g area key (run ∷ older) cursors answer old new =
    ((answer ≡ Err NoMemory) × (new ≡ old))
    ⊎ ((c : Cursor) × (refusal : Option Refusal) × (mid : Source) × Seeks key (blocks_from_key area key run) c refusal old mid
    × UnlessRefused refusal (λ e. (answer ≡ Err e) × (new ≡ mid)) (GathersRuns g area key older (cursors ++ c ∷ []) answer mid new))

-- the cursors over places of memory, which give of each key from one on the newest version that is numbered at most n
abbrev pub cursors_of : Bytes → ℕ → List (List Version) → List Cursor
cursors_of from n memory = map (λ place. cursor_of_versions (from_key from (newest_each n place))) memory

-- the places of memory: the present one, and the sealed one where there is one
abbrev pub AreMemory : List Version → List Version → List (List Version) → Type 0
AreMemory memory sealed memories = ((memories ≡ memory ∷ []) × (sealed ≡ [])) ⊎ (memories ≡ memory ∷ sealed ∷ [])

-- A scan of memory, of sealed memory, and then of runs, at a count of batches, from a key on and up to another where one is given.
pub record IsScan (memory sealed : List Version) (runs : List (List Table)) (area : ℕ) (from : Bytes) (to : Option Bytes) (limit n : ℕ) (answer : Result Page Refusal) (old new : Source) : Type 0 where
  pub memories : List (List Version)
  pub are : AreMemory memory sealed memories
  pub gathers : GathersRuns (gathering n to limit) area from runs (cursors_of from n memories) answer old new

-- ---- steps of it

abbrev pub Answering : Type 1
Answering = Result Page Refusal → Source → Source → Type 0

-- what is answered of the one is answered of the other too, unless it is refused
abbrev pub GoesOver : Answering → Answering → Option Refusal → Source → Source → Type 0
GoesOver before after None old mid = (answer : Result Page Refusal) (new : Source) → after answer mid new → before answer old new
GoesOver before after (Some refusal) old mid = before (Err refusal) old mid

-- the page of the rows that were gathered
pub record IsPageOf (g : Gathering) (page : Page) : Type 0 where
  pub so_far : page ≡ page_so_far g
  pub whole : g.next ≡ None → page ≡ page_with g []

-- it ends with the page that was gathered, unless it is refused
abbrev pub EndsWith : Answering → Option Refusal → Gathering → Source → Source → Type 0
EndsWith before None g old new = (page : Page) → IsPageOf g page → before (Ok page) old new
EndsWith before (Some refusal) g old new = before (Err refusal) old new

-- a step goes on, or ends with the page
abbrev pub GoesOrEnds : Answering → Answering → Gathering → Bool → Source → Source → Type 0
GoesOrEnds before after g true old new = GoesOver before after None old new
GoesOrEnds before after g false old new = EndsWith before None g old new
