-- Rows that are loaded.
use Rattle.std.specs.Prelude.{◌≡◌, ◌≤◌, ◌⊎◌, ℕ, zero, suc, Bool, true, false, List, [], ◌∷◌, ◌++◌, length, Option, Some, None, Result, Ok, Err, IfSome, codes, decimal}
use Rattle.lsm_codec.specs.Map.{Operation, apply}
use Rattle.lsm_device.specs.declared.refusal.Refusal.{Refusal}
use Rattle.lsm_device.specs.declared.refusal.Refusal.TheVariants.{Exhausted, NoMemory}
use Rattle.lsm_store.specs.Backing.{StoreView}
use Rattle.lsm_machine.specs.Calls.{Done, Sync}
use Rattle.lsm_store.specs.Serving.{Serves}
use Rattle.lsm_language.specs.declared.program_error.ProgramError.{ProgramError}
use Rattle.lsm_language.specs.declared.program_error.ProgramError.TheVariants as fault
use Rattle.lsm_language.specs.Faults.{Reason, mistake, refusal, unread, reason_of}
use Rattle.lsm_language.specs.Rows.{are_rows, lines_of, rows_of}
use Rattle.lsmctl.specs.Commits.{Adds, AddsNot, IsKeptUp, Refuses, map_in}
use Rattle.lsmctl.specs.declared.loading.Loading.{Loading}
use Rattle.lsmctl.specs.declared.loading.Loaded.{Loaded}
use Rattle.lsmctl.specs.declared.answer.Output.{Output}
use Rattle.lsmctl.specs.declared.answer.Output.TheVariants.{Loaded as LoadedRows}

-- ---- rows in a store

-- rows were put in n batches, one after another
abbrev pub PutsRows : ℕ → List Operation → StoreView → StoreView → Type 0
PutsRows zero rows before after = (rows ≡ []) × (after ≡ before)
PutsRows (suc batches) rows before after = (earlier batch : List Operation) × (between : StoreView) × (rows ≡ earlier ++ batch) × PutsRows batches earlier before between × Adds batch between after

-- ---- rows of an input

-- a list begins with another
abbrev pub BeginsWith : List Operation → List Operation → Type 0
BeginsWith all rows = (rest : List Operation) × (all ≡ rows ++ rest)

-- the rows of an input begin with these, which may be none
abbrev pub AreFirstRows : Option (List ℕ) → List Operation → Type 0
AreFirstRows input rows = IfSome input (λ all. BeginsWith (rows_of (lines_of all)) rows)

-- these are all rows of an input up to a line that is no row, if there is such a line
abbrev pub AreRowsOf : Option (List ℕ) → Bool → List Operation → Type 0
AreRowsOf input whole rows = IfSome input (λ all. (rows ≡ rows_of (lines_of all)) × (are_rows (lines_of all) ≡ whole))

-- an input has 2^64 - 1 rows or more; no more are read
abbrev pub HasTooMany : Option (List ℕ) → Type 0
HasTooMany input = IfSome input (λ all. 18446744073709551615 ≤ length (rows_of (lines_of all)))

-- a refusal that no store told: there was no memory, or there are too many rows
abbrev pub IsShort : Option (List ℕ) → Refusal → Type 0
IsShort input e = (e ≡ NoMemory) ⊎ ((e ≡ Exhausted) × HasTooMany input)

-- ---- how a loading ends

-- rows after those that a store has were not added to it: the first ones that were to come, or no others were read
abbrev pub StopsAt : Option (List ℕ) → List Operation → StoreView → Refusal → StoreView → Type 0
StopsAt input rows has e after = ((batch : List Operation) × AreFirstRows input (rows ++ batch) × AddsNot batch has e after) ⊎ (IsShort input e × (after ≡ has))

-- Rows of an input are in a store, and for this reason no more are: a line after them is no row; they or a batch after them could not be
-- taken; or the input could not be read.
abbrev pub EndsFor : Reason → Option (List ℕ) → List Operation → StoreView → StoreView → Type 0
EndsFor mistake input rows has after = AreRowsOf input false rows × (after ≡ has)
EndsFor (refusal e) input rows has after = AreFirstRows input rows × StopsAt input rows has e after
EndsFor unread input rows has after = AreFirstRows input rows × (after ≡ has)
EndsFor other input rows has after = ⊥

-- or all of them are
abbrev pub EndsWith : Result (Unit {0}) ProgramError → Option (List ℕ) → List Operation → StoreView → StoreView → Type 0
EndsWith (Ok done) input rows has after = AreRowsOf input true rows × (after ≡ has)
EndsWith (Err fault) input rows has after = EndsFor (reason_of fault) input rows has after

-- The first rows of an input were put into a store, in their order, up to this end.
pub record LoadsRows (input : Option (List ℕ)) (ended : Result (Unit {0}) ProgramError) (before after : StoreView) : Type 0 where
  pub rows : List Operation
  pub batches : ℕ
  pub has : StoreView
  pub puts : PutsRows batches rows before has
  pub ends : EndsWith ended input rows has after
  pub map : map_in after ≡ apply (map_in before) rows

-- `loaded.rows` rows of the input were, and they are synced.
pub record IsLoaded (input : Option (List ℕ)) (loaded : Loaded) (before after : StoreView) : Type 0 where
  pub between : StoreView
  pub loads : LoadsRows input loaded.ended before between
  pub number : loaded.rows ≡ length loads.rows
  pub syncs : Serves between Sync Done after

-- They were, and the sync after the last of them failed so.
pub record RefusesLastSync (input : Option (List ℕ)) (before : StoreView) (e : Refusal) : Type 0 where
  pub ended : Result (Unit {0}) ProgramError
  pub between : StoreView
  pub loads : LoadsRows input ended before between
  pub refused : Refuses Sync between e

-- ---- of a store that is kept up before

-- A store was kept up, and rows were loaded.
pub record KeepsAndLoads (input : Option (List ℕ)) (loaded : Loaded) (before after : StoreView) : Type 0 where
  pub kept : StoreView
  pub keeps : IsKeptUp before kept
  pub loads : IsLoaded input loaded kept after
  pub map : map_in after ≡ apply (map_in before) loads.loads.rows

-- So they were, but the last sync was refused, so that no number is told.
pub record RefusesToLoad (input : Option (List ℕ)) (before : StoreView) (e : Refusal) : Type 0 where
  pub kept : StoreView
  pub keeps : IsKeptUp before kept
  pub refused : RefusesLastSync input kept e

-- the line that tells how many
abbrev pub loaded_line : ℕ → List ℕ
loaded_line number = codes "loaded " ++ decimal number ++ 10 ∷ []

-- all rows of the input are put, and their number is told
pub record HasLoaded (input : Option (List ℕ)) (before after : StoreView) (output : Output) : Type 0 where
  pub loaded : Loaded
  pub loads : KeepsAndLoads input loaded before after
  pub whole : loaded.ended ≡ Ok tt
  pub told : output ≡ LoadedRows loaded.rows

-- ---- steps of a loading

-- the rows of a batch, if there is one
abbrev pub rows_waiting : Option (List Operation) → List Operation
rows_waiting None = []
rows_waiting (Some batch) = batch

-- How far a loading is of these rows, of a store that began as another: all but those that wait are in the store.
pub record IsLoading (begun : StoreView) (rows : List Operation) (loading : Loading) (s : StoreView) : Type 0 where
  pub put : List Operation
  pub all : rows ≡ put ++ rows_waiting loading.batch
  pub read : loading.read ≡ length rows
  pub loaded : loading.loaded ≡ length put
  pub batches : ℕ
  pub puts : PutsRows batches put begun s

-- these rows are the first of an input, and this is left of it
abbrev pub HasRead : Option (List ℕ) → List Operation → Option (List ℕ) → Type 0
HasRead input rows left = IfSome input (λ all. (text : List ℕ) × (left ≡ Some text) × (rows_of (lines_of all) ≡ rows ++ rows_of (lines_of text))
    × (are_rows (lines_of all) ≡ are_rows (lines_of text)))

-- no row yet
abbrev pub none_loaded : Loading
none_loaded = record { batch = None; read = 0; loaded = 0 }

-- Whatever was loaded so far, a row more is.
abbrev pub Takes : Operation → Loading → StoreView → Loading → StoreView → Type 0
Takes row old before new after = (begun : StoreView) (rows : List Operation) → IsLoading begun rows old before → IsLoading begun (rows ++ row ∷ []) new after

-- it is as it was
abbrev pub StaysLoaded : Loading → StoreView → Loading → StoreView → Type 0
StaysLoaded old before new after = (begun : StoreView) (rows : List Operation) → IsLoading begun rows old before → IsLoading begun rows new after

-- Those that waited could not be added, and nothing else has changed.
abbrev pub WaitingRefused : Loading → StoreView → Refusal → Loading → StoreView → Type 0
WaitingRefused old before e new after = (new ≡ old) × AddsNot (rows_waiting old.batch) before e after

-- A row was not taken: there was no memory for it, or those that waited could not be added before it.
abbrev pub TakesNot : Loading → StoreView → Refusal → Loading → StoreView → Type 0
TakesNot old before e new after = ((e ≡ NoMemory) × StaysLoaded old before new after) ⊎ WaitingRefused old before e new after

-- the row is in the batch of those that wait, or nothing has changed
abbrev pub FitsIf : Bool → Operation → Loading → Loading → Type 0
FitsIf true row old new = (batch : List Operation) × (old.batch ≡ Some batch) × (new ≡ record old { batch = Some (batch ++ row ∷ []) })
FitsIf false row old new = new ≡ old

abbrev pub Fits : Operation → Result Bool Refusal → Loading → Loading → Type 0
Fits row (Ok taken) old new = FitsIf taken row old new
Fits row (Err e) old new = new ≡ old

-- a batch was added, if there is one
abbrev pub AddsWaiting : Option (List Operation) → StoreView → StoreView → Type 0
AddsWaiting None before after = after ≡ before
AddsWaiting (Some batch) before after = Adds batch before after

-- those that waited are put
abbrev pub none_waits : Loading → Loading
none_waits old = record { batch = None; read = old.read; loaded = old.read }

abbrev pub CommitsWaiting : Loading → StoreView → Loading → StoreView → Type 0
CommitsWaiting old before new after = (new ≡ none_waits old) × StaysLoaded old before new after

-- an end by a refusal
abbrev pub is_refused : Result (Unit {0}) ProgramError → Bool
is_refused (Err (fault.Refused e)) = true
is_refused (Err (fault.Failed failure)) = true
is_refused other = false

-- why no more rows were read: those that were read are in the store, or wait
abbrev pub StopsReading : Option (List ℕ) → Loading → StoreView → Refusal → StoreView → Type 0
StopsReading input loading has e after = AddsNot (rows_waiting loading.batch) has e after ⊎ (IsShort input e × (after ≡ has))

abbrev pub EndsReadingFor : Reason → Option (List ℕ) → List Operation → Loading → StoreView → StoreView → Type 0
EndsReadingFor mistake input rows loading has after = AreRowsOf input false rows × (after ≡ has)
EndsReadingFor (refusal e) input rows loading has after = AreFirstRows input rows × StopsReading input loading has e after
EndsReadingFor unread input rows loading has after = AreFirstRows input rows × (after ≡ has)
EndsReadingFor other input rows loading has after = ⊥

abbrev pub EndsReading : Result (Unit {0}) ProgramError → Option (List ℕ) → List Operation → Loading → StoreView → StoreView → Type 0
EndsReading (Ok done) input rows loading has after = AreRowsOf input true rows × (after ≡ has)
EndsReading (Err fault) input rows loading has after = EndsReadingFor (reason_of fault) input rows loading has after

-- rows were read, and all but those that wait were put
pub record AreRead (input : Option (List ℕ)) (ended : Result (Unit {0}) ProgramError) (loading : Loading) (before after : StoreView) : Type 0 where
  pub rows : List Operation
  pub has : StoreView
  pub loads : IsLoading before rows loading has
  pub ends : EndsReading ended input rows loading has after

-- rows were put, and counted
pub record ArePut (input : Option (List ℕ)) (ended : Result (Unit {0}) ProgramError) (loading : Loading) (before after : StoreView) : Type 0 where
  pub loads : LoadsRows input ended before after
  pub number : loading.loaded ≡ length loads.rows
