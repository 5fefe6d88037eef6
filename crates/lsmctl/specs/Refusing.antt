-- With what a request may be refused, on any file: whatever it holds, and whichever of its device calls fault.
use Rattle.std.specs.Prelude.{◌≡◌, ◌⊎◌, ℕ, List, Option, Some, None, Err}
use Rattle.lsm_check.specs.Images.{IsCheckRefusal}
use Rattle.lsm_codec.specs.Guards.{Condition}
use Rattle.lsm_codec.specs.Map.{Operation}
use Rattle.lsm_device.specs.declared.refusal.Refusal.{Refusal}
use Rattle.lsm_device.specs.declared.refusal.Refusal.TheVariants.{NoMemory, Io}
use Rattle.lsm_language.specs.Faults.{IsRefusalBy, Reason}
use Rattle.lsm_language.specs.declared.request.Request.{Request}
use Rattle.lsm_language.specs.declared.request.Request.TheVariants as request
use Rattle.lsm_open.specs.Recovering.{IsOpeningRefusal}
use Rattle.lsm_machine.specs.declared.asked.At.TheVariants.{Now}
use Rattle.lsm_store.specs.Backing.{StoreView, machine_of}
use Rattle.lsm_machine.specs.Calls.{Call, Get, Scan, Sync, Number, Refused}
use Rattle.lsm_store.specs.Stats.{stat_answer}
use Rattle.lsm_upkeep.specs.Writing.{Writes}
use Rattle.lsm_serve.specs.Committing.{CompactsWhole}
use Rattle.lsm_storm.specs.Storms.{IsSessionRefusal, IsStormRefusal}
use Rattle.lsmctl.specs.Answers.{IsRefusedOpened, TellsDumped, TellsLoaded, TellsServed}
use Rattle.lsmctl.specs.Commits.{IsKeptUp, Refuses}

-- a call that reads was refused, or there was no memory for the text of its answer
abbrev pub RefusesToTell : Call → StoreView → Refusal → Type 0
RefusesToTell call before e = (e ≡ NoMemory) ⊎ Refuses call before e

-- The batch was written, and the sync after it failed.
pub record RefusesToSync (guards : Option (List Condition)) (batch : List Operation) (before : StoreView) (e : Refusal) : Type 0 where
  pub number : ℕ
  pub between : StoreView
  pub writes : Writes guards batch before (Number number) between
  pub refused : Refuses Sync between e

-- The store was kept up; then the batch was refused, or the sync after it.
pub record RefusesToCommit (guards : Option (List Condition)) (batch : List Operation) (before : StoreView) (e : Refusal) : Type 0 where
  pub kept : StoreView
  pub keeps : IsKeptUp before kept
  pub refused : ((after : StoreView) × Writes guards batch kept (Refused e) after) ⊎ RefusesToSync guards batch kept e

-- The store was kept up, and its tables were taken down as far as they go. Then there was no memory for the line of its numbers, or it was
-- stopped, and so does not tell them.
pub record RefusesToCompact (before : StoreView) (e : Refusal) : Type 0 where
  pub after : StoreView
  pub compacts : CompactsWhole before after
  pub untold : (e ≡ NoMemory) ⊎ (stat_answer (machine_of after) ≡ Err e)

-- With what a request may be refused that prints nothing before its answer.
abbrev pub MayRefuse : Request → Refusal → Type 0
MayRefuse (request.Format file geometry) e = (e ≡ NoMemory) ⊎ (e ≡ Io)
MayRefuse (request.Put file batch) e = IsRefusedOpened (RefusesToCommit None batch) e
MayRefuse (request.PutIf file guards batch) e = IsRefusedOpened (RefusesToCommit (Some guards.items) batch) e
MayRefuse (request.Delete file batch) e = IsRefusedOpened (RefusesToCommit None batch) e
MayRefuse (request.Get file key) e = IsRefusedOpened (RefusesToTell (Get Now key.items)) e
MayRefuse (request.Scan file from limit) e = IsRefusedOpened (RefusesToTell (Scan Now from.items None limit)) e
MayRefuse (request.Stat file) e = IsOpeningRefusal e
MayRefuse (request.Check file) e = IsCheckRefusal e
MayRefuse (request.Compact file) e = IsRefusedOpened RefusesToCompact e
MayRefuse (request.Dump file) e = ⊥
MayRefuse (request.Load file) e = ⊥
MayRefuse (request.Serve file) e = ⊥
MayRefuse (request.Replay file script) e = IsOpeningRefusal e
MayRefuse (request.Lives geometry script) e = e ≡ NoMemory
MayRefuse (request.Explore geometry script) e = e ≡ NoMemory
MayRefuse (request.Storm load) e = IsStormRefusal e
MayRefuse (request.Tally load) e = IsSessionRefusal e

-- why there is no answer, and what was printed then
abbrev pub FaultsWith : Request → Option (List ℕ) → Reason → Option (List ℕ) → Option (List ℕ) → Type 0
FaultsWith (request.Dump file) input reason output output_after = TellsDumped reason output output_after
FaultsWith (request.Load file) input reason output output_after = TellsLoaded input reason output output_after
FaultsWith (request.Serve file) input reason output output_after = TellsServed input reason output output_after
FaultsWith other input reason output output_after = IsRefusalBy (MayRefuse other) reason × (output_after ≡ output)
