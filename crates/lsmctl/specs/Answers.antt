-- What the program prints.
use Rattle.std.specs.Prelude.{◌≡◌, ◌⊎◌, ℕ, ◌+◌, ◌*◌, ◌==◌, Bool, List, [], ◌∷◌, ◌++◌, map, Option, Some, None, is_some, Result, Ok, Err, IfOk, IsTrue, false, true, codes, decimal, string_bytes}
use Rattle.std.specs.Io.KnownBytes.{Appends}
use Rattle.lsm_language.specs.Faults.{IsRefusalBy, Reason, refusal, unopened, unwritten, reason_of}
use Rattle.lsm_language.specs.declared.program_error.ProgramError.{ProgramError}
use Rattle.lsm_codec.specs.Keys.{Bytes}
use Rattle.lsm_codec.specs.Words.{word_of}
use Rattle.lsm_codec.specs.Geometry.{data_blocks_of}
use Rattle.lsm_mem.specs.Paging.{Page}
use Rattle.lsm_device.specs.Calls.{no_calls}
use Rattle.lsm_device.specs.Medium.{Medium, disk, silent}
use Rattle.lsm_device.specs.Disk.{seen}
use Rattle.lsm_device.specs.Outcomes.{Leaves}
use Rattle.lsm_device.specs.declared.file.FileDevice.{FileDevice}
use Rattle.lsm_root.specs.Counted.{CallsMade}
use Rattle.lsm_device.specs.declared.refusal.Refusal.{Refusal}
use Rattle.lsm_device.specs.declared.refusal.Refusal.TheVariants.{Stopped}
use Rattle.lsm_root.specs.CrashState.{formatted as empty_store}
use Rattle.lsm_open.specs.Image.{StandFor}
use Rattle.lsm_open.specs.ReadParts.{ReadsAtMost}
use Rattle.lsm_open.specs.Recovering.{IsOpeningRefusal}
use Rattle.lsm_check.specs.Counted.{IsReadFor}
use Rattle.lsm_check.specs.Images.{IsImage, is_faultless}
use Rattle.lsm_check.specs.declared.finding.Finding.{Finding}
use Rattle.lsm_check.specs.declared.finding.Finding.TheVariants as finding
use Rattle.lsm_check.specs.declared.report.Report.{Report}
use Rattle.lsm_machine.specs.declared.asked.At.TheVariants.{Now}
use Rattle.lsm_machine.specs.Calls.{Get, Scan, Rows, Value as Found}
use Rattle.lsm_store.specs.Backing.{StoreView, machine_of}
use Rattle.lsm_store.specs.Serving.{Serves, ReopensTo}
use Rattle.lsm_store.specs.Stats.{stat_answer}
use Rattle.lsm_store.specs.declared.stat.Stat.{Stat}
use Rattle.lsm_lives.specs.Asked.{Asked, Told as LivesTold}
use Rattle.lsm_lives.specs.Calls.{asked_of}
use Rattle.lsm_explore.specs.Exploring.{IsExplored}
use Rattle.lsm_lives.specs.Replaying.{MakesEach}
use Rattle.lsm_explore.specs.declared.exploring.Explored.{Explored}
use Rattle.lsm_lives.specs.Leading.{AreLed, HasNewCache, LifeView}
use Rattle.lsm_lives.specs.Living.{KeepPromise, asked_in}
use Rattle.lsmctl.specs.Steps.{steps_after, told_after, lives_said, told_lives}
use Rattle.lsmctl.specs.Commits.{HasCommitted}
use Rattle.lsmctl.specs.Dumping.{HasDumped, StopsDumping}
use Rattle.lsmctl.specs.Loading.{HasLoaded, KeepsAndLoads, RefusesToLoad, loaded_line}
use Rattle.lsm_language.specs.Replies.{stat_line}
use Rattle.lsmctl.specs.Replies.{page_lines, report_line, table_line, counts_lines, replies_text, lives_text}
use Rattle.lsmctl.specs.declared.loading.Loaded.{Loaded as LoadedUpTo}
use Rattle.lsmctl.specs.declared.steps.ReplyFormat.{ReplyFormat}
use Rattle.lsm_serve.specs.Committing.{CompactsWhole}
use Rattle.lsm_serve.specs.Serving.{IsServed}
use Rattle.lsm_storm.specs.Storms.{HasStormed}
use Rattle.lsm_upkeep.specs.Compacting.{is_compacted}
use Rattle.lsm_upkeep.specs.Lacking.{IsLacking}
use Rattle.lsm_storm.specs.Tallies.{HasTallied}
use Rattle.lsm_storm.specs.declared.counts.Counts.{Counts}
use Rattle.lsm_storm.specs.declared.tallying.Tallied.{Tallied}
use Rattle.lsm_language.specs.declared.request.Request.{Request}
use Rattle.lsm_language.specs.declared.request.Request.TheVariants as request
use Rattle.lsmctl.specs.declared.answer.Answer.{Answer}
use Rattle.lsmctl.specs.declared.answer.Output.{Output}
use Rattle.lsmctl.specs.declared.answer.Output.TheVariants.{Formatted, Batch, Value, Absent, Lines, Halfway, Loaded, Dumped, Served, Found as FoundWrong, Explored as CountsCrashes, Tally}

-- what an exploration counted
abbrev pub explored_line : Explored → List ℕ
explored_line counts = codes "first " ++ decimal counts.first ++ codes " second " ++ decimal counts.second
    ++ codes " skipped " ++ decimal counts.skipped ++ codes " wrong " ++ decimal counts.wrong ++ 10 ∷ []

-- the lines that are printed
abbrev pub output_lines : Output → List ℕ
output_lines (Formatted blocks) = codes "formatted blocks " ++ decimal blocks ++ 10 ∷ []
output_lines (Batch number) = codes "batch " ++ decimal number ++ 10 ∷ []
output_lines (Value word) = codes "value " ++ string_bytes word ++ 10 ∷ []
output_lines Absent = codes "absent" ++ 10 ∷ []
output_lines (Lines text) = string_bytes text
output_lines (Halfway text lack) = string_bytes text
output_lines (Loaded number) = loaded_line number
output_lines Dumped = []
output_lines Served = []
output_lines (FoundWrong text) = string_bytes text
output_lines (CountsCrashes counts) = explored_line counts
output_lines (Tally true) = codes "tally ok" ++ 10 ∷ []
output_lines (Tally false) = codes "tally bad" ++ 10 ∷ []

abbrev pub lines_of : Answer → List ℕ
lines_of answer = output_lines answer.output

-- The file that is handed out has `sectors` sectors and was made a store: since it was made, just the writes and syncs of a
-- format were made in it, and none of them failed. Its data blocks are told.
pub record HasFormatted (sectors log : ℕ) (answer : Answer) : Type 0 where
  pub file : FileDevice
  pub size : file.sectors ≡ sectors
  pub made : CallsMade (132 + 3 * log) 3 no_calls file.calls
  pub no_fault : file.calls.faults ≡ 0
  pub hands : answer.file ≡ Some file
  pub told : answer.output ≡ Formatted (data_blocks_of sectors log)

-- what contracts see of a file as a device
abbrev pub file_medium : FileDevice → Medium
file_medium file = record { size = file.sectors; lasting = silent; calls = file.calls; history = [] }

-- the file that is handed out is a device that stands so
abbrev pub Hands : Option FileDevice → Medium → Type 0
Hands (Some file) device = file_medium file ≡ device
Hands None device = ⊥

-- an opening of a file in which no call was made yet answered this store, whose cache is new
pub record WasOpened (store : StoreView) : Type 0 where
  pub file : FileDevice
  pub unused : file.calls ≡ no_calls
  pub opened : ReopensTo (file_medium file) store
  pub cache : HasNewCache store

-- a store was opened, and refused so
pub record OpensAndRefuses (RefusesSo : StoreView → Refusal → Type 0) (e : Refusal) : Type 0 where
  pub store : StoreView
  pub opened : WasOpened store
  pub refused : RefusesSo store e

-- no store was opened, or one was, and refused so
abbrev pub IsRefusedOpened : (StoreView → Refusal → Type 0) → Refusal → Type 0
IsRefusedOpened RefusesSo e = IsOpeningRefusal e ⊎ OpensAndRefuses RefusesSo e

-- A file was opened, and the store, which went on to another state, answers so. The file is handed out as the calls left it.
pub record OfOpened (Tells : StoreView → StoreView → Output → Type 0) (answer : Answer) : Type 0 where
  pub store : StoreView
  pub after : StoreView
  pub opened : WasOpened store
  pub tells : Tells store after answer.output
  pub hands : Hands answer.file after.device

-- a value is told by its word
abbrev pub TellsValue : Option Bytes → Output → Type 0
TellsValue (Some bytes) (Value word) = string_bytes word ≡ word_of bytes
TellsValue None Absent = Unit {0}
TellsValue _ _ = ⊥

-- a key was looked up, and its value is told, or that it has none
pub record HasFound (key : Bytes) (before after : StoreView) (output : Output) : Type 0 where
  pub value : Option Bytes
  pub serves : Serves before (Get Now key) (Found value) after
  pub told : TellsValue value output

-- lines of this text are printed
abbrev pub HasLines : List ℕ → Output → Type 0
HasLines lines (Lines text) = string_bytes text ≡ lines
HasLines lines _ = ⊥

-- a page of the map was found, and its rows are told
pub record HasRows (from : Bytes) (limit : ℕ) (before after : StoreView) (output : Output) : Type 0 where
  pub page : Page
  pub serves : Serves before (Scan Now from None limit) (Rows page) after
  pub told : HasLines (page_lines page) output

-- the line has the numbers of the store
pub record IsStatLine (store : StoreView) (line : List ℕ) : Type 0 where
  pub stat : Stat
  pub numbers : stat_answer (machine_of store) ≡ Ok stat
  pub is : line ≡ stat_line stat

-- the numbers of the store are told
pub record HasNumbers (before after : StoreView) (output : Output) : Type 0 where
  pub stat : Stat
  pub numbers : stat_answer (machine_of before) ≡ Ok stat
  pub same : after ≡ before
  pub told : HasLines (stat_line stat) output

-- the numbers of a store are told, with what it lacks where it isn't compacted to the end
abbrev pub TellsCompacted : Bool → StoreView → Output → Type 0
TellsCompacted true store (Lines text) = IsStatLine store (string_bytes text)
TellsCompacted false store (Halfway text lack) = IsStatLine store (string_bytes text) × IsLacking store lack
TellsCompacted whole store other = ⊥

-- The store was kept up, then its tables were taken down as far as they go, and its numbers are told. Just where it isn't stopped, no flush
-- waits and all tables are in the last level, that is the whole answer.
pub record HasCompacted (before after : StoreView) (output : Output) : Type 0 where
  pub compacts : CompactsWhole before after
  pub told : TellsCompacted (is_compacted (machine_of after)) after output

-- this line tells what was found wrong
abbrev pub TellsFound : List ℕ → Output → Type 0
TellsFound line (FoundWrong text) = string_bytes text ≡ line
TellsFound line _ = ⊥

-- a yes is told by the numbers of the image, and what was found wrong with a table by a line of its own; a refusal is no answer
abbrev pub TellsCheck : Result Report Finding → Output → Type 0
TellsCheck (Ok report) output = HasLines (report_line report) output
TellsCheck (Err (finding.Refused r)) output = ⊥
TellsCheck (Err (finding.Entries number)) output = TellsFound (table_line (codes "Entries") number) output
TellsCheck (Err (finding.Order number)) output = TellsFound (table_line (codes "Order") number) output
TellsCheck (Err (finding.Filter number)) output = TellsFound (table_line (codes "Filter") number) output
TellsCheck (Err (finding.Versions number)) output = TellsFound (table_line (codes "Versions") number) output

-- A device was checked, and only read: whole for a yes, and each log region before anything was found wrong with a table. What came of it
-- is told.
pub record IsChecked (before after : Medium) (output : Output) : Type 0 where
  pub answered : Result Report Finding
  pub yes : IsTrue before.lasting.tells → IfOk answered (IsImage before.size (seen (disk before)))
  pub reads : ReadsAtMost 1118274 (is_faultless answered) before after
  pub whole : IsReadFor before.size before.calls after.calls answered
  pub told : TellsCheck answered output

-- a file was opened as a device, in which no call was made yet, and was checked; it is handed out as the reads left it
pub record HasChecked (answer : Answer) : Type 0 where
  pub file : FileDevice
  pub after : Medium
  pub unused : file.calls ≡ no_calls
  pub checks : IsChecked (file_medium file) after answer.output
  pub hands : Hands answer.file after

-- steps were made of the store, and the replies to them are told, each as its line asks for
pub record HasReplies (asked : List Asked) (steps : List ReplyFormat) (before after : StoreView) (output : Output) : Type 0 where
  pub replies : List LivesTold
  pub makes : MakesEach [] before asked replies after
  pub told : HasLines (replies_text steps replies) output

-- Lives were led on a device in memory of `sectors` sectors with an empty store, and the replies to them are told. They keep
-- the promise over crashes.
pub record HasLives (sectors log_sectors : ℕ) (lives : List LifeView) (steps : List (List ReplyFormat)) (output : Output) : Type 0 where
  pub device : Medium
  pub left : Medium
  pub replies : List (List LivesTold)
  pub size : device.size ≡ sectors
  pub begins : Leaves (StandFor log_sectors empty_store) (disk device)
  pub led : AreLed lives device replies left
  pub promise : KeepPromise log_sectors [] empty_store (asked_in lives) replies (disk left)
  pub told : HasLines (lives_text steps replies) output

-- `threads` clients and workers shared a store in memory, and what is counted of that is told
pub record HasCounted (threads : ℕ) (output : Output) : Type 0 where
  pub counts : Counts
  pub stormed : HasStormed threads counts
  pub told : HasLines (counts_lines counts) output

-- Every crash of a life of these steps was explored, on a device in memory of `sectors` sectors, and every crash of the
-- openings after it; nothing was wrong, and what was counted is told.
pub record HasExplored (sectors log_sectors : ℕ) (asked : List Asked) (output : Output) : Type 0 where
  pub counts : Explored
  pub explored : IsExplored sectors log_sectors asked true counts
  pub right : counts.wrong ≡ 0
  pub told : output ≡ CountsCrashes counts

-- `clients` clients raised a counter in memory, and it is told whether it is the number of their accepted commits
pub record HasCountedTogether (clients : ℕ) (output : Output) : Type 0 where
  pub tally : Tallied
  pub tallied : HasTallied clients tally
  pub told : output ≡ Tally (tally.count == tally.accepted)

-- what answers a request, where no line was printed before the answer, and no input was read
abbrev pub Gives : Request → Answer → Type 0
Gives (request.Format file geometry) = HasFormatted geometry.sectors geometry.log_sectors
Gives (request.Put file batch) = OfOpened (HasCommitted None batch)
Gives (request.PutIf file guards batch) = OfOpened (HasCommitted (Some guards.items) batch)
Gives (request.Delete file batch) = OfOpened (HasCommitted None batch)
Gives (request.Get file key) = OfOpened (HasFound key.items)
Gives (request.Scan file from limit) = OfOpened (HasRows from.items limit)
Gives (request.Stat file) = OfOpened HasNumbers
Gives (request.Check file) = HasChecked
Gives (request.Compact file) = OfOpened HasCompacted
Gives (request.Dump file) = λ answer. ⊥
Gives (request.Load file) = λ answer. ⊥
Gives (request.Serve file) = λ answer. ⊥
Gives (request.Replay file script) = OfOpened (HasReplies (map asked_of (steps_after [] script.items)) (told_after [] script.items))
Gives (request.Lives geometry script) = λ answer. HasLives geometry.sectors geometry.log_sectors (lives_said script.items) (told_lives script.items) answer.output
Gives (request.Explore geometry script) = λ answer. HasExplored geometry.sectors geometry.log_sectors (map asked_of (steps_after [] script.items)) answer.output
Gives (request.Storm load) = λ answer. HasCounted (load.clients + load.workers) answer.output
Gives (request.Tally load) = λ answer. HasCountedTogether load.clients answer.output

-- all rows of a store in a file were printed, before the answer
pub record OfDumped (output output_after : Option (List ℕ)) (answer : Answer) : Type 0 where
  pub printed : List ℕ
  pub appends : Appends output output_after printed
  pub dumps : OfOpened (HasDumped printed) answer

-- all lines of the input were answered, and the store, which is not stopped, was synced
pub record HasServed (input output output_after : Option (List ℕ)) (before after : StoreView) (answered : Output) : Type 0 where
  pub serves : IsServed input (Ok tt) before after output output_after
  pub runs : is_some after.state.stopped ≡ false
  pub told : answered ≡ Served

-- What a request comes to, of this input: an answer, which is to be printed after what the output holds then.
abbrev pub Comes : Request → Option (List ℕ) → Option (List ℕ) → Option (List ℕ) → Answer → Type 0
Comes (request.Dump file) input output output_after answer = OfDumped output output_after answer
Comes (request.Load file) input output output_after answer = OfOpened (HasLoaded input) answer × (output_after ≡ output)
Comes (request.Serve file) input output output_after answer = OfOpened (HasServed input output output_after) answer
Comes other input output output_after answer = Gives other answer × (output_after ≡ output)

-- Why not all rows were printed, and what was printed: the store was not opened, and nothing was; or lines were, up to a refusal or to a
-- failure of the output.
abbrev pub TellsDumped : Reason → Option (List ℕ) → Option (List ℕ) → Type 0
TellsDumped (refusal e) output output_after = (IsOpeningRefusal e × (output_after ≡ output))
    ⊎ ((store : StoreView) × WasOpened store × StopsDumping (refusal e) store output output_after)
TellsDumped (unopened cause) output output_after = output_after ≡ output
TellsDumped unwritten output output_after = Unit {0}
TellsDumped other output output_after = ⊥

-- a number of rows was printed after why there are no more, which is told; or it could not be printed
abbrev pub TellsNumber : ℕ → Reason → Reason → Option (List ℕ) → Option (List ℕ) → Type 0
TellsNumber rows why reason output output_after = ((reason ≡ why) × Appends output output_after (loaded_line rows)) ⊎ (reason ≡ unwritten)

-- A store was opened and kept up, rows of the input were put into it up to a fault, and are synced; their number was printed, or could not be.
pub record LoadsTo (input output output_after : Option (List ℕ)) (reason : Reason) : Type 0 where
  pub store : StoreView
  pub after : StoreView
  pub loaded : LoadedUpTo
  pub fault : ProgramError
  pub opened : WasOpened store
  pub loads : KeepsAndLoads input loaded store after
  pub ends : loaded.ended ≡ Err fault
  pub tells : TellsNumber loaded.rows (reason_of fault) reason output output_after

-- Why not all rows were loaded, and what was printed: a refusal, and nothing; or rows were put up to a fault.
abbrev pub TellsLoaded : Option (List ℕ) → Reason → Option (List ℕ) → Option (List ℕ) → Type 0
TellsLoaded input reason output output_after = (IsRefusalBy (IsRefusedOpened (RefusesToLoad input)) reason × (output_after ≡ output))
    ⊎ LoadsTo input output output_after reason

-- lines were answered up to a fault
pub record ServesTo (input output output_after : Option (List ℕ)) (reason : Reason) : Type 0 where
  pub store : StoreView
  pub after : StoreView
  pub fault : ProgramError
  pub opened : WasOpened store
  pub serves : IsServed input (Err fault) store after output output_after
  pub same : reason_of fault ≡ reason

-- all were answered, but a write or a sync has failed meanwhile
pub record ServesStopped (input output output_after : Option (List ℕ)) (reason : Reason) : Type 0 where
  pub store : StoreView
  pub after : StoreView
  pub opened : WasOpened store
  pub serves : IsServed input (Ok tt) store after output output_after
  pub stopped : is_some after.state.stopped ≡ true
  pub is : reason ≡ refusal Stopped

-- Why a store was not served to the end of the input and synced then: it was not opened, or there was no memory for a reader, and nothing
-- was printed; or lines were answered up to a fault; or it was stopped.
abbrev pub TellsServed : Option (List ℕ) → Reason → Option (List ℕ) → Option (List ℕ) → Type 0
TellsServed input reason output output_after = (IsRefusalBy IsOpeningRefusal reason × (output_after ≡ output))
    ⊎ (ServesTo input output output_after reason ⊎ ServesStopped input output output_after reason)
