-- What a line of a script says.
use Rattle.std.specs.Prelude.{ℕ, ◌==◌, Bool, true, false, List, [], ◌∷◌, ◌++◌, codes, Option, Some, None, option_map, option_and_then, if◌then◌else◌}
use Rattle.std.specs.Str.{bytes_eq}
use Rattle.lsm_device.specs.declared.refusal.Refusal.{Refusal}
use Rattle.lsm_codec.specs.Answers.{or_then}
use Rattle.lsm_codec.specs.Guards.{Condition}
use Rattle.lsm_codec.specs.Keys.{Bytes}
use Rattle.lsm_codec.specs.Map.{Operation}
use Rattle.lsm_codec.specs.Words.{bytes_said}
use Rattle.lsm_machine.specs.declared.asked.At.{At}
use Rattle.lsm_machine.specs.declared.asked.At.TheVariants.{Now, Snap}
use Rattle.lsm_machine.specs.Calls.{Call, Commit, CommitIf, Sync, SyncTo, Get, Scan, Snapshot, Release, Rotate, LogRoom}
use Rattle.lsm_lives.specs.Calls.{call_of}
use Rattle.lsm_lives.specs.declared.calls.Work.{Work}
use Rattle.lsm_lives.specs.declared.calls.Work.TheVariants as work
use Rattle.lsm_language.specs.Numbers.{number_said}
use Rattle.lsm_language.specs.Words.{read_all, words_in, after}
use Rattle.lsm_language.specs.Changes.{changes_said, batch_refusal}
use Rattle.lsm_language.specs.Guards.{guard_said, guards_refusal}
use Rattle.lsm_language.specs.declared.line.Line.{Line}
use Rattle.lsm_language.specs.declared.line.Line.TheVariants as line
use Rattle.lsm_language.specs.declared.line.Kept.{Kept}
use Rattle.lsm_language.specs.declared.line.Kept.TheVariants.{All, Places}

-- a line's meaning
pub data Said : Type 0 where
  call : Call → Said
  -- a piece of work on a job
  piece : Work → Said
  -- a commit whose guards or operations can't be formed
  no_batch : Refusal → Said
  fuse : ℕ → Said
  crash_all : Said
  crash : List Bool → Said

-- ---- from words

-- a commit is a call, or it is refused as one
abbrev pub unless_refused : Option Refusal → Call → Said
unless_refused None commit = call commit
unless_refused (Some refusal) commit = no_batch refusal

abbrev pub batch_said : List Operation → Said
batch_said changes = unless_refused (batch_refusal changes) (Commit changes)

-- guards are formed before the batch
abbrev pub guarded_said : List Condition → List Operation → Said
guarded_said guards changes = unless_refused (or_then (guards_refusal guards) (batch_refusal changes)) (CommitIf guards changes)

-- there is one operation at least
abbrev pub some_said : (List Operation → Said) → List Operation → Option Said
some_said said [] = None
some_said said (change ∷ changes) = Some (said (change ∷ changes))

abbrev pub commit_said : List (List ℕ) → Option Said
commit_said words = option_and_then (some_said batch_said) (changes_said words)

-- guards up to the word `then`, after those that were read, and operations after it
abbrev pub if_said : List Condition → List (List ℕ) → Option Said
if_said guards [] = None
if_said guards (word ∷ words) = if bytes_eq word (codes "then") then option_and_then (some_said (guarded_said guards)) (changes_said words)
    else option_and_then (λ guard. if_said (guards ++ guard ∷ []) words) (guard_said word)

-- `@S` names a snapshot
abbrev pub at_said : List ℕ → Option At
at_said word = option_and_then (λ number. option_map Snap (number_said number)) (after 64 word)

abbrev pub get_said : At → List ℕ → Option Said
get_said at key = option_map (λ key. call (Get at key)) (bytes_said key)

-- where a scan ends: `end`, or before a key
abbrev pub end_said : List ℕ → Option (Option Bytes)
end_said word = if bytes_eq word (codes "end") then Some None else option_map Some (bytes_said word)

abbrev pub scan_said : List ℕ → At → List ℕ → List ℕ → List ℕ → Option Said
scan_said name at from to limit = if bytes_eq name (codes "scan") then option_and_then (λ from. option_and_then (λ to.
    option_map (λ limit. call (Scan at from to limit)) (number_said limit)) (end_said to)) (bytes_said from) else None

-- a digit 0 or 1 for each pending write
abbrev pub place_said : ℕ → Option Bool
place_said b = if b == 48 then Some false else if b == 49 then Some true else None

abbrev pub places_said : List ℕ → Option (List Bool)
places_said word = read_all place_said [] word

-- the pending writes that a crash keeps
abbrev pub crash_said : List ℕ → Option Said
crash_said word = if bytes_eq word (codes "all") then Some crash_all else if bytes_eq word (codes "none") then Some (crash [])
    else if bytes_eq word [] then None else option_map crash (places_said word)

-- a line of the one word
abbrev pub bare_said : List ℕ → Option Said
bare_said name = if bytes_eq name (codes "sync") then Some (call Sync) else if bytes_eq name (codes "snapshot") then Some (call Snapshot)
    else if bytes_eq name (codes "rotate") then Some (call Rotate) else if bytes_eq name (codes "room") then Some (call LogRoom)
    else if bytes_eq name (codes "take") then Some (piece work.Take) else None

-- a line of a piece of work on a job, and of nothing besides
abbrev pub piece_said : List ℕ → ℕ → Option Said
piece_said name job = if bytes_eq name (codes "read") then Some (piece (work.Read job))
    else if bytes_eq name (codes "write") then Some (piece (work.Write job))
    else if bytes_eq name (codes "install") then Some (piece (work.Install job))
    else if bytes_eq name (codes "drop") then Some (piece (work.Drop job)) else None

-- a line of two words
abbrev pub one_said : List ℕ → List ℕ → Option Said
one_said name word = if bytes_eq name (codes "syncto") then option_map (λ n. call (SyncTo n)) (number_said word)
    else if bytes_eq name (codes "get") then get_said Now word
    else if bytes_eq name (codes "release") then option_map (λ n. call (Release n)) (number_said word)
    else if bytes_eq name (codes "fuse") then option_map fuse (number_said word)
    else if bytes_eq name (codes "crash") then crash_said word else option_and_then (piece_said name) (number_said word)

-- a line of two numbers
abbrev pub both_said : (ℕ → ℕ → Said) → List ℕ → List ℕ → Option Said
both_said said a b = option_and_then (λ m. option_map (said m) (number_said b)) (number_said a)

-- a line of three words
abbrev pub two_said : List ℕ → List ℕ → List ℕ → Option Said
two_said name a b = if bytes_eq name (codes "get") then option_and_then (λ at. get_said at a) (at_said b)
    else if bytes_eq name (codes "build") then both_said (λ job parts. piece (work.Build job parts)) a b
    else if bytes_eq name (codes "accept") then both_said (λ job result. piece (work.Accept job result)) a b else None

-- a line that is no `commit` and no `if`
abbrev pub other_said : List ℕ → List (List ℕ) → Option Said
other_said name [] = bare_said name
other_said name (a ∷ []) = one_said name a
other_said name (a ∷ b ∷ []) = two_said name a b
other_said name (a ∷ b ∷ c ∷ []) = scan_said name Now a b c
other_said name (a ∷ b ∷ c ∷ d ∷ []) = option_and_then (λ at. scan_said name at a b c) (at_said d)
other_said name (a ∷ b ∷ c ∷ d ∷ e ∷ words) = None

-- a line that is no `commit`
abbrev pub behind_said : List ℕ → List (List ℕ) → Option Said
behind_said name words = if bytes_eq name (codes "if") then if_said [] words else other_said name words

abbrev pub words_said : List (List ℕ) → Option Said
words_said [] = None
words_said (name ∷ words) = if bytes_eq name (codes "commit") then commit_said words else behind_said name words

-- what a line says, if it is one of a script
abbrev pub line_said : List ℕ → Option Said
line_said line = words_said (words_in line)

-- ---- as values

abbrev pub crash_means : Kept → Said
crash_means All = crash_all
crash_means (Places places) = crash places.items

abbrev pub means : Line → Said
means (line.Call given) = call (call_of given)
means (line.Work given) = piece given
means (line.NoBatch refusal) = no_batch refusal
means (line.Fuse number) = fuse number
means (line.Crash kept) = crash_means kept
