-- What the words ask for, and what is wrong with them.
use Rattle.std.specs.Prelude.{◌≡◌, ℕ, List, [], ◌∷◌, Option, Some, None, is_some, unwrap_or, option_map, map, nat_le, ◌&&◌, Bool, true, false, codes, if◌then◌else◌}
use Rattle.std.specs.Str.{bytes_eq}
use Rattle.lsm_device.specs.declared.refusal.Refusal.{Refusal}
use Rattle.lsm_device.specs.declared.refusal.Refusal.TheVariants.{BadGeometry, BadLimit}
use Rattle.lsm_codec.specs.Keys.{Bytes}
use Rattle.lsm_codec.specs.Words.{bytes_said}
use Rattle.lsm_codec.specs.Answers.{or_then, key_refusal, value_refusal}
use Rattle.lsm_language.specs.Guards.{guard_refusal}
use Rattle.lsm_language.specs.Numbers.{number_said}
use Rattle.lsm_language.specs.Limits.{is_geometry, is_load}
use Rattle.lsm_language.specs.Faults.{Reason, mistake, refusal}
use Rattle.lsm_language.specs.Lines.{means}
use Rattle.lsm_language.specs.Scripts.{script_said}
use Rattle.lsm_language.specs.declared.script.Kind.TheVariants.{Steps, Lives}
use Rattle.lsm_language.specs.declared.subcommand.Subcommand.{Subcommand}
use Rattle.lsm_language.specs.declared.subcommand.Subcommand.TheVariants as subcommand
use Rattle.lsm_language.specs.declared.request.Request.{Request}
use Rattle.lsm_language.specs.declared.request.Request.TheVariants as request

-- the first of two reasons
abbrev pub or_else : Option Reason → Option Reason → Option Reason
or_else (Some reason) next = Some reason
or_else None next = next

-- a word that says nothing is a mistake
abbrev pub said_reason : {X : Type 0} → Option X → Option Reason
said_reason (Some x) = None
said_reason None = Some mistake

abbrev pub limits_reason : ℕ → ℕ → Option Reason
limits_reason sectors log = if is_geometry sectors log then None else Some (refusal BadGeometry)

abbrev pub load_reason : ℕ → ℕ → ℕ → Option Reason
load_reason clients commits workers = if is_load clients commits workers then None else Some (refusal BadLimit)

abbrev pub number_in : List ℕ → ℕ
number_in word = unwrap_or (number_said word) 0

abbrev pub bytes_in : List ℕ → Bytes
bytes_in word = unwrap_or (bytes_said word) []

-- the value that a key is to have: `absent` says that it is to have none
abbrev pub old_said : List ℕ → Option (Option Bytes)
old_said word = if bytes_eq word (codes "absent") then Some None else option_map Some (bytes_said word)

abbrev pub old_in : List ℕ → Option Bytes
old_in word = unwrap_or (old_said word) None

-- why a key's value can't be asked for and then put anew: the guard before the batch
abbrev pub put_if_refusal : Bytes → Option Bytes → Bytes → Option Refusal
put_if_refusal key old new = or_then (guard_refusal (record { key = key; value = old })) (or_then (key_refusal key) (value_refusal new))

-- a page has 1 to 64 rows at most
abbrev pub page_reason : ℕ → Option Reason
page_reason limit = if nat_le 1 limit && nat_le limit 64 then None else Some (refusal BadLimit)

-- whether the input is read for the script: where the words before it are right
abbrev pub wants_script : Subcommand → Bool
wants_script (subcommand.Replay file) = true
wants_script (subcommand.Lives sectors log) = is_some (number_said sectors.now) && is_some (number_said log.now)
wants_script (subcommand.Explore sectors log) = is_some (number_said sectors.now) && is_some (number_said log.now)
wants_script _ = false

-- the first thing that is wrong: numbers and bytes from the left, then the script, then the limits, then guards, then the batch
abbrev pub reason_for : Subcommand → List ℕ → Option Reason
reason_for (subcommand.Format file sectors log) text = or_else (said_reason (number_said sectors.now))
    (or_else (said_reason (number_said log.now)) (limits_reason (number_in sectors.now) (number_in log.now)))
reason_for (subcommand.Put file key value) text = or_else (said_reason (bytes_said key.now))
    (or_else (said_reason (bytes_said value.now))
    (option_map refusal (or_then (key_refusal (bytes_in key.now)) (value_refusal (bytes_in value.now)))))
reason_for (subcommand.PutIf file key old new) text = or_else (said_reason (bytes_said key.now))
    (or_else (said_reason (old_said old.now)) (or_else (said_reason (bytes_said new.now))
    (option_map refusal (put_if_refusal (bytes_in key.now) (old_in old.now) (bytes_in new.now)))))
reason_for (subcommand.Delete file key) text = or_else (said_reason (bytes_said key.now))
    (option_map refusal (key_refusal (bytes_in key.now)))
reason_for (subcommand.Get file key) text = said_reason (bytes_said key.now)
reason_for (subcommand.Scan file from limit) text = or_else (said_reason (bytes_said from.now))
    (or_else (said_reason (number_said limit.now)) (page_reason (number_in limit.now)))
reason_for (subcommand.Stat file) text = None
reason_for (subcommand.Check file) text = None
reason_for (subcommand.Compact file) text = None
reason_for (subcommand.Dump file) text = None
reason_for (subcommand.Load file) text = None
reason_for (subcommand.Serve file) text = None
reason_for (subcommand.Replay file) text = said_reason (script_said Steps text)
reason_for (subcommand.Lives sectors log) text = or_else (said_reason (number_said sectors.now))
    (or_else (said_reason (number_said log.now)) (or_else (said_reason (script_said Lives text))
    (limits_reason (number_in sectors.now) (number_in log.now))))
reason_for (subcommand.Explore sectors log) text = or_else (said_reason (number_said sectors.now))
    (or_else (said_reason (number_said log.now)) (or_else (said_reason (script_said Steps text))
    (limits_reason (number_in sectors.now) (number_in log.now))))
reason_for (subcommand.Storm clients commits workers) text = or_else (said_reason (number_said clients.now))
    (or_else (said_reason (number_said commits.now)) (or_else (said_reason (number_said workers.now))
    (load_reason (number_in clients.now) (number_in commits.now) (number_in workers.now))))
reason_for (subcommand.Tally clients tries) text = or_else (said_reason (number_said clients.now))
    (or_else (said_reason (number_said tries.now)) (load_reason (number_in clients.now) (number_in tries.now) 0))

-- the request has the numbers and bytes that the words say, the batch of one operation on them and one guard where they ask for
-- one, and what the script says
abbrev pub Says : Subcommand → List ℕ → Request → Type 0
Says (subcommand.Format file sectors log) text (request.Format path geometry) = (path.now ≡ file.now)
    × (number_said sectors.now ≡ Some geometry.sectors) × (number_said log.now ≡ Some geometry.log_sectors)
Says (subcommand.Put file key value) text (request.Put path batch) = (path.now ≡ file.now)
    × (batch ≡ record { key = bytes_in key.now; value = Some (bytes_in value.now) } ∷ [])
Says (subcommand.PutIf file key old new) text (request.PutIf path guards batch) = (path.now ≡ file.now)
    × (guards.items ≡ record { key = bytes_in key.now; value = old_in old.now } ∷ [])
    × (batch ≡ record { key = bytes_in key.now; value = Some (bytes_in new.now) } ∷ [])
Says (subcommand.Delete file key) text (request.Delete path batch) = (path.now ≡ file.now)
    × (batch ≡ record { key = bytes_in key.now; value = None } ∷ [])
Says (subcommand.Get file key) text (request.Get path bytes) = (path.now ≡ file.now) × (bytes_said key.now ≡ Some bytes.items)
Says (subcommand.Scan file from limit) text (request.Scan path bytes rows) = (path.now ≡ file.now)
    × (bytes_said from.now ≡ Some bytes.items) × (number_said limit.now ≡ Some rows)
Says (subcommand.Stat file) text (request.Stat path) = path.now ≡ file.now
Says (subcommand.Check file) text (request.Check path) = path.now ≡ file.now
Says (subcommand.Compact file) text (request.Compact path) = path.now ≡ file.now
Says (subcommand.Dump file) text (request.Dump path) = path.now ≡ file.now
Says (subcommand.Load file) text (request.Load path) = path.now ≡ file.now
Says (subcommand.Serve file) text (request.Serve path) = path.now ≡ file.now
Says (subcommand.Replay file) text (request.Replay path script) = (path.now ≡ file.now)
    × (script_said Steps text ≡ Some (map means script.items))
Says (subcommand.Lives sectors log) text (request.Lives geometry script) = (number_said sectors.now ≡ Some geometry.sectors)
    × (number_said log.now ≡ Some geometry.log_sectors) × (script_said Lives text ≡ Some (map means script.items))
Says (subcommand.Explore sectors log) text (request.Explore geometry script) = (number_said sectors.now ≡ Some geometry.sectors)
    × (number_said log.now ≡ Some geometry.log_sectors) × (script_said Steps text ≡ Some (map means script.items))
Says (subcommand.Storm clients commits workers) text (request.Storm load) = (number_said clients.now ≡ Some load.clients)
    × (number_said commits.now ≡ Some load.commits) × (number_said workers.now ≡ Some load.workers)
Says (subcommand.Tally clients tries) text (request.Tally load) = (number_said clients.now ≡ Some load.clients)
    × (number_said tries.now ≡ Some load.commits) × (load.workers ≡ 0)
Says _ _ _ = ⊥
