-- What calls of a `Db` ask for, in the words of the machine.
use Rattle.std.specs.Prelude.{List, Option, Some, None, map, option_map}
use Rattle.lsm_machine.specs.Calls.{Call, Commit, CommitIf, Sync, SyncTo, Get, Scan, Snapshot, Release}
use Rattle.corwaphi_lives.specs.declared.calls.DbCall.{DbCall}
use Rattle.corwaphi_lives.specs.declared.calls.DbCall.TheVariants as given
use Rattle.corwaphi_lives.specs.declared.calls.DbLife.{DbLife}

-- A call of the machine. A compact is not one: it is upkeep alone.
abbrev pub call_of : DbCall → Option Call
call_of (given.Write batch) = Some (Commit batch)
call_of (given.WriteIf guards batch) = Some (CommitIf guards.items batch)
call_of given.Sync = Some Sync
call_of (given.SyncTo number) = Some (SyncTo number)
call_of (given.Get at key) = Some (Get at key.items)
call_of (given.Page at from to limit) = Some (Scan at from.items (option_map (λ v. v.items) to) limit)
call_of given.Snapshot = Some Snapshot
call_of (given.Release number) = Some (Release number)
call_of given.Compact = None

-- the calls of a life
abbrev pub calls_of : DbLife → List (Option Call)
calls_of life = map call_of life.calls.items

-- the calls of each life
abbrev pub calls_by : List DbLife → List (List (Option Call))
calls_by lives = map calls_of lives
