-- Where all tables are.
use Rattle.std.specs.Prelude.{◌==◌, ◌&&◌, not, Bool, is_some, List, length}
use Rattle.lsm_levels.specs.Levels.{Levels, level}
use Rattle.lsm_machine.specs.Machine.{Machine}
use Rattle.lsm_machine.specs.State.{are_waiting}

-- whether there is none
abbrev pub is_nil : {X : Type 0} → List X → Bool
is_nil xs = length xs == 0

-- whether no level but the last has a table
abbrev pub are_in_last : Levels → Bool
are_in_last levels = is_nil levels.runs && (is_nil (level levels 1) && (is_nil (level levels 2) && is_nil (level levels 3)))

-- whether a store runs, no flush waits, and all tables are in the last level
abbrev pub is_compacted : Machine → Bool
is_compacted m = not (is_some m.state.stopped) && (not (are_waiting m.state) && are_in_last m.work.levels)
