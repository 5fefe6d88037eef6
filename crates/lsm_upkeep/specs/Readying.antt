-- What was done for a batch before it is asked again.
use Rattle.std.specs.Prelude.{Bool, true, false}
use Rattle.lsm_upkeep.specs.declared.readying.Done.{Done}
use Rattle.lsm_upkeep.specs.declared.readying.Done.TheVariants as done

-- whether no log was begun for a batch yet, and no table brought down: it was only made sure that a log is open
abbrev pub is_before_room : Done → Bool
is_before_room done.Nothing = true
is_before_room done.Flush = true
is_before_room done.Log = true
is_before_room done.PushToJoin = false
is_before_room done.NextLog = false
is_before_room done.Push = false
