-- What the crew of a session does.
use Rattle.std.specs.Prelude.{◌≡◌, List}
use Rattle.lsm_trail.specs.History.{Event}
use Rattle.lsm_trail.specs.Knowledge.{Known}
use Rattle.lsm_storm.specs.Counters.{AreCounting, GoesOnCounting}
use Rattle.lsm_storm.specs.declared.crew.Tasks.{Tasks}
use Rattle.lsm_storm.specs.declared.crew.Tasks.TheVariants.{Storm, Tally}

-- one of a crew that counts does nothing else; what one of a storm does is left open, but that it stays the one that it is
abbrev pub DoesTask : Tasks → Known → Known → Type 0
DoesTask (Tally tries) old new = GoesOnCounting old new
DoesTask (Storm clients commits) old new = new.number ≡ old.number

-- and so all of it, as the history tells
abbrev pub IsDone : Tasks → List Event → Type 0
IsDone (Tally tries) log = AreCounting log
IsDone (Storm clients commits) log = Unit {0}
