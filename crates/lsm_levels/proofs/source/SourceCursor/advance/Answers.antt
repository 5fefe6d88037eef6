use Rattle.lsm_levels.specs.Asking.{Source}
use Rattle.lsm_levels.proofs.MemoryCursors.{memory_goes_on}
use Rattle.lsm_levels.proofs.source.SourceCursor.advance.Goals as goal
use Rattle.lsm_levels.proofs.source.SourceCursor.advance.Goals.{in-Memory, in-Run+in_ok-advance-in-Run}

pub returns-clause-goes_on : goal.returns-clause-goes_on
returns-clause-goes_on g c =
    let old : Source = record { cache = c.args.cache.now; medium = g.D.Device.medium c.args.device.now } in
    elim c.match-self.branch [
      | in-Memory w ↦ rw (← c.self.view_is, w.in-Memory.is, w.cache-is, w.device-is, w.result-is, w.self-inside-is, w.pass.ensures) (memory_goes_on w.in-Memory.cursor old)
      | in-Run+in_ok-advance-in-Run w ↦ rw (← c.self.view_is, w.in-Run.is, w.cache-is, w.device-is, w.result-is, w.self-inside-is) w.in_ok-advance-in-Run.ensures.goes_on
    ]
