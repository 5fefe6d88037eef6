use Rattle.std.proofs.Common.{ℕ, List, ap}
use Rattle.lsm_trail.specs.History.{Event, TrailView}
use Rattle.lsm_trail.proofs.trail.Trail.from_entries.Goals as goal

abbrev made_of : List Event → ℕ → TrailView
made_of log limit = record { log = log; limit = limit }

pub returns : goal.returns
returns g c = ap (made_of c.args.entries.items) c.capacity-limit.ensures
