-- What a tally leaves, and what is counted of it.
use Rattle.std.specs.Prelude.{◌≡◌, ℕ}
use Rattle.lsm_store.specs.Backing.{StoreView}
use Rattle.lsm_machine.specs.RecoveryPoints.{present_map}
use Rattle.lsm_trail.specs.History.{TrailView}
use Rattle.lsm_storm.specs.Counters.{counted_in, AreCounting}
use Rattle.lsm_storm.specs.Storms.{HasEndedFresh, accepted_in}
use Rattle.lsm_storm.specs.declared.tallying.Tallied.{Tallied}

-- `threads` clients shared a fresh store in a session that has ended, and only counted: these are the counter that is left, and the
-- number of commits in its trail that returned a number.
pub record HasTallied (threads : ℕ) (tally : Tallied) : Type 0 where
  pub store : StoreView
  pub trail : TrailView
  pub ended : HasEndedFresh threads store trail
  pub counting : AreCounting trail.log
  pub count : tally.count ≡ counted_in (present_map store.state.points)
  pub accepted : tally.accepted ≡ accepted_in trail.log
