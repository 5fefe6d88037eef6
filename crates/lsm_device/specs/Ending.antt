-- What a crash ends.
use Rattle.lsm_device.specs.declared.ending.Ending.{Ending as Given}
use Rattle.lsm_device.specs.Made.{history_of}
use Rattle.lsm_device.specs.Medium.{Ended}
use Rattle.lsm_device.specs.Plan.{set_of}

abbrev pub life_in : Given → Ended
life_in e = record { fuse_set = set_of e.plan.fuse; failure_set = e.plan.failure_set; times_set = e.plan.times; calls = e.calls; history = history_of e.first.now e.made.now }
