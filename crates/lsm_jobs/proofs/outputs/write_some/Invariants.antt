use Rattle.std.proofs.Common.{◌≡◌, ◌*◌, IsTrue, take, drop}
use Rattle.lsm_device.specs.Calls.{AtMost}
use Rattle.lsm_device.specs.History.{present}
use Rattle.lsm_device.specs.Runs.{grown, HasSomeOf}
use Rattle.lsm_device.proofs.Moments.{Comes}
use Rattle.lsm_jobs.specs.Outputs.{placed_blocks, writes_of}
use Rattle.lsm_jobs.proofs.outputs.write_some.Given as goal

abbrev pub invariant-loop-i : goal.invariant-loop-i
invariant-loop-i g l =
    let D = g.D.Device in
    let blocks = drop l.from (placed_blocks l.tables) in
    record {
      same_size : (D.medium l.device).size ≡ (D.medium l.fn.device).size;
      same_lasting : (D.medium l.device).lasting ≡ (D.medium l.fn.device).lasting;
      no_fault : (D.medium l.device).calls.faults ≡ (D.medium l.fn.device).calls.faults;
      untouched : l.i ≡ 0 → D.medium l.device ≡ D.medium l.fn.device;
      calls : AtMost 0 (8 * l.i) 0 (D.medium l.fn.device).calls (D.medium l.device).calls;
      comes : IsTrue (D.medium l.fn.device).lasting.tells
          → Comes (HasSomeOf (present (D.medium l.fn.device).history) (writes_of l.area (take l.count blocks))) (D.medium l.fn.device).history (D.medium l.device).history
          (grown (writes_of l.area (take l.i blocks)) (present (D.medium l.fn.device).history));
    }
