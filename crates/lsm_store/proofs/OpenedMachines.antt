-- The machine that an opening answers.
use Rattle.std.proofs.Common.{ℕ, is_some, ap}
use Rattle.lsm_device.specs.Medium.{Medium}
use Rattle.lsm_root.specs.CrashState.{CrashState}
use Rattle.lsm_store.specs.Backing.{StoreView, machine_of}
use Rattle.lsm_machine.specs.Promise.{IsOpened}
use Rattle.lsm_store.specs.Serving.{OpensTo, ReopensTo}
use Rattle.lsm_machine.specs.State.{State}
use Rattle.lsm_machine.specs.Work.{WorkView}

pub opened : (before : Medium) (log_sectors : ℕ) (left : CrashState) (s : StoreView) → OpensTo before log_sectors left s → ReopensTo before s → IsOpened log_sectors left (machine_of s)
opened before log_sectors left s opens reopens = record {
  state = opens.state;
  sound = (opens.backed.runs (ap (λ (t : State). is_some t.stopped) opens.state)).sound;
  memory = ap (λ (w : WorkView). w.memory) reopens.work;
  jobs = ap (λ (w : WorkView). w.jobs) reopens.work;
}
