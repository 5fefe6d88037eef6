-- Which entry may come next in a history.
use Rattle.std.specs.Prelude.{◌≡◌, ◌≢◌, List, None, IsNone}
use Rattle.lsm_device.specs.declared.refusal.Refusal.TheVariants.{NoMemory}
use Rattle.lsm_store.specs.Backing.{IsBacked}
use Rattle.lsm_machine.specs.Calls.{Release, Given, Refused}
use Rattle.lsm_machine.specs.Machine.{Called}
use Rattle.lsm_machine.specs.Run.{AllowsStep, AdmitsStep, GoesTo, next_machine}
use Rattle.lsm_trail.specs.Begins.{Begin, base_of}
use Rattle.lsm_trail.specs.History.{Event, inputs_of, IsNextNumber, TakesResult, machine_after}

-- What an entry needs, so that a legal history with it is legal: the machine after the history admits its reply and goes on by it,
-- and allows it where the device backed it at the begin; its result has the right number; and it tells of no want of memory, nor
-- that no job was taken, and doesn't release the base.
pub record MayFollow (b : Begin) (log : List Event) (e : Event) : Type 0 where
  pub admitted : AdmitsStep (machine_after b log) e.step e.reply
  pub goes : GoesTo (machine_after b log) e.step e.reply e.machine
  pub allowed : IsBacked b.store → AllowsStep (machine_after b log) e.step e.reply
  pub work : IsBacked b.store → IsNone e.machine.state.stopped → e.machine.work ≡ (next_machine (machine_after b log) e.step e.reply).work
  pub next : IsNextNumber (inputs_of log) e.reply e.result
  pub takes : TakesResult (inputs_of log) e.step e.result
  pub made : e.reply ≢ Refused NoMemory
  pub taken : e.reply ≢ Given None
  pub keeps : e.step ≢ Called (Release (base_of b))
