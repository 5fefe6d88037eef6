use Rattle.std.proofs.Common.{ℕ, true, ap, List, length, replicate, refl, subst}
use Rattle.lsm_device.specs.Medium.{disk}
use Rattle.lsm_device.specs.Memory.{medium_in}
use Rattle.lsm_device.proofs.Outcomes.{seen_outcome}
use Rattle.lsm_root.specs.CrashState.{formatted}
use Rattle.lsm_open.specs.Image.{StandFor}
use Rattle.lsm_machine.specs.State.{State}
use Rattle.example_shared.proofs.sharing.new_store.Goals as goal

pub returns-in-Ok-open : goal.returns-in-Ok-open
returns-in-Ok-open c =
    let new = disk (medium_in c.in-Ok.device) in
    let opened = c.in-Ok-open.ensures.opens 128 formatted refl (subst (λ (sectors : List (List ℕ)). StandFor 128 formatted sectors) (seen_outcome new) (c.in-Ok.ensures.leaves refl (replicate (length new.pending) true))) in
    (ap (λ (s : State). s.log_sectors) opened.state, opened.backed)
