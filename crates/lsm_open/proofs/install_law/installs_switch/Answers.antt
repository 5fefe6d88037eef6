use Rattle.std.proofs.Common.{◌≡◌}
use Rattle.lsm_device.specs.History.{present}
use Rattle.lsm_root.specs.CrashState.{CrashState}
use Rattle.lsm_open.specs.Placements.{MayBeLeft}
use Rattle.lsm_open.proofs.HeldPlacements.{carried_leaves}
use Rattle.lsm_open.proofs.OpeningSteps.{rests_stand, settled_at_rest}
use Rattle.lsm_open.proofs.Switches.{switch_moments, installed_carried, installed_present}
use Rattle.lsm_open.proofs.install_law.installs_switch.Goals as goal

pub returns-clause-moments : goal.returns-clause-moments
returns-clause-moments c = λ p q left old new carried size next each.
    switch_moments p.logs.log_sectors (MayBeLeft p (present old)) q left old new (carried_leaves p (present old) carried) carried.settled size next each

pub returns-clause-at_rest : goal.returns-clause-at_rest
returns-clause-at_rest c = λ n q before left old new rests is size next each.
    let P : CrashState → Type 0 = λ x. x ≡ before in
    switch_moments n P q left old new (rests_stand n before (present old) rests is) (settled_at_rest (present old) rests) size next each

pub returns-clause-after : goal.returns-clause-after
returns-clause-after c = λ start d q left some next installed. (installed_carried start d q left some next installed, installed_present start d q left some next installed)
