use Rattle.std.proofs.Common.{◌∙◌, ap, length}
use Rattle.lsm_device.specs.Medium.{disk}
use Rattle.lsm_root.proofs.Preparing.{fills, are_few}
use Rattle.lsm_root.proofs.Others.{planned_others}
use Rattle.lsm_root.proofs.Standing.{installed_ready}
use Rattle.lsm_root.proofs.Switched.{planned_moment, planned_behind, planned_installed}
use Rattle.lsm_root.proofs.next.NextRoot.install.Goals as goal

pub switch-requires-clause-size : goal.switch-requires-clause-size
switch-requires-clause-size g c = ap length c.deref.ensures.value ∙ fills _ _ c.self.invariant

pub switch-requires-clause-few : goal.switch-requires-clause-few
switch-requires-clause-few g c = are_few _ _ c.self.invariant

pub returns-in_err-switch-clause-any_moment : goal.returns-in_err-switch-clause-any_moment
returns-in_err-switch-clause-any_moment g c = λ t ready.
    let D = g.D.Device in
    planned_moment c.self.view_is c.self.invariant _ (D.medium c.args.device.now).history (g.met.D.Device.sound c.args.device.now t).now.size c.requires.same_device ready
    _ c.deref.ensures.value _ c.encode-sector.ensures _ (c.switch.ensures.moments t)

pub returns-in_err-switch-clause-behind : goal.returns-in_err-switch-clause-behind
returns-in_err-switch-clause-behind g c = λ t ready.
    let D = g.D.Device in
    planned_behind c.self.view_is c.self.invariant _ (D.medium c.args.device.now).history (g.met.D.Device.sound c.args.device.now t).now.size c.requires.same_device ready
    _ c.deref.ensures.value _ c.encode-sector.ensures _ (c.switch.ensures.moments t)

pub returns-clause-any_moment : goal.returns-clause-any_moment
returns-clause-any_moment g c = λ t ready.
    let D = g.D.Device in
    planned_moment c.self.view_is c.self.invariant _ (D.medium c.args.device.now).history (g.met.D.Device.sound c.args.device.now t).now.size c.requires.same_device ready
    _ c.deref.ensures.value _ c.encode-sector.ensures _ (c.switch.ensures.moments t)

pub returns-clause-behind : goal.returns-clause-behind
returns-clause-behind g c = λ t ready.
    let D = g.D.Device in
    planned_behind c.self.view_is c.self.invariant _ (D.medium c.args.device.now).history (g.met.D.Device.sound c.args.device.now t).now.size c.requires.same_device ready
    _ c.deref.ensures.value _ c.encode-sector.ensures _ (c.switch.ensures.moments t)

pub returns-clause-installed : goal.returns-clause-installed
returns-clause-installed g c = λ t ready.
    let D = g.D.Device in
    planned_installed c.self.view_is c.self.invariant _ (D.medium c.args.device.now).history (g.met.D.Device.sound c.args.device.now t).now.size c.requires.same_device ready
    _ c.deref.ensures.value _ c.encode-sector.ensures _ (c.in_ok-switch.ensures.all t)

pub returns-clause-others : goal.returns-clause-others
returns-clause-others g c = λ t.
    let D = g.D.Device in
    planned_others _ _ _ c.self.view_is c.self.invariant (disk (D.medium c.args.device.now)) _ _ _ (c.in_ok-switch.ensures.all t)

pub returns-clause-next : goal.returns-clause-next
returns-clause-next g c = λ t ready.
    let D = g.D.Device in
    installed_ready (D.medium c.switch.new.device).size c.args.self.now.log c.args.self.now.manifest _ _ (g.met.D.Device.sound c.switch.new.device (rw c.switch.ensures.same_lasting t)).now.size
    (planned_installed c.self.view_is c.self.invariant _ (D.medium c.args.device.now).history (g.met.D.Device.sound c.args.device.now t).now.size c.requires.same_device ready
    _ c.deref.ensures.value _ c.encode-sector.ensures _ (c.in_ok-switch.ensures.all t))
