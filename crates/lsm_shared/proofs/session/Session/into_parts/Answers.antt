use Rattle.std.proofs.Common.{ap, ◌∙◌, subst}
use Rattle.lsm_trail.specs.History.{replies_of, machine_after}
use Rattle.lsm_shared.specs.Sessions.{SessionView, IsDeviceAfter, ended_state}
use Rattle.lsm_shared.proofs.Bases.{ended_by, work_ended}
use Rattle.lsm_shared.proofs.Faults.{device_released}
use Rattle.lsm_shared.proofs.session.Session.into_parts.Goals as goal

pub returns-clause-state : goal.returns-clause-state
returns-clause-state g c =
    let i = c.self.invariant in
    let b = g.B.SessionName.id.begin in
    let inside = c.self.inside in
    ended_by b inside.base inside.history inside.store c.release.new.self c.release.result i.legal i.number i.machine c.release.ensures.serves
    ∙ ap (λ (v : SessionView). ended_state b v.log) c.self.view_is

pub returns-clause-work : goal.returns-clause-work
returns-clause-work g c =
    let i = c.self.invariant in
    let b = g.B.SessionName.id.begin in
    let inside = c.self.inside in
    λ running. work_ended b inside.base inside.history inside.store c.release.new.self c.release.result i.machine c.release.ensures.serves running
    ∙ ap (λ (v : SessionView). (machine_after b v.log).work) c.self.view_is

pub returns-clause-device : goal.returns-clause-device
returns-clause-device g c =
    let b = g.B.SessionName.id.begin in
    subst (λ (v : SessionView). IsDeviceAfter b.store.device (replies_of v.log) c.release.new.self.device) c.self.view_is
    (device_released _ _ _ _ _ _ c.release.ensures.serves c.self.invariant.device)

pub returns-clause-backed : goal.returns-clause-backed
returns-clause-backed g c = λ began. c.release.ensures.serves.backed (c.self.invariant.backed began)
