use Rattle.std.proofs.Common.{◌≡◌, ℕ, Some, None, refl, sym, ◌∙◌, ap, subst}
use Rattle.std.specs.Prelude.{Result}
use Rattle.lsm_device.specs.declared.refusal.Refusal.{Refusal}
use Rattle.lsm_device.specs.declared.refusal.Refusal.TheVariants.{NoMemory, Io}
use Rattle.lsm_open.specs.Layout.{layout_of}
use Rattle.lsm_open.specs.Switching.{IsRotated}
use Rattle.lsm_store.specs.declared.memory.Memory.{Memory}
use Rattle.lsm_store.specs.declared.memory.Status.TheVariants.{Stopped}
use Rattle.lsm_machine.specs.Calls.{Rotate, Done, Refused, reply_of}
use Rattle.lsm_machine.specs.Effects.{after}
use Rattle.lsm_store.specs.Memory.{AreConsistent, IsInside, LieWithin, numbered_layout, view_of}
use Rattle.lsm_machine.specs.Refusals.{refusal}
use Rattle.lsm_machine.specs.Run.{stopped_in}
use Rattle.lsm_store.specs.Serving.{Serves}
use Rattle.lsm_store.proofs.Refusing.{serves_refused, serves_no_memory}
use Rattle.lsm_store.proofs.RotatedMemory.{next_within, next_inside, installing_next, installed_next, rotation_kept, rotation_serves, fault_kept, fault_serves}
use Rattle.lsm_machine.proofs.Unrefused.{err_of}
use Rattle.lsm_store.proofs.rotation.rotate.Goals as goal

pub returns-in_err-check_rotate-clause-serves : goal.returns-in_err-check_rotate-clause-serves
returns-in_err-check_rotate-clause-serves g c = λ cache.
    let old = view_of (g.D.Device.medium c.args.device.now) c.args.memory.now cache in
    let found = err_of c.from_residual.result _ c.from_residual.ensures.1 in
    let is : refusal old.state Rotate ≡ Some found.0 = c.in_err-check_rotate.ensures ∙ ap Some (sym found.2) in
    subst (λ (r : Result (Unit {0}) Refusal). Serves old Rotate (reply_of (λ x. Done) r) old) (sym found.1) (serves_refused old Rotate found.0 is)

pub returns-in_err-regions-clause-serves : goal.returns-in_err-regions-clause-serves
returns-in_err-regions-clause-serves g c = λ cache.
    let old = view_of (g.D.Device.medium c.args.device.now) c.args.memory.now cache in
    let found = err_of c.from_residual-in_err-regions.result _ c.from_residual-in_err-regions.ensures.1 in
    let none : refusal old.state Rotate ≡ None = c.in_ok-check_rotate.ensures in
    let is : found.0 ≡ NoMemory = found.2 ∙ c.in_err-regions.ensures.refused in
    subst (λ (r : Result (Unit {0}) Refusal). Serves old Rotate (reply_of (λ x. Done) r) old) (sym found.1)
    (subst (λ (e : Refusal). Serves old Rotate (Refused e) old) (sym is) (serves_no_memory old Rotate none refl))

pub next_root-requires : goal.next_root-requires
next_root-requires g c =
    let regions = c.in_ok-regions.regions in
    subst (λ (n : ℕ). LieWithin n (layout_of regions) c.args.memory.now.levels) (sym c.sectors.ensures)
    (next_within c.args.memory.now c.requires.kept c.in_ok-check_rotate.ensures (g.D.Device.medium c.args.device.now).size c.requires.inside regions c.in_ok-regions.ensures.regions)

pub returns-in_err-root-clause-serves : goal.returns-in_err-root-clause-serves
returns-in_err-root-clause-serves g c = λ cache.
    let old = view_of (g.D.Device.medium c.args.device.now) c.args.memory.now cache in
    let found = err_of c.from_residual-in_err-root.result _ c.from_residual-in_err-root.ensures.1 in
    let none : refusal old.state Rotate ≡ None = c.in_ok-check_rotate.ensures in
    let is : found.0 ≡ NoMemory = found.2 ∙ c.in_err-root.ensures.refused in
    subst (λ (r : Result (Unit {0}) Refusal). Serves old Rotate (reply_of (λ x. Done) r) old) (sym found.1)
    (subst (λ (e : Refusal). Serves old Rotate (Refused e) old) (sym is) (serves_no_memory old Rotate none refl))

pub returns-in_err-seal-clause-serves : goal.returns-in_err-seal-clause-serves
returns-in_err-seal-clause-serves g c = λ cache.
    let medium = g.D.Device.medium c.args.device.now in
    let old = view_of medium c.args.memory.now cache in
    let found = err_of c.from_residual-in_err-seal.result _ c.from_residual-in_err-seal.ensures.1 in
    let none : refusal old.state Rotate ≡ None = c.in_ok-check_rotate.ensures in
    let is : found.0 ≡ NoMemory = found.2 ∙ c.in_err-seal.ensures.refused in
    subst (λ (x : Memory g.row.A.Denot). Serves old Rotate (reply_of (λ x. Done) c.from_residual-in_err-seal.result) (view_of medium x cache)) (sym c.in_err-seal.ensures.unchanged)
    (subst (λ (r : Result (Unit {0}) Refusal). Serves old Rotate (reply_of (λ x. Done) r) old) (sym found.1)
    (subst (λ (e : Refusal). Serves old Rotate (Refused e) old) (sym is) (serves_no_memory old Rotate none refl)))

pub returns-in-Ok-clause-serves : goal.returns-in-Ok-clause-serves
returns-in-Ok-clause-serves g c = λ cache.
    let m = c.args.memory.now in
    let medium = g.D.Device.medium c.args.device.now in
    let new = g.D.Device.medium c.install.new.device in
    let regions = c.in_ok-regions.regions in
    let is = c.in_ok-regions.ensures.regions in
    let sealed = c.seal.new.self.sealed in
    let none = c.in_ok-check_rotate.ensures in
    let root = c.in_ok-root.root in
    let e = c.in-Ok.ensures in
    let wrote = installing_next m c.requires.kept none medium.size c.requires.inside regions is c.sectors.result root c.in_ok-root.ensures.root medium new cache e.any_moment e.counts e.same_size e.same_lasting in
    let installed = installed_next m c.requires.kept none medium.size c.requires.inside regions is c.sectors.result root c.in_ok-root.ensures.root medium new cache e.installed in
    subst (λ (x : Memory g.row.A.Denot). Serves (view_of medium m cache) Rotate Done (view_of new x cache)) (sym (c.rotate_to.ensures ∙ ap (λ (x : Memory g.row.A.Denot). record x { regions = regions; synced = x.count; told = record { state = after x.told.state Rotate } }) c.in_ok-seal.ensures.begun))
    (rotation_serves m c.requires.kept none medium.size c.requires.inside regions is sealed medium new cache c.in_ok-seal.ensures.sealed (λ tells. (g.met.D.Device.sound c.args.device.now tells).now.size) wrote installed e.faults)

pub returns-in-Ok-clause-opens : goal.returns-in-Ok-clause-opens
returns-in-Ok-clause-opens g c =
    let m = c.args.memory.now in
    let regions = c.in_ok-regions.regions in
    subst (λ (n : ℕ). IsRotated (numbered_layout m) n (layout_of c.rotate_to.new.self.regions)) (sym c.requires.kept.agrees.counted)
    (subst (λ (x : Memory g.row.A.Denot). IsRotated (numbered_layout m) m.count (layout_of x.regions)) (sym (c.rotate_to.ensures ∙ ap (λ (x : Memory g.row.A.Denot). record x { regions = regions; synced = x.count; told = record { state = after x.told.state Rotate } }) c.in_ok-seal.ensures.begun))
    c.in_ok-regions.ensures.regions)

pub returns-in-Ok-clause-kept : goal.returns-in-Ok-clause-kept
returns-in-Ok-clause-kept g c =
    let regions = c.in_ok-regions.regions in
    subst (λ (x : Memory g.row.A.Denot). AreConsistent x) (sym (c.rotate_to.ensures ∙ ap (λ (x : Memory g.row.A.Denot). record x { regions = regions; synced = x.count; told = record { state = after x.told.state Rotate } }) c.in_ok-seal.ensures.begun))
    (rotation_kept c.args.memory.now c.requires.kept c.in_ok-check_rotate.ensures (g.D.Device.medium c.args.device.now).size c.requires.inside regions c.in_ok-regions.ensures.regions c.seal.new.self.sealed c.in_ok-seal.ensures.sealed)

pub returns-in-Ok-clause-inside : goal.returns-in-Ok-clause-inside
returns-in-Ok-clause-inside g c =
    let regions = c.in_ok-regions.regions in
    let new = g.D.Device.medium c.install.new.device in
    subst (λ (x : Memory g.row.A.Denot). IsInside new.size x) (sym (c.rotate_to.ensures ∙ ap (λ (x : Memory g.row.A.Denot). record x { regions = regions; synced = x.count; told = record { state = after x.told.state Rotate } }) c.in_ok-seal.ensures.begun))
    (next_inside c.args.memory.now c.requires.kept c.in_ok-check_rotate.ensures (g.D.Device.medium c.args.device.now).size c.requires.inside regions c.in_ok-regions.ensures.regions new.size c.in-Ok.ensures.same_size)

pub returns-in-Err-clause-serves : goal.returns-in-Err-clause-serves
returns-in-Err-clause-serves g c = λ cache.
    let m = c.args.memory.now in
    let medium = g.D.Device.medium c.args.device.now in
    let new = g.D.Device.medium c.install.new.device in
    let regions = c.in_ok-regions.regions in
    let is = c.in_ok-regions.ensures.regions in
    let none = c.in_ok-check_rotate.ensures in
    let root = c.in_ok-root.root in
    let e = c.in-Err.ensures in
    let wrote = installing_next m c.requires.kept none medium.size c.requires.inside regions is c.sectors.result root c.in_ok-root.ensures.root medium new cache e.any_moment e.counts e.same_size e.same_lasting in
    subst (λ (x : Memory g.row.A.Denot). Serves (view_of medium m cache) Rotate (Refused Io) (view_of new x cache)) (sym (c.stop_in_rotation.ensures ∙ ap (λ (x : Memory g.row.A.Denot). record x { status = Stopped; told = record { state = stopped_in x.told.state Rotate } }) c.in_ok-seal.ensures.begun))
    (fault_serves m c.requires.kept none medium.size c.requires.inside regions is c.seal.new.self.sealed medium new cache (λ tells. (g.met.D.Device.sound c.args.device.now tells).now.size) wrote e.faults)

pub returns-in-Err-clause-kept : goal.returns-in-Err-clause-kept
returns-in-Err-clause-kept g c =
    subst (λ (x : Memory g.row.A.Denot). AreConsistent x) (sym (c.stop_in_rotation.ensures ∙ ap (λ (x : Memory g.row.A.Denot). record x { status = Stopped; told = record { state = stopped_in x.told.state Rotate } }) c.in_ok-seal.ensures.begun))
    (fault_kept c.args.memory.now c.requires.kept c.in_ok-check_rotate.ensures (g.D.Device.medium c.args.device.now).size c.requires.inside c.in_ok-regions.regions c.in_ok-regions.ensures.regions c.seal.new.self.sealed c.in_ok-seal.ensures.sealed)
