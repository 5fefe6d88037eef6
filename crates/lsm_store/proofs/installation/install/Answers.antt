use Rattle.std.proofs.Common.{◌≡◌, ◌⊎◌, inl, ℕ, Bool, true, false, Some, refl, sym, ◌∙◌, ap, subst, arith}
use Rattle.std.specs.Prelude.{Result}
use Rattle.lsm_device.specs.declared.refusal.Refusal.{Refusal}
use Rattle.lsm_device.specs.declared.refusal.Refusal.TheVariants.{NoMemory, BadTable, Io}
use Rattle.lsm_jobs.specs.Slots.{slot_of}
use Rattle.lsm_store.specs.declared.memory.Memory.{Memory}
use Rattle.lsm_store.specs.Backing.{machine_of}
use Rattle.lsm_machine.specs.Calls.{Done, Refused, reply_of}
use Rattle.lsm_levels.specs.Pick.{is_flush}
use Rattle.lsm_open.specs.Layout.{Layout, layout_of}
use Rattle.lsm_store.specs.InstalledJobs.{layout_after}
use Rattle.lsm_store.specs.InstalledMemory.{next_layout, after_install_fault}
use Rattle.lsm_store.specs.Memory.{AreConsistent, IsInside, LieWithin, state_of, work_of, view_of}
use Rattle.lsm_machine.specs.Work.{Install}
use Rattle.lsm_machine.specs.WorkRefusals.{work_refusal}
use Rattle.lsm_machine.specs.WorkReplies.{IsUnfit}
use Rattle.lsm_store.specs.Working.{Works}
use Rattle.lsm_machine.specs.Machine.{Machine}
use Rattle.lsm_store.proofs.InstallRoots.{unrefused_install, written_held, not_installed, installing_root, install_works, install_fault_works}
use Rattle.lsm_store.proofs.InstalledMemory.{next_generation, next_lies, to_kept, to_inside, install_fault_kept, install_fault_inside}
use Rattle.lsm_machine.proofs.Unrefused.{err_of}
use Rattle.lsm_store.proofs.Works.{works_refused}
use Rattle.lsm_store.proofs.installation.install.Goals as goal

pub returns-in_err-check_install-clause-works : goal.returns-in_err-check_install-clause-works
returns-in_err-check_install-clause-works g c = λ cache.
    let old = view_of (g.D.Device.medium c.args.device.now) c.args.memory.now cache in
    let found = err_of c.from_residual.result _ c.from_residual.ensures.1 in
    subst (λ (r : Result (Unit {0}) Refusal). Works old (Install c.args.job) (reply_of (λ x. Done) r) old) (sym found.1)
    (works_refused old (Install c.args.job) found.0 (subst (λ (e : Refusal). work_refusal (machine_of old) (Install c.args.job) ≡ Some e) (sym found.2) c.in_err-check_install.ensures))

pub installed-requires-clause-written : goal.installed-requires-clause-written
installed-requires-clause-written g c =
    let m = c.args.memory.now in
    let w : Machine = record { state = state_of m; work = work_of m } in
    written_held w c.args.job (unrefused_install w c.args.job c.in_ok-check_install.ensures).1

pub returns-in_err-next-clause-works : goal.returns-in_err-next-clause-works
returns-in_err-next-clause-works g c = λ cache.
    let old = view_of (g.D.Device.medium c.args.device.now) c.args.memory.now cache in
    let found = err_of c.from_residual-in_err-next.result _ c.from_residual-in_err-next.ensures.1 in
    subst (λ (r : Result (Unit {0}) Refusal). Works old (Install c.args.job) (reply_of (λ x. Done) r) old) (sym found.1)
    (not_installed old c.args.job found.0 c.in_ok-check_install.ensures
    (subst (λ (e : Refusal). (e ≡ NoMemory) ⊎ ((e ≡ BadTable) × IsUnfit (slot_of c.args.job c.args.memory.now.jobs.slots))) (sym found.2) c.in_err-next.ensures.refused))

pub installed_root-requires-clause-within : goal.installed_root-requires-clause-within
installed_root-requires-clause-within g c =
    let m = c.args.memory.now in
    let next = c.in_ok-next.next in
    subst (λ (n : ℕ). LieWithin n (next_layout next.flush m) next.levels) (sym c.sectors.ensures)
    (next_lies m c.requires.kept c.runs-runs.ensures.runs c.partition.ensures c.args.job next.flush next.levels c.in_ok-next.ensures.next c.in_ok-check_install.ensures (g.D.Device.medium c.args.device.now).size c.requires.inside)

pub installed_root-requires-clause-generation_high : goal.installed_root-requires-clause-generation_high
installed_root-requires-clause-generation_high g c =
    let n = c.in_ok-next.ensures.next in
    omega (arith, next_generation c.args.memory.now c.requires.kept c.runs-runs.ensures.runs c.args.job n.slot n.is n.made n.fit c.in_ok-check_install.ensures (g.D.Device.medium c.args.device.now).size c.requires.inside c.partition.ensures)

pub returns-in_err-root-clause-works : goal.returns-in_err-root-clause-works
returns-in_err-root-clause-works g c = λ cache.
    let old = view_of (g.D.Device.medium c.args.device.now) c.args.memory.now cache in
    let found = err_of c.from_residual-in_err-root.result _ c.from_residual-in_err-root.ensures.1 in
    let is : found.0 ≡ NoMemory = found.2 ∙ c.in_err-root.ensures.refused in
    subst (λ (r : Result (Unit {0}) Refusal). Works old (Install c.args.job) (reply_of (λ x. Done) r) old) (sym found.1)
    (not_installed old c.args.job found.0 c.in_ok-check_install.ensures (inl is))

pub install_to-requires-clause-generation_high : goal.install_to-requires-clause-generation_high
install_to-requires-clause-generation_high g c =
    let n = c.in_ok-next.ensures.next in
    omega (arith, next_generation c.args.memory.now c.requires.kept c.runs-runs.ensures.runs c.args.job n.slot n.is n.made n.fit c.in_ok-check_install.ensures (g.D.Device.medium c.args.device.now).size c.requires.inside c.partition.ensures)

pub returns-in-Ok-clause-works : goal.returns-in-Ok-clause-works
returns-in-Ok-clause-works g c = λ cache.
    let m = c.args.memory.now in
    let medium = g.D.Device.medium c.args.device.now in
    let new = g.D.Device.medium c.install.new.device in
    let next = c.in_ok-next.next in
    let n = c.in_ok-next.ensures.next in
    let root = c.in_ok-root.root in
    let e = c.in-Ok.ensures in
    let wrote = installing_root m c.requires.kept c.runs-runs.ensures.runs c.partition.ensures c.args.job next.flush next.levels n c.in_ok-check_install.ensures medium new cache c.sectors.result root c.in_ok-root.ensures.root e.any_moment e.counts e.same_size e.same_lasting in
    install_works m c.requires.kept c.runs-runs.ensures.runs c.partition.ensures c.args.job next.flush next.levels n c.in_ok-check_install.ensures medium new cache c.sectors.result root c.in_ok-root.ensures.root
    (λ tells. (g.met.D.Device.sound c.args.device.now tells).now.size) wrote e.installed e.faults c.install_to.new.self (c.install_to.ensures n.slot n.is)

layout_next : (flush : Bool) (l : Layout) (count next_table : ℕ) → (layout_after flush l count next_table).next_table ≡ next_table
layout_next true l count next_table = refl
layout_next false l count next_table = refl

pub returns-in-Ok-clause-numbered : goal.returns-in-Ok-clause-numbered
returns-in-Ok-clause-numbered g c =
    let m = c.args.memory.now in
    let n = c.in_ok-next.ensures.next in
    ap (λ (l : Layout). l.next_table) (c.install_to.ensures n.slot n.is).layout ∙ layout_next (is_flush n.slot.job) (layout_of m.regions) m.count m.next_table

pub returns-in-Ok-clause-kept : goal.returns-in-Ok-clause-kept
returns-in-Ok-clause-kept g c =
    let next = c.in_ok-next.next in
    let n = c.in_ok-next.ensures.next in
    to_kept c.args.memory.now c.requires.kept c.runs-runs.ensures.runs c.partition.ensures c.args.job next.flush next.levels n c.install_to.new.self (c.install_to.ensures n.slot n.is)

pub returns-in-Ok-clause-inside : goal.returns-in-Ok-clause-inside
returns-in-Ok-clause-inside g c =
    let m = c.args.memory.now in
    let medium = g.D.Device.medium c.args.device.now in
    let next = c.in_ok-next.next in
    let n = c.in_ok-next.ensures.next in
    let runs = c.runs-runs.ensures.runs in
    let lies = next_lies m c.requires.kept runs c.partition.ensures c.args.job next.flush next.levels n c.in_ok-check_install.ensures medium.size c.requires.inside in
    subst (λ (size : ℕ). IsInside size c.install_to.new.self) (sym c.in-Ok.ensures.same_size)
    (to_inside m c.requires.kept runs c.partition.ensures c.args.job next.flush next.levels n c.install_to.new.self (c.install_to.ensures n.slot n.is) medium.size c.requires.inside lies)

pub returns-in-Err-clause-works : goal.returns-in-Err-clause-works
returns-in-Err-clause-works g c = λ cache.
    let m = c.args.memory.now in
    let medium = g.D.Device.medium c.args.device.now in
    let new = g.D.Device.medium c.install.new.device in
    let next = c.in_ok-next.next in
    let n = c.in_ok-next.ensures.next in
    let root = c.in_ok-root.root in
    let e = c.in-Err.ensures in
    let wrote = installing_root m c.requires.kept c.runs-runs.ensures.runs c.partition.ensures c.args.job next.flush next.levels n c.in_ok-check_install.ensures medium new cache c.sectors.result root c.in_ok-root.ensures.root e.any_moment e.counts e.same_size e.same_lasting in
    subst (λ (x : Memory g.row.A.Denot). Works (view_of medium m cache) (Install c.args.job) (Refused Io) (view_of new x cache)) (sym c.stop_in_install.ensures)
    (install_fault_works m c.requires.kept c.runs-runs.ensures.runs c.partition.ensures c.args.job next.flush next.levels n c.in_ok-check_install.ensures medium new cache c.sectors.result root c.in_ok-root.ensures.root
    (λ tells. (g.met.D.Device.sound c.args.device.now tells).now.size) wrote e.faults)

pub returns-in-Err-clause-kept : goal.returns-in-Err-clause-kept
returns-in-Err-clause-kept g c = subst (λ (x : Memory g.row.A.Denot). AreConsistent x) (sym c.stop_in_install.ensures) (install_fault_kept c.args.memory.now c.in_ok-next.next.flush c.requires.kept)

pub returns-in-Err-clause-inside : goal.returns-in-Err-clause-inside
returns-in-Err-clause-inside g c =
    let m = c.args.memory.now in
    let flush = c.in_ok-next.next.flush in
    subst (λ (x : Memory g.row.A.Denot). IsInside (g.D.Device.medium c.install.new.device).size x) (sym c.stop_in_install.ensures)
    (subst (λ (size : ℕ). IsInside size (after_install_fault flush m)) (sym c.in-Err.ensures.same_size) (install_fault_inside m flush (g.D.Device.medium c.args.device.now).size c.requires.inside))
