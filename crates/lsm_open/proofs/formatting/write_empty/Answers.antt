use Rattle.std.proofs.Common.{◌≡◌, ◌+◌, ◌*◌, ◌∙◌, ℕ, replicate, ap, subst, sym, refl, arith}
use Rattle.lsm_codec.specs.Manifests.{sector_count}
use Rattle.lsm_codec.specs.Formats.{blank}
use Rattle.lsm_device.specs.Disk.{Disk, seen, synced}
use Rattle.lsm_device.specs.Medium.{disk}
use Rattle.lsm_device.specs.Runs.{run_at, grown}
use Rattle.lsm_device.proofs.Counting.{AtMost-joined}
use Rattle.lsm_root.specs.Counted.{CallsMade}
use Rattle.lsm_root.specs.Installed.{IsReady, IsInstalled, KeepsOthers}
use Rattle.lsm_root.specs.Planned.{Planned}
use Rattle.lsm_root.specs.Roots.{Stands}
use Rattle.lsm_root.proofs.Counting.{CallsMade-joined}
use Rattle.lsm_open.specs.Formatted.{empty_manifest}
use Rattle.lsm_open.proofs.Zeroed.{zeroed_ready, is_formatted, empty_takes_one}
use Rattle.lsm_open.proofs.formatting.write_empty.Goals as goal

pub install-requires : goal.install-requires
install-requires g c = record { same_device = c.zero_front.ensures.same_size ∙ ap (λ (p : Planned). p.size) (sym c.requires.root) }

pub returns-in_err-install-clause-counts : goal.returns-in_err-install-clause-counts
returns-in_err-install-clause-counts g c =
    AtMost-joined 0 (130 + 3 * c.args.log_sectors) 1 0 42 2 0 (172 + 3 * c.args.log_sectors) 3 _ _ _ (omega arith) (omega arith) (omega arith) c.zero_front.ensures.counts c.install.ensures.counts

pub returns-clause-counts : goal.returns-clause-counts
returns-clause-counts g c =
    AtMost-joined 0 (130 + 3 * c.args.log_sectors) 1 0 42 2 0 (172 + 3 * c.args.log_sectors) 3 _ _ _ (omega arith) (omega arith) (omega arith) c.zero_front.ensures.counts c.install.ensures.counts

pub returns-clause-made : goal.returns-clause-made
returns-clause-made g c =
    let D = g.D.Device in
    let one : sector_count c.args.root.now.manifest ≡ 1 = ap (λ (p : Planned). sector_count p.manifest) c.requires.root ∙ empty_takes_one in
    let last : CallsMade 2 2 (D.medium c.zero_front.new.device).calls (D.medium c.install.new.device).calls = subst (λ (n : ℕ). CallsMade (n + 1) 2 (D.medium c.zero_front.new.device).calls (D.medium c.install.new.device).calls) one c.in_ok-install.ensures.made in
    CallsMade-joined (130 + 3 * c.args.log_sectors) 1 2 2 (132 + 3 * c.args.log_sectors) 3 _ _ _ (omega arith) (omega arith) c.in_ok-zero_front.ensures.made last

pub returns-clause-formatted : goal.returns-clause-formatted
returns-clause-formatted g c = λ t.
    let D = g.D.Device in
    let size = (D.medium c.args.device.now).size in
    let here = zeroed_ready size (130 + 3 * c.args.log_sectors) (disk (D.medium c.args.device.now)) (g.met.D.Device.sound c.args.device.now t).now (omega (arith, c.requires.geometry.device.low, c.requires.geometry.log_high)) c.args.log_sectors (omega arith) in
    let ready : IsReady (D.medium c.zero_front.new.device).size c.args.root.now.log c.args.root.now.manifest.generation (disk (D.medium c.zero_front.new.device)) =
    subst (λ (p : Planned). IsReady (D.medium c.zero_front.new.device).size p.log p.manifest.generation (disk (D.medium c.zero_front.new.device))) (sym c.requires.root)
    (subst (λ (n : ℕ). IsReady n c.args.log_sectors 1 (disk (D.medium c.zero_front.new.device))) (sym c.zero_front.ensures.same_size)
    (subst (IsReady size c.args.log_sectors 1) (sym (c.in_ok-zero_front.ensures.zeroed t)) here)) in
    let installed : IsInstalled (disk (D.medium c.zero_front.new.device)) (Stands c.args.log_sectors empty_manifest) (disk (D.medium c.install.new.device)) =
    subst (λ (p : Planned). IsInstalled (disk (D.medium c.zero_front.new.device)) (Stands p.log p.manifest) (disk (D.medium c.install.new.device))) c.requires.root (c.in_ok-install.ensures.installed (rw c.zero_front.ensures.same_lasting t) ready) in
    let others : KeepsOthers empty_manifest (seen (synced (grown (run_at 0 (replicate (130 + 3 * c.args.log_sectors) blank)) (disk (D.medium c.args.device.now))))) (disk (D.medium c.install.new.device)).stands =
    subst (λ (d : Disk). KeepsOthers empty_manifest (seen d) (disk (D.medium c.install.new.device)).stands) (c.in_ok-zero_front.ensures.zeroed t)
    (subst (λ (p : Planned). KeepsOthers p.manifest (seen (disk (D.medium c.zero_front.new.device))) (disk (D.medium c.install.new.device)).stands) c.requires.root (c.in_ok-install.ensures.others (rw c.zero_front.ensures.same_lasting t))) in
    is_formatted size (130 + 3 * c.args.log_sectors) (disk (D.medium c.args.device.now)) (g.met.D.Device.sound c.args.device.now t).now (omega (arith, c.requires.geometry.device.low, c.requires.geometry.log_high)) c.args.log_sectors (disk (D.medium c.install.new.device)) refl
    (subst (λ (d : Disk). IsInstalled d (Stands c.args.log_sectors empty_manifest) (disk (D.medium c.install.new.device))) (c.in_ok-zero_front.ensures.zeroed t) installed) others
