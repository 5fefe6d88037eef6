use Rattle.std.proofs.Common.{◌+◌, subst}
use Rattle.lsm_codec.specs.Manifests.{Contents, sector_count}
use Rattle.lsm_device.specs.History.{EachSince}
use Rattle.lsm_device.specs.Medium.{disk}
use Rattle.lsm_device.specs.Outcomes.{Leaves}
use Rattle.lsm_device.proofs.Moments.{started}
use Rattle.lsm_open.specs.Layout.{layout_of}
use Rattle.lsm_open.proofs.NextManifests.{next_fits}
use Rattle.lsm_open.proofs.NextLayouts.{installs, least_kept}
use Rattle.lsm_root.specs.Counted.{CallsMade}
use Rattle.lsm_root.specs.Installed.{IsOldOrNew, IsInstalled}
use Rattle.lsm_root.specs.Roots.{Stands}
use Rattle.lsm_root.proofs.Switched.{none_leaves}
use Rattle.lsm_open.proofs.reopened.reopen.Goals as goal

pub returns-in_err-clone-clause-any_moment : goal.returns-in_err-clone-clause-any_moment
returns-in_err-clone-clause-any_moment g c = λ t. started _ _ (none_leaves _ _ (c.requires.ready t).settled)

pub returns-in_err-manifest-clause-any_moment : goal.returns-in_err-manifest-clause-any_moment
returns-in_err-manifest-clause-any_moment g c = λ t. started _ _ (none_leaves _ _ (c.requires.ready t).settled)

pub install-requires-clause-valid : goal.install-requires-clause-valid
install-requires-clause-valid g c = λ le.
    let m = c.args.loaded.now.manifest in
    let says = installs c.args.loaded.now.log_sectors c.args.count m c.in_ok-manifest.manifest c.args.closed.items c.runs.result c.tables.result.now (layout_of c.next_regions-regions.result) c.in_ok-manifest.ensures c.runs.ensures c.tables.ensures c.next_regions-regions.ensures.layout c.next_regions-regions.ensures.kept in
    rw says (record { fits = next_fits m c.args.count c.args.closed.items c.requires.fits.fits c.requires.come c.requires.has_next; records = c.requires.fits.records })

pub install-requires-clause-inside : goal.install-requires-clause-inside
install-requires-clause-inside g c = λ le.
    let m = c.args.loaded.now.manifest in
    let says = installs c.args.loaded.now.log_sectors c.args.count m c.in_ok-manifest.manifest c.args.closed.items c.runs.result c.tables.result.now (layout_of c.next_regions-regions.result) c.in_ok-manifest.ensures c.runs.ensures c.tables.ensures c.next_regions-regions.ensures.layout c.next_regions-regions.ensures.kept in
    rw says c.requires.inside

pub returns-clause-any_moment : goal.returns-clause-any_moment
returns-clause-any_moment g c = λ t.
    let D = g.D.Device in
    let m = c.args.loaded.now.manifest in
    let says = installs c.args.loaded.now.log_sectors c.args.count m c.in_ok-manifest.manifest c.args.closed.items c.runs.result c.tables.result.now (layout_of c.next_regions-regions.result) c.in_ok-manifest.ensures c.runs.ensures c.tables.ensures c.next_regions-regions.ensures.layout c.next_regions-regions.ensures.kept in
    subst (λ (x : Contents). EachSince (Leaves (IsOldOrNew (disk (D.medium c.args.device.now)) (Stands c.args.loaded.now.log_sectors x))) (D.medium c.args.device.now).history (D.medium c.install.new.device).history) says (c.install.ensures.any_moment t)

pub returns-clause-installed : goal.returns-clause-installed
returns-clause-installed g c = λ t.
    let D = g.D.Device in
    let m = c.args.loaded.now.manifest in
    let says = installs c.args.loaded.now.log_sectors c.args.count m c.in_ok-manifest.manifest c.args.closed.items c.runs.result c.tables.result.now (layout_of c.next_regions-regions.result) c.in_ok-manifest.ensures c.runs.ensures c.tables.ensures c.next_regions-regions.ensures.layout c.next_regions-regions.ensures.kept in
    subst (λ (x : Contents). IsInstalled (disk (D.medium c.args.device.now)) (Stands c.args.loaded.now.log_sectors x) (disk (D.medium c.install.new.device))) says (c.in_ok-install.ensures.installed t)

pub returns-clause-made : goal.returns-clause-made
returns-clause-made g c =
    let D = g.D.Device in
    let m = c.args.loaded.now.manifest in
    let says = installs c.args.loaded.now.log_sectors c.args.count m c.in_ok-manifest.manifest c.args.closed.items c.runs.result c.tables.result.now (layout_of c.next_regions-regions.result) c.in_ok-manifest.ensures c.runs.ensures c.tables.ensures c.next_regions-regions.ensures.layout c.next_regions-regions.ensures.kept in
    subst (λ (x : Contents). CallsMade (sector_count x + 1) 2 (D.medium c.args.device.now).calls (D.medium c.install.new.device).calls) says c.in_ok-install.ensures.made

pub returns-in_err-clone-clause-may_open : goal.returns-in_err-clone-clause-may_open
returns-in_err-clone-clause-may_open g c =
    (c.next_regions-regions.result.open_region, least_kept c.args.loaded.now.log_sectors c.args.count c.args.loaded.now.manifest c.args.closed.items (layout_of c.next_regions-regions.result) c.next_regions-regions.ensures.layout c.next_regions-regions.ensures.kept)

pub returns-in_err-manifest-clause-may_open : goal.returns-in_err-manifest-clause-may_open
returns-in_err-manifest-clause-may_open g c =
    (c.next_regions-regions.result.open_region, least_kept c.args.loaded.now.log_sectors c.args.count c.args.loaded.now.manifest c.args.closed.items (layout_of c.next_regions-regions.result) c.next_regions-regions.ensures.layout c.next_regions-regions.ensures.kept)

pub returns-clause-may_open : goal.returns-clause-may_open
returns-clause-may_open g c =
    (c.next_regions-regions.result.open_region, least_kept c.args.loaded.now.log_sectors c.args.count c.args.loaded.now.manifest c.args.closed.items (layout_of c.next_regions-regions.result) c.next_regions-regions.ensures.layout c.next_regions-regions.ensures.kept)
