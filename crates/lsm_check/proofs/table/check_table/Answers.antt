use Rattle.std.proofs.Common.{◌++◌, ◌∙◌, List, sym, subst}
use Rattle.lsm_codec.specs.Versions.{Version}
use Rattle.lsm_device.specs.Disk.{seen}
use Rattle.lsm_device.specs.Medium.{disk}
use Rattle.lsm_check.specs.Seen.{IsSeen}
use Rattle.lsm_check.specs.Sound.{Fits}
use Rattle.lsm_check.proofs.SoundTables.{sound_if_fits, fits_if_sound}
use Rattle.lsm_check.proofs.table.check_table.Goals as goal

pub returns-in_err-test-clause-fair : goal.returns-in_err-test-clause-fair
returns-in_err-test-clause-fair g c versions first tells sound older =
    let D = g.D.Device in
    let t = c.args.table.now in
    let entries = c.in_ok-entries.entries.items in
    let fits = fits_if_sound (seen (disk (D.medium c.args.device.now))) c.args.area t c.args.base versions entries (c.in_ok-entries.ensures.read tells) sound older in
    absurd (c.in_err-test.ensures.fits versions first (subst (λ (es : List Version). Fits t c.args.base versions es) (sym c.deref.ensures.value) fits))

pub returns-clause-sound : goal.returns-clause-sound
returns-clause-sound g c versions first tells told =
    let D = g.D.Device in
    let t = c.args.table.now in
    let entries = c.in_ok-entries.entries.items in
    let fits = subst (λ (es : List Version). Fits t c.args.base versions es) c.deref.ensures.value (c.in_ok-test.ensures.fits versions first) in
    let is = sound_if_fits (seen (disk (D.medium c.args.device.now))) c.args.area t c.args.base versions entries (c.in_ok-entries.ensures.read tells) told fits in
    (is.0, is.1, subst (λ (vs : List Version). IsSeen (versions ++ vs) c.take_in_all.new.self) (c.deref-2.ensures.value ∙ is.2) (c.in_ok-take_in_all.ensures.seen versions first))
