use Rattle.std.proofs.Common.{◌≡◌, ◌∙◌, ℕ, List, length, sym, subst}
use Rattle.std.proofs.lemmas.Bool.{false≢true}
use Rattle.std.proofs.lemmas.Result.{err_from_is_err_and}
use Rattle.lsm_device.specs.Disk.{seen}
use Rattle.lsm_device.specs.Medium.{disk}
use Rattle.lsm_device.specs.Memory.{length-written}
use Rattle.lsm_open.proofs.OpeningMoments.{has_size}
use Rattle.lsm_open.proofs.OpeningAnswers.{reads_none}
use Rattle.lsm_root.specs.Layout.{IsDeviceSize}
use Rattle.lsm_check.proofs.checking.check.Goals as goal

pub returns-then-not-is_device_size-clause-image : goal.returns-then-not-is_device_size-clause-image
returns-then-not-is_device_size-clause-image g c = λ n left t is.
    let D = g.D.Device in
    let image : List (List ℕ) = seen (disk (D.medium c.args.device.now)) in
    let long : length image ≡ (D.medium c.args.device.now).size = length-written _ (disk (D.medium c.args.device.now)).stands (disk (D.medium c.args.device.now)).pending (g.met.D.Device.sound c.args.device.now t).now.size in
    let fair : IsDeviceSize (D.medium c.args.device.now).size = has_size n left image (D.medium c.args.device.now).size is long c.root_laws.ensures.fits in
    absurd (false≢true (sym c.if-not-is_device_size.true ∙ c.is_device_size.ensures.1 (subst IsDeviceSize (sym c.sectors.ensures) fair)))

pub returns-then-not-is_device_size-clause-device : goal.returns-then-not-is_device_size-clause-device
returns-then-not-is_device_size-clause-device g c = reads_none 1118274 _

pub returns-in_err-report-clause-image : goal.returns-in_err-report-clause-image
returns-in_err-report-clause-image g c = λ n left t is.
    let p = err_from_is_err_and c.from_residual.result c.from_residual.ensures.1 in
    rw (p.1, p.2) (c.in_err-report.ensures.image n left t is)

pub returns-in_err-report-clause-whole : goal.returns-in_err-report-clause-whole
returns-in_err-report-clause-whole g c =
    let p = err_from_is_err_and c.from_residual.result c.from_residual.ensures.1 in
    rw (p.1, p.2) c.in_err-report.ensures.whole

pub returns-in_err-report-clause-refused : goal.returns-in_err-report-clause-refused
returns-in_err-report-clause-refused g c =
    let p = err_from_is_err_and c.from_residual.result c.from_residual.ensures.1 in
    rw (p.1, p.2) c.in_err-report.ensures.refused

pub returns-then-not-is_device_size-clause-first : goal.returns-then-not-is_device_size-clause-first
returns-then-not-is_device_size-clause-first g c = λ t fair. absurd (false≢true (sym c.if-not-is_device_size.true ∙ c.is_device_size.ensures.1 (subst IsDeviceSize (sym c.sectors.ensures) fair)))

pub returns-then-not-is_device_size-clause-later : goal.returns-then-not-is_device_size-clause-later
returns-then-not-is_device_size-clause-later g c = λ t fair. absurd (false≢true (sym c.if-not-is_device_size.true ∙ c.is_device_size.ensures.1 (subst IsDeviceSize (sym c.sectors.ensures) fair)))

pub returns-in_err-report-clause-first : goal.returns-in_err-report-clause-first
returns-in_err-report-clause-first g c = λ t fair refusal says not_last.
    let p = err_from_is_err_and c.from_residual.result c.from_residual.ensures.1 in
    rw (p.1, p.2) (c.in_err-report.ensures.first t refusal says not_last)

pub returns-in_err-report-clause-later : goal.returns-in_err-report-clause-later
returns-in_err-report-clause-later g c = λ t fair opens has.
    let p = err_from_is_err_and c.from_residual.result c.from_residual.ensures.1 in
    rw (p.1, p.2) (c.in_err-report.ensures.later t opens has)

pub returns-then-not-is_device_size-clause-found : goal.returns-then-not-is_device_size-clause-found
returns-then-not-is_device_size-clause-found g c = λ t fair. absurd (false≢true (sym c.if-not-is_device_size.true ∙ c.is_device_size.ensures.1 (subst IsDeviceSize (sym c.sectors.ensures) fair)))

pub returns-in_err-report-clause-found : goal.returns-in_err-report-clause-found
returns-in_err-report-clause-found g c = λ t fair.
    let p = err_from_is_err_and c.from_residual.result c.from_residual.ensures.1 in
    rw (p.1, p.2) (c.in_err-report.ensures.found t)
