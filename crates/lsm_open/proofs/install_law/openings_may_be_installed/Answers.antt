use Rattle.std.proofs.Common.{◌≡◌, ◌∙◌, sym, subst}
use Rattle.std.proofs.lemmas.Option.{same_Some}
use Rattle.lsm_codec.specs.Manifests.{Contents}
use Rattle.lsm_device.specs.Disk.{seen}
use Rattle.lsm_open.specs.Image.{left_in, HoldNamed}
use Rattle.lsm_open.proofs.CountedTables.{counts_stand}
use Rattle.lsm_open.proofs.OpeningSteps.{opening_installs}
use Rattle.lsm_open.proofs.install_law.openings_may_be_installed.Goals as goal

pub returns : goal.returns
returns c = λ n left d m o is counted may new.
    let there = counts_stand n (seen d) left is in
    let same : there.0 ≡ m = same_Some there.0 m (sym there.1 ∙ counted) in
    opening_installs n left d m (subst (λ (x : Contents). HoldNamed n x (seen d)) same there.3) (subst (λ (x : Contents). left ≡ left_in n (seen d) x) same there.4) may o new
