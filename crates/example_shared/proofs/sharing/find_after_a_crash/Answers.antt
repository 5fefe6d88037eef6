use Rattle.std.proofs.Common.{ap, sym, ◌∙◌, subst}
use Rattle.lsm_device.specs.Disk.{seen}
use Rattle.lsm_device.specs.Medium.{Medium, disk, crashed}
use Rattle.example_shared.specs.Shares.{StandsForBoth}
use Rattle.example_shared.proofs.sharing.find_after_a_crash.Goals as goal

pub returns : goal.returns
returns c = λ first_value second_value lasts.
    let a = c.args in
    let medium = c.crash-device.ensures.left ∙ ap (crashed a.keep.now) c.into_device.ensures in
    let stands = subst (λ (m : Medium). StandsForBoth (a.first_key.now, first_value) (a.second_key.now, second_value) (seen (disk m))) (sym medium) (lasts a.keep.now) in
    c.find_both.ensures first_value second_value stands
