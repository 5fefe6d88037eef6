use Rattle.std.proofs.Common.{refl}
use Rattle.corwaphi_lives.proofs.Opened.{opening}
use Rattle.corwaphi_lives.proofs.living.opened.Goals as goal

pub returns : goal.returns
returns g c =
    let e = c.on.ensures in
    opening (λ d. g.D.Device.medium d) c.args.device c.requires.tells c.on.result (e.size refl) (λ size. e.refusal refl size c.requires.tells) e.opens
    (λ log_sectors left is. e.fails refl log_sectors left c.requires.tells is) e.faults (λ size. e.called refl size) e.same_size e.same_lasting
