use Rattle.std.proofs.Common.{refl}
use Rattle.lsm_lives.proofs.Opened.{not_opened, opening}
use Rattle.lsm_lives.proofs.living.open.Goals as goal

pub returns-in-Ok : goal.returns-in-Ok
returns-in-Ok g c =
    let e = c.open.ensures in
    opening (λ d. g.D.Device.medium d) c.args.device c.requires.tells c.open.result (λ other. (e.size refl).1 other) (λ size. e.refusal refl size c.requires.tells) e.reopens e.blocks
    (λ log_sectors left is. e.opens log_sectors left c.requires.tells is) (λ log_sectors left is. e.fails refl log_sectors left c.requires.tells is) e.faults e.calls
    (λ size. e.called refl size) e.same_size e.same_lasting

pub returns-in-Err : goal.returns-in-Err
returns-in-Err g c = not_opened (g.D.Device.medium c.args.device)
