use Rattle.std.proofs.Common.{rules, refl}
use Rattle.lsm_shared.proofs.Holds.{denied_with, seen_then}
use Rattle.lsm_shared.proofs.Turning.{among_more, among_ended, among_stopped}
use Rattle.lsm_shared.proofs.session.Session.+turn_among.Goals as goal

pub returns-in_err-turn : goal.returns-in_err-turn
returns-in_err-turn g t c = denied_with _ _ _ _ _ c.from_residual.ensures.1 refl (among_stopped _ _ _ _ _ _ c.in-len1-up.len_at_least _ c.in_err-turn.ensures)

pub turn_among-requires : goal.turn_among-requires
turn_among-requires g t c κs within = (search rules, (within.0, (within.1.0, (within.1.1, seen_then _ _ _ _ _ _ c.in_ok-turn.ensures.enters))))

pub returns-in-Idle : goal.returns-in-Idle
returns-in-Idle g t c = among_more _ _ _ _ _ c.turn_among.new.self c.turn_among.new.me _ c.in-len1-up.len_at_least _ c.in-Idle.is c.in_ok-turn.ensures _ c.turn_among.ensures

pub returns-in_default-2 : goal.returns-in_default-2
returns-in_default-2 g t c = among_ended _ _ _ _ _ _ c.in-len1-up.len_at_least _ c.in_default-2.not-Idle c.in_ok-turn.ensures
