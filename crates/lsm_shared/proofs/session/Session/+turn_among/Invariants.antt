use Rattle.std.proofs.Common.{length}
use Rattle.lsm_shared.proofs.session.Session.+turn_among.Given as goal

abbrev pub decreases-turn_among : goal.decreases-turn_among
decreases-turn_among g l = length l.places.now
