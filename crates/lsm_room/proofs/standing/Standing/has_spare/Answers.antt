use Rattle.std.proofs.Common.{inr, arith}
use Rattle.std.proofs.lemmas.Bool.{leb-false}
use Rattle.lsm_room.proofs.standing.Standing.has_spare.Goals as goal

pub returns : goal.returns
returns g c = λ crowded. inr (omega (arith, leb-false _ _ crowded, c.saturating_add.ensures, c.free.ensures, c.for_puts.ensures, c.to_spare.ensures, c.reserve-reserve.ensures))
