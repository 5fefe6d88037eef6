use Rattle.std.proofs.Common.{inl}
use Rattle.lsm_room.proofs.bounds.merged.Goals as goal

pub returns-clause-over : goal.returns-clause-over
returns-clause-over c = inl c.mixed.ensures
