use Rattle.std.proofs.Common.{rules, ap, arith}
use Rattle.lsm_trail.proofs.Passes.{notes_at}
use Rattle.lsm_trail.proofs.counters.Counters.note.Goals as goal

pub load-requires : goal.load-requires
load-requires g c = (search rules, omega (arith, c.args.self.now.wide, ap (λ t. t.words) c.args.self.now.table), notes_at _ _ _ _ _ _ c.take_in.ensures.1)
