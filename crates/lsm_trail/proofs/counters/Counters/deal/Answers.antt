use Rattle.std.proofs.Common.{rules, ap, arith}
use Rattle.lsm_trail.proofs.Passes.{deals_at}
use Rattle.lsm_trail.proofs.counters.Counters.deal.Goals as goal

pub split_seat-requires : goal.split_seat-requires
split_seat-requires g c = (search rules, omega (arith, c.args.self.now.wide, ap (λ t. t.words) c.args.self.now.table), deals_at _ _ _ _ (ap (λ m. m.0) c.requires.1))
