use Rattle.std.proofs.Common.{rules, ap, arith}
use Rattle.lsm_trail.proofs.Passes.{gives_back_at}
use Rattle.lsm_trail.proofs.counters.Counters.give_back.Goals as goal

pub split_seat-requires : goal.split_seat-requires
split_seat-requires g c = (search rules, omega (arith, c.args.self.now.wide, ap (λ t. t.words) c.args.self.now.table), gives_back_at _ _ _ _ _ (ap (λ m. m.0) c.requires.1))
