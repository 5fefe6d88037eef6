use Rattle.std.proofs.Common.{rules, [], ap, ◌∙◌, arith}
use Rattle.lsm_trail.specs.Knowledge.{known_of}
use Rattle.lsm_trail.proofs.Passes.{looks_at, looked}
use Rattle.lsm_trail.proofs.counters.Counters.look.Goals as goal

pub load-requires : goal.load-requires
load-requires g c = (search rules, omega (arith, c.args.self.now.wide, ap (λ t. t.words) c.args.self.now.table), looks_at _ _ _ _ [] _ c.requires.1)

pub returns : goal.returns
returns g c =
    let t = looked g.B.SessionName.id [] (known_of c.args.client.now) _ c.load.new.seat _ c.requires.1 c.requires.2 (c.load.ensures.0 ∙ c.requires.0) c.load.ensures.2 in
    record { client = t.0; sees = t.1; size = t.3 }
