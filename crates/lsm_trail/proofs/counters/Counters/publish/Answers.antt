use Rattle.std.proofs.Common.{◌≡◌, [], ◌∷◌, ◌++◌, rules, ap, sym, subst, arith}
use Rattle.lsm_trail.specs.Begins.{Begin}
use Rattle.lsm_trail.specs.History.{IsLegal, numbers}
use Rattle.lsm_trail.specs.Knowledge.{keeper_of, row_of}
use Rattle.lsm_trail.proofs.Passes.{publishes_at, published_told}
use Rattle.lsm_trail.proofs.counters.Counters.publish.Goals as goal

pub compare_exchange_with-requires : goal.compare_exchange_with-requires
compare_exchange_with-requires g c =
    let key = c.args.self.now.key in
    let k = keeper_of c.args.keeper.now in
    let next = k.log ++ c.args.entry.now ∷ [] in (
      search rules,
      omega (arith, c.args.self.now.wide, ap (λ t. t.words) c.args.self.now.table),
      publishes_at _ _ _ _ _ _ _ _ c.requires.pass.1 (sym c.requires.count.0) c.requires.client
          (omega (arith, c.requires.count.0, c.requires.count.1, ap (λ (b : Begin). b.limit) key))
          (subst (λ (b : Begin). IsLegal b next) (sym key) c.requires.legal)
          (subst (λ (b : Begin). k.draft ≡ row_of (numbers b next)) (sym key) c.requires.draft),
    )

pub returns : goal.returns
returns g c =
    let e = c.compare_exchange_with.ensures in
    let t = published_told _ _ _ c.compare_exchange_with.new.seat.me _ c.requires.pass.1 e.2 in
    record { pass = (search rules, t.0); knew = (t.1, t.2) }
