use Rattle.std.proofs.Common.{rules, [], ◌∷◌, Some, ap, ◌∙◌, arith}
use Rattle.lsm_trail.specs.Begins.{Begin}
use Rattle.lsm_trail.specs.Knowledge.{keeping, view_of, keeper_of, known_of}
use Rattle.lsm_trail.proofs.Passes.{puts_at, put_told}
use Rattle.lsm_trail.proofs.counters.Counters.put_row.Goals as goal

pub store-requires : goal.store-requires
store-requires g c =
    let k = keeper_of c.args.keeper.now in
    let is = c.requires.pass.1 ∙ (λ i. (view_of (Some (keeping k.begin k.dealt k.log (c.requires.draft i))) (Some (known_of c.args.keeper.now)), [])) in (
      search rules,
      omega (arith, c.args.self.now.wide, ap (λ t. t.words) c.args.self.now.table, c.requires.count.1),
      puts_at _ _ _ _ (keeping k.begin k.dealt k.log []) _ _ _ is (omega (arith, c.requires.count.0)) (omega (arith, ap (λ (b : Begin). b.limit) c.args.self.now.key, c.requires.count.1)),
    )

pub store-requires-2 : goal.store-requires-2
store-requires-2 g c =
    let k = keeper_of c.args.keeper.now in
    let is = c.requires.pass.1 ∙ (λ i. (view_of (Some (keeping k.begin k.dealt k.log (c.requires.draft i))) (Some (known_of c.args.keeper.now)), [])) in
    let one = put_told (keeping k.begin k.dealt k.log []) _ _ c.store.new.seat.me _ is c.store.ensures.2 in (
      search rules,
      omega (arith, c.args.self.now.wide, ap (λ t. t.words) c.args.self.now.table, c.requires.count.1),
      puts_at _ _ _ _ (keeping k.begin k.dealt k.log (c.args.next.calls ∷ [])) _ _ _ one (omega (arith, c.requires.count.0)) (omega (arith, ap (λ (b : Begin). b.limit) c.args.self.now.key, c.requires.count.1)),
    )

pub store-requires-3 : goal.store-requires-3
store-requires-3 g c =
    let k = keeper_of c.args.keeper.now in
    let is = c.requires.pass.1 ∙ (λ i. (view_of (Some (keeping k.begin k.dealt k.log (c.requires.draft i))) (Some (known_of c.args.keeper.now)), [])) in
    let one = put_told (keeping k.begin k.dealt k.log []) _ _ c.store.new.seat.me _ is c.store.ensures.2 in
    let two = put_told (keeping k.begin k.dealt k.log (c.args.next.calls ∷ [])) _ _ c.store-2.new.seat.me _ one c.store-2.ensures.2 in (
      search rules,
      omega (arith, c.args.self.now.wide, ap (λ t. t.words) c.args.self.now.table, c.requires.count.1),
      puts_at _ _ _ _ (keeping k.begin k.dealt k.log (c.args.next.calls ∷ c.args.next.batches ∷ [])) _ _ _ two (omega (arith, c.requires.count.0)) (omega (arith, ap (λ (b : Begin). b.limit) c.args.self.now.key, c.requires.count.1)),
    )

pub returns : goal.returns
returns g c =
    let k = keeper_of c.args.keeper.now in
    let is = c.requires.pass.1 ∙ (λ i. (view_of (Some (keeping k.begin k.dealt k.log (c.requires.draft i))) (Some (known_of c.args.keeper.now)), [])) in
    let one = put_told (keeping k.begin k.dealt k.log []) _ _ c.store.new.seat.me _ is c.store.ensures.2 in
    let two = put_told (keeping k.begin k.dealt k.log (c.args.next.calls ∷ [])) _ _ c.store-2.new.seat.me _ one c.store-2.ensures.2 in
    (search rules, put_told (keeping k.begin k.dealt k.log (c.args.next.calls ∷ c.args.next.batches ∷ [])) _ _ c.store-3.new.seat.me _ two c.store-3.ensures.2)
