use Rattle.std.proofs.Common.{◌≡◌, ◌∙◌, Option, None, ℕ, ap, arith, rules}
use Rattle.std.specs.Ordering.{is_gt}
use Rattle.lsm_table.specs.Places.{place_of}
use Rattle.lsm_table.proofs.Places.{finds_by, place_after}
use Rattle.lsm_table.proofs.table.Table.place.Goals as goal

pub returns-clause-place : goal.returns-clause-place
returns-clause-place g c =
    let first : c.as_slice.result.now ≡ c.args.self.now.first = c.as_slice.ensures.same ∙ ap (λ o. o.first) c.self.view_is in
    place_after c.args.self.now.first c.as_slice.result.now c.args.key.now c.args.at c.args.self.now.edges c.edges.result.now c.place_in.result c.is_gt.result
    (λ none. omega (arith, none, c.if-at-eq0.false)) first (c.is_gt.ensures ∙ ap is_gt c.cmp.ensures) c.if-is_gt.false (c.edges.ensures ∙ ap (λ o. o.edges) c.self.view_is) c.place_in.ensures.place

pub returns-clause-finds : goal.returns-clause-finds
returns-clause-finds g c = finds_by c.args.self.now.first c.args.self.now.edges c.args.key.now c.args.at c.place_in.result (returns-clause-place g c)

pub returns-then-at-eq0-clause-finds : goal.returns-then-at-eq0-clause-finds
returns-then-at-eq0-clause-finds g c =
    let none : Option ℕ = None in
    let e : none ≡ place_of c.args.self.now.first c.args.self.now.edges c.args.key.now c.args.at = search rules in
    finds_by c.args.self.now.first c.args.self.now.edges c.args.key.now c.args.at none e
