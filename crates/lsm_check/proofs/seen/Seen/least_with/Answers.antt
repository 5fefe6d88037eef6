use Rattle.std.proofs.Common.{◌≡◌, ℕ, Option, Some, None, sym, ap, ◌∙◌}
use Rattle.std.specs.Prelude.{min}
use Rattle.lsm_check.specs.Seen.{SeenView, number_of, least_with}
use Rattle.lsm_check.proofs.LeastNumbers.{number_found}
use Rattle.lsm_check.proofs.seen.Seen.least_with.Goals as goal

pub returns-in-Some : goal.returns-in-Some
returns-in-Some g c =
    let s = c.args.self.now in
    let v = c.args.entry.now in
    let least = c.in-Some.least.now in
    let is : number_of v.key s.least ≡ Some least = number_found c.key.result.now v.key c.self.inside.least.entries s.least (Some least) c.key.ensures.same (ap (λ (x : SeenView). x.least) c.self.view_is) c.in-Some.ensures.value in
    c.min.ensures ∙ ap (λ (n : ℕ). min n least) c.number.ensures ∙ ap (λ (o : Option ℕ). least_with v.number o) (sym is)

pub returns-in-None : goal.returns-in-None
returns-in-None g c =
    let s = c.args.self.now in
    let v = c.args.entry.now in
    let is : number_of v.key s.least ≡ None = number_found c.key.result.now v.key c.self.inside.least.entries s.least None c.key.ensures.same (ap (λ (x : SeenView). x.least) c.self.view_is) c.in-None.ensures.value in
    c.number-in-None.ensures ∙ ap (λ (o : Option ℕ). least_with v.number o) (sym is)
