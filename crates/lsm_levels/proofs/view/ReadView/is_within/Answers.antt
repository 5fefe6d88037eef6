use Rattle.std.proofs.Common.{◌≡◌, Bool, true, false, ◌&&◌, ap, sym, ◌∙◌}
use Rattle.std.specs.List.{list_all}
use Rattle.lsm_levels.specs.Stored.{is_within}
use Rattle.lsm_levels.proofs.WithinLaws.{within_tested}
use Rattle.lsm_levels.proofs.view.ReadView.is_within.Goals as goal

pub returns-then-are_within : goal.returns-then-are_within
returns-then-are_within g c =
    let v = c.args.self.now in
    let test = list_all (list_all (is_within c.args.sectors v.area)) in
    let newer : test v.levels.now.runs ≡ true = sym (rw c.runs.ensures.same at c.are_within.ensures) ∙ c.if-are_within.true in
    within_tested c.args.sectors v.area v.levels.now.runs v.levels.now.deeper c.are_within-then-are_within.result
    (rw c.deeper.ensures.same at c.are_within-then-are_within.ensures ∙ ap (λ (b : Bool). b && test v.levels.now.deeper) (sym newer))

pub returns-else-are_within : goal.returns-else-are_within
returns-else-are_within g c =
    let v = c.args.self.now in
    let test = list_all (list_all (is_within c.args.sectors v.area)) in
    let newer : test v.levels.now.runs ≡ false = sym (rw c.runs.ensures.same at c.are_within.ensures) ∙ c.if-are_within.false in
    within_tested c.args.sectors v.area v.levels.now.runs v.levels.now.deeper c.are_within.result
    (c.if-are_within.false ∙ ap (λ (b : Bool). b && test v.levels.now.deeper) (sym newer))
