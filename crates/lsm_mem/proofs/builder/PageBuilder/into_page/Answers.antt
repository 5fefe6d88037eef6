use Rattle.std.proofs.Common.{◌≤◌, length, ◌∙◌, ap, subst}
use Rattle.lsm_mem.specs.Gathering.{Gathering, page_so_far}
use Rattle.lsm_mem.proofs.GatheringLaws.{page_of_none_left}
use Rattle.lsm_mem.proofs.builder.PageBuilder.into_page.Goals as goal

pub returns-clause-whole : goal.returns-clause-whole
returns-clause-whole g c = λ going.
    let few : length c.args.self.rows ≤ c.args.self.limit = subst (λ (g : Gathering). length g.rows ≤ g.limit) c.self.view_is c.self.invariant in
    c.of.ensures ∙ ap page_so_far c.self.view_is ∙ page_of_none_left c.args.self few going
