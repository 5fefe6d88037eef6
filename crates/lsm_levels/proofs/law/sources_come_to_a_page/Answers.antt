use Rattle.lsm_levels.proofs.SourceLaws.{next_law, parts_in_order, same_page}
use Rattle.lsm_levels.proofs.law.sources_come_to_a_page.Goals as goal

pub returns-clause-next : goal.returns-clause-next
returns-clause-next c = next_law

pub returns-clause-page : goal.returns-clause-page
returns-clause-page c = λ n limit from to places sources order left. (parts_in_order n from places sources order left, same_page n from limit to places sources order left)
