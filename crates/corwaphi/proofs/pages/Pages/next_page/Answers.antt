use Rattle.std.proofs.Common.{rules, subst}
use Rattle.corwaphi.specs.Paging.{Pages, ReleasesAtEnd}
use Rattle.corwaphi.proofs.pages.Pages.next_page.Goals as goal

pub returns : goal.returns
returns g c = record {
  key = c.in-Some.from.items;
  begins = search rules;
  mid = c.page.new.self;
  serves = search rules;
  releases = subst (λ (r : Pages). ReleasesAtEnd c.in_ok-page.page.next r.snapshot c.page.new.self c.release_at_end.new.db) c.self.view_is c.release_at_end.ensures;
  becomes = search rules;
}
