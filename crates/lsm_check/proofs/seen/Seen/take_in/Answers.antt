use Rattle.std.proofs.Common.{◌+◌, ◌∙◌, ap}
use Rattle.lsm_check.specs.Seen.{SeenView, number_of, least_with, plain}
use Rattle.lsm_check.proofs.LeastNumbers.{number_put, seen_more}
use Rattle.lsm_check.proofs.seen.Seen.take_in.Goals as goal

pub returns-clause-seen : goal.returns-clause-seen
returns-clause-seen g c versions seen =
    let s = c.args.self.now in
    let v = c.args.entry.now in
    let t : SeenView = record { least = plain c.insert.new.self.entries; entries = c.self.inside.entries + 1 } in
    seen_more versions v s t seen
    (number_put c.self.inside.least.entries c.insert.new.self.entries c.in_ok-key.key v.key c.least_with-number.result (least_with v.number (number_of v.key s.least)) s.least c.in_ok-insert.ensures.entries (ap (λ (x : SeenView). x.least) c.self.view_is) (c.in_ok-key.ensures.items ∙ c.key.ensures.same) c.least_with-number.ensures)
    (ap (λ (x : SeenView). x.entries + 1) c.self.view_is)
