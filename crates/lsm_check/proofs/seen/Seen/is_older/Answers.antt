use Rattle.std.proofs.Common.{Some, None, ap}
use Rattle.lsm_check.specs.Seen.{SeenView}
use Rattle.lsm_check.proofs.LeastNumbers.{number_found, older_if_none, older_by}
use Rattle.lsm_check.proofs.seen.Seen.is_older.Goals as goal

pub returns-in-Some : goal.returns-in-Some
returns-in-Some g c versions seen =
    let s = c.args.self.now in
    let v = c.args.entry.now in
    older_by versions s v c.number.result c.in-Some.least.now seen c.number.ensures
    (number_found c.key.result.now v.key c.self.inside.least.entries s.least (Some c.in-Some.least.now) c.key.ensures.same (ap (λ (x : SeenView). x.least) c.self.view_is) c.in-Some.ensures.value)

pub returns-in-None : goal.returns-in-None
returns-in-None g c versions seen =
    let s = c.args.self.now in
    let v = c.args.entry.now in
    older_if_none versions s v seen (number_found c.key.result.now v.key c.self.inside.least.entries s.least None c.key.ensures.same (ap (λ (x : SeenView). x.least) c.self.view_is) c.in-None.ensures.value)
