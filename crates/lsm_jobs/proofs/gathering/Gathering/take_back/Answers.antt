use Rattle.std.proofs.Common.{◌≡◌, ◌∙◌, length, ap, arith}
use Rattle.lsm_merge.specs.Inputs.{items_of}
use Rattle.lsm_jobs.proofs.GatheredRuns.{fronts_ordered, written_back}
use Rattle.lsm_jobs.proofs.gathering.Gathering.take_back.Goals as goal

pub invariant_of-self : goal.invariant_of-self
invariant_of-self g c =
    let runs = c.self.inside.runs in
    let lent : c.deref_mut.result.now ≡ runs.items = c.deref_mut.ensures.value in
    let all : runs.len ≡ length runs.items = omega (arith, runs.ok.0) in
    let count : length c.cut_back.new.runs ≡ length runs.items = c.cut_back.ensures.same_count ∙ ap (λ l. length l) lent in
    (rw (written_back c.cut_back.new.runs runs.items runs.len all count) (rw c.cut_back.ensures.cut (fronts_ordered c.args.lengths.now (items_of c.deref_mut.result.now) (rw lent c.self.invariant.0))), c.self.invariant.1)
