use Rattle.std.proofs.Common.{ℕ, ◌∙◌, sym, subst, rules}
use Rattle.lsm_storm.specs.Storms.{HasEndedFresh}
use Rattle.lsm_storm.proofs.Counting.{as_many}
use Rattle.lsm_storm.proofs.storming.storm.Goals as goal

pub rows_in-requires : goal.rows_in-requires
rows_in-requires g c = c.in_ok-left.ensures.ended.ended.ended.backed c.in_ok-left.ensures.ended.fresh.fresh.backed

pub returns-clause-stormed : goal.returns-clause-stormed
returns-clause-stormed g c = record {
  store = c.in_ok-left.left.store;
  trail = c.in_ok-left.left.trail;
  ended = subst (λ (n : ℕ). HasEndedFresh n c.in_ok-left.left.store c.in_ok-left.left.trail) c.threads_of-threads.ensures.same c.in_ok-left.ensures.ended;
  commits = search rules;
  batches = search rules;
  rows = search rules;
  pieces = search rules;
}

pub returns-clause-all : goal.returns-clause-all
returns-clause-all g c =
    let left = c.in_ok-left.ensures.ended in
    c.accepted_in-commits.ensures ∙ as_many left.begin left.ended.clients _ _ left.fresh.fresh left.ended.ended ∙ sym c.batch_count-batches.ensures
