use Rattle.std.proofs.Common.{ℕ, ◌∙◌, sym, subst, rules}
use Rattle.lsm_storm.specs.Storms.{HasEndedFresh}
use Rattle.lsm_storm.proofs.Raising.{all_counted}
use Rattle.lsm_storm.proofs.tallying.tally.Goals as goal

pub counted_in-requires : goal.counted_in-requires
counted_in-requires g c = c.in_ok-left.ensures.ended.ended.ended.backed c.in_ok-left.ensures.ended.fresh.fresh.backed

pub returns-clause-tallied : goal.returns-clause-tallied
returns-clause-tallied g c = record {
  store = c.in_ok-left.left.store;
  trail = c.in_ok-left.left.trail;
  ended = subst (λ (n : ℕ). HasEndedFresh n c.in_ok-left.left.store c.in_ok-left.left.trail) c.threads_of.ensures.same c.in_ok-left.ensures.ended;
  counting = c.in_ok-left.ensures.done;
  count = search rules;
  accepted = search rules;
}

pub returns-clause-all : goal.returns-clause-all
returns-clause-all g c =
    let left = c.in_ok-left.ensures.ended in
    c.in_ok-count.ensures.counted ∙ all_counted left.begin left.ended.clients _ _ left.fresh.fresh left.ended.ended c.in_ok-left.ensures.done ∙ sym c.accepted_in-accepted.ensures
