use Rattle.lsm_storm.proofs.storming.shared_by_all.Goals as goal

pub returns-clause-ended : goal.returns-clause-ended
returns-clause-ended g c = record {
  begin = c.in_ok-opened.opened.begin;
  fresh = c.in_ok-opened.ensures.opened;
  ended = c.in_ok-left.ensures.ended;
}
