use Rattle.lsm_log.proofs.Longest.{replay_longest}
use Rattle.lsm_log.proofs.reading.replay_is_longest.Goals as goal

pub returns : goal.returns
returns c = replay_longest
