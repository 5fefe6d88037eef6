use Rattle.corwaphi_c.proofs.Following.{backs_next, passes_through, shows_next}
use Rattle.corwaphi_c.proofs.laws.calls_follow.Goals as goal

pub returns : goal.returns
returns c = record { shows = shows_next; backs = backs_next; passes = passes_through }
