use Rattle.std.proofs.Common.{length}
use Rattle.lsm_shared.proofs.ending.+has_client.Given as goal

abbrev pub decreases-has_client : goal.decreases-has_client
decreases-has_client g l = length l.clients.now
