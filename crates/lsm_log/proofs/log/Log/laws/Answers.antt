use Rattle.lsm_log.proofs.Logs.{open_leaves, open_next, open_used, open_whole, open_after_sync, open_elsewhere, open_in_place, open_settled}
use Rattle.lsm_log.proofs.log.Log.laws.Goals as goal

pub returns-clause-crash : goal.returns-clause-crash
returns-clause-crash c = λ d opened. open_leaves c.args.self.now d opened

pub returns-clause-next : goal.returns-clause-next
returns-clause-next c = λ d opened. open_next c.args.self.now d opened

pub returns-clause-used : goal.returns-clause-used
returns-clause-used c = λ d opened. open_used c.args.self.now d opened

pub returns-clause-whole : goal.returns-clause-whole
returns-clause-whole c = λ d opened. open_whole c.args.self.now d opened

pub returns-clause-sync : goal.returns-clause-sync
returns-clause-sync c = λ d opened. open_after_sync c.args.self.now d opened

pub returns-clause-elsewhere : goal.returns-clause-elsewhere
returns-clause-elsewhere c = λ d opened ws outside. open_elsewhere c.args.self.now d opened ws outside

pub returns-clause-same_region : goal.returns-clause-same_region
returns-clause-same_region c = λ old new opened size is. open_in_place c.args.self.now old opened new size is

pub returns-clause-synced_region : goal.returns-clause-synced_region
returns-clause-synced_region c = λ old new opened size is. open_settled c.args.self.now old opened new size is
