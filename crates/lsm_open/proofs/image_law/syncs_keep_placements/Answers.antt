use Rattle.lsm_open.proofs.FreeWrites.{carried_synced, present_synced, tables_seen}
use Rattle.lsm_open.proofs.image_law.syncs_keep_placements.Goals as goal

pub returns-clause-carried : goal.returns-clause-carried
returns-clause-carried c = λ p d carried. carried_synced p d carried

pub returns-clause-present : goal.returns-clause-present
returns-clause-present c = λ p d carried. present_synced p d carried.held

pub returns-clause-tables : goal.returns-clause-tables
returns-clause-tables c = λ p d carried. tables_seen p d carried.held
