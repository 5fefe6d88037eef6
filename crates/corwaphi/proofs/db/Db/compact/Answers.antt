use Rattle.std.proofs.Common.{ℕ, subst}
use Rattle.lsm_store.specs.Backing.{StoreView}
use Rattle.lsm_upkeep.specs.Steps.{IsUpkept}
use Rattle.lsm_upkeep.specs.Upkeep.{KeepsUp}
use Rattle.lsm_upkeep.proofs.Upkept.{then}
use Rattle.corwaphi.specs.Upkeep.{CompactsWhole}
use Rattle.corwaphi.proofs.db.Db.compact.Goals as goal

pub returns-clause-compacts : goal.returns-clause-compacts
returns-clause-compacts g c = subst (λ (v : StoreView). CompactsWhole v c.compact_all.new.store) c.self.view_is (record {
  begun = c.finish_begun.new.store;
  finishes = c.finish_begun.ensures;
  kept = c.keep_up.new.store;
  keeps_up = subst (λ (n : ℕ). KeepsUp n c.finish_begun.new.store c.keep_up.new.store) c.new.ensures.tables c.keep_up.ensures.settles;
  compacts = c.compact_all.ensures.upkept;
})

pub returns-clause-upkept : goal.returns-clause-upkept
returns-clause-upkept g c =
    subst (λ (v : StoreView). IsUpkept v c.compact_all.new.store) c.self.view_is
    (then c.self.inside.store c.finish_begun.new.store c.compact_all.new.store c.finish_begun.ensures
    (then c.finish_begun.new.store c.keep_up.new.store c.compact_all.new.store c.keep_up.ensures.upkept c.compact_all.ensures.upkept))
