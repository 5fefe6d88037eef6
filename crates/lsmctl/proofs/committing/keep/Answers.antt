use Rattle.std.proofs.Common.{ℕ, subst}
use Rattle.lsm_upkeep.specs.Upkeep.{KeepsUp}
use Rattle.lsmctl.proofs.committing.keep.Goals as goal

pub returns-clause-keeps : goal.returns-clause-keeps
returns-clause-keeps g c = subst (λ (n : ℕ). KeepsUp n c.args.store.now c.keep_up.new.store) c.new.ensures.tables c.keep_up.ensures.settles
