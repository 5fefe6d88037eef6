use Rattle.std.proofs.Common.{Bool, ℕ, subst}
use Rattle.lsm_upkeep.specs.Upkeep.{KeepsUp}
use Rattle.lsm_upkeep.proofs.Upkept.{then}
use Rattle.lsm_serve.specs.Answering.{TellsCompacted, outcome_of}
use Rattle.lsm_serve.proofs.answering.compact.Goals as goal

pub returns-clause-answers : goal.returns-clause-answers
returns-clause-answers g c = (
  record {
    begun = c.finish_begun.new.store;
    finishes = c.finish_begun.ensures;
    kept = c.keep_up.new.store;
    keeps_up = subst (λ (n : ℕ). KeepsUp n c.finish_begun.new.store c.keep_up.new.store) c.new.ensures.tables c.keep_up.ensures.settles;
    compacts = c.compact_all-is_whole.ensures.flushes;
    upkeep = then c.args.store.now c.finish_begun.new.store c.compact_all-is_whole.new.store c.finish_begun.ensures
        (then c.finish_begun.new.store c.keep_up.new.store c.compact_all-is_whole.new.store c.keep_up.ensures.upkept c.compact_all-is_whole.ensures.upkept);
  },
  subst (λ (b : Bool). TellsCompacted b c.compact_all-is_whole.new.store (outcome_of c.compacted.result)) c.compact_all-is_whole.ensures.compacted c.compacted.ensures.answers,
)
