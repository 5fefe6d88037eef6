use Rattle.std.proofs.Common.{map, ap, sym, ◌∙◌, arith}
use Rattle.lsm_device.specs.declared.calls.Calls.{Calls}
use Rattle.lsm_lives.specs.Calls.{told_of}
use Rattle.lsm_explore.specs.Exploring.{is_wanting}
use Rattle.lsm_explore.proofs.exploring.lead_fused.Goals as goal

pub returns-clause-memory : goal.returns-clause-memory
returns-clause-memory g c = ap (λ l. is_wanting (map told_of l)) (sym c.deref.ensures.value) ∙ sym c.is_wanting.ensures ∙ c.if-is_wanting.false

pub returns-clause-passed : goal.returns-clause-passed
returns-clause-passed g c = ap (λ (k : Calls). k.passed) (sym c.calls-counts.ensures) ∙ omega arith
