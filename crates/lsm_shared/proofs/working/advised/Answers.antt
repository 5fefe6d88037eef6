use Rattle.std.proofs.Common.{Some, ap, sym, ◌∙◌}
use Rattle.std.specs.List.{list_any}
use Rattle.lsm_jobs.specs.Slots.{JobSlots, held_jobs}
use Rattle.lsm_levels.specs.Pick.{is_merge}
use Rattle.lsm_shared.proofs.Advising.{may_choose}
use Rattle.lsm_shared.proofs.working.advised.Goals as goal

pub returns : goal.returns
returns g c = (
  record {
    flushed = sym c.is_flush_due.ensures ∙ c.if-is_flush_due.false;
    alone = sym (ap (λ (jobs : JobSlots). list_any is_merge (held_jobs jobs.slots)) c.jobs-jobs.ensures) ∙ sym c.has_merge.ensures ∙ c.if-has_merge.false;
  },
  may_choose _ _ _ _ _ (Some c.in-Some.choice) c.levels.ensures (ap (λ (jobs : JobSlots). held_jobs jobs.slots) c.jobs-jobs.ensures) c.in-Some.ensures,
  c.if-gives_none.ensures,
)
