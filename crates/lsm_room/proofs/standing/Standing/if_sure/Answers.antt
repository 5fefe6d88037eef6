use Rattle.std.proofs.Common.{List, sym, ap, subst, ◌∙◌}
use Rattle.lsm_codec.specs.Keys.{Bytes}
use Rattle.lsm_levels.specs.Choices.{chosen}
use Rattle.lsm_levels.specs.declared.choosing.Choice.{Choice}
use Rattle.lsm_room.specs.Outputs.{FindsRoom}
use Rattle.lsm_room.proofs.standing.Standing.if_sure.Goals as goal

pub returns : goal.returns
returns g c = record {
  whole = λ down. c.in_ok-step.ensures.whole;
  room = λ job is.
      subst (λ (keys : List Bytes). FindsRoom c.args.self.now.extents.now c.args.self.now.levels.now c.args.self.now.live job keys) (sym c.in_ok-step.ensures.whole)
      (c.is_sure.ensures.room c.if-not-is_sure.false job (ap (λ (choice : Choice). chosen c.args.self.now.levels.now (g.H.HeldJobs.jobs c.args.self.now.held.now) choice) (sym c.in_ok-step.ensures.choice) ∙ is));
}
