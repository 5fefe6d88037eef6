use Rattle.lsm_levels.specs.Levels.{reach}
use Rattle.lsm_levels.proofs.Merging.{upper_hull, reach_some, outputs_fit}
use Rattle.lsm_levels.proofs.levels.Levels.replace.Goals as goal

pub put-put-requires-clause-level : goal.put-put-requires-clause-level
put-put-requires-clause-level g c = c.requires.merge.1.known

pub put-put-requires-clause-range : goal.put-put-requires-clause-range
put-put-requires-clause-range g c = upper_hull c.args.self.now c.requires.merge.0 c.args.level c.args.upper.now c.args.lower.now c.runs-runs.ensures.runs c.requires.merge.1

pub put-put-requires-clause-some : goal.put-put-requires-clause-some
put-put-requires-clause-some g c = reach_some (reach c.args.upper.now c.args.lower.now) c.requires.merge.1.range c.requires.merge.1.hull_is

pub put-put-requires-clause-fits : goal.put-put-requires-clause-fits
put-put-requires-clause-fits g c = outputs_fit c.args.self.now c.requires.merge.0 c.args.level c.args.upper.now c.args.lower.now c.args.outputs.now.items c.runs-runs.ensures.runs c.requires.merge.1 c.requires.merge.2
