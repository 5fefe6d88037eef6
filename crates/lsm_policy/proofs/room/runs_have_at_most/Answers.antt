use Rattle.std.proofs.Common.{◌∙◌, ℕ, ap, leb, sym}
use Rattle.lsm_levels.specs.Levels.{all_tables}
use Rattle.lsm_policy.specs.Room.{blocks_of}
use Rattle.lsm_policy.proofs.Rooms.{blocks_add, parts_fit, parts_too_much}
use Rattle.lsm_policy.proofs.room.runs_have_at_most.Goals as goal

pub returns-in-Some : goal.returns-in-Some
returns-in-Some g c =
    c.is_some.ensures
    ∙ parts_fit c.args.blocks (blocks_of (all_tables c.args.runs.now)) (blocks_of c.args.lower.now) c.without_runs.result c.without_runs.ensures c.in-Some.left c.without_tables.result c.in-Some.is c.without_tables.ensures
    ∙ ap (λ (n : ℕ). leb n c.args.blocks) (sym (blocks_add (all_tables c.args.runs.now) c.args.lower.now))

pub returns-in-None : goal.returns-in-None
returns-in-None g c =
    parts_too_much c.args.blocks (blocks_of (all_tables c.args.runs.now)) (blocks_of c.args.lower.now) c.without_runs.result c.without_runs.ensures c.in-None.is
    ∙ ap (λ (n : ℕ). leb n c.args.blocks) (sym (blocks_add (all_tables c.args.runs.now) c.args.lower.now))
