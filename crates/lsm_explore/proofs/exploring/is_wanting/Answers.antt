use Rattle.std.proofs.Common.{sym, ◌∙◌}
use Rattle.lsm_explore.proofs.Explorations.{wanting_told}
use Rattle.lsm_explore.proofs.exploring.is_wanting.Goals as goal

pub returns : goal.returns
returns g c = c.one_tells_no_memory.ensures ∙ sym (wanting_told c.args.replies.now)
