use Rattle.std.proofs.Common.{◌∙◌, ap, sym}
use Rattle.lsm_levels.specs.Cursors.{present}
use Rattle.lsm_levels.specs.SourceCursors.{cursor_in}
use Rattle.lsm_levels.proofs.MemoryCursors.{first_present}
use Rattle.lsm_levels.proofs.source.SourceCursor.current.Goals as goal

pub returns-in-Memory : goal.returns-in-Memory
returns-in-Memory g c = c.current.ensures ∙ first_present _ ∙ ap (λ place. present (cursor_in place)) (sym c.in-Memory.is) ∙ ap present c.self.view_is
