use Rattle.std.proofs.Common.{◌∙◌, ◌&&◌, ltb, ap, sym}
use Rattle.std.proofs.lemmas.Bool.{le-leb}
use Rattle.lsm_merge.specs.Loops.{shows_at}
use Rattle.lsm_merge.proofs.keeping.shows_at.Goals as goal

pub returns-then-number-cut : goal.returns-then-number-cut
returns-then-number-cut c =
    ap (λ b. b && ltb c.args.cut c.in-Some.above) (sym (le-leb c.args.number c.args.cut c.if-number-cut.true)) ∙ ap (shows_at c.args.cut c.args.number) (sym c.in-Some.is)
