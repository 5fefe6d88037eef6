use Rattle.std.proofs.Common.{Bool, ◌&&◌, ◌+◌, ◌==◌, nat_lt, sym, ap, ◌∙◌}
use Rattle.std.proofs.lemmas.Bool.{lt-ltb}
use Rattle.lsm_mapped.proofs.journal.Journal.goes_on.Goals as goal

pub returns-then-self-lt4294967295 : goal.returns-then-self-lt4294967295
returns-then-self-lt4294967295 c =
    let j = c.args.self.now in
    let same : Bool = (j.first + j.count) == c.args.at in
    sym (ap (λ (b : Bool). b && (nat_lt j.count 4294967295 && same)) (lt-ltb 0 j.count c.if-self-gt0.true) ∙ ap (λ (b : Bool). b && same) (lt-ltb j.count 4294967295 c.if-self-lt4294967295.true))
